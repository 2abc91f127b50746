-- A table that keeps the rules still does where a file is added, or gets other extents.
use Rattle.vnode_files.proofs.BlockLemmas.{has_block-between as has-from}
use Rattle.std.proofs.Common.{ℕ, suc, ◌≡◌, ◌≢◌, ◌<◌, ◌≤◌, ◌+◌, ◌-◌, true, false, ltb, leb, List, ◌∷◌, ◌++◌, length, take, drop, set, refl, ap, sym, subst, ◌∙◌, inl, inr, arith, length-append}
use Rattle.std.specs.List.{list_any, insert, remove, prefix_len}
use Rattle.std.proofs.lemmas.Bool.{cases_lt, cases_eq, cases_order, and_parts, and_from, both_ways, false_from_ne_true, lt-ltb, le-leb, ltb-true, ltb-false}
use Rattle.std.proofs.lemmas.List.{get_or_append_left, get_or-append_right, take-append-drop, get_or-set_same, get_or-set_other, length-set, set_split}
use Rattle.std.proofs.lemmas.List.Edits.{length-insert, get_or-insert_below, get_or-insert_at, get_or-insert_above}
use Rattle.std.proofs.lemmas.List.Folds.{list_any_at}
use Rattle.std.proofs.lemmas.List.Concat.{flat_map-append, get_or-flat_map}
use Rattle.std.proofs.lemmas.List.{drop_more}
use Rattle.std.proofs.lemmas.List.Edits.{length-remove, get_or-remove_below, get_or-remove_above}
use Rattle.std.proofs.lemmas.List.Sums.{prefix_len_passes, prefix_len_stops, prefix_len-le-length}
use Rattle.vnode_files.specs.declared.extent.Extent.{Extent}
use Rattle.vnode_files.specs.declared.vnode.FileInfo.{FileInfo}
use Rattle.vnode_files.specs.Grow.{extent_end, has_block}
use Rattle.volume_format.specs.Table.{TableSeen, AreFree, all_extents, entry_at, no_entry, front_block, with_table_entry}
use Rattle.volume_format.specs.Rules.{do_meet}
use Rattle.volume_format.specs.Volume.{extent_at, IsVolumeFile, IsVolumeTable, AreDisjointExtents, IsNewName}
use Rattle.volume_format.proofs.EncodedLemmas.{OnDisk, on_disk-from, on-disk-all, each-of-all, up-to-within}
use Rattle.volume_format.specs.Writing.{extents_up_to}
use Rattle.volume_format.proofs.ReadBackLemmas.{front-is}
use Rattle.volume_format.proofs.TableLemmas.{extents-insert, extents-set}

none : Extent
none = record { start = 0; pages = 0 }

-- No extent of one list meets one of the other.
Cross : List Extent → List Extent → Type 0
Cross xs ys = (j k : ℕ) → j < length xs → k < length ys → do_meet (extent_at xs j) (extent_at ys k) ≡ false

meet-turned : (e f : Extent) → do_meet e f ≡ false → do_meet f e ≡ false
meet-turned e f h = false_from_ne_true (do_meet f e) (λ m.
    let parts = and_parts (ltb f.start (extent_end e)) (ltb e.start (extent_end f)) m in
    both_ways (do_meet e f) h (and_from (ltb e.start (extent_end f)) (ltb f.start (extent_end e)) parts.1 parts.0))

cross-turned : (xs ys : List Extent) → Cross xs ys → Cross ys xs
unfolding Cross
cross-turned xs ys c j k a b = meet-turned (extent_at xs k) (extent_at ys j) (c k j b a)

left : (xs ys : List Extent) (k : ℕ) → k < length xs → extent_at (xs ++ ys) k ≡ extent_at xs k
left xs ys k there = get_or_append_left xs ys (record { start = 0; pages = 0 }) k there

right : (xs ys : List Extent) (k : ℕ) → extent_at (xs ++ ys) (length xs + k) ≡ extent_at ys k
right xs ys k =
    let same : length xs + k - length xs ≡ k = omega arith in
    get_or-append_right xs ys (length xs) (length xs + k) (record { start = 0; pages = 0 }) refl (omega arith) ∙ ap (extent_at ys) same

-- Apart in two parts, and across them.
apart-left : (xs ys : List Extent) → AreDisjointExtents (xs ++ ys) → AreDisjointExtents xs
apart-left xs ys h j k below there =
    ap (λ (e : Extent). do_meet e (extent_at xs j)) (sym (left xs ys k (omega arith)))
    ∙ ap (do_meet (extent_at (xs ++ ys) k)) (sym (left xs ys j there))
    ∙ h j k below (omega (arith, length-append xs ys))

apart-right : (xs ys : List Extent) → AreDisjointExtents (xs ++ ys) → AreDisjointExtents ys
apart-right xs ys h j k below there =
    ap (λ (e : Extent). do_meet e (extent_at ys j)) (sym (right xs ys k))
    ∙ ap (do_meet (extent_at (xs ++ ys) (length xs + k))) (sym (right xs ys j))
    ∙ h (length xs + j) (length xs + k) (omega arith) (omega (arith, length-append xs ys))

apart-across : (xs ys : List Extent) → AreDisjointExtents (xs ++ ys) → Cross xs ys
unfolding Cross
apart-across xs ys h j k a b =
    ap (λ (e : Extent). do_meet e (extent_at ys k)) (sym (left xs ys j a))
    ∙ ap (do_meet (extent_at (xs ++ ys) j)) (sym (right xs ys k))
    ∙ h (length xs + k) j (omega arith) (omega (arith, length-append xs ys))

apart-joined : (xs ys : List Extent) → AreDisjointExtents xs → AreDisjointExtents ys → Cross xs ys → AreDisjointExtents (xs ++ ys)
unfolding Cross
apart-joined xs ys p q c j k below there =
    let size = length-append xs ys in
    elim (cases_lt j (length xs)) [
      | inl low ↦
          ap (λ (e : Extent). do_meet e (extent_at (xs ++ ys) j)) (left xs ys k (omega arith))
          ∙ ap (do_meet (extent_at xs k)) (left xs ys j low)
          ∙ p j k below low
      | inr high ↦
          let at : length xs + (j - length xs) ≡ j = omega arith in
          let here : extent_at (xs ++ ys) j ≡ extent_at ys (j - length xs) = ap (extent_at (xs ++ ys)) (sym at) ∙ right xs ys (j - length xs) in
          elim (cases_lt k (length xs)) [
            | inl low ↦
                ap (λ (e : Extent). do_meet e (extent_at (xs ++ ys) j)) (left xs ys k low)
                ∙ ap (do_meet (extent_at xs k)) here
                ∙ c k (j - length xs) low (omega (arith, size))
            | inr far ↦
                let before : length xs + (k - length xs) ≡ k = omega arith in
                let there-k : extent_at (xs ++ ys) k ≡ extent_at ys (k - length xs) = ap (extent_at (xs ++ ys)) (sym before) ∙ right xs ys (k - length xs) in
                ap (λ (e : Extent). do_meet e (extent_at (xs ++ ys) j)) there-k
                ∙ ap (do_meet (extent_at ys (k - length xs))) here
                ∙ q (j - length xs) (k - length xs) (omega arith) (omega (arith, size))
          ]
    ]

cross-left : (xs ys zs : List Extent) → Cross xs (ys ++ zs) → Cross xs ys
unfolding Cross
cross-left xs ys zs c j k a b = ap (do_meet (extent_at xs j)) (sym (left ys zs k b)) ∙ c j k a (omega (arith, length-append ys zs))

cross-right : (xs ys zs : List Extent) → Cross xs (ys ++ zs) → Cross xs zs
unfolding Cross
cross-right xs ys zs c j k a b = ap (do_meet (extent_at xs j)) (sym (right ys zs k)) ∙ c j (length ys + k) a (omega (arith, length-append ys zs))

cross-joined : (xs ys zs : List Extent) → Cross xs ys → Cross xs zs → Cross xs (ys ++ zs)
unfolding Cross
cross-joined xs ys zs p q j k a b =
    let size = length-append ys zs in
    elim (cases_lt k (length ys)) [
      | inl low ↦ ap (do_meet (extent_at xs j)) (left ys zs k low) ∙ p j k a low
      | inr high ↦
          let at : length ys + (k - length ys) ≡ k = omega arith in
          ap (do_meet (extent_at xs j)) (ap (extent_at (ys ++ zs)) (sym at) ∙ right ys zs (k - length ys)) ∙ q j (k - length ys) a (omega (arith, size))
    ]

-- Extents put between others that they don't meet.
apart-put : (xs own ys : List Extent) → AreDisjointExtents (xs ++ ys) → AreDisjointExtents own → Cross own (xs ++ ys) → AreDisjointExtents (xs ++ (own ++ ys))
apart-put xs own ys h o c =
    apart-joined xs (own ++ ys) (apart-left xs ys h)
    (apart-joined own ys o (apart-right xs ys h) (cross-right own xs ys c))
    (cross-joined xs own ys (cross-turned own xs (cross-left own xs ys c)) (apart-across xs ys h))

common : (own others : List Extent) (j k b : ℕ) → AreFree own others → j < length own → k < length others
    → has_block b (extent_at own j) ≡ true → has_block b (extent_at others k) ≡ true → ⊥
common own others j k b free a c x y =
    both_ways (list_any (has_block b) others) (free b (list_any_at (has_block b) own j (record { start = 0; pages = 0 }) a x))
    (list_any_at (has_block b) others k (record { start = 0; pages = 0 }) c y)

cross-free : (blocks : ℕ) (own others : List Extent) → AreFree own others → ((j : ℕ) → j < length own → OnDisk blocks (extent_at own j))
    → ((k : ℕ) → k < length others → OnDisk blocks (extent_at others k)) → Cross own others
unfolding Cross
cross-free blocks own others free p q j k a b =
    let e = extent_at own j in
    let f = extent_at others k in
    let d = p j a in
    let g = q k b in
    false_from_ne_true (do_meet e f) (λ m.
    let parts = and_parts (ltb e.start (extent_end f)) (ltb f.start (extent_end e)) m in
    let low : e.start < extent_end f = ltb-true e.start (extent_end f) parts.0 in
    let high : f.start < extent_end e = ltb-true f.start (extent_end e) parts.1 in
    elim (cases_lt e.start f.start) [
      | inl before ↦ common own others j k f.start free a b (has-from f.start e (omega arith) high) (has-from f.start f (omega arith) (omega (arith, g.pages)))
      | inr from ↦ common own others j k e.start free a b (has-from e.start e (omega arith) (omega (arith, d.pages))) (has-from e.start f from low)
    ])

-- The extents of a file lie on the disk, and so do those of files.
own-on-disk : (blocks : ℕ) (e : FileInfo) → IsVolumeFile blocks e → (j : ℕ) → j < length e.extents → OnDisk blocks (extent_at e.extents j)
own-on-disk blocks e f j there = on_disk-from blocks (extent_at e.extents j) (f.places j there)

-- A file that begins with another's first block isn't free of it.
front-other : (t : TableSeen) (e : FileInfo) (n : ℕ) → IsVolumeTable t → IsVolumeFile t.blocks e → AreFree e.extents (all_extents t.entries) → n < length t.entries
    → front_block e.extents ≢ front_block (entry_at t.entries n).extents
front-other t e n h f free there same =
    let own = e.extents in
    let other = (entry_at t.entries n).extents in
    let g = h.files n there in
    let room = up-to-within t.entries n there in
    let place = extents_up_to t.entries n + 0 in
    let at : extent_at (all_extents t.entries) place ≡ extent_at other 0 =
    get_or-flat_map (λ (x : FileInfo). x.extents) t.entries n 0 no_entry (record { start = 0; pages = 0 }) there (omega (arith, g.some)) in
    let d = own-on-disk t.blocks e f 0 (omega (arith, f.some)) in
    let o = own-on-disk t.blocks (entry_at t.entries n) g 0 (omega (arith, g.some)) in
    let a = front-is own f.some in
    let b = front-is other g.some in
    let block = (extent_at own 0).start in
    let mine : has_block block (extent_at own 0) ≡ true = has-from block (extent_at own 0) (omega arith) (omega (arith, d.pages)) in
    let its : has_block block (extent_at other 0) ≡ true = has-from block (extent_at other 0) (omega (arith, a, b, same)) (omega (arith, a, b, same, o.pages)) in
    common own (all_extents t.entries) 0 place block free (omega (arith, f.some)) (omega (arith, room, g.some)) mine (ap (has_block block) at ∙ its)

-- A table with one more file.
record Added (t : TableSeen) (e : FileInfo) : Type 0 where
  table : IsVolumeTable t
  file : IsVolumeFile t.blocks e
  name : IsNewName e.name t.entries
  apart : AreDisjointExtents e.extents
  free : AreFree e.extents (all_extents t.entries)

order-behind : (t : TableSeen) (e : FileInfo) (n : ℕ) → Added t e → n ≡ prefix_len (λ f. ltb (front_block f.extents) (front_block e.extents)) t.entries → (i : ℕ)
    → n ≤ length t.entries → n ≤ i → i < length t.entries
    → front_block (entry_at (insert t.entries n e) (i + 1)).extents ≡ front_block (entry_at t.entries i).extents
    → front_block (entry_at (insert t.entries n e) i).extents < front_block (entry_at (insert t.entries n e) (i + 1)).extents
order-behind t e n a is i within from there two =
    let es = t.entries in
    let front = λ (f : FileInfo). front_block f.extents in
    elim (cases_eq i n) [
      | inl here ↦
          let one = ap (λ (k : ℕ). front (entry_at (insert es n e) k)) here in
          let three = ap front (get_or-insert_at es n e no_entry within) in
          let stop = prefix_len_stops (λ f. ltb (front_block f.extents) (front_block e.extents)) es no_entry (omega (arith, is)) in
          let same = ap (λ (k : ℕ). front (entry_at es k)) (here ∙ is) in
          let least = ltb-false (front_block (entry_at es (prefix_len (λ f. ltb (front_block f.extents) (front_block e.extents)) es)).extents) (front_block e.extents) stop in
          let other = front-other t e i a.table a.file a.free there in
          omega (arith, one, two, three, least, same, other)
      | inr past ↦
          let back : i - 1 + 1 ≡ i = omega arith in
          let one = ap (λ (k : ℕ). front (entry_at (insert es n e) k)) (sym back) in
          let before = ap front (get_or-insert_above es n e no_entry (i - 1) (omega arith) within) in
          let next = ap (λ (k : ℕ). front (entry_at es k)) back in
          omega (arith, one, before, two, next, a.table.order (i - 1) (omega arith))
    ]

order-added : (t : TableSeen) (e : FileInfo) (n : ℕ) → Added t e → n ≡ prefix_len (λ f. ltb (front_block f.extents) (front_block e.extents)) t.entries → (i : ℕ) → i + 1 < length (insert t.entries n e)
    → front_block (entry_at (insert t.entries n e) i).extents < front_block (entry_at (insert t.entries n e) (i + 1)).extents
order-added t e n a is i there =
    let es = t.entries in
    let p = λ (f : FileInfo). ltb (front_block f.extents) (front_block e.extents) in
    let within : n ≤ length es = omega (arith, is, prefix_len-le-length (λ f. ltb (front_block f.extents) (front_block e.extents)) es) in
    let size = length-insert es n e within in
    let front = λ (f : FileInfo). front_block f.extents in
    elim (cases_order (i + 1) n) [
      | inl last ↦
          let low : i < n = omega arith in
          let one = ap front (get_or-insert_below es n e no_entry i low within) in
          let two = ap (λ (k : ℕ). front (entry_at (insert es n e) k)) last in
          let three = ap front (get_or-insert_at es n e no_entry within) in
          let least = ltb-true (front_block (entry_at es i).extents) (front_block e.extents)
          (prefix_len_passes (λ f. ltb (front_block f.extents) (front_block e.extents)) es i no_entry (omega (arith, is))) in
          omega (arith, one, two, three, least)
      | inr other ↦ elim other [
        | inl before ↦
            let one = ap front (get_or-insert_below es n e no_entry i (omega arith) within) in
            let two = ap front (get_or-insert_below es n e no_entry (i + 1) before within) in
            omega (arith, one, two, a.table.order i (omega arith))
        | inr behind ↦
            let two = ap front (get_or-insert_above es n e no_entry i (omega arith) within) in
            order-behind t e n a is i within (omega arith) (omega (arith, size)) two
      ]
    ]

extents-around : (es : List FileInfo) (n : ℕ) → all_extents es ≡ all_extents (take n es) ++ all_extents (drop n es)
extents-around es n =
    ap all_extents (sym (take-append-drop n es)) ∙ flat_map-append (λ (f : FileInfo). f.extents) (take n es) (drop n es)

pub kept-add : (t : TableSeen) (e : FileInfo) → IsVolumeTable t → IsVolumeFile t.blocks e → IsNewName e.name t.entries → AreDisjointExtents e.extents
    → AreFree e.extents (all_extents t.entries) → length t.entries < 64 → length (all_extents t.entries) + length e.extents ≤ 252
    → IsVolumeTable (record { blocks = t.blocks; entries = with_table_entry t.entries e })
kept-add t e h f new apart free files extents =
    let es = t.entries in
    let n = prefix_len (λ f. ltb (front_block f.extents) (front_block e.extents)) es in
    let within : n ≤ length es = prefix_len-le-length (λ f. ltb (front_block f.extents) (front_block e.extents)) es in
    let size : length (insert es n e) ≡ length es + 1 = length-insert es n e within in
    let a : Added t e = record { table = h; file = f; name = new; apart = apart; free = free } in
    let name = λ (x : FileInfo). x.name in
    let low = λ (i : ℕ) (l : i < n). get_or-insert_below es n e no_entry i l within in
    let mid = get_or-insert_at es n e no_entry within in
    let high = λ (i : ℕ) (l : n < i).
    let back : i - 1 + 1 ≡ i = omega arith in
    ap (entry_at (insert es n e)) (sym back) ∙ get_or-insert_above es n e no_entry (i - 1) (omega arith) within in
    let around : all_extents (insert es n e) ≡ all_extents (take n es) ++ (e.extents ++ all_extents (drop n es)) =
    flat_map-append (λ (x : FileInfo). x.extents) (take n es) (e ∷ drop n es) in
    let whole : AreDisjointExtents (all_extents (take n es) ++ all_extents (drop n es)) = subst AreDisjointExtents (extents-around es n) h.apart in
    let cross : Cross e.extents (all_extents (take n es) ++ all_extents (drop n es)) =
    subst (Cross e.extents) (extents-around es n) (cross-free t.blocks e.extents (all_extents es) free (own-on-disk t.blocks e f) (on-disk-all t h)) in
    record {
      number = h.number;
      room = record { files = omega (arith, size); extents = omega (arith, extents-insert es n e) };
      files = λ i there. elim (cases_order i n) [
        | inl same ↦ subst (IsVolumeFile t.blocks) (sym (ap (entry_at (insert es n e)) same ∙ mid)) f
        | inr other ↦ elim other [
          | inl below ↦ subst (IsVolumeFile t.blocks) (sym (low i below)) (h.files i (omega arith))
          | inr above ↦ subst (IsVolumeFile t.blocks) (sym (high i above)) (h.files (i - 1) (omega (arith, size)))
        ]
      ];
      names = λ i k before there same. elim (cases_order i n) [
        | inl at ↦ new k (omega arith) (sym (ap name (low k (omega arith))) ∙ same ∙ ap name (ap (entry_at (insert es n e)) at ∙ mid))
        | inr other ↦ elim other [
          | inl below ↦ h.names i k before (omega arith) (sym (ap name (low k (omega arith))) ∙ same ∙ ap name (low i below))
          | inr above ↦ elim (cases_order k n) [
            | inl at ↦ new (i - 1) (omega (arith, size)) (sym (ap name (high i above)) ∙ sym same ∙ ap name (ap (entry_at (insert es n e)) at ∙ mid))
            | inr side ↦ elim side [
              | inl lower ↦ h.names (i - 1) k (omega arith) (omega (arith, size)) (sym (ap name (low k lower)) ∙ same ∙ ap name (high i above))
              | inr upper ↦ h.names (i - 1) (k - 1) (omega arith) (omega (arith, size)) (sym (ap name (high k upper)) ∙ same ∙ ap name (high i above))
            ]
          ]
        ]
      ];
      order = λ i there. order-added t e n a refl i there;
      apart = subst AreDisjointExtents (sym around) (apart-put (all_extents (take n es)) e.extents (all_extents (drop n es)) whole apart cross);
    }

-- A table in which one file has another length and other extents.
remove-around : (es : List FileInfo) (i : ℕ) → i < length es → all_extents es ≡ all_extents (take i es) ++ ((entry_at es i).extents ++ all_extents (drop (i + 1) es))
remove-around es i there =
    extents-around es i
    ∙ ap (λ (xs : List FileInfo). all_extents (take i es) ++ all_extents xs) (drop_more es i no_entry there)

removed-extents : (es : List FileInfo) (i : ℕ) → all_extents (remove es i) ≡ all_extents (take i es) ++ all_extents (drop (i + 1) es)
removed-extents es i =
    let step : suc i ≡ i + 1 = omega arith in
    flat_map-append (λ (f : FileInfo). f.extents) (take i es) (drop (suc i) es)
    ∙ ap (λ (k : ℕ). all_extents (take i es) ++ all_extents (drop k es)) step

set-extents : (es : List FileInfo) (i : ℕ) (e : FileInfo) → i < length es → all_extents (set es i e) ≡ all_extents (take i es) ++ (e.extents ++ all_extents (drop (i + 1) es))
set-extents es i e there =
    let step : suc i ≡ i + 1 = omega arith in
    ap all_extents (set_split es i e there)
    ∙ flat_map-append (λ (f : FileInfo). f.extents) (take i es) (e ∷ drop (suc i) es)
    ∙ ap (λ (k : ℕ). all_extents (take i es) ++ (e.extents ++ all_extents (drop k es))) step

removed-on-disk : (t : TableSeen) → IsVolumeTable t → (i : ℕ) → i < length t.entries → (j : ℕ)
    → j < length (all_extents (remove t.entries i)) → OnDisk t.blocks (extent_at (all_extents (remove t.entries i)) j)
removed-on-disk t h i there =
    let es = t.entries in
    let size = length-remove es i there in
    each-of-all (OnDisk t.blocks) (remove es i) (λ k within j inside. elim (cases_lt k i) [
      | inl below ↦
          let at = get_or-remove_below es i no_entry k below there in
          subst (λ (f : FileInfo). OnDisk t.blocks (extent_at f.extents j)) (sym at)
          (own-on-disk t.blocks (entry_at es k) (h.files k (omega arith)) j (omega (arith, ap (λ (f : FileInfo). length f.extents) at)))
      | inr above ↦
          let at = get_or-remove_above es i no_entry k above there in
          subst (λ (f : FileInfo). OnDisk t.blocks (extent_at f.extents j)) (sym at)
          (own-on-disk t.blocks (entry_at es (k + 1)) (h.files (k + 1) (omega (arith, size))) j
          (omega (arith, ap (λ (f : FileInfo). length f.extents) at)))
    ])

same-at : {A : Type 0} (field : FileInfo → A) (es : List FileInfo) (i k : ℕ) (e : FileInfo) → i < length es → field e ≡ field (entry_at es i) → field (entry_at (set es i e) k) ≡ field (entry_at es k)
same-at field es i k e there same = elim (cases_eq k i) [
  | inl here ↦ ap (λ (n : ℕ). field (entry_at (set es i e) n)) here ∙ ap field (get_or-set_same es i e no_entry there) ∙ same ∙ ap (λ (n : ℕ). field (entry_at es n)) (sym here)
  | inr other ↦ ap field (get_or-set_other es i k e no_entry other)
]

pub kept-set : (t : TableSeen) (i : ℕ) (e : FileInfo) → IsVolumeTable t → i < length t.entries → IsVolumeFile t.blocks e → e.name ≡ (entry_at t.entries i).name
    → front_block e.extents ≡ front_block (entry_at t.entries i).extents → AreDisjointExtents e.extents → AreFree e.extents (all_extents (remove t.entries i))
    → length (all_extents (remove t.entries i)) + length e.extents ≤ 252
    → IsVolumeTable (record { blocks = t.blocks; entries = set t.entries i e })
kept-set t i e h there f name front apart free room =
    let es = t.entries in
    let size = length-set es i e in
    let at : entry_at (set es i e) i ≡ e = get_or-set_same es i e no_entry there in
    let name-at = λ (k : ℕ). same-at (λ (x : FileInfo). x.name) es i k e there name in
    let front-at = λ (k : ℕ). same-at (λ (x : FileInfo). front_block x.extents) es i k e there front in
    let before = all_extents (take i es) in
    let behind = all_extents (drop (i + 1) es) in
    let old : AreDisjointExtents (before ++ ((entry_at es i).extents ++ behind)) = subst AreDisjointExtents (remove-around es i there) h.apart in
    let others : AreDisjointExtents (before ++ behind) =
    apart-joined before behind (apart-left before ((entry_at es i).extents ++ behind) old)
    (apart-right (entry_at es i).extents behind (apart-right before ((entry_at es i).extents ++ behind) old))
    (cross-right before (entry_at es i).extents behind (apart-across before ((entry_at es i).extents ++ behind) old)) in
    let cross : Cross e.extents (before ++ behind) =
    subst (Cross e.extents) (removed-extents es i) (cross-free t.blocks e.extents (all_extents (remove es i)) free (own-on-disk t.blocks e f) (removed-on-disk t h i there)) in
    record {
      number = h.number;
      room = record { files = omega (arith, size, h.room.files); extents = omega (arith, extents-set es i e there) };
      files = λ k within. elim (cases_eq k i) [
        | inl same ↦ subst (IsVolumeFile t.blocks) (sym (ap (entry_at (set es i e)) same ∙ at)) f
        | inr other ↦ subst (IsVolumeFile t.blocks) (sym (get_or-set_other es i k e no_entry other)) (h.files k (omega (arith, size)))
      ];
      names = λ j k below within same. h.names j k below (omega (arith, size)) (sym (name-at k) ∙ same ∙ name-at j);
      order = λ k within. omega (arith, front-at k, front-at (k + 1), h.order k (omega (arith, size)));
      apart = subst AreDisjointExtents (sym (set-extents es i e there)) (apart-put before e.extents behind others apart cross);
    }
