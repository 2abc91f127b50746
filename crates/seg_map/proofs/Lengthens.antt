-- A FILE THAT GETS LONGER: what its last page has to be, and that it is longer once its record has the farther end.
use Rattle.std.proofs.Common.{◌≡◌, ◌≢◌, ℕ, ◌+◌, ◌-◌, ◌%◌, ◌<◌, ◌≤◌, max, Bool, true, false, cond, List, [], ◌++◌, length, Option, Some, None, refl, sym, ap, ◌∙◌, ◌⊎◌, inl, inr, subst, arith, slice_index_or}
use Rattle.std.specs.Prelude.{Contains, IsTrue, take, drop, replicate, slice_get, nat_lt, not}
use Rattle.std.proofs.lemmas.Bool.{cases_eq, ltb-true, cases_lt}
use Rattle.std.proofs.lemmas.List.{replicate-append-replicate, take-replicate, drop-replicate}
use Rattle.std.proofs.lemmas.Option.{slice_get_within}
use Rattle.seg_ops.specs.page_hash.Names.{name_at}
use Rattle.seg_ops.specs.page_hash.declared.PageName.{PageName}
use Rattle.seg_ops.specs.page_store.Notes.{Notes}
use Rattle.seg_ops.specs.page_store.Seen.{StoreSeen, IsListedFrame, residence}
use Rattle.seg_ops.specs.page_store.declared.residence.Residence.TheVariants.{Home}
use Rattle.seg_ops.proofs.page_store.QueryLemmas.{home-is}
use Rattle.seg_ops.specs.page_store.Value.{backing_value, value_in}
use Rattle.seg_ops.specs.anon_slots.Slots.{count_at, is_used}
use Rattle.seg_ops.specs.vm_types.Pages.{bytes_before}
use Rattle.seg_ops.specs.vnode_files.Files.{vnode_at}
use Rattle.seg_ops.specs.vnode_files.Vnode.{is_blank}
use Rattle.seg_ops.specs.flat_model.Flat.{File, IsFile}
use Rattle.seg_ops.specs.flat_model.GrownLaws.{zeros_between}
use Rattle.seg_ops.specs.flat_model.Parts.{longer_file, with_extents_of}
use Rattle.seg_ops.specs.flat_model.Words.{Page, page, pages_in, zero_page}
use Rattle.seg_ops.specs.vm_world.FileSteps.{file_seen, ChangesFile}
use Rattle.seg_ops.specs.vm_world.FramesFit.{FilesFit}
use Rattle.seg_ops.specs.vm_world.MemoryFits.{MemoryFits}
use Rattle.seg_ops.specs.vm_world.Pages.{page_value, file_contents}
use Rattle.seg_ops.specs.vm_world.Segments.{Spaces}
use Rattle.seg_ops.specs.vm_world.Wants.{IsGapPage}
use Rattle.seg_ops.specs.vm_world.World.{World, file_name, is_unpushed, is_page_name, page_exists, world_table}
use Rattle.seg_ops.proofs.vm_world.FilePages.{page-in}
use Rattle.seg_ops.proofs.vm_world.FileSteps.{files-then}
use Rattle.seg_ops.proofs.vm_world.FlatWhole.{some-inj}
use Rattle.seg_ops.proofs.vm_world.PageNames.{not-slot, index-of, file-apart, file-page, below-kept}
use Rattle.seg_ops.proofs.vm_world.StoredPages.{zeros-are}
use Rattle.seg_ops.specs.Rooms.{SameLists}
use Rattle.seg_ops.proofs.Fills.{blank-is}
use Rattle.seg_ops.proofs.StillSteps.{memory_of, value-is}
use Rattle.seg_map.specs.Ends.{valid_in, IsReadyPage, MaySetEnd, lengthened, with_file_records}
use Rattle.seg_map.specs.Longer.{IsBlankAbsent, IsLastReady, MayLengthen}
use Rattle.seg_map.specs.Puts.{with_bytes_in}
use Rattle.seg_map.specs.Wholes.{gap_zeros}
use Rattle.seg_map.proofs.Ends.{ends_law}
use Rattle.seg_map.proofs.Alike.{lengthened-alike, lengthened-put}
use Rattle.seg_map.proofs.Wholes.{wholes_law, none-between, same-change}

-- a blank page that no frame holds is zeros
pub blank-value : (w : World) (notes : Notes) (name : PageName) → FilesFit w.files → IsTrue (is_page_name w.files w.anon name) → IsBlankAbsent w name → page_value w notes name ≡ zero_page
blank-value w notes name fit real none =
    value-is w notes name real
    ∙ ap (λ (o : Option ℕ). value_in o w.store notes (world_table w name)) none.0
    ∙ ap (λ (b : Bool). backing_value w.store notes (record (world_table w name) { blank = b })) (blank-is w name fit real ∙ none.1)
    ∙ zeros-are

between-zeros : (a b : ℕ) → a ≤ 4096 → b ≤ 4096 → zeros_between a b zero_page ≡ zero_page
unfolding zero_page
between-zeros a b low high =
    let front : take a (replicate 4096 0) ≡ replicate a 0 = take-replicate a 4096 0 low in
    let back : drop (max a b) (replicate 4096 0) ≡ replicate (4096 - max a b) 0 = drop-replicate (max a b) 4096 0 in
    let all : a + (b - a) + (4096 - max a b) ≡ 4096 = omega (arith, low, high) in
    (λ j. front j ++ replicate (b - a) 0 ++ back j)
    ∙ ap (λ (l : List ℕ). l ++ replicate (4096 - max a b) 0) (replicate-append-replicate a (b - a) 0)
    ∙ replicate-append-replicate (a + (b - a)) (4096 - max a b) 0
    ∙ ap (λ (k : ℕ). replicate k 0) all

module _ (w : World) (spaces : Spaces) (f n : ℕ) (fits : MemoryFits (memory_of w spaces)) (there : f < length w.files.files) (le : (vnode_at w.files f).info.length ≤ n) where
  abbrev len : ℕ
  len = (vnode_at w.files f).info.length

  far : f ≢ 64
  far = file-apart w.files f fits.files there

  exists-at : (i : ℕ) → page_exists w.files w.anon (file_name f i) ≡ nat_lt i (pages_in len)
  exists-at i = ap (λ (b : Bool). cond b (is_used (count_at w.anon i)) (nat_lt i (pages_in len))) (not-slot f far)

  held-below : (frame : ℕ) (name : PageName) → name_at w.store.names frame ≡ Some name → name.object ≡ f → name.page < pages_in len
  held-below frame name held e =
      let is : name ≡ file_name f name.page = λ j. record { object = e j; page = name.page } in
      ltb-true name.page (pages_in len) (sym (exists-at name.page) ∙ ap (page_exists w.files w.anon) (sym is) ∙ fits.frames.exist frame name held)

  blank-of : (i : ℕ) → is_unpushed w.files w.anon (file_name f i) ≡ true → is_blank (vnode_at w.files f) i ≡ true
  blank-of i h = sym (ap (λ (b : Bool). cond b (not (slice_index_or w.anon.swapped i false)) (is_blank (vnode_at w.files f) i)) (not-slot f far)) ∙ h

  -- the page whose valid bytes change is the old last one, and has a tail
  is-gap : (i : ℕ) → i < pages_in len → valid_in n i ≢ valid_in len i → IsGapPage w f n (file_name f i)
  is-gap i lt differs = record {
    longer = elim (cases_lt len n) [ inl less ↦ less | inr more ↦ absurd (differs (let e : n ≡ len = omega (arith, le, more) in ap (λ (k : ℕ). valid_in k i) e)) ];
    tail = λ e. differs (let same : valid_in n i ≡ valid_in len i = omega (arith, e, lt, le) in same);
    last = elim (cases_eq i (page len)) [ inl e ↦ ap (file_name f) e | inr ne ↦ absurd (differs (let same : valid_in n i ≡ valid_in len i = omega (arith, ne, lt, le) in same)) ];
  }

  may-end : (s : StoreSeen) → s.names ≡ w.store.names → ((name : PageName) → IsGapPage w f n name → IsReadyPage (record w { store = s }) name ⊎ IsBlankAbsent (record w { store = s }) name) → MaySetEnd (record w { store = s }) f n
  may-end s names last = record {
    below = λ frame name held e. let lt = held-below frame name (ap (λ (ns : List (Option PageName)). name_at ns frame) (sym names) ∙ held) e in omega (arith, lt, le);
    last = λ i lt below differs. elim (last (file_name f i) (is-gap i lt differs)) [ inl r ↦ inl r | inr none ↦ inr (none.0, inl (blank-of i none.1)) ];
    tail = λ i frame bytes less home at. absurd (omega (arith, less, le));
  }

  -- the old last page, where it has zeros already
  last-value : (notes : Notes) → page len < pages_in len → slice_get (file_seen w notes f).pages (page len) ≡ Some (page_value w notes (file_name f (page len)))
  last-value notes lt =
      let z : 0 + page len ≡ page len = omega arith in
      page-in (file_contents (page_value w notes) f) 0 (pages_in len) (page len) lt ∙ ap (λ (j : ℕ). Some (file_contents (page_value w notes) f j)) z
      ∙ ap (λ (b : Bool). Some (cond b [] (page_value w notes (file_name f (page len))))) (not-slot f far)

  zeros-there : (notes : Notes) (old : Page) → ((name : PageName) → IsGapPage w f n name → IsBlankAbsent w name) → IsFile (file_seen w notes f) → slice_get (file_seen w notes f).pages (page len) ≡ Some old
      → zeros_between (bytes_before len (page len)) (bytes_before n (page len)) old ≡ old
  zeros-there notes old none file at = elim (cases_lt len n) [
    | inr more ↦
        let e : n ≡ len = omega (arith, le, more) in
        ap (λ (k : ℕ). zeros_between (bytes_before len (page len)) (bytes_before k (page len)) old) e ∙ none-between (bytes_before len (page len)) old (omega arith) whole
    | inl less ↦ elim (cases_eq (len % 4096) 0) [
      | inl e ↦ absurd (let c = file.count in omega (arith, c, within, e))
      | inr tail ↦
          let kept = below-kept (vnode_at w.files f) (page len) (fits.files.each f there) below in
          let blank : page_value w notes (file_name f (page len)) ≡ zero_page = blank-value w notes (file_name f (page len)) fits.files (file-page w.files w.anon f (page len) far kept) (none (file_name f (page len)) (record { longer = less; tail = tail; last = refl })) in
          let is : old ≡ zero_page = some-inj old (page_value w notes (file_name f (page len))) (sym at ∙ last-value notes below) ∙ blank in
          ap (zeros_between (bytes_before len (page len)) (bytes_before n (page len))) is ∙ between-zeros (bytes_before len (page len)) (bytes_before n (page len)) (omega arith) (omega arith) ∙ sym is
    ]
  ]
    where
      within : page len < length (file_seen w notes f).pages
      within = slice_get_within (file_seen w notes f).pages (page len) old at

      below : page len < pages_in len
      below = let c = file.count in omega (arith, c, within)

      whole : length old ≡ 4096
      whole = subst (λ (p : Page). length p ≡ 4096) (index-of (file_seen w notes f).pages (page len) old old at) (file.pages (page len) old within).whole

  -- NOTHING IS PUT where the file has no tail, where it has as many bytes, and where its last page is blank.
  pub none-lengthens : ((name : PageName) → IsGapPage w f n name → IsBlankAbsent w name) → MayLengthen (memory_of w spaces) (memory_of w spaces) f n
  none-lengthens none = λ files extents k.
      same-change f (memory_of w spaces) (with_file_records (memory_of w spaces) files) (lengthened extents n) (λ file. longer_file n (with_extents_of extents file))
      (λ notes nf tell file. wholes_law.longer extents n (file_seen w notes f) file le (λ old at. zeros-there notes old none file at))
      (λ notes file is. lengthened-alike extents n file (let e : file.len ≡ len = ap (λ (x : File). x.len) is in omega (arith, e, le)))
      (ends_law.longer (memory_of w spaces) files f n extents fits k (may-end w.store refl (λ name gap. inr (none name gap))) le)

  -- ZEROS ARE PUT behind the end.
  pub put-lengthens : (s : StoreSeen) → s.names ≡ w.store.names → IsReadyPage (record w { store = s }) (file_name f (page len))
      → ChangesFile f (memory_of w spaces) (memory_of (record w { store = s }) spaces) (with_bytes_in (page len) (len % 4096) (gap_zeros len n)) → MayLengthen (memory_of w spaces) (memory_of (record w { store = s }) spaces) f n
  put-lengthens s names ready put = λ files extents k.
      let v = record w { store = s } in
      same-change f (memory_of w spaces) (with_file_records (memory_of v spaces) files) (λ file. lengthened extents n (with_bytes_in (page len) (len % 4096) (gap_zeros len n) file)) (λ file. longer_file n (with_extents_of extents file))
      (λ notes nf tell file. wholes_law.gap extents n (file_seen w notes f) file le)
      (λ notes file is. lengthened-alike extents n file (let e : file.len ≡ len = ap (λ (x : File). x.len) is in omega (arith, e, le)) ∙ sym (lengthened-put extents n (page len) (len % 4096) (gap_zeros len n) file))
      (files-then f (memory_of w spaces) (memory_of v spaces) (with_file_records (memory_of v spaces) files) (with_bytes_in (page len) (len % 4096) (gap_zeros len n)) (lengthened extents n) put
      (ends_law.longer (memory_of v spaces) files f n extents put.memory k (may-end s names (λ name gap. inl (subst (IsReadyPage v) (sym gap.last) ready))) le))

-- The old last page, where it is ready: on no list where it is home, and zeros where it isn't.
pub gap-unlisted : (w : World) (f n : ℕ) (name : PageName) (frame : ℕ) → IsLastReady w f n → IsGapPage w f n name → residence w.store name ≡ Home frame → ¬ IsListedFrame w.store frame
gap-unlisted w f n name frame ready gap home = elim (ready name gap) [
  | inl h ↦ subst (λ (k : ℕ). ¬ IsListedFrame w.store k) (let z : Home h.0 ≡ Home frame = sym h.1 ∙ home in cc) h.2
  | inr b ↦ absurd (none-is-some frame (sym b.0 ∙ (home-is w.store name frame home).found))
]
  where
    none-is-some : (k : ℕ) → ◌≡◌ {A = Option ℕ} None (Some k) → ⊥
    none-is-some k e = cc

pub gap-absent : (w : World) (f n : ℕ) → IsLastReady w f n → (IsGapPage w f n (file_name f (page (vnode_at w.files f).info.length)) → (frame : ℕ) → residence w.store (file_name f (page (vnode_at w.files f).info.length)) ≢ Home frame)
    → (name : PageName) → IsGapPage w f n name → IsBlankAbsent w name
gap-absent w f n ready away name gap = elim (ready name gap) [
  | inr b ↦ b
  | inl h ↦ absurd (away (subst (IsGapPage w f n) gap.last gap) h.0 (ap (residence w.store) (sym gap.last) ∙ h.1))
]
