-- Flat memory with disks, files and top processes, added one by one.
use Rattle.std.proofs.Common.{◌≡◌, ℕ, zero, suc, ◌<◌, ◌≤◌, ◌+◌, ◌-◌, ◌||◌, Bool, true, false, List, [], ◌∷◌, ◌++◌, length, map, take, get_or, replicate, Option, Some, None, inl, inr, refl, sym, subst, ap, ap₂, ◌∙◌, append_assoc, append-nil, length-append, arith}
use Rattle.std.specs.Prelude.{All, Contains, IsSome, IsFalse, is_some, slice_index_or}
use Rattle.std.specs.Ordering.{nat_cmp}
use Rattle.std.specs.FinMap as finite
use Rattle.std.specs.FinSet as set
use Rattle.std.specs.Cmp.{nat_cmp_total, unsigned_tied}
use Rattle.std.proofs.lemmas.Bool.{cases_eq, ne_eqb}
use Rattle.std.proofs.lemmas.List.{take_all, take_more, map-append, length-replicate}
use Rattle.std.proofs.lemmas.List.Elements.{All-weaker, All-nil, All-cons, All-head, All-tail, All-get_or}
use Rattle.flat_model.specs.Flat.{File, Space, Flat}
use Rattle.flat_model.proofs.Ranges.{get-insert_here, get-insert_apart}
use Rattle.flat_model.specs.Parts.{file_at_opening}
use Rattle.flat_state.specs.Cells.{extents_of}
use Rattle.flat_state.specs.FlatState.{with_blocks, with_root, with_one_more_file}
use Rattle.trace_text.specs.declared.opening.TraceOpening.{TraceOpening}
use Rattle.trace_text.specs.declared.traced_file.TracedFile.{TracedFile as KeptFile}
use Rattle.trace_text.specs.OpeningSeen.{padded, traced_file_seen, opening_seen}
use Rattle.trace_text.specs.Traces.{TracedFile, Trace}
use Rattle.trace_text.specs.TraceForm.{RiseFrom, IsTracedFile, IsTrace}
use Rattle.trace_check.specs.Checks.{file_of_trace}
use Rattle.trace_check.specs.Opened.{with_disks, with_roots, with_more_files}

-- a number below those that rise is none of theirs
none_below : (es : List (ℕ × ℕ)) (n d : ℕ) → RiseFrom n (map (λ e. e.0) es) → d < n → finite.get (finite.from_entries {R = nat_cmp} es) d ≡ None
none_below [] n d rise less = finite.get-empty nat_cmp d
none_below (e ∷ es) n d rise less =
    let le = rise.0 in
    get-insert_apart (finite.from_entries es) e.0 e.1 d (λ (is : d ≡ e.0). absurd (omega (arith, is, le, less)))
    ∙ none_below es (e.0 + 1) d rise.2 (omega (arith, le, less))

not_below : (ps : List ℕ) (n p : ℕ) → RiseFrom n ps → p < n → set.contains (set.from_list {R = nat_cmp} ps) p ≡ false
not_below [] n p rise less = set.contains-empty nat_cmp p
not_below (q ∷ ps) n p rise less =
    let le = rise.0 in
    set.contains-insert nat_cmp_total (set.from_list {R = nat_cmp} ps) q p
    ∙ (ap (λ b. b || set.contains (set.from_list {R = nat_cmp} ps) p) (unsigned_tied p q ∙ ne_eqb p q (λ (is : p ≡ q). absurd (omega (arith, is, le, less))))
    ∙ not_below ps (q + 1) p rise.2 (omega (arith, le, less)))

-- those behind a number that rises with them are above it
rise_behind : (xs : List ℕ) (x : ℕ) (ys : List ℕ) (n : ℕ) → RiseFrom n (xs ++ x ∷ ys) → RiseFrom (x + 1) ys
rise_behind [] x ys n rise = rise.2
rise_behind (w ∷ xs) x ys n rise = rise_behind xs x ys (w + 1) rise.2

numbers_behind : (xs : List (ℕ × ℕ)) (x : ℕ × ℕ) (ys : List (ℕ × ℕ)) (n : ℕ) → RiseFrom n (map (λ d. d.0) (xs ++ x ∷ ys)) → RiseFrom (x.0 + 1) (map (λ d. d.0) ys)
numbers_behind [] x ys n rise = rise.2
numbers_behind (w ∷ xs) x ys n rise = numbers_behind xs x ys (w.0 + 1) rise.2

-- those behind what is left are added
pub record DisksAdded (disks left : List (ℕ × ℕ)) (old now : Flat) : Type 0 where
  pub added : List (ℕ × ℕ)
  pub all : disks ≡ left ++ added
  pub flat : now ≡ with_disks old added

pub disks_none : (disks : List (ℕ × ℕ)) (F : Flat) → F.disks ≡ finite.empty → DisksAdded disks disks F F
disks_none disks F none = record { added = []; all = sym (append-nil disks); flat = ap (λ (m : finite.FinMap nat_cmp ℕ). record F { disks = m }) none }

pub disk_new : (disks left rest : List (ℕ × ℕ)) (d : ℕ × ℕ) (old now : Flat) → RiseFrom 0 (map (λ e. e.0) disks) → DisksAdded disks left old now → left ≡ rest ++ d ∷ []
    → IsFalse (finite.contains_key now.disks d.0)
disk_new disks left rest d old now rise h last =
    let whole : disks ≡ rest ++ d ∷ h.added = h.all ∙ (ap (λ (ls : List (ℕ × ℕ)). ls ++ h.added) last ∙ append_assoc rest (d ∷ []) h.added) in
    let behind = numbers_behind rest d h.added 0 (subst (λ (ds : List (ℕ × ℕ)). RiseFrom 0 (map (λ e. e.0) ds)) whole rise) in
    ap (λ (F : Flat). is_some (finite.get F.disks d.0)) h.flat ∙ ap is_some (none_below h.added (d.0 + 1) d.0 behind (omega arith))

pub disk_more : (disks left rest : List (ℕ × ℕ)) (d : ℕ × ℕ) (old now new : Flat) (h : DisksAdded disks left old now) → left ≡ rest ++ d ∷ []
    → new ≡ with_blocks now d.0 d.1 → DisksAdded disks rest old new
disk_more disks left rest d old now new h last is = record {
  added = d ∷ h.added;
  all = h.all ∙ (ap (λ (ls : List (ℕ × ℕ)). ls ++ h.added) last ∙ append_assoc rest (d ∷ []) h.added);
  flat = is ∙ ap (λ (F : Flat). with_blocks F d.0 d.1) h.flat;
}

pub record RootsAdded (roots left : List ℕ) (old now : Flat) : Type 0 where
  pub added : List ℕ
  pub all : roots ≡ left ++ added
  pub flat : now ≡ with_roots old added

pub root_new : (roots left rest : List ℕ) (p n : ℕ) (old now : Flat) → RiseFrom n roots → RootsAdded roots left old now → left ≡ rest ++ p ∷ []
    → IsFalse (set.contains now.born p)
root_new roots left rest p n old now rise h last =
    let whole : roots ≡ rest ++ p ∷ h.added = h.all ∙ (ap (λ (ls : List ℕ). ls ++ h.added) last ∙ append_assoc rest (p ∷ []) h.added) in
    let behind = rise_behind rest p h.added n (subst (λ (ps : List ℕ). RiseFrom n ps) whole rise) in
    ap (λ (F : Flat). set.contains F.born p) h.flat ∙ not_below h.added (p + 1) p behind (omega arith)

pub root_more : (roots left rest : List ℕ) (p : ℕ) (old now new : Flat) (h : RootsAdded roots left old now) → left ≡ rest ++ p ∷ []
    → new ≡ with_root now p → RootsAdded roots rest old new
root_more roots left rest p old now new h last is = record {
  added = p ∷ h.added;
  all = h.all ∙ (ap (λ (ls : List ℕ). ls ++ h.added) last ∙ append_assoc rest (p ∷ []) h.added);
  flat = is ∙ ap (λ (F : Flat). with_root F p) h.flat;
}

-- a disk that is told is there
found : (es : List (ℕ × ℕ)) (d : ℕ) → Contains (map (λ e. e.0) es) d → IsSome (finite.get (finite.from_entries {R = nat_cmp} es) d)
found [] d there = let none = there.1 in absurd (omega (arith, none))
found (e ∷ es) d there = elim (cases_eq d e.0) [
  | inl same ↦ ap (λ o. is_some o) (ap (λ k. finite.get (finite.from_entries {R = nat_cmp} (e ∷ es)) k) same ∙ get-insert_here (finite.from_entries es) e.0 e.1)
  | inr apart ↦ (
      let rest = found es d (behind (map (λ x. x.0) es) e.0 d there.0 there.1 there.2 apart) in
      ap (λ o. is_some o) (get-insert_apart (finite.from_entries es) e.0 e.1 d apart) ∙ rest
      )
]
  where
    behind : (xs : List ℕ) (x y k : ℕ) → k < length (x ∷ xs) → slice_index_or (x ∷ xs) k y ≡ y → (y ≡ x → ⊥) → Contains xs y
    behind xs x y zero less is apart = absurd (apart (sym is))
    behind xs x y (suc k) less is apart = (k, omega (arith, less), is)

pub files_found : (disks : List (ℕ × ℕ)) (files : List TracedFile) → All (IsTracedFile disks) files
    → All (λ f. IsSome (finite.get (finite.from_entries {R = nat_cmp} disks) f.disk)) files
files_found disks files all =
    All-weaker (IsTracedFile disks) (λ f. IsSome (finite.get (finite.from_entries {R = nat_cmp} disks) f.disk)) (λ f h. found disks f.disk h.disk) files all

-- a list's last element
last_cut : {A : Type 0} (xs : List A) (d : A) → 1 ≤ length xs → xs ≡ take (length xs - 1) xs ++ get_or xs (length xs - 1) d ∷ []
last_cut xs d some =
    let one : length xs - 1 + 1 ≡ length xs = omega (arith, some) in
    sym (take_all (length xs - 1 + 1) xs (omega (arith, some))) ∙ take_more xs (length xs - 1) d (omega (arith, some))

pub disks_step : (disks left : List (ℕ × ℕ)) (old now new : Flat) → 1 ≤ length left → DisksAdded disks left old now
    → new ≡ with_blocks now (get_or left (length left - 1) (0, 0)).0 (get_or left (length left - 1) (0, 0)).1 → DisksAdded disks (take (length left - 1) left) old new
disks_step disks left old now new some h is =
    disk_more disks left (take (length left - 1) left) (get_or left (length left - 1) (0, 0)) old now new h (last_cut left (0, 0) some) is

pub next_disk_new : (disks left : List (ℕ × ℕ)) (old now : Flat) → 1 ≤ length left → RiseFrom 0 (map (λ e. e.0) disks) → DisksAdded disks left old now
    → IsFalse (finite.contains_key now.disks (get_or left (length left - 1) (0, 0)).0)
next_disk_new disks left old now some rise h =
    disk_new disks left (take (length left - 1) left) (get_or left (length left - 1) (0, 0)) old now rise h (last_cut left (0, 0) some)

pub disks_all : (disks left : List (ℕ × ℕ)) (old now : Flat) → length left ≡ 0 → DisksAdded disks left old now → now ≡ with_disks old disks
disks_all disks [] old now none h = h.flat ∙ ap (λ (ds : List (ℕ × ℕ)). with_disks old ds) (sym h.all)
disks_all disks (d ∷ left) old now none h = absurd (omega (arith, none))

pub roots_none : (roots : List ℕ) (F : Flat) → F.spaces ≡ finite.empty → F.born ≡ set.empty → RootsAdded roots roots F F
roots_none roots F spaces born = record {
  added = [];
  all = sym (append-nil roots);
  flat = ap₂ (λ (m : finite.FinMap nat_cmp Space) (s : set.FinSet nat_cmp). record F { spaces = m; born = s }) spaces born;
}

pub roots_step : (roots left : List ℕ) (old now new : Flat) → 1 ≤ length left → RootsAdded roots left old now
    → new ≡ with_root now (get_or left (length left - 1) 0) → RootsAdded roots (take (length left - 1) left) old new
roots_step roots left old now new some h is =
    root_more roots left (take (length left - 1) left) (get_or left (length left - 1) 0) old now new h (last_cut left 0 some) is

pub next_root_new : (roots left : List ℕ) (old now : Flat) → 1 ≤ length left → RiseFrom 1 roots → RootsAdded roots left old now
    → IsFalse (set.contains now.born (get_or left (length left - 1) 0))
next_root_new roots left old now some rise h =
    root_new roots left (take (length left - 1) left) (get_or left (length left - 1) 0) 1 old now rise h (last_cut left 0 some)

pub roots_all : (roots left : List ℕ) (old now : Flat) → length left ≡ 0 → RootsAdded roots left old now → now ≡ with_roots old roots
roots_all roots [] old now none h = h.flat ∙ ap (λ (ps : List ℕ). with_roots old ps) (sym h.all)
roots_all roots (p ∷ left) old now none h = absurd (omega (arith, none))

-- the disks of the files that are told are there
each_of : {X Y : Type 0} (P : Y → Type 0) (f : X → Y) (xs : List X) → All P (map f xs) → All (λ x. P (f x)) xs
each_of P f [] all = All-nil (λ x. P (f x))
each_of P f (x ∷ xs) all = All-cons (λ y. P (f y)) x xs (All-head P (f x) (map f xs) all) (each_of P f xs (All-tail P (f x) (map f xs) all))

pub kept_disks : (o : TraceOpening) (disks : finite.FinMap nat_cmp ℕ) → IsTrace (opening_seen o) → disks ≡ finite.from_entries o.disks.items
    → All (λ f. IsSome (finite.get disks f.head.disk)) o.files.items
kept_disks o disks is same =
    let there = files_found o.disks.items (map traced_file_seen o.files.items) is.files in
    let each = each_of (λ (f : TracedFile). IsSome (finite.get (finite.from_entries {R = nat_cmp} o.disks.items) f.disk)) traced_file_seen o.files.items there in
    subst (λ (m : finite.FinMap nat_cmp ℕ). All (λ (f : KeptFile). IsSome (finite.get m f.head.disk)) o.files.items) (sym same) each

-- a file more
pub file_more : (F now new : Flat) (files : List KeptFile) (i : ℕ) (file : KeptFile) → i < length files → file ≡ get_or files i file
    → now ≡ with_more_files F (map file_of_trace (map traced_file_seen (take i files)))
    → new ≡ with_one_more_file now (file_of_trace (traced_file_seen file))
    → new ≡ with_more_files F (map file_of_trace (map traced_file_seen (take (i + 1) files)))
file_more F now new files i file inside at so_far is =
    let seen = λ (fs : List KeptFile). map file_of_trace (map traced_file_seen fs) in
    let more : seen (take (i + 1) files) ≡ seen (take i files) ++ file_of_trace (traced_file_seen file) ∷ [] =
    ap seen (take_more files i file inside ∙ ap (λ (f : KeptFile). take i files ++ f ∷ []) (sym at))
    ∙ (ap (map file_of_trace) (map-append traced_file_seen (take i files) (file ∷ [])) ∙ map-append file_of_trace (map traced_file_seen (take i files)) (traced_file_seen file ∷ [])) in
    is
    ∙ (ap (λ (G : Flat). with_one_more_file G (file_of_trace (traced_file_seen file))) so_far
    ∙ (ap (λ (fs : List File). record F { files = fs }) (append_assoc F.files (seen (take i files)) (file_of_trace (traced_file_seen file) ∷ []))
    ∙ ap (λ (fs : List File). with_more_files F fs) (sym more)))

pub files_none : (F : Flat) → F ≡ with_more_files F []
files_none F = ap (λ (fs : List File). record F { files = fs }) (sym (append-nil F.files))

pub files_all : (F now : Flat) (files : List KeptFile) (i : ℕ) → length files ≤ i → now ≡ with_more_files F (map file_of_trace (map traced_file_seen (take i files)))
    → now ≡ with_more_files F (map file_of_trace (map traced_file_seen files))
files_all F now files i all h = h ∙ ap (λ (fs : List KeptFile). with_more_files F (map file_of_trace (map traced_file_seen fs))) (take_all i files all)

pub disk_there : (F now : Flat) (files : List KeptFile) (seen : List File) (i : ℕ) (file : KeptFile) → now ≡ with_more_files F seen → i < length files
    → file ≡ get_or files i file → All (λ f. IsSome (finite.get F.disks f.head.disk)) files → IsSome (finite.get now.disks file.head.disk)
disk_there F now files seen i file same inside at all =
    let here = All-get_or (λ (f : KeptFile). IsSome (finite.get F.disks f.head.disk)) files i file inside all in
    let mine = subst (λ (f : KeptFile). IsSome (finite.get F.disks f.head.disk)) (sym at) here in
    subst (λ (m : finite.FinMap nat_cmp ℕ). IsSome (finite.get m file.head.disk)) (sym (ap (λ (G : Flat). G.disks) same)) mine

-- a file with the zeros behind its bytes
pub resized : (len : ℕ) (items bytes : List ℕ) → length items ≤ len → bytes ≡ take len items ++ replicate (len - length items) 0 → bytes ≡ padded len items
resized len items bytes fits is = is ∙ ap (λ x. x ++ replicate (len - length items) 0) (take_all len items fits)

pub padded_length : (len : ℕ) (items : List ℕ) → length items ≤ len → length (padded len items) ≡ len
padded_length len items fits =
    let both = length-append items (replicate (len - length items) 0) in
    let zeros = length-replicate {A = ℕ} (len - length items) 0 in
    omega (arith, both, zeros, fits)

pub file_seen : (f : KeptFile) (bytes : List ℕ) → length f.bytes.items ≤ f.head.len → bytes ≡ padded f.head.len f.bytes.items
    → file_at_opening f.head.len f.head.disk (extents_of f.head.extents.items) f.head.writable bytes ≡ file_of_trace (traced_file_seen f)
file_seen f bytes fits is =
    ap₂ (λ (n : ℕ) (bs : List ℕ). file_at_opening n f.head.disk (extents_of f.head.extents.items) f.head.writable bs)
    (sym (padded_length f.head.len f.bytes.items fits)) is
