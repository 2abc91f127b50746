-- The lines of each trace may follow each other as they do.
use Rattle.std.proofs.Common.{◌≡◌, ℕ, zero, suc, ◌≤◌, ◌<◌, ◌+◌, ◌-◌, ◌/◌, ◌%◌, ◌==◌, min, Bool, true, false, ◌&&◌, List, [], ◌∷◌, ◌++◌, length, map, take, drop, Some, None, refl, sym, subst, ap, ◌∙◌, append_assoc, append-nil, arith, rules, tests}
use Rattle.std.specs.Prelude.{All, Contains, nat_eq, nat_lt, nat_le, if◌then◌else◌}
use Rattle.std.specs.Cmp.{nat_eq_equiv}
use Rattle.std.specs.List.{list_all, list_any}
use Rattle.std.proofs.lemmas.Bool.{false≢true, and_from as both}
use Rattle.std.proofs.lemmas.Bool.Decides.{nat_tests}
use Rattle.std.proofs.lemmas.List.{length-take, length-drop, map-append}
use Rattle.std.proofs.lemmas.Map.Views.{list_any-from_Contains}
use Rattle.std.proofs.lemmas.List.Elements.{All-head, All-tail}
use Rattle.vm_report.specs.vm_types.declared.call.Entry.{Entry}
use Rattle.trace_text.specs.EntryReading.{◌>>=◌}
use Rattle.trace_text.specs.Traces.{TracedFile, Trace}
use Rattle.trace_text.specs.TraceForm.{IsTracedFile, IsTrace, RiseFrom}
use Rattle.trace_text.specs.TraceLines.{TraceLine, FileHead, Disk, Root, File, Piece, Entries, Act}
use Rattle.trace_text.specs.LineOrder.{LinePlace, AtOpening, AtDisks, AtRoots, InFile, AtEntries, file_place, file_at, may_be_piece, place_after, place_after_all, pieces_lines, head_of, files_lines, trace_lines}

-- lines behind lines
pub after_append : (s : LinePlace) (xs ys : List TraceLine) → place_after_all s (xs ++ ys) ≡ (place_after_all s xs >>= λ t. place_after_all t ys)
after_append s [] ys = refl
after_append s (x ∷ xs) ys = elim (place_after s x) as (λ o. (o >>= λ t. place_after_all t (xs ++ ys)) ≡ ((o >>= λ t. place_after_all t xs) >>= λ t. place_after_all t ys)) [
  | None ↦ refl
  | Some t ↦ after_append t xs ys
]

-- entries
entries_run : (H : List Entry) → place_after_all (AtEntries (length H)) (map Act H) ≡ Some (AtEntries 0)
entries_run [] = refl
entries_run (e ∷ H) = entries_run H

-- the pieces of a file
record PiecesRun (disks : List ℕ) (k len least : ℕ) (ls : List TraceLine) : Type 0 where
  last : ℕ
  is : place_after_all (InFile disks k len least) ls ≡ Some (InFile disks k len last)

same_number : (k : ℕ) → (k == k) ≡ true
same_number k = grind (rules, tests, arith, nat_tests)

eq_true : (a b : ℕ) → a ≡ b → (a == b) ≡ true
eq_true a b is = ap (λ (x : ℕ). x == b) is ∙ same_number b

lt_true : (a b : ℕ) → a < b → nat_lt a b ≡ true
lt_true a b h = grind (rules, tests, arith, nat_tests, h)

le_true : (a b : ℕ) → a ≤ b → nat_le a b ≡ true
le_true a b h = grind (rules, tests, arith, nat_tests, h)

piece_may : (len offset n : ℕ) → offset % 32 ≡ 0 → offset < len → n ≡ min 32 (len - offset) → may_be_piece len offset n ≡ true
piece_may len offset n at inside is =
    both ((offset % 32 == 0) && nat_lt offset len) (n == min 32 (len - offset))
    (both (offset % 32 == 0) (nat_lt offset len) (eq_true (offset % 32) 0 at) (lt_true offset len inside))
    (eq_true n (min 32 (len - offset)) is)

pub some_told : (bytes : List ℕ) → list_all (λ b. b == 0) bytes ≡ false → 1 ≤ length bytes
some_told [] is = absurd (false≢true (sym is))
some_told (b ∷ bytes) is = omega arith

piece_here : (disks : List ℕ) (k len least offset : ℕ) (bytes : List ℕ) → list_all (λ b. b == 0) (take 32 bytes) ≡ false → least ≤ offset → offset % 32 ≡ 0
    → length bytes ≡ len - offset → place_after (InFile disks k len least) (Piece offset (take 32 bytes)) ≡ Some (InFile disks k len (offset + 32))
piece_here disks k len least offset bytes told from at is =
    let some = some_told (take 32 bytes) told in
    let count = length-take 32 bytes in
    let inside : offset < len = omega (arith, some, count, is) in
    let short : length (take 32 bytes) ≡ min 32 (len - offset) = count ∙ ap (λ n. min 32 n) is in
    let n = length (take 32 bytes) in
    ap (λ t. if t then Some (InFile disks k len (offset + 32)) else None)
    (both (nat_le least offset) (may_be_piece len offset n) (le_true least offset from) (piece_may len offset n at inside short))

piece_first : (t : Bool) (disks : List ℕ) (k len least offset : ℕ) (bytes : List ℕ) (ls : List TraceLine) → list_all (λ b. b == 0) (take 32 bytes) ≡ t
    → least ≤ offset → offset % 32 ≡ 0 → length bytes ≡ len - offset → ((from : ℕ) → from ≤ offset + 32 → PiecesRun disks k len from ls)
    → PiecesRun disks k len least ((if t then [] else Piece offset (take 32 bytes) ∷ []) ++ ls)
piece_first true disks k len least offset bytes ls told from at is more = more least (omega (arith, from))
piece_first false disks k len least offset bytes ls told from at is more =
    let rest = more (offset + 32) (omega arith) in
    record {
      last = rest.last;
      is = ap (λ o. o >>= λ t. place_after_all t ls) (piece_here disks k len least offset bytes told from at is) ∙ rest.is;
    }

pieces_run : (n offset : ℕ) (bytes disks : List ℕ) (k len least : ℕ) → least ≤ offset → offset % 32 ≡ 0 → length bytes ≡ len - offset
    → PiecesRun disks k len least (pieces_lines n offset bytes)
pieces_run zero offset bytes disks k len least from at is = record { last = least; is = refl }
pieces_run (suc n) offset bytes disks k len least from at is =
    let cut : length (drop 32 bytes) ≡ len - (offset + 32) = let e = length-drop 32 bytes in omega (arith, e, is) in
    let next : (offset + 32) % 32 ≡ 0 = omega (arith, at) in
    piece_first (list_all (λ b. b == 0) (take 32 bytes)) disks k len least offset bytes (pieces_lines n (offset + 32) (drop 32 bytes)) refl from at is
    (λ (low : ℕ) (h : low ≤ offset + 32). pieces_run n (offset + 32) (drop 32 bytes) disks k len low h next cut)

-- files
file_may : (x : FileHead) (numbers : List ℕ) (k : ℕ) → x.file ≡ k → Contains numbers x.disk → file_at x (numbers, k) ≡ Some (InFile numbers (k + 1) x.len 0)
file_may x numbers k is there =
    ap (λ t. if t then Some (InFile numbers (k + 1) x.len 0) else None)
    (both (x.file == k) (list_any (nat_eq x.disk) numbers) (eq_true x.file k is) (list_any-from_Contains nat_eq_equiv x.disk numbers there))

files_run : (files : List TracedFile) (disks : List (ℕ × ℕ)) (s : LinePlace) (k : ℕ) (H : List Entry) → file_place s ≡ Some (map (λ d. d.0) disks, k)
    → All (IsTracedFile disks) files → place_after_all s (files_lines k files ++ Entries (length H) ∷ map Act H) ≡ Some (AtEntries 0)
files_run [] disks s k H is all = ap (λ o. (o >>= λ p. Some (AtEntries (length H))) >>= λ t. place_after_all t (map Act H)) is ∙ entries_run H
files_run (file ∷ files) disks s k H is all =
    let numbers = map (λ d. d.0) disks in
    let own = All-head (IsTracedFile disks) file files all in
    let len = length file.bytes in
    let count = (len + 31) / 32 in
    let begun = InFile numbers (k + 1) len 0 in
    let ps = pieces_lines count 0 file.bytes in
    let pieces = pieces_run count 0 file.bytes numbers (k + 1) len 0 (omega arith) refl (omega arith) in
    let behind = files_lines (k + 1) files ++ Entries (length H) ∷ map Act H in
    let rest = files_run files disks (InFile numbers (k + 1) len pieces.last) (k + 1) H refl (All-tail (IsTracedFile disks) file files all) in
    ap (λ ls. place_after_all s (File (head_of k file) ∷ ls)) (append_assoc ps (files_lines (k + 1) files) (Entries (length H) ∷ map Act H))
    ∙ (ap (λ o. o >>= λ t. place_after_all t (ps ++ behind)) (ap (λ o. o >>= file_at (head_of k file)) is ∙ file_may (head_of k file) numbers k refl own.disk)
    ∙ (after_append begun ps behind ∙ (ap (λ o. o >>= λ t. place_after_all t behind) pieces.is ∙ rest)))

-- top processes and disks
roots_run : (roots : List ℕ) (files : List TracedFile) (disks : List (ℕ × ℕ)) (least : ℕ) (H : List Entry) → RiseFrom least roots → All (IsTracedFile disks) files
    → place_after_all (AtRoots least (map (λ d. d.0) disks)) (map Root roots ++ (files_lines 0 files ++ Entries (length H) ∷ map Act H)) ≡ Some (AtEntries 0)
roots_run [] files disks least H rise all = files_run files disks (AtRoots least (map (λ d. d.0) disks)) 0 H refl all
roots_run (p ∷ roots) files disks least H rise all =
    let more = map Root roots ++ (files_lines 0 files ++ Entries (length H) ∷ map Act H) in
    let numbers = map (λ d. d.0) disks in
    ap (λ t. (if t then Some (AtRoots (p + 1) numbers) else None) >>= λ s. place_after_all s more) (le_true least p rise.0)
    ∙ roots_run roots files disks (p + 1) H rise.2 all

first_roots_run : (roots : List ℕ) (files : List TracedFile) (disks : List (ℕ × ℕ)) (least : ℕ) (H : List Entry) → RiseFrom 1 roots → All (IsTracedFile disks) files
    → place_after_all (AtDisks least (map (λ d. d.0) disks)) (map Root roots ++ (files_lines 0 files ++ Entries (length H) ∷ map Act H)) ≡ Some (AtEntries 0)
first_roots_run [] files disks least H rise all = files_run files disks (AtDisks least (map (λ d. d.0) disks)) 0 H refl all
first_roots_run (p ∷ roots) files disks least H rise all =
    let more = map Root roots ++ (files_lines 0 files ++ Entries (length H) ∷ map Act H) in
    let numbers = map (λ d. d.0) disks in
    ap (λ t. (if t then Some (AtRoots (p + 1) numbers) else None) >>= λ s. place_after_all s more) (le_true 1 p rise.0)
    ∙ roots_run roots files disks (p + 1) H rise.2 all

disks_run : (rest done : List (ℕ × ℕ)) (roots : List ℕ) (files : List TracedFile) (least : ℕ) (H : List Entry) → RiseFrom least (map (λ d. d.0) rest)
    → RiseFrom 1 roots → All (IsTracedFile (done ++ rest)) files
    → place_after_all (AtDisks least (map (λ d. d.0) done)) (map Disk rest ++ (map Root roots ++ (files_lines 0 files ++ Entries (length H) ∷ map Act H)))
    ≡ Some (AtEntries 0)
disks_run [] done roots files least H rise high all =
    first_roots_run roots files done least H high (subst (λ ds. All (IsTracedFile ds) files) (append-nil done) all)
disks_run (d ∷ rest) done roots files least H rise high all =
    let more = map Disk rest ++ (map Root roots ++ (files_lines 0 files ++ Entries (length H) ∷ map Act H)) in
    let numbers = map-append (λ x. x.0) done (d ∷ []) in
    ap (λ t. (if t then Some (AtDisks (d.0 + 1) (map (λ x. x.0) done ++ d.0 ∷ [])) else None) >>= λ s. place_after_all s more) (le_true least d.0 rise.0)
    ∙ (ap (λ ns. place_after_all (AtDisks (d.0 + 1) ns) more) (sym numbers)
    ∙ disks_run rest (done ++ d ∷ []) roots files (d.0 + 1) H rise.2 high
    (subst (λ ds. All (IsTracedFile ds) files) (sym (append_assoc done (d ∷ []) rest)) all))

-- the lines of a trace may follow each other as they do
pub trace_run : (t : Trace) → IsTrace t → place_after_all AtOpening (trace_lines t) ≡ Some (AtEntries 0)
trace_run t h = disks_run t.disks [] t.roots t.files 0 t.history h.rising h.roots h.files
