-- A line that may stand there tells one thing more.
use Rattle.std.proofs.Common.{◌≡◌, ℕ, zero, suc, ◌≤◌, ◌+◌, ◌-◌, ◌/◌, ◌%◌, ◌==◌, min, Bool, true, false, ◌&&◌, List, [], ◌∷◌, ◌++◌, length, map, take, drop, replicate, Some, None, refl, sym, subst, ap, ap₂, ◌∙◌, append_assoc, append-nil, arith}
use Rattle.std.specs.Prelude.{All, Contains, nat_eq, nat_le, nat_lt, if◌then◌else◌}
use Rattle.std.specs.List.{list_all, list_any}
use Rattle.std.proofs.lemmas.Bool.{leb-true, ltb-true, eqb-true, and_parts}
use Rattle.std.proofs.lemmas.List.{length-replicate, length_push, map_push, drop-drop}
use Rattle.std.proofs.lemmas.List.Elements.{All-nil, All-push, All-append, All-cons, All-head, All-tail, All-take, All-drop, All-replicate}
use Rattle.std.proofs.lemmas.Map.Views.{Contains-from_any}
use Rattle.vm_report.specs.vm_types.declared.call.Entry.{Entry}
use Rattle.vm_report.specs.vm_types.WellFormed.{IsNumber}
use Rattle.vm_report.specs.vm_types.Words.{IsByte}
use Rattle.vm_report.specs.flat_model.Words.{with_bytes}
use Rattle.trace_text.specs.EntryForm.{IsLongNumber, IsTracedEntry}
use Rattle.trace_text.specs.Traces.{TracedFile, Trace}
use Rattle.trace_text.specs.TraceForm.{RiseFrom, IsTracedFile, IsTrace}
use Rattle.trace_text.specs.TraceLines.{AreTwoNumbers, TraceLine, FileHead, Slots, Disk, Root, File, Piece, Entries, Act, IsFileHead, IsPiece, IsTraceLine}
use Rattle.trace_text.specs.LineOrder.{LinePlace, AtOpening, AtDisks, AtRoots, InFile, AtEntries, file_at, may_be_piece, place_after, pieces_lines, head_of, files_lines}
use Rattle.trace_text.specs.LinesRead.{untold, file_of_head, file_with_bytes, put_in_last, tell, RiseTo, DisksTold, RootsTold, LastTold, EntriesTold, IsTold, opening_lines, lines_told}
use Rattle.trace_text.proofs.PieceLines.{FitsPiece, rest_passes, zeros_pass, no_pieces, piece_length, piece_zeros, piece_more}

-- what a line more leaves: its line stands last, and this much is told
pub record ToldMore (t : Trace) (s : LinePlace) (l : TraceLine) (u : LinePlace) : Type 0 where
  pub lines : lines_told (tell t l) u ≡ lines_told t s ++ l ∷ []
  pub told : IsTold (tell t l) u

-- a step that was let through
passed : (b : Bool) (p u : LinePlace) → (if b then Some p else None) ≡ Some u → (b ≡ true) × (p ≡ u)
passed true p u is = (refl, cc)
passed false p u is = absurd cc

-- a line that may not stand there
stopped : {A : Type 0} (u : LinePlace) → None ≡ Some u → A
stopped u is = absurd cc

-- numbers that rise
rises : (ms : List ℕ) (n least : ℕ) → RiseTo n ms least → RiseFrom n ms
rises [] n least h = tt
rises (m ∷ ms) n least h = (h.0, h.1, rises ms (m + 1) least h.2)

rises_more : (ms : List ℕ) (n least m : ℕ) → RiseTo n ms least → least ≤ m → IsNumber m → RiseTo n (ms ++ m ∷ []) (m + 1)
rises_more [] n least m h le small = (omega (arith, h, le), small, omega arith)
rises_more (x ∷ ms) n least m h le small = (h.0, h.1, rises_more ms (x + 1) least m h.2 le small)

-- the lines of the opening part with more lines of files, top processes or disks
pub regrouped : (d r f z : List TraceLine) → d ++ (r ++ (f ++ z)) ≡ (d ++ (r ++ f)) ++ z
regrouped d r f z = simp append_assoc

no_more : (d : List TraceLine) → d ++ ([] ++ []) ≡ d
no_more d = append-nil d

files_append : (fs gs : List TracedFile) (k : ℕ) → files_lines k (fs ++ gs) ≡ files_lines k fs ++ files_lines (k + length fs) gs
files_append [] gs k = let here : k ≡ k + 0 = omega arith in ap (λ n. files_lines n gs) here
files_append (f ∷ fs) gs k =
    let P = pieces_lines ((length f.bytes + 31) / 32) 0 f.bytes in
    let at : k + 1 + length fs ≡ k + suc (length fs) = omega arith in
    ap (λ t. File (head_of k f) ∷ (P ++ t)) (files_append fs gs (k + 1) ∙ ap (λ n. files_lines (k + 1) fs ++ files_lines n gs) at)
    ∙ ap (λ t. File (head_of k f) ∷ t) (sym (append_assoc P (files_lines (k + 1) fs) (files_lines (k + suc (length fs)) gs)))

-- swap slots
pub first_trace : (n : ℕ) → IsNumber n → IsTrace (tell untold (Slots n))
first_trace n h = record {
  slots = h;
  rising = tt;
  blocks = All-nil (λ (d : ℕ × ℕ). IsNumber d.1);
  roots = tt;
  files = All-nil (IsTracedFile []);
  numbered = omega arith;
  entries = All-nil IsTracedEntry;
  count = omega arith;
}

slots_untold : (n : ℕ) (u : LinePlace) → IsNumber n → AtDisks 0 [] ≡ u → ToldMore untold AtOpening (Slots n) u
slots_untold n u h is = subst (λ (p : LinePlace). ToldMore untold AtOpening (Slots n) p) is (record {
  lines = refl;
  told = record { trace = first_trace n h; are = refl; rise = omega arith; roots = refl; files = refl; history = refl };
})

slots_told : (t : Trace) (s u : LinePlace) (n : ℕ) → IsTold t s → IsNumber n → place_after s (Slots n) ≡ Some u → ToldMore t s (Slots n) u
slots_told t AtOpening u n told h is = subst (λ (x : Trace). ToldMore x AtOpening (Slots n) u) (sym told) (slots_untold n u h cc)
slots_told t (AtDisks least numbers) u n told h is = stopped u is
slots_told t (AtRoots least numbers) u n told h is = stopped u is
slots_told t (InFile numbers k len least) u n told h is = stopped u is
slots_told t (AtEntries m) u n told h is = stopped u is

-- disks
disk_trace : (t : Trace) (least : ℕ) (numbers : List ℕ) (d : ℕ × ℕ) → DisksTold t least numbers → AreTwoNumbers d → least ≤ d.0 → IsTrace (tell t (Disk d))
disk_trace t least numbers d told h le =
    let more = rises_more numbers 0 least d.0 told.rise le h.0 in
    let numbered : numbers ++ d.0 ∷ [] ≡ map (λ x. x.0) (t.disks ++ d ∷ []) = ap (λ ns. ns ++ d.0 ∷ []) told.are ∙ sym (map_push (λ (x : ℕ × ℕ). x.0) t.disks d) in
    let none : All (IsTracedFile (t.disks ++ d ∷ [])) t.files = subst (λ (fs : List TracedFile). All (IsTracedFile (t.disks ++ d ∷ [])) fs) (sym told.files) (All-nil (IsTracedFile (t.disks ++ d ∷ []))) in
    record {
      slots = told.trace.slots;
      rising = subst (λ (ns : List ℕ). RiseFrom 0 ns) numbered (rises (numbers ++ d.0 ∷ []) 0 (d.0 + 1) more);
      blocks = All-push (λ (x : ℕ × ℕ). IsNumber x.1) t.disks d told.trace.blocks h.1;
      roots = told.trace.roots;
      files = none;
      numbered = told.trace.numbered;
      entries = told.trace.entries;
      count = told.trace.count;
    }

disk_lines : (t : Trace) (d : ℕ × ℕ) → t.roots ≡ [] → t.files ≡ [] → opening_lines (tell t (Disk d)) ≡ opening_lines t ++ Disk d ∷ []
disk_lines t d roots files =
    ap₂ (λ (rs : List ℕ) (fs : List TracedFile). Slots t.slots ∷ (map Disk (t.disks ++ d ∷ []) ++ (map Root rs ++ files_lines 0 fs))) roots files
    ∙ (ap (λ ls. Slots t.slots ∷ ls) (append-nil (map Disk (t.disks ++ d ∷ [])) ∙ map_push Disk t.disks d)
    ∙ ap (λ ls. Slots t.slots ∷ (ls ++ Disk d ∷ [])) (sym (append-nil (map Disk t.disks)))
    ∙ sym (ap₂ (λ (rs : List ℕ) (fs : List TracedFile). (Slots t.slots ∷ (map Disk t.disks ++ (map Root rs ++ files_lines 0 fs))) ++ Disk d ∷ []) roots files))

disk_told : (t : Trace) (s u : LinePlace) (d : ℕ × ℕ) → IsTold t s → AreTwoNumbers d → place_after s (Disk d) ≡ Some u → ToldMore t s (Disk d) u
disk_told t AtOpening u d told h is = stopped u is
disk_told t (AtDisks least numbers) u d told h is =
    let step = passed (nat_le least d.0) (AtDisks (d.0 + 1) (numbers ++ d.0 ∷ [])) u is in
    let le = leb-true least d.0 step.0 in
    subst (λ (p : LinePlace). ToldMore t (AtDisks least numbers) (Disk d) p) step.1 (record {
      lines = disk_lines t d told.roots told.files;
      told = record {
        trace = disk_trace t least numbers d told h le;
        are = ap (λ ns. ns ++ d.0 ∷ []) told.are ∙ sym (map_push (λ (x : ℕ × ℕ). x.0) t.disks d);
        rise = rises_more numbers 0 least d.0 told.rise le h.0;
        roots = told.roots;
        files = told.files;
        history = told.history;
      };
    })
disk_told t (AtRoots least numbers) u d told h is = stopped u is
disk_told t (InFile numbers k len least) u d told h is = stopped u is
disk_told t (AtEntries m) u d told h is = stopped u is

-- top processes
root_lines : (t : Trace) (p : ℕ) → t.files ≡ [] → opening_lines (tell t (Root p)) ≡ opening_lines t ++ Root p ∷ []
root_lines t p files =
    let D = map Disk t.disks in
    ap (λ (fs : List TracedFile). Slots t.slots ∷ (D ++ (map Root (t.roots ++ p ∷ []) ++ files_lines 0 fs))) files
    ∙ (ap (λ rs. Slots t.slots ∷ (D ++ rs)) (append-nil (map Root (t.roots ++ p ∷ [])) ∙ map_push Root t.roots p)
    ∙ (ap (λ ls. Slots t.slots ∷ ls) (sym (append_assoc D (map Root t.roots) (Root p ∷ [])))
    ∙ (ap (λ rs. Slots t.slots ∷ ((D ++ rs) ++ Root p ∷ [])) (sym (append-nil (map Root t.roots)))
    ∙ sym (ap (λ (fs : List TracedFile). (Slots t.slots ∷ (D ++ (map Root t.roots ++ files_lines 0 fs))) ++ Root p ∷ []) files))))

root_trace : (t : Trace) (p least : ℕ) → IsTrace t → RiseTo 1 t.roots least → least ≤ p → IsNumber p → IsTrace (tell t (Root p))
root_trace t p least h rise le small = record {
  slots = h.slots;
  rising = h.rising;
  blocks = h.blocks;
  roots = rises (t.roots ++ p ∷ []) 1 (p + 1) (rises_more t.roots 1 least p rise le small);
  files = h.files;
  numbered = h.numbered;
  entries = h.entries;
  count = h.count;
}

root_more : (t : Trace) (s u : LinePlace) (p least : ℕ) (numbers : List ℕ) → lines_told t s ≡ opening_lines t → RootsTold t least numbers → least ≤ p → IsNumber p
    → AtRoots (p + 1) numbers ≡ u → ToldMore t s (Root p) u
root_more t s u p least numbers same told le small is = subst (λ (x : LinePlace). ToldMore t s (Root p) x) is (record {
  lines = root_lines t p told.files ∙ ap (λ ls. ls ++ Root p ∷ []) (sym same);
  told = record {
    trace = root_trace t p least told.trace told.rise le small;
    are = told.are;
    rise = rises_more t.roots 1 least p told.rise le small;
    files = told.files;
    history = told.history;
  };
})

no_roots_yet : (t : Trace) (least : ℕ) (numbers : List ℕ) → DisksTold t least numbers → RootsTold t 1 numbers
no_roots_yet t least numbers told = record {
  trace = told.trace;
  are = told.are;
  rise = let first : RiseTo 1 [] 1 = omega arith in subst (λ (rs : List ℕ). RiseTo 1 rs 1) (sym told.roots) first;
  files = told.files;
  history = told.history;
}

root_told : (t : Trace) (s u : LinePlace) (p : ℕ) → IsTold t s → IsNumber p → place_after s (Root p) ≡ Some u → ToldMore t s (Root p) u
root_told t AtOpening u p told h is = stopped u is
root_told t (AtDisks least numbers) u p told h is =
    let step = passed (nat_le 1 p) (AtRoots (p + 1) numbers) u is in
    root_more t (AtDisks least numbers) u p 1 numbers refl (no_roots_yet t least numbers told) (leb-true 1 p step.0) h step.1
root_told t (AtRoots least numbers) u p told h is =
    let step = passed (nat_le least p) (AtRoots (p + 1) numbers) u is in
    root_more t (AtRoots least numbers) u p least numbers refl told (leb-true least p step.0) h step.1
root_told t (InFile numbers k len least) u p told h is = stopped u is
root_told t (AtEntries m) u p told h is = stopped u is

-- files
head_made : ℕ → FileHead → ℕ → FileHead
head_made f x l = record { file = f; name = x.name; writable = x.writable; disk = x.disk; len = l; extents = x.extents }

head_again : (x : FileHead) (k : ℕ) → x.file ≡ k → head_of k (file_of_head x) ≡ x
unfolding head_made
head_again x k is = ap₂ (λ (f l : ℕ). head_made f x l) (sym is) (length-replicate x.len 0)

new_file_lines : (x : FileHead) (k : ℕ) → x.file ≡ k → files_lines k (file_of_head x ∷ []) ≡ File x ∷ []
new_file_lines x k is =
    let n = (length (replicate x.len 0) + 31) / 32 in
    ap₂ (λ (h : FileHead) (ps : List TraceLine). File h ∷ (ps ++ [])) (head_again x k is) (no_pieces n 0 (replicate x.len 0) (zeros_pass x.len))

file_lines : (t : Trace) (x : FileHead) → x.file ≡ length t.files → opening_lines (tell t (File x)) ≡ opening_lines t ++ File x ∷ []
file_lines t x is =
    let F = files_lines 0 t.files in
    let at : x.file ≡ 0 + length t.files = omega (arith, is) in
    ap (λ ls. Slots t.slots ∷ (map Disk t.disks ++ (map Root t.roots ++ ls)))
    (files_append t.files (file_of_head x ∷ []) 0 ∙ ap (λ z. F ++ z) (new_file_lines x (0 + length t.files) at))
    ∙ ap (λ ls. Slots t.slots ∷ ls) (regrouped (map Disk t.disks) (map Root t.roots) F (File x ∷ []))

file_trace : (t : Trace) (x : FileHead) → IsTrace t → IsFileHead x → x.file ≡ length t.files → Contains (map (λ d. d.0) t.disks) x.disk → IsTrace (tell t (File x))
file_trace t x h head is there =
    let zeros : List ℕ = replicate x.len 0 in
    let size : length zeros ≡ x.len = length-replicate x.len 0 in
    let own : IsTracedFile t.disks (file_of_head x) = record {
      name = head.name;
      disk = there;
      extents = head.extents;
      len = let small = head.len in omega (arith, size, small);
      bytes = All-replicate IsByte x.len 0 (omega arith);
    } in
    record {
      slots = h.slots;
      rising = h.rising;
      blocks = h.blocks;
      roots = h.roots;
      files = All-push (IsTracedFile t.disks) t.files (file_of_head x) h.files own;
      numbered = let small = head.file in let e = length_push t.files (file_of_head x) in omega (arith, small, e, is);
      entries = h.entries;
      count = h.count;
    }

new_last : (files : List TracedFile) (x : FileHead) (k : ℕ) → length files ≡ k → LastTold (files ++ file_of_head x ∷ []) (k + 1) x.len 0
new_last files x k count = record {
  before = files;
  file = file_of_head x;
  is = refl;
  number = omega (arith, count);
  size = length-replicate x.len 0;
  zeros = zeros_pass x.len;
  even = refl;
}

file_more : (t : Trace) (s u : LinePlace) (x : FileHead) (numbers : List ℕ) (k : ℕ) → lines_told t s ≡ opening_lines t → IsTrace t
    → numbers ≡ map (λ d. d.0) t.disks → t.history ≡ [] → length t.files ≡ k → IsFileHead x → file_at x (numbers, k) ≡ Some u → ToldMore t s (File x) u
file_more t s u x numbers k same trace are history count head is =
    let step = passed ((x.file == k) && list_any (nat_eq x.disk) numbers) (InFile numbers (k + 1) x.len 0) u is in
    let tests = and_parts (x.file == k) (list_any (nat_eq x.disk) numbers) step.0 in
    let number : x.file ≡ length t.files = eqb-true x.file k tests.0 ∙ sym count in
    let there : Contains (map (λ d. d.0) t.disks) x.disk =
    subst (λ (ns : List ℕ). Contains ns x.disk) are (Contains-from_any {eq = nat_eq} eqb-true x.disk numbers tests.1) in
    subst (λ (p : LinePlace). ToldMore t s (File x) p) step.1 (record {
      lines = file_lines t x number ∙ ap (λ ls. ls ++ File x ∷ []) (sym same);
      told = record { trace = file_trace t x trace head number there; are = are; last = new_last t.files x k count; history = history };
    })

last_count : (files : List TracedFile) (k len least : ℕ) → LastTold files k len least → length files ≡ k
last_count files k len least h = let count = h.number in let e = length_push h.before h.file in let f = ap (λ (fs : List TracedFile). length fs) h.is in omega (arith, count, e, f)

no_files : (files : List TracedFile) → files ≡ [] → length files ≡ 0
no_files files is = ap (λ (fs : List TracedFile). length fs) is

file_told : (t : Trace) (s u : LinePlace) (x : FileHead) → IsTold t s → IsFileHead x → place_after s (File x) ≡ Some u → ToldMore t s (File x) u
file_told t AtOpening u x told h is = stopped u is
file_told t (AtDisks least numbers) u x told h is =
    file_more t (AtDisks least numbers) u x numbers 0 refl told.trace told.are told.history (no_files t.files told.files) h is
file_told t (AtRoots least numbers) u x told h is =
    file_more t (AtRoots least numbers) u x numbers 0 refl told.trace told.are told.history (no_files t.files told.files) h is
file_told t (InFile numbers k len least) u x told h is =
    file_more t (InFile numbers k len least) u x numbers k refl told.trace told.are told.history (last_count t.files k len least told.last) h is
file_told t (AtEntries m) u x told h is = stopped u is

-- pieces
pub put_last : (before : List TracedFile) (file : TracedFile) (offset : ℕ) (bytes : List ℕ)
    → put_in_last offset bytes (before ++ file ∷ []) ≡ before ++ file_with_bytes offset bytes file ∷ []
put_last [] file offset bytes = refl
put_last (f ∷ []) file offset bytes = refl
put_last (f ∷ g ∷ before) file offset bytes = ap (λ fs. f ∷ fs) (put_last (g ∷ before) file offset bytes)

same_head : (file : TracedFile) (offset : ℕ) (bytes : List ℕ) (k : ℕ) → length (with_bytes file.bytes offset bytes) ≡ length file.bytes
    → head_of k (file_with_bytes offset bytes file) ≡ head_of k file
unfolding head_made
same_head file offset bytes k same = ap (λ (l : ℕ). head_made k (head_of k file) l) same

-- the lines of one file with a piece more
one_file_more : (file : TracedFile) (offset : ℕ) (piece : List ℕ) (k : ℕ) → FitsPiece offset piece file.bytes → list_all (λ b. b == 0) piece ≡ false
    → files_lines k (file_with_bytes offset piece file ∷ []) ≡ files_lines k (file ∷ []) ++ Piece offset piece ∷ []
one_file_more file offset piece k fits told =
    let same = piece_length offset piece file.bytes fits in
    let n = (length file.bytes + 31) / 32 in
    let P = pieces_lines n 0 file.bytes in
    let more = piece_more n offset piece file.bytes fits told (omega arith) in
    ap₂ (λ (h : FileHead) (l : ℕ). File h ∷ (pieces_lines ((l + 31) / 32) 0 (with_bytes file.bytes offset piece) ++ [])) (same_head file offset piece k same) same
    ∙ (ap (λ ps. File (head_of k file) ∷ (ps ++ [])) more
    ∙ (ap (λ ls. File (head_of k file) ∷ ls) (append-nil (P ++ Piece offset piece ∷ []))
    ∙ ap (λ ls. File (head_of k file) ∷ (ls ++ Piece offset piece ∷ [])) (sym (append-nil P))))

last_more : (files : List TracedFile) (k len least offset : ℕ) (piece : List ℕ) (h : LastTold files k len least) → FitsPiece offset piece h.file.bytes
    → list_all (λ b. b == 0) piece ≡ false → files_lines 0 (put_in_last offset piece files) ≡ files_lines 0 files ++ Piece offset piece ∷ []
last_more files k len least offset piece h fits told =
    let B = files_lines 0 h.before in
    let at = 0 + length h.before in
    ap (λ (fs : List TracedFile). files_lines 0 (put_in_last offset piece fs)) h.is
    ∙ (ap (λ (fs : List TracedFile). files_lines 0 fs) (put_last h.before h.file offset piece)
    ∙ (files_append h.before (file_with_bytes offset piece h.file ∷ []) 0
    ∙ (ap (λ z. B ++ z) (one_file_more h.file offset piece at fits told)
    ∙ (sym (append_assoc B (files_lines at (h.file ∷ [])) (Piece offset piece ∷ []))
    ∙ ap (λ ls. ls ++ Piece offset piece ∷ []) (sym (ap (λ (fs : List TracedFile). files_lines 0 fs) h.is ∙ files_append h.before (h.file ∷ []) 0))))))

piece_lines : (t : Trace) (k len least offset : ℕ) (piece : List ℕ) (h : LastTold t.files k len least) → FitsPiece offset piece h.file.bytes
    → list_all (λ b. b == 0) piece ≡ false → opening_lines (tell t (Piece offset piece)) ≡ opening_lines t ++ Piece offset piece ∷ []
piece_lines t k len least offset piece h fits told =
    ap (λ ls. Slots t.slots ∷ (map Disk t.disks ++ (map Root t.roots ++ ls))) (last_more t.files k len least offset piece h fits told)
    ∙ ap (λ ls. Slots t.slots ∷ ls) (regrouped (map Disk t.disks) (map Root t.roots) (files_lines 0 t.files) (Piece offset piece ∷ []))

last_of : (disks : List (ℕ × ℕ)) (before : List TracedFile) (file : TracedFile) → All (IsTracedFile disks) (before ++ file ∷ []) → IsTracedFile disks file
last_of disks [] file all = All-head (IsTracedFile disks) file [] all
last_of disks (f ∷ before) file all = last_of disks before file (All-tail (IsTracedFile disks) f (before ++ file ∷ []) all)

fronts_of : (disks : List (ℕ × ℕ)) (before : List TracedFile) (file : TracedFile) → All (IsTracedFile disks) (before ++ file ∷ []) → All (IsTracedFile disks) before
fronts_of disks [] file all = All-nil (IsTracedFile disks)
fronts_of disks (f ∷ before) file all =
    All-cons (IsTracedFile disks) f before (All-head (IsTracedFile disks) f (before ++ file ∷ []) all)
    (fronts_of disks before file (All-tail (IsTracedFile disks) f (before ++ file ∷ []) all))

put_traced : (disks : List (ℕ × ℕ)) (file : TracedFile) (offset : ℕ) (piece : List ℕ) → FitsPiece offset piece file.bytes → All IsByte piece → IsTracedFile disks file
    → IsTracedFile disks (file_with_bytes offset piece file)
put_traced disks file offset piece fits each h =
    let same = piece_length offset piece file.bytes fits in
    record {
      name = h.name;
      disk = h.disk;
      extents = h.extents;
      len = let small = h.len in omega (arith, small, same);
      bytes = All-append IsByte (take offset file.bytes ++ piece) (drop (offset + length piece) file.bytes)
          (All-append IsByte (take offset file.bytes) piece (All-take IsByte offset file.bytes h.bytes) each)
          (All-drop IsByte (offset + length piece) file.bytes h.bytes);
    }

put_all : (t : Trace) (k len least offset : ℕ) (piece : List ℕ) (h : LastTold t.files k len least) → FitsPiece offset piece h.file.bytes → All IsByte piece
    → All (IsTracedFile t.disks) t.files → All (IsTracedFile t.disks) (put_in_last offset piece t.files)
put_all t k len least offset piece h fits each all =
    let split : All (IsTracedFile t.disks) (h.before ++ h.file ∷ []) = subst (λ (fs : List TracedFile). All (IsTracedFile t.disks) fs) h.is all in
    let own = put_traced t.disks h.file offset piece fits each (last_of t.disks h.before h.file split) in
    let new = All-push (IsTracedFile t.disks) h.before (file_with_bytes offset piece h.file) (fronts_of t.disks h.before h.file split) own in
    let same = ap (λ (fs : List TracedFile). put_in_last offset piece fs) h.is ∙ put_last h.before h.file offset piece in
    subst (λ (fs : List TracedFile). All (IsTracedFile t.disks) fs) (sym same) new

put_count : (offset : ℕ) (piece : List ℕ) (files : List TracedFile) → length (put_in_last offset piece files) ≡ length files
put_count offset piece [] = refl
put_count offset piece (f ∷ []) = refl
put_count offset piece (f ∷ g ∷ files) = ap (λ n. suc n) (put_count offset piece (g ∷ files))

piece_trace : (t : Trace) (k len least offset : ℕ) (piece : List ℕ) (h : LastTold t.files k len least) → FitsPiece offset piece h.file.bytes → All IsByte piece
    → IsTrace t → IsTrace (tell t (Piece offset piece))
piece_trace t k len least offset piece h fits each trace = record {
  slots = trace.slots;
  rising = trace.rising;
  blocks = trace.blocks;
  roots = trace.roots;
  files = put_all t k len least offset piece h fits each trace.files;
  numbered = let n = trace.numbered in let e = put_count offset piece t.files in omega (arith, n, e);
  entries = trace.entries;
  count = trace.count;
}

last_after : (files : List TracedFile) (k len least offset : ℕ) (piece : List ℕ) (h : LastTold files k len least) → FitsPiece offset piece h.file.bytes
    → LastTold (put_in_last offset piece files) k len (offset + 32)
last_after files k len least offset piece h fits = record {
  before = h.before;
  file = file_with_bytes offset piece h.file;
  is = ap (λ (fs : List TracedFile). put_in_last offset piece fs) h.is ∙ put_last h.before h.file offset piece;
  number = h.number;
  size = piece_length offset piece h.file.bytes fits ∙ h.size;
  zeros = piece_zeros offset piece h.file.bytes fits;
  even = let even = fits.even in omega (arith, even);
}

-- what the tests say of a piece
fits_there : (files : List TracedFile) (k len least offset : ℕ) (piece : List ℕ) (h : LastTold files k len least) → nat_le least offset ≡ true
    → may_be_piece len offset (length piece) ≡ true → FitsPiece offset piece h.file.bytes
fits_there files k len least offset piece h from may =
    let first = and_parts ((offset % 32 == 0) && nat_lt offset len) (length piece == min 32 (len - offset)) may in
    let second = and_parts (offset % 32 == 0) (nat_lt offset len) first.0 in
    let le = leb-true least offset from in
    let inside = ltb-true offset len second.1 in
    let size = eqb-true (length piece) (min 32 (len - offset)) first.1 in
    let len_is = h.size in
    let rest = rest_passes (λ b. b == 0) (offset - least) (drop least h.file.bytes) h.zeros in
    let at : least + (offset - least) ≡ offset = omega (arith, le) in
    record {
      even = eqb-true (offset % 32) 0 second.0;
      inside = omega (arith, inside, len_is);
      size = size ∙ ap (λ n. min 32 (n - offset)) (sym len_is);
      zeros = ap (λ xs. list_all (λ b. b == 0) xs) (sym (drop-drop (offset - least) least h.file.bytes ∙ ap (λ n. drop n h.file.bytes) at)) ∙ rest;
    }

piece_told : (t : Trace) (s u : LinePlace) (offset : ℕ) (piece : List ℕ) → IsTold t s → IsPiece piece → place_after s (Piece offset piece) ≡ Some u
    → ToldMore t s (Piece offset piece) u
piece_told t AtOpening u offset piece told h is = stopped u is
piece_told t (AtDisks least numbers) u offset piece told h is = stopped u is
piece_told t (AtRoots least numbers) u offset piece told h is = stopped u is
piece_told t (InFile numbers k len least) u offset piece told h is =
    let step = passed (nat_le least offset && may_be_piece len offset (length piece)) (InFile numbers k len (offset + 32)) u is in
    let tests = and_parts (nat_le least offset) (may_be_piece len offset (length piece)) step.0 in
    let fits = fits_there t.files k len least offset piece told.last tests.0 tests.1 in
    subst (λ (p : LinePlace). ToldMore t (InFile numbers k len least) (Piece offset piece) p) step.1 (record {
      lines = piece_lines t k len least offset piece told.last fits h.told;
      told = record {
        trace = piece_trace t k len least offset piece told.last fits h.each told.trace;
        are = told.are;
        last = last_after t.files k len least offset piece told.last fits;
        history = told.history;
      };
    })
piece_told t (AtEntries m) u offset piece told h is = stopped u is

-- the number of entries
count_more : (t : Trace) (s u : LinePlace) (n : ℕ) → lines_told t s ≡ opening_lines t → IsTrace t → t.history ≡ [] → IsLongNumber n → Some (AtEntries n) ≡ Some u
    → ToldMore t s (Entries n) u
count_more t s u n same trace history h is =
    let here : AtEntries n ≡ u = cc in
    let none : 0 + n ≡ n = omega arith in
    let count : length t.history + n ≡ n = ap (λ (H : List Entry). length H + n) history ∙ none in
    subst (λ (p : LinePlace). ToldMore t s (Entries n) p) here (record {
      lines = ap₂ (λ (m : ℕ) (H : List Entry). opening_lines t ++ Entries m ∷ map Act H) count history ∙ ap (λ ls. ls ++ Entries n ∷ []) (sym same);
      told = record { trace = trace; count = omega (arith, count, h) };
    })

count_told : (t : Trace) (s u : LinePlace) (n : ℕ) → IsTold t s → IsLongNumber n → place_after s (Entries n) ≡ Some u → ToldMore t s (Entries n) u
count_told t AtOpening u n told h is = stopped u is
count_told t (AtDisks least numbers) u n told h is = count_more t (AtDisks least numbers) u n refl told.trace told.history h is
count_told t (AtRoots least numbers) u n told h is = count_more t (AtRoots least numbers) u n refl told.trace told.history h is
count_told t (InFile numbers k len least) u n told h is = count_more t (InFile numbers k len least) u n refl told.trace told.history h is
count_told t (AtEntries m) u n told h is = stopped u is

-- entries
entry_trace : (t : Trace) (n : ℕ) (e : Entry) → EntriesTold t (suc n) → IsTracedEntry e → IsTrace (tell t (Act e))
entry_trace t n e told h =
    let trace = told.trace in
    record {
      slots = trace.slots;
      rising = trace.rising;
      blocks = trace.blocks;
      roots = trace.roots;
      files = trace.files;
      numbered = trace.numbered;
      entries = All-push IsTracedEntry t.history e trace.entries h;
      count = let c = told.count in let p = length_push t.history e in omega (arith, c, p);
    }

pub entry_more : (t : Trace) (n : ℕ) (e : Entry) → EntriesTold t (suc n) → IsTracedEntry e → ToldMore t (AtEntries (suc n)) (Act e) (AtEntries n)
entry_more t n e told h =
    let p = length_push t.history e in
    let c = told.count in
    let count : length (t.history ++ e ∷ []) + n ≡ length t.history + suc n = omega (arith, p) in
    record {
      lines =
          ap₂ (λ (m : ℕ) (ls : List TraceLine). opening_lines t ++ Entries m ∷ ls) count (map_push Act t.history e)
          ∙ sym (append_assoc (opening_lines t) (Entries (length t.history + suc n) ∷ map Act t.history) (Act e ∷ []));
      told = record { trace = entry_trace t n e told h; count = omega (arith, count, c) };
    }

entry_told : (t : Trace) (s u : LinePlace) (e : Entry) → IsTold t s → IsTracedEntry e → place_after s (Act e) ≡ Some u → ToldMore t s (Act e) u
entry_told t AtOpening u e told h is = stopped u is
entry_told t (AtDisks least numbers) u e told h is = stopped u is
entry_told t (AtRoots least numbers) u e told h is = stopped u is
entry_told t (InFile numbers k len least) u e told h is = stopped u is
entry_told t (AtEntries zero) u e told h is = stopped u is
entry_told t (AtEntries (suc n)) u e told h is =
    let here : AtEntries n ≡ u = cc in
    subst (λ (p : LinePlace). ToldMore t (AtEntries (suc n)) (Act e) p) here (entry_more t n e told h)

pub told_more : (t : Trace) (s u : LinePlace) (l : TraceLine) → IsTold t s → IsTraceLine l → place_after s l ≡ Some u → ToldMore t s l u
told_more t s u (Slots n) told h is = slots_told t s u n told h is
told_more t s u (Disk d) told h is = disk_told t s u d told h is
told_more t s u (Root p) told h is = root_told t s u p told h is
told_more t s u (File x) told h is = file_told t s u x told h is
told_more t s u (Piece offset piece) told h is = piece_told t s u offset piece told h.1 is
told_more t s u (Entries n) told h is = count_told t s u n told h is
told_more t s u (Act e) told h is = entry_told t s u e told h is
