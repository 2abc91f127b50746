-- A text is that of one trace alone.
use Rattle.vm_report.proofs.vm_script.Placed.{and_right}
use Rattle.vm_report.proofs.flat_model.Histories.{io_aside as and_left}
use Rattle.std.proofs.Common.{◌≡◌, ℕ, zero, suc, ◌≤◌, ◌+◌, ◌*◌, ◌/◌, ◌==◌, min, Bool, true, false, List, [], ◌∷◌, ◌++◌, length, map, take, drop, refl, sym, subst, ap, ap₂, ◌∙◌, append_assoc, arith, rules, tests}
use Rattle.std.specs.Prelude.{if◌then◌else◌}
use Rattle.std.specs.List.{list_all}
use Rattle.std.proofs.lemmas.Bool.Decides.{nat_tests}
use Rattle.std.proofs.lemmas.List.{length-take, length-drop, take-append-drop}
use Rattle.vm_report.specs.vm_types.declared.call.Entry.{Entry}
use Rattle.trace_text.specs.Traces.{TracedFile, Trace, trace_text}
use Rattle.trace_text.specs.TraceForm.{IsTrace}
use Rattle.trace_text.specs.TraceLines.{fed_lines, TraceLine, FileHead, Disk, Root, Piece, Entries, Act, trace_line_text}
use Rattle.trace_text.specs.LineOrder.{AtOpening, AtEntries, pieces_lines, head_of, files_lines, trace_lines}
use Rattle.trace_text.proofs.FedLines.{fed_trace, trace_told}
use Rattle.trace_text.proofs.LinesTold.{lines_told}
use Rattle.trace_text.proofs.LineRuns.{trace_run}
use Rattle.trace_text.proofs.LineTexts.{same_lines}

-- lines whose first one is no piece, no top process, no disk
abbrev pub NoPiece : List TraceLine → Type 0
NoPiece (Piece offset bytes ∷ ls) = ⊥
NoPiece ls = Unit {0}

abbrev pub NoRoot : List TraceLine → Type 0
NoRoot (Root p ∷ ls) = ⊥
NoRoot ls = Unit {0}

abbrev pub NoDisk : List TraceLine → Type 0
NoDisk (Disk d ∷ ls) = ⊥
NoDisk ls = Unit {0}

-- lines that begin with no piece before an offset
abbrev pub Late : ℕ → List TraceLine → Type 0
Late offset (Piece p bytes ∷ ls) = offset ≤ p
Late offset ls = Unit {0}

late_none : (offset : ℕ) (ls : List TraceLine) → NoPiece ls → Late offset ls
late_none offset (Piece p bytes ∷ ls) apart = absurd apart
late_none offset ls apart = tt

late_more : (offset p : ℕ) (ls : List TraceLine) → offset ≤ p → Late p ls → Late offset ls
late_more offset p (Piece q bytes ∷ ls) le late = omega (arith, le, late)
late_more offset p ls le late = tt

late_first : (t : Bool) (offset : ℕ) (piece : List ℕ) (more ls : List TraceLine) → Late (offset + 32) (more ++ ls)
    → Late offset (((if t then [] else Piece offset piece ∷ []) ++ more) ++ ls)
late_first true offset piece more ls late = late_more offset (offset + 32) (more ++ ls) (omega arith) late
late_first false offset piece more ls late = omega arith

late_pieces : (n offset : ℕ) (bytes : List ℕ) (ls : List TraceLine) → NoPiece ls → Late offset (pieces_lines n offset bytes ++ ls)
late_pieces zero offset bytes ls apart = late_none offset ls apart
late_pieces (suc n) offset bytes ls apart =
    late_first (list_all (λ b. b == 0) (take 32 bytes)) offset (take 32 bytes) (pieces_lines n (offset + 32) (drop 32 bytes)) ls
    (late_pieces n (offset + 32) (drop 32 bytes) ls apart)

-- bytes of a file
zero_is : (b : ℕ) → (b == 0) ≡ true → b ≡ 0
zero_is b is = grind (rules, tests, arith, nat_tests, is)

zeros_same : (xs ys : List ℕ) → length xs ≡ length ys → list_all (λ b. b == 0) xs ≡ true → list_all (λ b. b == 0) ys ≡ true → xs ≡ ys
zeros_same [] [] len p q = refl
zeros_same [] (y ∷ ys) len p q = absurd (omega (arith, len))
zeros_same (x ∷ xs) [] len p q = absurd (omega (arith, len))
zeros_same (x ∷ xs) (y ∷ ys) len p q =
    let zx = list_all (λ b. b == 0) xs in
    let zy = list_all (λ b. b == 0) ys in
    let first : x ≡ y = zero_is x (and_left (x == 0) zx p) ∙ sym (zero_is y (and_left (y == 0) zy q)) in
    ap₂ (λ u v. u ∷ v) first (zeros_same xs ys (omega (arith, len)) (and_right (x == 0) zx p) (and_right (y == 0) zy q))

joined : (a b : List ℕ) → take 32 a ≡ take 32 b → drop 32 a ≡ drop 32 b → a ≡ b
joined a b front behind = sym (take-append-drop 32 a) ∙ (ap₂ (λ x y. x ++ y) front behind ∙ take-append-drop 32 b)

front_length : (a b : List ℕ) → length a ≡ length b → length (take 32 a) ≡ length (take 32 b)
front_length a b len = length-take 32 a ∙ (ap (λ n. min 32 n) len ∙ sym (length-take 32 b))

pieces_step : (s t : Bool) (offset : ℕ) (a b : List ℕ) (P Q X Y : List TraceLine) → list_all (λ b. b == 0) (take 32 a) ≡ s → list_all (λ b. b == 0) (take 32 b) ≡ t
    → length a ≡ length b → Late (offset + 32) (P ++ X) → Late (offset + 32) (Q ++ Y) → (P ++ X ≡ Q ++ Y → (drop 32 a ≡ drop 32 b) × (X ≡ Y))
    → ((if s then [] else Piece offset (take 32 a) ∷ []) ++ P) ++ X ≡ ((if t then [] else Piece offset (take 32 b) ∷ []) ++ Q) ++ Y → (a ≡ b) × (X ≡ Y)
pieces_step true true offset a b P Q X Y p q len late too more same =
    let rest = more same in
    (joined a b (zeros_same (take 32 a) (take 32 b) (front_length a b len) p q) rest.0, rest.1)
pieces_step false false offset a b P Q X Y p q len late too more same =
    let front : take 32 a ≡ take 32 b = cc in
    let rest = more cc in
    (joined a b front rest.0, rest.1)
pieces_step true false offset a b P Q X Y p q len late too more same =
    let early : offset + 32 ≤ offset = subst (Late (offset + 32)) same late in
    absurd (omega (arith, early))
pieces_step false true offset a b P Q X Y p q len late too more same =
    let early : offset + 32 ≤ offset = subst (Late (offset + 32)) (sym same) too in
    absurd (omega (arith, early))

nothing_same : (a b : List ℕ) → length a ≡ length b → length a ≤ 0 → a ≡ b
nothing_same [] [] len few = refl
nothing_same [] (y ∷ b) len few = absurd (omega (arith, len))
nothing_same (x ∷ a) b len few = absurd (omega (arith, few))

pieces_same : (n offset : ℕ) (a b : List ℕ) (X Y : List TraceLine) → NoPiece X → NoPiece Y → length a ≡ length b → length a ≤ 32 * n
    → pieces_lines n offset a ++ X ≡ pieces_lines n offset b ++ Y → (a ≡ b) × (X ≡ Y)
pieces_same zero offset a b X Y apart too len few same = (nothing_same a b len (omega (arith, few)), same)
pieces_same (suc n) offset a b X Y apart too len few same =
    let cut_a = length-drop 32 a in
    let cut_b = length-drop 32 b in
    let even : length (drop 32 a) ≡ length (drop 32 b) = omega (arith, cut_a, cut_b, len) in
    let less : length (drop 32 a) ≤ 32 * n = omega (arith, cut_a, few) in
    let P = pieces_lines n (offset + 32) (drop 32 a) in
    let Q = pieces_lines n (offset + 32) (drop 32 b) in
    pieces_step (list_all (λ b. b == 0) (take 32 a)) (list_all (λ b. b == 0) (take 32 b)) offset a b P Q X Y refl refl len
    (late_pieces n (offset + 32) (drop 32 a) X apart) (late_pieces n (offset + 32) (drop 32 b) Y too)
    (λ (rest : P ++ X ≡ Q ++ Y). pieces_same n (offset + 32) (drop 32 a) (drop 32 b) X Y apart too even less rest) same

-- entries
acts_same : (H G : List Entry) → map Act H ≡ map Act G → H ≡ G
acts_same [] [] same = refl
acts_same [] (e ∷ G) same = absurd cc
acts_same (e ∷ H) [] same = absurd cc
acts_same (d ∷ H) (e ∷ G) same =
    let first : d ≡ e = cc in
    ap₂ (λ x y. x ∷ y) first (acts_same H G cc)

-- files
no_piece : (k : ℕ) (files : List TracedFile) (n : ℕ) (ls : List TraceLine) → NoPiece (files_lines k files ++ Entries n ∷ ls)
no_piece k [] n ls = tt
no_piece k (file ∷ files) n ls = tt

made : List ℕ → Bool → ℕ → List (ℕ × ℕ) → List ℕ → TracedFile
made n w d x b = record { name = n; writable = w; disk = d; extents = x; bytes = b }

file_same : (f g : TracedFile) (k : ℕ) → head_of k f ≡ head_of k g → f.bytes ≡ g.bytes → f ≡ g
unfolding made
file_same f g k heads bytes =
    ap (λ (n : List ℕ). made n f.writable f.disk f.extents f.bytes) (ap (λ (x : FileHead). x.name) heads)
    ∙ (ap (λ (w : Bool). made g.name w f.disk f.extents f.bytes) (ap (λ (x : FileHead). x.writable) heads)
    ∙ (ap (λ (d : ℕ). made g.name g.writable d f.extents f.bytes) (ap (λ (x : FileHead). x.disk) heads)
    ∙ (ap (λ (e : List (ℕ × ℕ)). made g.name g.writable g.disk e f.bytes) (ap (λ (x : FileHead). x.extents) heads)
    ∙ ap (λ (b : List ℕ). made g.name g.writable g.disk g.extents b) bytes)))

files_same : (fs gs : List TracedFile) (k : ℕ) (H G : List Entry)
    → files_lines k fs ++ Entries (length H) ∷ map Act H ≡ files_lines k gs ++ Entries (length G) ∷ map Act G → (fs ≡ gs) × (H ≡ G)
files_same [] [] k H G same = (refl, acts_same H G cc)
files_same [] (g ∷ gs) k H G same = absurd cc
files_same (f ∷ fs) [] k H G same = absurd cc
files_same (f ∷ fs) (g ∷ gs) k H G same =
    let n = (length f.bytes + 31) / 32 in
    let X = files_lines (k + 1) fs ++ Entries (length H) ∷ map Act H in
    let Y = files_lines (k + 1) gs ++ Entries (length G) ∷ map Act G in
    let P = pieces_lines n 0 f.bytes in
    let Q = pieces_lines ((length g.bytes + 31) / 32) 0 g.bytes in
    let heads : head_of k f ≡ head_of k g = cc in
    let behind : (P ++ files_lines (k + 1) fs) ++ Entries (length H) ∷ map Act H ≡ (Q ++ files_lines (k + 1) gs) ++ Entries (length G) ∷ map Act G = cc in
    let len : length f.bytes ≡ length g.bytes = ap (λ (x : FileHead). x.len) heads in
    let count = ap (λ (m : ℕ). pieces_lines ((m + 31) / 32) 0 g.bytes ++ Y) (sym len) in
    let told : P ++ X ≡ pieces_lines n 0 g.bytes ++ Y =
    sym (append_assoc P (files_lines (k + 1) fs) (Entries (length H) ∷ map Act H))
    ∙ (behind ∙ (append_assoc Q (files_lines (k + 1) gs) (Entries (length G) ∷ map Act G) ∙ count)) in
    let pieces = pieces_same n 0 f.bytes g.bytes X Y (no_piece (k + 1) fs (length H) (map Act H)) (no_piece (k + 1) gs (length G) (map Act G)) len (omega arith) told in
    let more = files_same fs gs (k + 1) H G pieces.1 in
    (ap₂ (λ x y. x ∷ y) (file_same f g k heads pieces.0) more.0, more.1)

-- top processes and disks
roots_same : (rs ss : List ℕ) (X Y : List TraceLine) → NoRoot X → NoRoot Y → map Root rs ++ X ≡ map Root ss ++ Y → (rs ≡ ss) × (X ≡ Y)
roots_same [] [] X Y apart too same = (refl, same)
roots_same [] (s ∷ ss) X Y apart too same = absurd (subst NoRoot same apart)
roots_same (r ∷ rs) [] X Y apart too same = absurd (subst NoRoot (sym same) too)
roots_same (r ∷ rs) (s ∷ ss) X Y apart too same =
    let first : r ≡ s = cc in
    let more = roots_same rs ss X Y apart too cc in
    (ap₂ (λ x y. x ∷ y) first more.0, more.1)

disks_same : (ds es : List (ℕ × ℕ)) (X Y : List TraceLine) → NoDisk X → NoDisk Y → map Disk ds ++ X ≡ map Disk es ++ Y → (ds ≡ es) × (X ≡ Y)
disks_same [] [] X Y apart too same = (refl, same)
disks_same [] (e ∷ es) X Y apart too same = absurd (subst NoDisk same apart)
disks_same (d ∷ ds) [] X Y apart too same = absurd (subst NoDisk (sym same) too)
disks_same (d ∷ ds) (e ∷ es) X Y apart too same =
    let first : d ≡ e = cc in
    let more = disks_same ds es X Y apart too cc in
    (ap₂ (λ x y. x ∷ y) first more.0, more.1)

no_root : (files : List TracedFile) (n : ℕ) (ls : List TraceLine) → NoRoot (files_lines 0 files ++ Entries n ∷ ls)
no_root [] n ls = tt
no_root (file ∷ files) n ls = tt

no_disk : (roots : List ℕ) (files : List TracedFile) (n : ℕ) (ls : List TraceLine) → NoDisk (map Root roots ++ (files_lines 0 files ++ Entries n ∷ ls))
no_disk [] [] n ls = tt
no_disk [] (file ∷ files) n ls = tt
no_disk (p ∷ roots) files n ls = tt

whole : ℕ → List (ℕ × ℕ) → List ℕ → List TracedFile → List Entry → Trace
whole s d r f h = record { slots = s; disks = d; roots = r; files = f; history = h }

trace_same : (t u : Trace) → trace_lines t ≡ trace_lines u → t ≡ u
unfolding whole
trace_same t u same =
    let tail_t = files_lines 0 t.files ++ Entries (length t.history) ∷ map Act t.history in
    let tail_u = files_lines 0 u.files ++ Entries (length u.history) ∷ map Act u.history in
    let slots : t.slots ≡ u.slots = cc in
    let behind : map Disk t.disks ++ (map Root t.roots ++ tail_t) ≡ map Disk u.disks ++ (map Root u.roots ++ tail_u) = cc in
    let disks = disks_same t.disks u.disks (map Root t.roots ++ tail_t) (map Root u.roots ++ tail_u)
    (no_disk t.roots t.files (length t.history) (map Act t.history)) (no_disk u.roots u.files (length u.history) (map Act u.history)) behind in
    let roots = roots_same t.roots u.roots tail_t tail_u (no_root t.files (length t.history) (map Act t.history))
    (no_root u.files (length u.history) (map Act u.history)) disks.1 in
    let files = files_same t.files u.files 0 t.history u.history roots.1 in
    ap (λ (s : ℕ). whole s t.disks t.roots t.files t.history) slots
    ∙ (ap (λ (d : List (ℕ × ℕ)). whole u.slots d t.roots t.files t.history) disks.0
    ∙ (ap (λ (r : List ℕ). whole u.slots u.disks r t.files t.history) roots.0
    ∙ (ap (λ (f : List TracedFile). whole u.slots u.disks u.roots f t.history) files.0
    ∙ ap (λ (h : List Entry). whole u.slots u.disks u.roots u.files h) files.1)))

-- the lines of a trace's text
pub lines_of_text : (t : Trace) → IsTrace t → fed_lines (trace_text t) ≡ map trace_line_text (trace_lines t)
lines_of_text t h = ap fed_lines (trace_told t) ∙ fed_trace (trace_lines t) (lines_told t h)

pub one_trace : (t u : Trace) → IsTrace t → IsTrace u → trace_text t ≡ trace_text u → t ≡ u
one_trace t u g h same =
    let texts = sym (lines_of_text t g) ∙ (ap fed_lines same ∙ lines_of_text u h) in
    trace_same t u (same_lines (trace_lines t) (trace_lines u) AtOpening (AtEntries 0) (AtEntries 0) (trace_run t g) (lines_told t g) (trace_run u h) (lines_told u h) texts)
