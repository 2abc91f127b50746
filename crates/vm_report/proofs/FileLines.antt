-- The lines of a file's bytes, piece by piece, and the last of a call's entries.
use Rattle.std.proofs.Common.{◌≡◌, ℕ, zero, suc, ◌≤◌, ◌<◌, ◌+◌, ◌*◌, ◌/◌, ◌%◌, List, [], ◌∷◌, ◌++◌, length, take, drop, min, refl, sym, ap, ap₂, ◌∙◌, append_assoc, append-nil, get_or, arith, ⊎_elim, ◌==◌, true}
use Rattle.std.proofs.lemmas.Bool.{and_parts, cases_lt, cond-true}
use Rattle.std.proofs.lemmas.List.Folds.{list_all-append}
use Rattle.std.proofs.lemmas.List.{take-append-drop, take_all, drop_all, take-append-le, drop-append-le, length-append, length-drop, length-take}
use Rattle.std.specs.List.{list_all}
use Rattle.vm_script.specs.Texts.{hex_text}
use Rattle.vm_script.specs.vm_types.Words.{word_bytes}
use Rattle.vm_script.specs.vm_types.declared.call.Entry.{Entry}
use Rattle.vm_report.specs.Report.{file_line, file_lines, pieces_text}
use Rattle.vm_report.specs.Results.{failure_of, failure_text}

short : (at : ℕ) (bytes : List ℕ) (k : ℕ) → k ≡ length bytes → 0 < length bytes → length bytes < 32
    → file_lines at bytes ≡ file_line at (take k bytes) ++ file_lines (at + k) (drop k bytes)
short at bytes k is some few =
    let one : (length bytes + 31) / 32 ≡ 1 = omega arith in
    let whole : take 32 bytes ≡ bytes = take_all 32 bytes (omega arith) in
    let front : take k bytes ≡ bytes = take_all k bytes (omega arith) in
    let back : drop k bytes ≡ [] = drop_all k bytes (omega arith) in
    ap (λ n. pieces_text n at bytes) one
    ∙ (ap (λ xs. file_line at xs ++ []) (whole ∙ sym front)
    ∙ ap (λ xs. file_line at (take k bytes) ++ file_lines (at + k) xs) (sym back))

long : (at : ℕ) (bytes : List ℕ) (k : ℕ) → k ≡ 32 → 32 ≤ length bytes
    → file_lines at bytes ≡ file_line at (take k bytes) ++ file_lines (at + k) (drop k bytes)
long at bytes k is many =
    let rest = length-drop 32 bytes in
    let more : (length bytes + 31) / 32 ≡ suc ((length (drop 32 bytes) + 31) / 32) = omega arith in
    ap (λ n. pieces_text n at bytes) more ∙ sym (ap (λ n. file_line at (take n bytes) ++ file_lines (at + n) (drop n bytes)) is)

pub file_lines_step : (at : ℕ) (bytes : List ℕ) (k : ℕ) → k ≡ min (length bytes) 32 → 0 < length bytes
    → file_lines at bytes ≡ file_line at (take k bytes) ++ file_lines (at + k) (drop k bytes)
file_lines_step at bytes k is some = ⊎_elim (λ few. short at bytes k (omega arith) some few) (λ many. long at bytes k (omega arith) many) (cases_lt (length bytes) 32)

-- zeros have no line
no_pieces : (n at : ℕ) (bytes : List ℕ) → list_all (λ b. b == 0) bytes ≡ true → pieces_text n at bytes ≡ []
no_pieces zero at bytes zeros = refl
no_pieces (suc n) at bytes zeros =
    let p = λ (b : ℕ). b == 0 in
    let cut : list_all p (take 32 bytes ++ drop 32 bytes) ≡ true = ap (list_all p) (take-append-drop 32 bytes) ∙ zeros in
    let parts = and_parts (list_all p (take 32 bytes)) (list_all p (drop 32 bytes)) (sym (list_all-append p (take 32 bytes) (drop 32 bytes)) ∙ cut) in
    ap₂ (λ front back. front ++ back) (cond-true (list_all p (take 32 bytes)) [] (hex_text (word_bytes 4 at) ++ 32 ∷ hex_text (take 32 bytes) ++ 10 ∷ []) parts.0) (no_pieces n (at + 32) (drop 32 bytes) parts.1)

pub no_lines : (at : ℕ) (bytes : List ℕ) → list_all (λ b. b == 0) bytes ≡ true → file_lines at bytes ≡ []
no_lines at bytes zeros = no_pieces ((length bytes + 31) / 32) at bytes zeros

by_pieces : (k offset : ℕ) (front back : List ℕ) → length front ≡ 32 * k
    → file_lines offset (front ++ back) ≡ file_lines offset front ++ file_lines (offset + length front) back
by_pieces zero offset [] back is = let same : offset ≡ offset + 0 = omega arith in ap (λ n. file_lines n back) same
by_pieces zero offset (b ∷ front) back is = absurd (omega arith)
by_pieces (suc k) offset front back is =
    let all = length-append front back in
    let rest = length-drop 32 front in
    let whole = file_lines_step offset (front ++ back) 32 (omega arith) (omega arith) in
    let first = file_lines_step offset front 32 (omega arith) (omega arith) in
    let more = by_pieces k (offset + 32) (drop 32 front) back (omega arith) in
    let at : offset + 32 + length (drop 32 front) ≡ offset + length front = omega arith in
    whole
    ∙ (ap (λ xs. file_line offset xs ++ file_lines (offset + 32) (drop 32 (front ++ back))) (take-append-le 32 front back (omega arith))
    ∙ (ap (λ xs. file_line offset (take 32 front) ++ file_lines (offset + 32) xs) (drop-append-le 32 front back (omega arith))
    ∙ (ap (λ t. file_line offset (take 32 front) ++ t) more
    ∙ (sym (append_assoc (file_line offset (take 32 front)) (file_lines (offset + 32) (drop 32 front)) (file_lines (offset + 32 + length (drop 32 front)) back))
    ∙ (ap (λ t. t ++ file_lines (offset + 32 + length (drop 32 front)) back) (sym first)
    ∙ ap (λ n. file_lines offset front ++ file_lines n back) at)))))

-- the lines of two pieces, of which the first ends at a multiple of 32
pub file_lines_append : (offset : ℕ) (front back : List ℕ) → length front % 32 ≡ 0
    → file_lines offset (front ++ back) ≡ file_lines offset front ++ file_lines (offset + length front) back
file_lines_append offset front back is = by_pieces (length front / 32) offset front back (omega arith)

-- the lines of 512 bytes in front, or of all
pub file_lines_piece : (at : ℕ) (bytes : List ℕ) (k : ℕ) → k ≡ min (length bytes) 512
    → file_lines at bytes ≡ file_lines at (take k bytes) ++ file_lines (at + k) (drop k bytes)
file_lines_piece at bytes k is =
    let front = length-take k bytes in
    ⊎_elim
    (λ few.
    sym (append-nil (file_lines at bytes))
    ∙ ap₂ (λ own behind. file_lines at own ++ file_lines (at + k) behind) (sym (take_all k bytes (omega arith))) (sym (drop_all k bytes (omega arith))))
    (λ many.
    let ends : at + length (take k bytes) ≡ at + k = omega arith in
    ap (λ all. file_lines at all) (sym (take-append-drop k bytes))
    ∙ (file_lines_append at (take k bytes) (drop k bytes) (omega arith)
    ∙ ap (λ n. file_lines at (take k bytes) ++ file_lines n (drop k bytes)) ends))
    (cases_lt (length bytes) 512)

-- one line more, or one piece
pub file_lines_more : (text : ℕ → List ℕ → List ℕ) (at : ℕ) (bytes own behind out next all : List ℕ) (k : ℕ)
    → file_lines at bytes ≡ text at (take k bytes) ++ file_lines (at + k) (drop k bytes) → own ≡ take k bytes → behind ≡ drop k bytes
    → next ≡ out ++ text at own → out ++ file_lines at bytes ≡ all → next ++ file_lines (at + k) behind ≡ all
file_lines_more text at bytes own behind out next all k step own_is behind_is more before =
    ap (λ t. t ++ file_lines (at + k) behind) (more ∙ ap (λ xs. out ++ text at xs) own_is)
    ∙ (ap (λ xs. (out ++ text at (take k bytes)) ++ file_lines (at + k) xs) behind_is
    ∙ (append_assoc out (text at (take k bytes)) (file_lines (at + k) (drop k bytes))
    ∙ (ap (λ t. out ++ t) (sym step) ∙ before)))

-- the failure of a call's entries is that of the last one
pub failure_at : (es : List Entry) (i : ℕ) (d : Entry) → i + 1 ≡ length es → failure_text es ≡ failure_of (get_or es i d)
failure_at [] i d e = absurd (omega arith)
failure_at (x ∷ []) zero d e = refl
failure_at (x ∷ []) (suc i) d e = absurd (omega arith)
failure_at (x ∷ y ∷ es) zero d e = absurd (omega arith)
failure_at (x ∷ y ∷ es) (suc i) d e = failure_at (y ∷ es) i d (omega arith)

pub failure_last : (es : List Entry) (e : Entry) (i : ℕ) → i + 1 ≡ length es → e ≡ get_or es i e → failure_text es ≡ failure_of e
failure_last es e i last is = failure_at es i e last ∙ ap failure_of (sym is)
