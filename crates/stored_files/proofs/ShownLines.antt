-- A file's lines, page by page.
use Rattle.std.proofs.Common.{◌≡◌, ℕ, ◌+◌, ◌-◌, ◌*◌, ◌<◌, ◌≤◌, List, [], ◌++◌, length, take, drop, min, refl, sym, ap, ◌∙◌, arith, inl, inr}
use Rattle.std.proofs.lemmas.Bool.{cases_lt}
use Rattle.std.proofs.lemmas.List.{take_all, take-append-drop, length-take, append-nil}
use Rattle.vm_report.specs.vm_types.Pages.{pages_in}
use Rattle.vm_report.specs.flat_model.Words.{with_bytes}
use Rattle.vm_report.specs.Report.{file_lines}
use Rattle.vm_report.proofs.FileLines.{file_lines_append}
use Rattle.stored_files.specs.Showing.{lines_before}
use Rattle.stored_files.proofs.FilePieces.{before_page, through_page}

-- the lines of a front that ends with a page, and those behind it
split_at : (front back : List ℕ) (page : ℕ) → length front ≡ 4096 * page → file_lines 0 (front ++ back) ≡ file_lines 0 front ++ file_lines (4096 * page) back
split_at front back page is =
    let at : 0 + length front ≡ 4096 * page = omega (arith, is) in
    file_lines_append 0 front back (omega (arith, is)) ∙ ap (λ n. file_lines 0 front ++ file_lines n back) at

-- the lines before a page are a front of all lines
pub lines_from : (bytes : List ℕ) (page : ℕ) → (rest : List ℕ) × (file_lines 0 bytes ≡ lines_before bytes page ++ rest)
lines_from bytes page = elim (cases_lt (length bytes) (4096 * page)) [
  | inl short ↦ ([], ap (file_lines 0) (sym (take_all (4096 * page) bytes (omega (arith, short)))) ∙ sym (append-nil (lines_before bytes page)))
  | inr long ↦ (
    file_lines (4096 * page) (drop (4096 * page) bytes),
    ap (file_lines 0) (sym (take-append-drop (4096 * page) bytes)) ∙ split_at (take (4096 * page) bytes) (drop (4096 * page) bytes) page (omega (arith, long, length-take (4096 * page) bytes)),
  )
]

-- after the last page these are all lines
pub lines_whole : (bytes : List ℕ) (page : ℕ) → pages_in (length bytes) ≤ page → lines_before bytes page ≡ file_lines 0 bytes
lines_whole bytes page past = ap (file_lines 0) (take_all (4096 * page) bytes (omega (arith, past)))

-- no line before the first page
pub lines_none : (bytes : List ℕ) → lines_before bytes 0 ≡ []
lines_none bytes = refl

module _ (bytes piece : List ℕ) (page : ℕ) (low : page < pages_in (length bytes)) (count : length piece ≡ min 4096 (length bytes - 4096 * page)) where
  -- a page that is put there changes no line before it
  pub lines_kept : lines_before (with_bytes bytes (4096 * page) piece) page ≡ lines_before bytes page
  lines_kept = ap (file_lines 0) (before_page bytes piece page low count)

  -- and its lines follow
  pub lines_more : lines_before (with_bytes bytes (4096 * page) piece) (page + 1) ≡ lines_before bytes page ++ file_lines (4096 * page) piece
  lines_more = ap (file_lines 0) (through_page bytes piece page low count) ∙ split_at (take (4096 * page) bytes) piece page (omega (arith, low, length-take (4096 * page) bytes))
