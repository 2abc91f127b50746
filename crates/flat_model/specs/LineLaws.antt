-- Laws of bytes that lie in one page of a list of pages. Public clauses cite this.
use Rattle.std.specs.Prelude.{ℕ, ◌≡◌, ◌≤◌, ◌+◌, ◌-◌, ◌*◌, ◌%◌, ◌++◌, min, List, length, take, drop, replicate, Some, option_map, slice_get, All}
use Rattle.std.specs.List.{concat}
use Rattle.vm_types.specs.Pages.{line_rest}
use Rattle.flat_model.specs.Words.{Page, page, page_size, with_bytes}
use Rattle.flat_model.specs.Flat.{File}
use Rattle.flat_model.specs.Access.{with_change_at}
use Rattle.flat_model.specs.Parts.{pages_with_bytes, file_bytes, without_tail}

-- Each page has 4096 bytes.
abbrev pub AreWhole : List Page → Type 0
AreWhole pages = All (λ bytes. length bytes ≡ page_size) pages

-- The page with its first n bytes, and zeros behind them.
abbrev pub page_front : ℕ → Page → Page
page_front n bytes = take n bytes ++ replicate (page_size - n) 0

-- A line lies in one page. Bytes that are put into one page of a list change that page alone, and bytes that lie in one page are that page's; so are a file's, as far as its length goes. A tail that becomes zeros leaves of each page what is before the file's end.
pub record LinesInPages : Type 0 where
  pub line : (offset n : ℕ) → n ≤ line_rest offset → offset % page_size + n ≤ page_size
  pub put : (pages : List Page) (at : ℕ) (bytes : List ℕ) → AreWhole pages → at % page_size + length bytes ≤ page_size → pages_with_bytes pages at bytes ≡ with_change_at (λ old. with_bytes old (at % page_size) bytes) pages (page at)
  pub got : (pages : List Page) (at n : ℕ) (bytes : Page) → AreWhole pages → slice_get pages (page at) ≡ Some bytes → at % page_size + n ≤ page_size → take n (drop at (concat pages)) ≡ take n (drop (at % page_size) bytes)
  pub of_file : (file : File) (at n : ℕ) (bytes : Page) → AreWhole file.pages → slice_get file.pages (page at) ≡ Some bytes → at % page_size + n ≤ page_size → take n (drop at (file_bytes file)) ≡ take (min n (file.len - at)) (drop (at % page_size) bytes)
  pub no_tail : (file : File) (i : ℕ) → AreWhole file.pages → slice_get (without_tail file).pages i ≡ option_map (page_front (file.len - page_size * i)) (slice_get file.pages i)
