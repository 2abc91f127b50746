-- Pages, bytes and words. Public clauses cite this.
use Rattle.std.specs.Prelude.{ℕ, ◌≡◌, ◌+◌, ◌%◌, List, ◌++◌, length, take, drop, replicate, All}
pub use Rattle.vm_types.specs.Pages.{page, pages_in, page_size}
pub use Rattle.vm_types.specs.Words.{word_value, word_bytes, IsByte, IsWordSize, FitsWord}

-- The bytes of a page, as a list.
abbrev pub Page : Type 0
Page = List ℕ

-- The list is a page: it has 4096 elements, and each is a byte.
pub record IsPage (p : Page) : Type 0 where
  pub whole : length p ≡ page_size
  pub bytes : All IsByte p

-- The page of zeros.
unfoldable pub zero_page : Page
zero_page = replicate page_size 0

-- The word of n bytes at an address, in the page that the address lies in.
abbrev pub word_at : Page → ℕ → ℕ → ℕ
word_at bytes a n = word_value (take n (drop (a % page_size) bytes))

-- The list with these bytes from a place on, and else as it was.
abbrev pub with_bytes : List ℕ → ℕ → List ℕ → List ℕ
with_bytes old at bytes = take at old ++ bytes ++ drop (at + length bytes) old

-- The page with a word of n bytes put at an address, and else as it was.
abbrev pub word_put : Page → ℕ → ℕ → ℕ → Page
word_put bytes a n v = with_bytes bytes (a % page_size) (word_bytes n v)
