-- A VICTIM BESIDE A FRAME, which is kept while the victim is looked for.
use Rattle.std.proofs.Common.{◌≡◌, ◌≢◌, ℕ, ◌+◌, ◌-◌, ◌<◌, List, length, Option, Some, None, sym, ap, ◌∙◌, subst, arith, get_or-set_same}
use Rattle.std.specs.Prelude.{IsSome}
use Rattle.std.proofs.lemmas.List.{get_or-set_other, length-set}
use Rattle.page_store.specs.core_arena.Bytes.{bytes_at}
use Rattle.page_store.specs.page_lock.Rows.{row_at, clear_row}
use Rattle.page_store.specs.page_lock.declared.Row.{Row}
use Rattle.page_store.specs.Seen.{StoreSeen, IsListedFrame}
use Rattle.page_store.specs.Steps.{with_row}
use Rattle.page_store.specs.Waits.{ChoosesFrame}
use Rattle.seg_ops.specs.Rooms.{ChoosesBeside}
use Rattle.seg_ops.proofs.SlotPlaces.{set_twice, set_same}

abbrev pub kept_row : Row → Row
kept_row r = record r { keeps = r.keeps + 1 }

-- each frame has a row, also before
pub rows-there : (s mid : StoreSeen) (beside : ℕ) (row : Row) → beside < length s.frames → mid ≡ with_row s beside row → length mid.frames ≡ length s.frames → length mid.rows ≡ length mid.frames → beside < length s.rows
rows-there s mid beside row lt kept frames rows = let size = ap (λ (t : StoreSeen). length t.rows) kept ∙ length-set s.rows beside row in omega (arith, lt, frames, rows, size)

module _ (s mid : StoreSeen) (beside : ℕ) (lt : beside < length s.rows) (kept : mid ≡ with_row s beside (kept_row (row_at s.rows beside))) where
  pub row-own : row_at mid.rows beside ≡ kept_row (row_at s.rows beside)
  row-own = ap (λ (t : StoreSeen). row_at t.rows beside) kept ∙ get_or-set_same s.rows beside (kept_row (row_at s.rows beside)) clear_row lt

  row-else : (k : ℕ) → k ≢ beside → row_at mid.rows k ≡ row_at s.rows k
  row-else k ne = ap (λ (t : StoreSeen). row_at t.rows k) kept ∙ get_or-set_other s.rows beside k (kept_row (row_at s.rows beside)) clear_row ne

  -- THE FRAME THAT IS CHOSEN meanwhile.
  pub chosen : (o : Option ℕ) → ChoosesFrame mid o → ChoosesBeside s (Some beside) o
  chosen None none = λ k apart v. let ne : k ≢ beside = λ e. apart (ap (λ (j : ℕ). Some j) (sym e)) in none k (record {
    here = subst (λ (t : StoreSeen). IsSome (bytes_at t.frames k)) (sym kept) v.here;
    unlisted = λ l. v.unlisted (subst (λ (t : StoreSeen). IsListedFrame t k) kept l);
    unlocked = ap (λ (r : Row). r.holder) (row-else k ne) ∙ v.unlocked;
    unkept = ap (λ (r : Row). r.keeps) (row-else k ne) ∙ v.unkept;
  })
  chosen (Some k) v =
      let ne : k ≢ beside = λ e. (let none : (row_at mid.rows beside).keeps ≡ 0 = ap (λ (j : ℕ). (row_at mid.rows j).keeps) (sym e) ∙ v.unkept in let some = ap (λ (r : Row). r.keeps) row-own in omega (arith, none, some)) in (
        (λ e. ne (let same : beside ≡ k = (let j : Some beside ≡ Some k = e in cc) in sym same)),
        record {
          here = subst (λ (t : StoreSeen). IsSome (bytes_at t.frames k)) kept v.here;
          unlisted = λ l. v.unlisted (subst (λ (t : StoreSeen). IsListedFrame t k) (sym kept) l);
          unlocked = ap (λ (r : Row). r.holder) (sym (row-else k ne)) ∙ v.unlocked;
          unkept = ap (λ (r : Row). r.keeps) (sym (row-else k ne)) ∙ v.unkept;
        },
      )

  -- THE STORE IS AS IT WAS once the frame isn't kept any more.
  pub kept-back : (new : StoreSeen) → new ≡ with_row mid beside (record (row_at mid.rows beside) { keeps = (row_at mid.rows beside).keeps - 1 }) → new ≡ s
  kept-back new is =
      let row : Row = row_at s.rows beside in
      let less : row.keeps + 1 - 1 ≡ row.keeps = omega arith in
      is
      ∙ ap (λ (r : Row). with_row mid beside (record r { keeps = r.keeps - 1 })) row-own
      ∙ ap (λ (k : ℕ). with_row mid beside (record row { keeps = k })) less
      ∙ ap (λ (t : StoreSeen). with_row t beside row) kept
      ∙ ap (λ (rows : List Row). record s { rows = rows }) (set_twice s.rows beside (kept_row row) row ∙ set_same s.rows beside clear_row)

-- a frame that is chosen, where none is given
pub chosen-any : (s : StoreSeen) (o : Option ℕ) → ChoosesFrame s o → ChoosesBeside s None o
chosen-any s None none = λ k apart v. none k v
chosen-any s (Some k) v = ((λ e. let z : None ≡ Some k = e in cc), v)
