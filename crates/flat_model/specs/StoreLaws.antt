-- Laws of loads, stores and forks. Public clauses cite this.
use Rattle.std.specs.Prelude.{ℕ, ◌≡◌, ◌%◌, Some, None, IsSome, IsTrue, IsFalse}
use Rattle.std.specs.FinSet as set
use Rattle.vm_types.specs.declared.call.Kind.TheVariants.{Shared, Private}
use Rattle.vm_types.specs.declared.call.Reply.TheVariants.{Word, Done}
use Rattle.vm_types.specs.Prot.{can_read}
use Rattle.flat_model.specs.Words.{page, IsWordSize, FitsWord}
use Rattle.flat_model.specs.Flat.{Cell, Flat, IsFlat, space_of, cell_at, shown}
use Rattle.flat_model.specs.Access.{load, store}
use Rattle.flat_model.specs.Processes.{fork}

-- Both cells stand for the same page of one object, and the second shows it: it has no page of its own.
pub record ShowSamePage (c d : Cell) : Type 0 where
  pub object : d.object ≡ c.object
  pub index : d.index ≡ c.index
  pub alone : d.own ≡ None

-- What is stored is loaded again: by the same process at the same address where the cell may be read, and after a shared store through every cell of every process that shows the same page and may be read. Where a private copy covers the page, a shared store changes no load.
pub record StoreThenLoad : Type 0 where
  pub same_place : (F : Flat) (p a n v : ℕ) (c : Cell) → IsFlat F → IsWordSize n → FitsWord n v → (store F p a n v).reply ≡ Done → cell_at F p (page a) ≡ Some c → IsTrue (can_read c.prot) → (load (store F p a n v).after p a n).reply ≡ Word v
  pub same_page : (F : Flat) (p q a b n v : ℕ) (c d : Cell) → IsFlat F → IsWordSize n → FitsWord n v → (store F p a n v).reply ≡ Done → cell_at F p (page a) ≡ Some c → c.kind ≡ Shared → cell_at F q (page b) ≡ Some d → ShowSamePage c d → b % 4096 ≡ a % 4096 → IsTrue (can_read d.prot) → (load (store F p a n v).after q b n).reply ≡ Word v
  pub private_copy : (F : Flat) (p q a b n m v : ℕ) (c d : Cell) → cell_at F p (page a) ≡ Some c → c.kind ≡ Shared → cell_at F q (page b) ≡ Some d → IsSome d.own → (load (store F p a n v).after q b m).reply ≡ (load F q b m).reply

-- Nothing changed but the cell of p at page q.
pub record ChangesOneCell (F G : Flat) (p q : ℕ) : Type 0 where
  pub slots : G.slots ≡ F.slots
  pub files : G.files ≡ F.files
  pub zeros : G.zeros ≡ F.zeros
  pub born : G.born ≡ F.born
  pub others : (x : ℕ) → (x ≡ p → ⊥) → space_of G x ≡ space_of F x
  pub beside : (r : ℕ) → (r ≡ q → ⊥) → cell_at G p r ≡ cell_at F p r

-- A store to a private cell changes no file, no zero object, no other process's cells and no other cell of its own process; and no load of another process answers otherwise.
pub record PrivateStore : Type 0 where
  pub one_cell : (F : Flat) (p a n v : ℕ) (c : Cell) → cell_at F p (page a) ≡ Some c → c.kind ≡ Private → ChangesOneCell F (store F p a n v).after p (page a)
  pub unseen : (F : Flat) (p q a b n m v : ℕ) (c : Cell) → cell_at F p (page a) ≡ Some c → c.kind ≡ Private → (q ≡ p → ⊥) → (load (store F p a n v).after q b m).reply ≡ (load F q b m).reply

-- After a Fork the child has the parent's cells and shows the parent's pages. What either then stores in a private cell, the other doesn't see.
pub record ForkCopies (F : Flat) (p child : ℕ) (G : Flat) : Type 0 where
  pub cells : space_of G child ≡ space_of F p
  pub parent : space_of G p ≡ space_of F p
  pub others : (x : ℕ) → (x ≡ child → ⊥) → space_of G x ≡ space_of F x
  pub pages : (c : Cell) → shown G c ≡ shown F c
  pub loads : (b m : ℕ) → (load G child b m).reply ≡ (load F p b m).reply
  pub child_unseen : (a b n m v : ℕ) (c : Cell) → cell_at G child (page a) ≡ Some c → c.kind ≡ Private → (load (store G child a n v).after p b m).reply ≡ (load G p b m).reply
  pub parent_unseen : (a b n m v : ℕ) (c : Cell) → cell_at G p (page a) ≡ Some c → c.kind ≡ Private → (load (store G p a n v).after child b m).reply ≡ (load G child b m).reply

-- The law of forks: a Fork of a child that was never alive, by a process that is, copies.
pub record ForkThenStore : Type 0 where
  pub copies : (F : Flat) (p child : ℕ) → IsFlat F → IsSome (space_of F p) → IsFalse (set.contains F.born child) → (fork F p child).reply ≡ Done → ForkCopies F p child (fork F p child).after
