-- Which entries make files shorter. Public clauses cite this.
use Rattle.std.specs.Prelude.{◌≡◌, ◌<◌, ℕ, Some, slice_get}
use Rattle.flat_model.specs.vm_types.declared.call.Call.TheVariants.{Truncate}
use Rattle.flat_model.specs.vm_types.declared.call.Entry.{Entry}
use Rattle.flat_model.specs.vm_types.declared.call.Reply.TheVariants.{Done}
use Rattle.flat_model.specs.Flat.{File, Flat}
use Rattle.flat_model.specs.Step.{IsStep}
use Rattle.mark_laws.specs.Cuts.{CutsFile}

-- The entry is a Truncate that was done, of a file that had more bytes.
pub record IsShortening (F : Flat) (e : Entry) (f : ℕ) (old : File) (len : ℕ) : Type 0 where
  pub call : e.call ≡ Truncate f len
  pub done : e.reply ≡ Done
  pub was : slice_get F.files f ≡ Some old
  pub less : len < old.len

-- A Truncate that shortens makes its file so long; and no other step makes a file shorter.
pub record CutsLaw : Type 0 where
  pub cuts : (F : Flat) (e : Entry) (f : ℕ) (old : File) (len : ℕ) → IsStep F e → IsShortening F e f old len
      → (c : CutsFile F e) × (c.f ≡ f) × (c.old ≡ old) × (c.new.len ≡ len)
  pub only : (F : Flat) (e : Entry) → IsStep F e → (c : CutsFile F e) → IsShortening F e c.f c.old c.new.len
