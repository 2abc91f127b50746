-- What room for a file tells.
use Rattle.std.proofs.lemmas.Option.{slice_get_within}
use Rattle.std.proofs.Common.{◌≡◌, ℕ, ◌<◌, length, Bool, true, false, List, Option, Some, None, Result, Ok, refl}
use Rattle.std.specs.Prelude.{slice_get, ok_or}
use Rattle.vm_types.specs.declared.call.Errno.{Errno}
use Rattle.vm_types.specs.declared.call.Errno.TheVariants as errno
use Rattle.vnode_files.specs.declared.extent.Extent.{Extent}
use Rattle.flat_model.specs.Words.{pages_in}
use Rattle.flat_model.specs.Flat.{File, Flat}
use Rattle.flat_model.specs.Refusals.{◌>>=◌, ◌>>◌, check}
use Rattle.flat_model.specs.Parts.{writable_file, growth_in, room_for, with_extents_of}

-- there is such a file, it may be written, and it grows so far
pub record HasRoom (F : Flat) (f end : ℕ) (new : File) : Type 0 where
  pub old : File
  pub extents : List Extent
  pub found : slice_get F.files f ≡ Some old
  pub writable : old.writable ≡ true
  pub grown : growth_in F f old (pages_in end) ≡ Some extents
  pub file : new ≡ with_extents_of extents old

pub has_room : (F : Flat) (f end : ℕ) (new : File) → room_for F f end ≡ Ok new → HasRoom F f end new
unfolding room_for writable_file
has_room F f end new is = by_file (slice_get F.files f) refl is
  where
    grows : (old : File) (o : Option (List Extent)) → slice_get F.files f ≡ Some old → old.writable ≡ true → growth_in F f old (pages_in end) ≡ o → (ok_or o errno.TooBig >>= λ extents. Ok (with_extents_of extents old)) ≡ Ok new → HasRoom F f end new
    grows old None found writable o_is same = absurd cc
    grows old (Some extents) found writable o_is same = record { old = old; extents = extents; found = found; writable = writable; grown = o_is; file = let left : Result File Errno = Ok (with_extents_of extents old) in let both : left ≡ Ok new = same in cc }

    writes : (old : File) (b : Bool) → slice_get F.files f ≡ Some old → old.writable ≡ b → ((check b errno.ReadOnly >> Ok old) >>= λ file. (ok_or (growth_in F f file (pages_in end)) errno.TooBig >>= λ extents. Ok (with_extents_of extents file))) ≡ Ok new → HasRoom F f end new
    writes old false found b_is same = absurd cc
    writes old true found b_is same = grows old (growth_in F f old (pages_in end)) found b_is refl same

    by_file : (o : Option File) → slice_get F.files f ≡ o → ((ok_or o errno.NoObject >>= λ file. (check file.writable errno.ReadOnly >> Ok file)) >>= λ file. (ok_or (growth_in F f file (pages_in end)) errno.TooBig >>= λ extents. Ok (with_extents_of extents file))) ≡ Ok new → HasRoom F f end new
    by_file None found same = absurd cc
    by_file (Some old) found same = writes old old.writable found refl same

-- a file that may be written is one of the files
pub writable-within : (F : Flat) (f : ℕ) (file : File) → writable_file F f ≡ Ok file → f < length F.files
unfolding writable_file
writable-within F f file is = by_file (slice_get F.files f) refl is
  where
    by_file : (o : Option File) → slice_get F.files f ≡ o → (ok_or o errno.NoObject >>= λ x. (check x.writable errno.ReadOnly >> Ok x)) ≡ Ok file → f < length F.files
    by_file None found same = absurd cc
    by_file (Some old) found same = slice_get_within F.files f old found
