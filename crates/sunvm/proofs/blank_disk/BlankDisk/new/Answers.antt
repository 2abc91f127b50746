use Rattle.std.proofs.Common.{◌∙◌, ◌≡◌, List, Option, [], ℕ, length, ap, sym, subst, arith}
use Rattle.disk_file.specs.block_device.declared.block.Block.{Block}
use Rattle.sunvm.specs.BlankPlaces.{AreBlockPlaces}
use Rattle.sunvm.proofs.BlankDiskLemmas.{placed-none}
use Rattle.sunvm.proofs.blank_disk.BlankDisk.new.Goals as goal

pub invariant_of-result : goal.invariant_of-result
invariant_of-result c =
    let places = c.in_ok-with_capacity.ensures in
    let written = c.in_ok-with_capacity-2.ensures in
    record {
      small = let fits = c.ranges.blocks.fits in omega (arith, fits);
      few = let none = ap (λ (l : List (Option ℕ)). length l) places.items in omega (arith, none);
      placed = subst (λ (l : List (Option ℕ)). AreBlockPlaces l (length c.in_ok-with_capacity-2.field-0.items)) (sym places.items) (subst (λ (l : List Block). AreBlockPlaces [] (length l)) (sym written.items) placed-none);
      room_of_places = places.capacity;
      room_of_blocks = written.capacity;
    }
