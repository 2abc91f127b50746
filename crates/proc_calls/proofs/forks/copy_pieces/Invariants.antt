use Rattle.std.proofs.Common.{◌≡◌, ◌≤◌, ◌+◌, ◌-◌, ℕ, None, length}
use Rattle.std.specs.Prelude.{slice_index, sum_by}
use Rattle.std.specs.FinMap as finite
use Rattle.seg_vn.specs.addr_space.Space.{part_at}
use Rattle.seg_vn.specs.anon_map.Maps.{IsMapThere, free_numbers, places_of}
use Rattle.seg_vn.specs.vm_world.CountsFit.{slots_for_part}
use Rattle.seg_vn.specs.vm_world.ForkSteps.{with_cells_copied}
use Rattle.seg_vn.specs.vm_world.Segments.{Spaces}
use Rattle.seg_vn.specs.vm_world.Serving.{ModifiesNone}
use Rattle.seg_vn.specs.vm_world.Words.{memory}
use Rattle.seg_vn.specs.vm_world.World.{world_seen}
use Rattle.seg_vn.specs.Clears.{ChangesSpace}
use Rattle.proc_calls.specs.Pieces.{AreFewHolders, AreRoomsFor, IsForking, parts_from, rooms_of}
use Rattle.proc_calls.proofs.PiecesFrom.{Walked}
use Rattle.proc_calls.proofs.PiecesCopied.{owned_in}
use Rattle.proc_calls.proofs.forks.copy_pieces.Given as goal

abbrev pub decreases-loop-first : goal.decreases-loop-first
decreases-loop-first g l = 0x80000 - l.from

abbrev pub invariant-loop-first : goal.invariant-loop-first
invariant-loop-first g l = record {
  walked : Walked l.space.parts l.from;
  rooms : AreRoomsFor (rooms_of l.rooms.items) (parts_from l.from l.space.parts);
  numbers : length (parts_from l.from l.space.parts) ≤ free_numbers l.world.maps;
  spare : length (parts_from l.from l.space.parts) ≤ l.kids.spare;
  few : AreFewHolders l.world.maps (length (parts_from l.from l.space.parts)) (parts_from l.from l.space.parts);
  room : l.world.anon.reserved + sum_by slots_for_part (parts_from l.from l.space.parts) ≤ length l.world.anon.counts;
  free : (q : ℕ) → l.from ≤ q → part_at l.kids.parts q ≡ None;
  places : (n : ℕ) → IsMapThere l.fn.world.maps n → IsMapThere l.world.maps n × (places_of l.world.maps n ≡ places_of l.fn.world.maps n);
  slots : length l.world.anon.counts ≡ length l.fn.world.anon.counts;
  counts : (slot : ℕ) → slice_index l.world.anon.counts slot + owned_in l.fn.world.maps (parts_from l.from l.space.parts) slot ≡ slice_index l.fn.world.anon.counts slot + owned_in l.fn.world.maps l.space.parts slot;
  copied : (spaces : Spaces) (child : ℕ) → IsForking (world_seen l.fn.world) l.fn.world.zeros spaces l.process child l.space.parts l.fn.kids.parts
      → ChangesSpace child (memory l.fn.world (finite.insert spaces child l.fn.kids.parts)) (memory l.world (finite.insert spaces child l.kids.parts)) l.fn.world.zeros (λ F. with_cells_copied F l.process child 0 l.from);
  modified : ModifiesNone (world_seen l.fn.world) (world_seen l.world);
  rest : l.world ≡ record l.fn.world { anon = l.world.anon; maps = l.world.maps; hat = l.world.hat };
}
