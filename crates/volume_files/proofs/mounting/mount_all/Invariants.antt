use Rattle.std.proofs.Common.{◌≡◌, ◌≤◌, ◌<◌, ◌+◌, ℕ}
use Rattle.std.specs.Prelude.{vec_len, vec_capacity}
use Rattle.block_device.specs.declared.rack.Spec.{Spec}
use Rattle.volume_files.specs.Attached.{AreMounted, bare_disks}
use Rattle.volume_files.specs.Handed.{members_of}
use Rattle.volume_files.specs.Mounting.{Holds, HoldSame, IsOtherDisk, specs_below, volumes_seen}
use Rattle.volume_files.specs.Unfailed.{NoneCounted}
use Rattle.volume_disks.specs.Singles.{single_seen}
use Rattle.volume_files.proofs.mounting.mount_all.Given as goal

abbrev pub invariant-loop-number : goal.invariant-loop-number
invariant-loop-number g l = record {
  mounted : (holds : Holds) → HoldSame (g.R.Rack.seen l.fn.rack).holds holds → AreMounted holds (specs_below l.setup l.number) (volumes_seen (single_seen g.R.D.Disk.seen) l.disks.items) l.tables.items;
  others : (s : Spec) → ((m : ℕ) → m < l.number → IsOtherDisk l.setup m s) → (g.R.Rack.seen l.rack).holds s ≡ (g.R.Rack.seen l.fn.rack).holds s;
  later : (g.R.Rack.seen l.fn.rack).faults ≤ (g.R.Rack.seen l.rack).faults;
  steady : (g.R.Rack.seen l.rack).faults ≡ (g.R.Rack.seen l.fn.rack).faults;
  uncounted : NoneCounted (volumes_seen (single_seen g.R.D.Disk.seen) l.disks.items);
  count : (g.R.Rack.seen l.rack).attached ≡ (g.R.Rack.seen l.fn.rack).attached + members_of (bare_disks (volumes_seen (single_seen g.R.D.Disk.seen) l.disks.items));
  few_disks : vec_len l.disks ≤ l.number;
  few_tables : vec_len l.tables ≤ l.number;
  disks_room : 9 ≤ vec_capacity l.disks;
  tables_room : 8 ≤ vec_capacity l.tables;
}
