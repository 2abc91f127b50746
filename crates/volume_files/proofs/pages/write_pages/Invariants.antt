use Rattle.std.specs.Prelude.{◌≡◌, ◌+◌, drop}
use Rattle.block_device.specs.DiskSeen.{failures_told}
use Rattle.volume_files.specs.Placing.{RemainsThere, with_block_pages, filled_pages}
use Rattle.volume_files.proofs.pages.write_pages.Given as goal

-- the content with the pages that are left is that with all pages
abbrev pub invariant-loop-page : goal.invariant-loop-page
invariant-loop-page g l = record {
  stays : RemainsThere g.D.Disk.seen l.fn.disk l.disk;
  rest : with_block_pages (g.D.Disk.seen l.disk.disk).content (l.start + l.page) (drop l.page (filled_pages l.bytes)) ≡ with_block_pages
      (g.D.Disk.seen l.fn.disk.disk).content l.start (filled_pages l.bytes);
  failures : failures_told (g.D.Disk.seen l.disk.disk) ≡ failures_told (g.D.Disk.seen l.fn.disk.disk);
}
