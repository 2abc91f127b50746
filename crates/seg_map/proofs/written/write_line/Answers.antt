use Rattle.std.proofs.Common.{◌+◌, ◌<◌, ◌^◌, ℕ, length, sym, subst}
use Rattle.seg_map.proofs.WriteParts.{end-fits}
use Rattle.seg_map.proofs.written.write_line.Goals as goal

pub end_of-end-requires : goal.end_of-end-requires
end_of-end-requires g c =
    subst (λ (k : ℕ). c.args.offset + k < 2 ^ 32) (sym c.len.ensures.len) (end-fits c.args.world.now.files c.args.file (c.args.offset + length c.args.line.now) c.requires.fits.1.files c.requires.served)

pub write_within-requires-clause-home : goal.write_within-requires-clause-home
write_within-requires-clause-home g c = let h = c.requires.home 0 in (h.0, h.2)
