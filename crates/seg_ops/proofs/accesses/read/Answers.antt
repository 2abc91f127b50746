use Rattle.std.proofs.Common.{false}
use Rattle.vm_world.specs.flat_model.Words.{page}
use Rattle.vm_world.specs.World.{world_seen, world_table}
use Rattle.seg_ops.proofs.Hits.{noted-hits, noted-home, read-word}
use Rattle.seg_ops.proofs.accesses.read.Goals as goal

pub frame_bytes-requires : goal.frame_bytes-requires
frame_bytes-requires g c =
    let w = world_seen c.args.world.now in
    record {
      home = (
        (noted-hits w c.requires.fits.0 c.requires.noted.0 (page c.args.addr) c.args.frame false c.requires.fits.1 c.requires.noted.1).name,
        noted-home w c.requires.fits.0 c.requires.noted.0 (page c.args.addr) c.args.frame false c.requires.fits.1 c.requires.noted.1,
      );
    }

pub returns : goal.returns
returns g c = λ spaces space fits noted.
    let w = world_seen c.args.world.now in
    let h = noted-hits w spaces space (page c.args.addr) c.args.frame false fits noted in
    read-word w spaces space c.args.addr c.args.size c.word_in.result noted.entry h c.frame_bytes.result.now
    (λ notes. c.frame_bytes.ensures.value h.name (noted-home w spaces space (page c.args.addr) c.args.frame false fits noted) notes (world_table w)) c.word_in.ensures
