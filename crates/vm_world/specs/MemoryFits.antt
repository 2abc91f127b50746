-- What holds of memory, whatever is out. Public clauses cite this.
use Rattle.std.specs.Prelude.{length}
use Rattle.vm_world.specs.CountsFit.{CountsFit, SegmentsFit}
use Rattle.vm_world.specs.FlatMemory.{Memory}
use Rattle.vm_world.specs.FramesFit.{FramesFit, FilesFit, DisksFit}
use Rattle.vm_world.specs.TranslationsFit.{TranslationsFit, PoolFits, UnpushedFit}

-- Frames, files, disks, translations, counts and segments fit one another. Neither notes nor the history are looked at.
pub record MemoryFits (m : Memory) : Type 0 where
  pub frames : FramesFit m.world.store m.world.files m.world.anon
  pub files : FilesFit m.world.files
  pub disks : DisksFit m.world.store.bays m.world.files.disks (length m.world.anon.counts)
  pub pool : PoolFits (length m.world.store.frames) m.world.hat
  pub translations : TranslationsFit m.world.store m.world.anon m.world.maps m.spaces m.world.hat.places
  pub unpushed : UnpushedFit m.world.store m.world.anon m.world.hat.places
  pub counts : CountsFit m.world.anon m.world.maps
  pub segments : SegmentsFit (length m.world.files.files) m.world.anon m.world.maps m.spaces
