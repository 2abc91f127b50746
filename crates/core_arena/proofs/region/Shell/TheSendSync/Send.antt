-- What a shell owns names no thread.
use denote.Builtin.{u8}
use denote.Array.{Array}
use denote.Param.Send.{IsSend, array_send, sendable, Frees, struct_send}
use denote.RattleType.{RattleType}
use denote.Struct.Declared as declared
use Rattle.std.proofs.Common.{length}
use Rattle.std.specs.declared.alloc.Allocator.{Ghosts}
use Rattle.std.specs.Vec.{with_items}
use Rattle.std_alloc.proofs.SendSync.{Vec-send, lies}
use Rattle.core_arena.specs.contracts.region.Shell as C
use Rattle.core_arena.specs.contracts.region.Shell.TheInside as Inside

pub send : (A : RattleType) (g : Ghosts A.Denot) → IsSend A → Frees g g.dealloc_token → IsSend (C.the_row A g)
send A g s f =
    let u8-send : IsSend u8 = search sendable in record {
      owned = λ e vs. (
        (λ _. tt),
        λ v. (
          tt,
          λ xs. (
            (tt, lies (Array u8 (length xs)) (array_send u8 (length xs) u8-send) e.at xs),
            (struct_send (declared.shape (Inside.the_type A g)) (Vec-send u8 A g u8-send s f, tt)).owned (with_items v.vec xs, tt) vs,
          ),
        ),
      );
      leaving = λ k x w. tt;
    }
