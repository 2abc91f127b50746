use Rattle.std.proofs.Common.{◌≡◌, ℕ, ◌<◌, List, Option, None, length, sym, ap, ◌∙◌, subst}
use Rattle.std.specs.Prelude.{IsSome}
use Rattle.page_store.specs.core_arena.Bytes.{bytes_at}
use Rattle.seg_ops.proofs.RoomMade.{lists-both, room-then, same-next}
use Rattle.seg_ops.proofs.rooms.find_victim.Goals as goal

pub next_victim-requires : goal.next_victim-requires
next_victim-requires g c =
    let makes = c.unused_victim.ensures.makes in
    let home = c.requires.home in
    record {
      beside = λ frame is. let lt = c.requires.beside frame is in subst (λ (n : ℕ). frame < n) (sym (ap (λ (fs : List (Option (List ℕ))). length fs) makes.frames)) lt;
      home = (home.0, home.1, subst (λ (fs : List (Option (List ℕ))). IsSome (bytes_at fs home.0)) (sym makes.frames) home.2);
      none = same-next c.args.world.now.store c.unused_victim.new.world.store c.unused_victim.ensures.lists ∙ c.requires.none;
      fits = (c.requires.fits.0, (makes.keeps c.requires.fits.0 c.requires.fits.1).memory);
    }

pub returns-in-None-clause-makes : goal.returns-in-None-clause-makes
returns-in-None-clause-makes g c = room-then c.args.world.now c.unused_victim.new.world c.next_victim.new.world c.unused_victim.ensures.makes c.next_victim.ensures.makes

pub returns-in-None-clause-lists : goal.returns-in-None-clause-lists
returns-in-None-clause-lists g c = lists-both c.args.world.now.store c.unused_victim.new.world.store c.next_victim.new.world.store c.unused_victim.ensures.lists c.next_victim.ensures.lists

pub returns-in-Some-clause-none : goal.returns-in-Some-clause-none
returns-in-Some-clause-none g c = same-next c.args.world.now.store c.unused_victim.new.world.store c.unused_victim.ensures.lists ∙ c.requires.none

pub returns-in-None-clause-none : goal.returns-in-None-clause-none
returns-in-None-clause-none g c =
    same-next c.unused_victim.new.world.store c.next_victim.new.world.store c.next_victim.ensures.lists
    ∙ same-next c.args.world.now.store c.unused_victim.new.world.store c.unused_victim.ensures.lists ∙ c.requires.none
