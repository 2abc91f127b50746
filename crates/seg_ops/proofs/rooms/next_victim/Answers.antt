use Rattle.std.proofs.Common.{◌≡◌, ℕ, ◌<◌, List, Option, Some, None, length, refl, sym, ap, ◌∙◌, subst, arith}
use Rattle.std.specs.Prelude.{IsSome}
use Rattle.page_store.specs.core_arena.Bytes.{bytes_at}
use Rattle.vm_world.specs.hat_layer.Pool.{bits_of}
use Rattle.page_store.specs.Seen.{StoreSeen}
use Rattle.page_store.specs.Steps.{next_frame}
use Rattle.page_store.specs.Waits.{IsVictim}
use Rattle.page_store.proofs.QueryLemmas.{some-within}
use Rattle.vm_world.specs.Words.{IsFit}
use Rattle.vm_world.specs.World.{world_seen}
use Rattle.vm_world.specs.declared.world.World as rust
use Rattle.seg_ops.specs.Rooms.{ChoosesBeside, MakesRoom}
use Rattle.seg_ops.proofs.Evictions.{some-victim}
use Rattle.seg_ops.proofs.RoomMade.{lists-both, lists-gathered, room-then, same-next}
use Rattle.seg_ops.proofs.UsedPages.{gathered-victim}
use Rattle.seg_ops.proofs.rooms.next_victim.Given.{Over}
use Rattle.seg_ops.proofs.rooms.next_victim.Goals.{After-forget_all_use, In-Some}
use Rattle.seg_ops.proofs.rooms.next_victim.Goals as goal

-- what holds once no page counts as used
module _ (g : Over) (c : After-forget_all_use g) where
  pub forgotten-fits : IsFit c.forget_all_use.new.world
  forgotten-fits = (c.requires.fits.0, (c.forget_all_use.ensures.makes.keeps c.requires.fits.0 c.requires.fits.1).memory)

  pub forgotten-none : next_frame c.forget_all_use.new.world.store ≡ None
  forgotten-none = same-next c.args.world.now.store c.forget_all_use.new.world.store c.forget_all_use.ensures.lists ∙ c.requires.none

pub victim_but-requires : goal.victim_but-requires
victim_but-requires g c =
    let d = (goal.at.victim_but-requires g c).After-forget_all_use in
    record {
      frame = λ frame is. let lt = c.requires.beside frame is in subst (λ (n : ℕ). frame < n) (sym (ap (λ (fs : List (Option (List ℕ))). length fs) c.forget_all_use.ensures.makes.frames)) lt;
      unkept = (forgotten-fits g d).1.frames.unkept;
    }

pub unreachable-requires : goal.unreachable-requires
unreachable-requires g c =
    let d = (goal.at.unreachable-requires g c).After-forget_all_use in
    let h = c.requires.home in
    let fits = forgotten-fits g d in
    c.in_default.ensures.chooses h.0 h.1 (some-victim (world_seen c.forget_all_use.new.world) fits.0 h.0 fits.1 (forgotten-none g d) (subst (λ (fs : List (Option (List ℕ))). IsSome (bytes_at fs h.0)) (sym c.forget_all_use.ensures.makes.frames) h.2))

-- the store was only looked at
module _ (g : Over) (c : In-Some g) where
  abbrev pub looked : rust.World g.row.D.Denot
  looked = record c.forget_all_use.new.world { store = c.victim_but.new.store }

  pub looked-same : looked ≡ c.forget_all_use.new.world
  looked-same = ap (λ (s : StoreSeen). record c.forget_all_use.new.world { store = s }) c.victim_but.ensures.same

  pub chosen : IsVictim c.victim_but.new.store c.in-Some.frame
  chosen = subst (λ (s : StoreSeen). IsVictim s c.in-Some.frame) (sym c.victim_but.ensures.same) c.in-Some.ensures.chooses.1

pub sync-requires : goal.sync-requires
sync-requires g c =
    let d = (goal.at.sync-requires g c).In-Some in
    record {
      frame = some-within c.victim_but.new.store.frames c.in-Some.frame (chosen g d).here;
      unlisted = (chosen g d).unlisted;
      fits = subst (λ (w : rust.World g.row.D.Denot). IsFit w) (sym (looked-same g d)) (forgotten-fits g (goal.at.sync-requires g c).After-forget_all_use);
    }

pub returns-clause-can : goal.returns-clause-can
returns-clause-can g c =
    let d = (goal.at.returns-clause-can g c).In-Some in
    record {
      other = c.in-Some.ensures.chooses.0;
      victim = subst (λ (s : StoreSeen). IsVictim s c.in-Some.frame) (sym c.sync.ensures.store) (gathered-victim c.victim_but.new.store c.in-Some.frame (bits_of c.in-Some.frame c.forget_all_use.new.world.hat.places) (chosen g d));
      unwritten = c.sync.ensures.unwritten;
    }

pub returns-clause-lists : goal.returns-clause-lists
returns-clause-lists g c =
    lists-both c.args.world.now.store c.forget_all_use.new.world.store c.sync.new.world.store c.forget_all_use.ensures.lists
    (lists-both c.forget_all_use.new.world.store c.victim_but.new.store c.sync.new.world.store (let e = c.victim_but.ensures.same in (ap (λ (s : StoreSeen). s.free) e, ap (λ (s : StoreSeen). s.cached) e)) (lists-gathered c.victim_but.new.store c.sync.new.world.store c.in-Some.frame _ c.sync.ensures.store))

pub returns-clause-makes : goal.returns-clause-makes
returns-clause-makes g c =
    let d = (goal.at.returns-clause-makes g c).In-Some in
    room-then c.args.world.now c.forget_all_use.new.world c.sync.new.world c.forget_all_use.ensures.makes (subst (λ (w : rust.World g.row.D.Denot). MakesRoom w c.sync.new.world) (looked-same g d) c.sync.ensures.makes)
