use Rattle.std.proofs.Common.{◌≡◌, ℕ, ◌<◌, List, Option, Some, None, length, refl, inl, sym, ap, ◌∙◌, subst}
use Rattle.std.specs.Prelude.{IfSome, IsSome}
use Rattle.page_store.specs.page_hash.declared.PageName.{PageName}
use Rattle.page_store.specs.Seen.{IsListedFrame, residence}
use Rattle.page_store.specs.declared.residence.Residence.TheVariants as at
use Rattle.seg_ops.proofs.Evictions.{no-room}
use Rattle.seg_ops.proofs.RoomMade.{lists-then, room-same, room-then}
use Rattle.seg_ops.proofs.rooms.make_room_but.Goals as goal

pub returns-then-available-clause-makes : goal.returns-then-available-clause-makes
returns-then-available-clause-makes g c = room-same c.args.world.now

pub give_way-requires : goal.give_way-requires
give_way-requires g c =
    let can = c.find_victim-frame.ensures.can in
    let kept = c.find_victim-frame.ensures.makes.keeps c.requires.fits.0 c.requires.fits.1 in
    record {
      victim = can.victim;
      unwritten = can.unwritten;
      none = c.find_victim-frame.ensures.none;
      fits = (c.requires.fits.0, kept.memory);
      noted = (c.requires.noted.0, kept.notes c.requires.noted.0 tt c.requires.noted.1);
    }

pub returns-clause-makes : goal.returns-clause-makes
returns-clause-makes g c = room-then c.args.world.now c.find_victim-frame.new.world c.give_way.new.world c.find_victim-frame.ensures.makes c.give_way.ensures.makes

pub returns-then-available-clause-listed : goal.returns-then-available-clause-listed
returns-then-available-clause-listed g c = (refl, inl refl)

pub returns-clause-listed : goal.returns-clause-listed
returns-clause-listed g c = lists-then c.args.world.now.store c.find_victim-frame.new.world.store c.give_way.new.world.store c.find_victim-frame.ensures.lists c.give_way.ensures.listed

pub returns-clause-unlisted : goal.returns-clause-unlisted
returns-clause-unlisted g c = λ frame is listed.
    let apart : frame ≡ c.find_victim-frame.result → ⊥ = λ e. c.find_victim-frame.ensures.can.other (is ∙ ap (λ (k : ℕ). Some k) e) in
    absurd (no-room c.find_victim-frame.new.world.store c.find_victim-frame.ensures.none frame (c.give_way.ensures.lists frame apart listed))

pub returns-clause-pushed : goal.returns-clause-pushed
returns-clause-pushed g c = each c.give_way.result c.give_way.ensures.pushed
  where
    each : (o : Option PageName) → IfSome o (λ name. residence c.find_victim-frame.new.world.store name ≡ at.Home c.find_victim-frame.result) → IfSome o (λ name. (frame : ℕ) → c.args.beside ≡ Some frame → residence c.args.world.now.store name ≡ at.Home frame → ⊥)
    each None here = tt
    each (Some name) here = λ frame is home.
        let e : at.Home frame ≡ at.Home c.find_victim-frame.result = sym home ∙ sym (c.find_victim-frame.ensures.makes.stay name) ∙ here in
        let same : frame ≡ c.find_victim-frame.result = cc in
        c.find_victim-frame.ensures.can.other (is ∙ ap (λ (k : ℕ). Some k) same)
