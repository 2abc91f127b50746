use Rattle.std.proofs.Common.{◌≡◌, ℕ, ◌<◌, Option, Some, None, length, refl, sym, subst}
use Rattle.std.specs.Prelude.{IfSome}
use Rattle.page_store.specs.page_hash.declared.PageName.{PageName}
use Rattle.page_store.specs.Seen.{residence}
use Rattle.page_store.specs.declared.residence.Residence.TheVariants as at
use Rattle.seg_ops.proofs.rooms.make_room_beside.Goals as goal

pub make_room_but-requires : goal.make_room_but-requires
make_room_but-requires g c = record {
  beside = λ frame e. (let same : c.args.frame ≡ frame = (let z : Some c.args.frame ≡ Some frame = e in cc) in subst (λ (k : ℕ). k < length c.args.world.now.store.frames) same c.requires.frame);
  home = (c.requires.home.0, (λ e. c.requires.home.1 (let z : Some c.args.frame ≡ Some c.requires.home.0 = e in let same : c.args.frame ≡ c.requires.home.0 = cc in sym same)), c.requires.home.2);
  fits = c.requires.fits;
  noted = c.requires.noted;
}

pub returns-clause-pushed : goal.returns-clause-pushed
returns-clause-pushed g c = any-name c.make_room_but.result c.make_room_but.ensures.pushed
  where
    any-name : (o : Option PageName) → IfSome o (λ name. (frame : ℕ) → Some c.args.frame ≡ Some frame → residence c.args.world.now.store name ≡ at.Home frame → ⊥) → IfSome o (λ name. residence c.args.world.now.store name ≡ at.Home c.args.frame → ⊥)
    any-name None each = tt
    any-name (Some name) each = each c.args.frame refl

pub returns-clause-unlisted : goal.returns-clause-unlisted
returns-clause-unlisted g c = c.make_room_but.ensures.unlisted c.args.frame refl
