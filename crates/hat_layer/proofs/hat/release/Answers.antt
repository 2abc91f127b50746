use Rattle.std.proofs.Common.{ℕ, Option, None, List, sym, subst, arith, set}
use Rattle.std.specs.Prelude.{vec_capacity}
use Rattle.hat_layer.specs.declared.translation.Translation.{Translation}
use Rattle.hat_layer.specs.Free.{IsSoundHat}
use Rattle.hat_layer.proofs.HatLemmas.{hat-room, hat-pushed}
use Rattle.hat_layer.proofs.hat.release.Goals as goal

pub push_reserved-requires : goal.push_reserved-requires
push_reserved-requires c =
    let r = hat-room c.args.table.now.places c.args.free.now.items (vec_capacity c.args.free.now) c.args.hand c.args.place c.args.old c.requires.fits c.requires.old in
    let k = c.args.free.now.ok.0 in omega arith

pub returns-clause-fits : goal.returns-clause-fits
returns-clause-fits c =
    let s = hat-pushed c.args.table.now.places (vec_capacity c.args.free.now) c.args.hand c.args.free.now.items
    (vec_capacity c.push_reserved.new.self) c.args.place c.args.old c.requires.fits c.requires.old (let k = c.push_reserved.ensures.capacity in omega arith) in
    subst (λ (p : List (Option Translation)). IsSoundHat p c.push_reserved.new.self.items (vec_capacity c.push_reserved.new.self) c.args.hand) (sym c.take.ensures.places)
    (subst (λ (f : List ℕ). IsSoundHat (set c.args.table.now.places c.args.place None) f (vec_capacity c.push_reserved.new.self) c.args.hand) (sym c.push_reserved.ensures.items) s)
