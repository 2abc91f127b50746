use Rattle.std.proofs.Common.{◌≡◌, ◌∙◌, suc, zero, false, sym, ap, arith}
use Rattle.std.proofs.lemmas.List.{get_or_past}
use Rattle.std.specs.FinSet as set
use Rattle.vm_core.specs.State.{born_of}
use Rattle.vm_core.proofs.Forked.{born-at, born-none}
use Rattle.vm_core.proofs.forks.was_born.Goals as goal

pub returns-in-Some : goal.returns-in-Some
returns-in-Some c =
    let e = c.in-Some.ensures in
    let is : suc c.in-Some.place ≡ c.args.process = omega (arith, e) in
    sym (ap (set.contains (born_of c.args.born.now)) (sym is) ∙ born-at c.args.born.now c.in-Some.place)

pub returns-in_default : goal.returns-in_default
returns-in_default c =
    let e = c.in-Some.ensures in
    let past = c.if-place-born.false in
    let is : suc c.in-Some.place ≡ c.args.process = omega (arith, e) in
    sym (ap (set.contains (born_of c.args.born.now)) (sym is) ∙ born-at c.args.born.now c.in-Some.place ∙ get_or_past c.args.born.now c.in-Some.place false (omega (arith, past)))

pub returns-in_default-2 : goal.returns-in_default-2
returns-in_default-2 c =
    let e = c.in_default.ensures in
    let is : c.args.process ≡ zero = omega (arith, e) in
    sym (ap (set.contains (born_of c.args.born.now)) is ∙ born-none c.args.born.now)
