use Rattle.std.proofs.Common.{◌∙◌, ◌++◌, ap, sym}
use Rattle.run_outcome.specs.MemberRooms.{numbered}
use Rattle.run_outcome.proofs.MemberLists.{numbered-put, numbered-two, parts-one, parts-two}
use Rattle.run_outcome.proofs.members.put_parts.Goals as goal

pub returns-in-Some-clause-items : goal.returns-in-Some-clause-items
returns-in-Some-clause-items g c = λ disks is.
    let ns = c.args.numbers.now in
    let a = c.parts-first.result.0 in
    let b = c.in-Some.second in
    numbered-two ns disks a.disk b.disk c.args.members.now.items c.put.new.members.items c.put-in-Some.new.members.items is c.put.ensures.items c.put-in-Some.ensures.items
    ∙ ap (λ l. numbered ns (disks ++ l)) (sym (parts-two c.args.volume a b (sym c.parts-first.ensures.parts ∙ ap (λ o. (a, o)) c.in-Some.is)))

pub returns-in-None-clause-items : goal.returns-in-None-clause-items
returns-in-None-clause-items g c = λ disks is.
    let ns = c.args.numbers.now in
    let a = c.parts-first.result.0 in
    numbered-put ns disks a.disk c.args.members.now.items c.put.new.members.items is c.put.ensures.items
    ∙ ap (λ l. numbered ns (disks ++ l)) (sym (parts-one c.args.volume a (sym c.parts-first.ensures.parts ∙ ap (λ o. (a, o)) c.in-None.is)))
