use Rattle.std.proofs.Common.{length, subst, sym}
use Rattle.std.proofs.lemmas.List.Elements.{All-push}
use Rattle.entry_list.specs.Rows.{AreRowsWithin, IsRowWithin}
use Rattle.entry_list.proofs.entries.Entries.push.Goals as goal

pub invariant_of-self-in-Some : goal.invariant_of-self-in-Some
invariant_of-self-in-Some c =
    let whole = length c.self.inside.whole.items in
    let reads = length c.self.inside.reads.items in
    subst (AreRowsWithin whole reads) (sym c.in_ok-push.ensures.items)
    (All-push (IsRowWithin whole reads) c.self.inside.rows.items c.in-Some.row c.self.invariant (c.in-Some.ensures.within whole reads))
