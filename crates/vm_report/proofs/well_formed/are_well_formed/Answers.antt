use Rattle.std.proofs.Common.{◌∙◌, List, refl, subst, sym}
use Rattle.std.specs.Prelude.{All}
use Rattle.std.proofs.lemmas.Bool.{false≢true}
use Rattle.std.proofs.lemmas.List.Elements.{All-nil}
use Rattle.vm_script.specs.vm_types.declared.call.Entry.{Entry}
use Rattle.vm_script.specs.vm_types.WellFormed.{IsWellFormed}
use Rattle.entry_list.specs.Rows.{entry_seen}
use Rattle.vm_report.proofs.Firsts.{fewer-left, well-behind, well-first, well-with}
use Rattle.vm_report.proofs.well_formed.are_well_formed.Goals as goal

pub loop-entry-init : goal.loop-entry-init
loop-entry-init c = record {
  only = subst (All (λ (e : Entry). IsWellFormed e.call)) c.all-left.ensures;
  each = subst (All (λ (e : Entry). IsWellFormed e.call)) (sym c.all-left.ensures);
}

pub loop-entry-preserved : goal.loop-entry-preserved
loop-entry-preserved c =
    let e = entry_seen c.in-Some.entry in
    let well = subst (λ (x : Entry). IsWellFormed x.call) c.entry.ensures (c.is_well_formed.ensures.0 c.if-not-is_well_formed.false) in
    record {
      only = λ rest. c.loop-entry.invariant.only (well-with c.loop-entry.left c.in-Some.rest e c.in-Some.ensures well rest);
      each = λ all. well-behind c.loop-entry.left c.in-Some.rest e c.in-Some.ensures (c.loop-entry.invariant.each all);
    }

pub loop-entry-smaller : goal.loop-entry-smaller
loop-entry-smaller c = fewer-left c.loop-entry.left c.in-Some.rest (entry_seen c.in-Some.entry) c.in-Some.ensures

pub returns-then-not-is_well_formed-clause-each : goal.returns-then-not-is_well_formed-clause-each
returns-then-not-is_well_formed-clause-each c = λ all.
    let e = entry_seen c.in-Some.entry in
    let well = well-first c.loop-entry.left c.in-Some.rest e c.in-Some.ensures (c.loop-entry.invariant.each all) in
    absurd (false≢true (sym c.if-not-is_well_formed.true ∙ c.is_well_formed.ensures.1 (subst (λ (x : Entry). IsWellFormed x.call) (sym c.entry.ensures) well)))

pub returns-clause-only : goal.returns-clause-only
returns-clause-only c = λ _. c.loop-entry.invariant.only (subst (All (λ (e : Entry). IsWellFormed e.call)) (sym c.in_default.ensures) (All-nil (λ (e : Entry). IsWellFormed e.call)))
