use Rattle.std.proofs.Common.{true, false, refl, sym, ap, ◌∙◌}
use Rattle.seg_vn.specs.vm_types.Prot.{is_within}
use Rattle.seg_vn.specs.vm_world.Words.{memory}
use Rattle.mmap_calls.proofs.MapResults.{refusal-told}
use Rattle.mmap_calls.proofs.refusals.new_mapping.Goals as goal

pub returns-then-not-is_valid-clause-refused : goal.returns-then-not-is_valid-clause-refused
returns-then-not-is_valid-clause-refused g c = λ parts spaces process fits.
    refusal-told (memory c.args.world.now spaces) process parts c.args.world.now.zeros fits c.args.request.now false _ _ _ _ (sym c.is_valid.ensures ∙ c.if-not-is_valid.true) refl refl refl refl

pub returns-then-not-is_object_there-clause-refused : goal.returns-then-not-is_object_there-clause-refused
returns-then-not-is_object_there-clause-refused g c = λ parts spaces process fits.
    refusal-told (memory c.args.world.now spaces) process parts c.args.world.now.zeros fits c.args.request.now true false _ _ _ (sym c.is_valid.ensures ∙ c.if-not-is_valid.false) (sym c.is_object_there.ensures ∙ c.if-not-is_object_there.true) refl refl refl

pub returns-then-not-is_within-clause-refused : goal.returns-then-not-is_within-clause-refused
returns-then-not-is_within-clause-refused g c = λ parts spaces process fits.
    refusal-told (memory c.args.world.now spaces) process parts c.args.world.now.zeros fits c.args.request.now true true false _ _ (sym c.is_valid.ensures ∙ c.if-not-is_valid.false) (sym c.is_object_there.ensures ∙ c.if-not-is_object_there.false)
    (ap (is_within c.args.request.now.prot) (sym c.most_allowed-max.ensures) ∙ sym c.is_within.ensures ∙ c.if-not-is_within.true) refl refl
