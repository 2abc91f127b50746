-- What follows a part that doesn't end its call is a part of the same file.
use Rattle.flat_model.proofs.Opens.{chosen as three_tests, chosen_two as two_tests, next_of_file as next-file}
use Rattle.std.proofs.Common.{◌≡◌, ℕ, ◌+◌, ◌-◌, ◌==◌, Bool, true, false, List, length, Option, Some, None, sym, ap, ◌∙◌, inl, inr}
use Rattle.std.specs.Prelude.{if◌then◌else◌, is_some, IsTrue}
use Rattle.flat_model.specs.vm_types.declared.call.Call.{Call}
use Rattle.flat_model.specs.vm_types.declared.call.Call.TheVariants.{Read, Write}
use Rattle.flat_model.specs.vm_types.declared.call.Entry.{Entry}
use Rattle.flat_model.specs.vm_types.declared.call.Reply.{Reply}
use Rattle.flat_model.specs.vm_types.declared.call.Reply.TheVariants as reply
use Rattle.flat_model.specs.vm_types.Parts.{next_part, part_file, is_part, is_short, is_past_numbers, first_write}
use Rattle.flat_model.specs.OpenLaws.{FollowsOn, IsOpenPart}

pub follows-part : (f : ℕ) (d e : Entry) → IsOpenPart f d → FollowsOn d e → IsTrue (is_part e.call)
follows-part f d e still (inl ended) = absurd (let both = sym ended ∙ still.1 in cc)
follows-part f d e still (inr next) = ap (λ (o : Option ℕ). is_some o) (next-file d.call d.reply next.0 e.call next.1 ∙ still.0)
