use Rattle.std.proofs.Common.{arith, ◌≡◌, ◌∙◌, ap, length, take, ◌-◌}
use Rattle.vm_script.specs.Cursor.{after_field, field_of}
use Rattle.vm_script.proofs.Cursors as text
use Rattle.vm_script.proofs.splitting.field.Goals as goal

pub overflow_sub-text : goal.overflow_sub-text
overflow_sub-text c =
    omega (arith, ap length c.skip_others-rest.ensures, ap length (text.after_both c.args.text.now), text.after_le c.args.text.now, ap (λ xs. length (after_field xs)) c.skip_graphic-behind.ensures)

pub returns-clause-field : goal.returns-clause-field
returns-clause-field c =
    let rest : c.skip_others-rest.result.now ≡ after_field c.args.text.now = c.skip_others-rest.ensures ∙ (ap after_field c.skip_graphic-behind.ensures ∙ text.after_both c.args.text.now) in
    let count : length c.args.text.now - length c.skip_others-rest.result.now ≡ length (field_of c.args.text.now) = omega (arith, ap length rest, text.length_field c.args.text.now) in
    c.split_at.ensures.front ∙ (ap (λ n. take n c.args.text.now) count ∙ text.take_field c.args.text.now)
