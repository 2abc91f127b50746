use Rattle.std.proofs.Common.{arith, ◌≡◌, ◌∙◌, sym, ap, ap₂, true, ◌++◌, length, map, take, refl}
use Rattle.std.specs.Prelude.{◌<◌}
use Rattle.std.specs.List.{list_all}
use Rattle.std.proofs.lemmas.Bool.{ne_eqb}
use Rattle.vm_script.specs.Lines.{fields, is_plain}
use Rattle.vm_script.specs.Cursor.{first_line, after_line, after_field, after_spaces}
use Rattle.vm_script.proofs.Cursors as text
use Rattle.vm_script.proofs.splitting.split_line.Goals as goal

pub loop-left-init : goal.loop-left-init
loop-left-init c =
    let xs = c.args.text.now in
    let is = c.skip_spaces-left.ensures in
    record {
      fields = ap (take 8) (ap₂ (λ items more. map (λ f. f.now) items ++ more) c.new-fields.ensures (ap (λ l. fields (first_line l)) is ∙ text.fields_spaces xs));
      few = omega (arith, ap length c.new-fields.ensures);
      plain = ap (λ l. list_all is_plain (first_line l)) is ∙ text.plain_spaces xs;
      rest = ap after_line is ∙ text.line_spaces xs;
      skipped = ap after_spaces is ∙ (text.spaces_twice xs ∙ sym is);
    }

begins : (c : goal.After-skip_spaces-left-in-len1-up) → text.starts_field c.loop-left.left.now ≡ true
begins c = text.starts c.loop-left.left.now _ c.in-len1-up.len_at_least c.loop-left.invariant.skipped refl (ne_eqb _ _ c.if-b-eq10.false)

-- what is left behind the field and its spaces
left_is : (c : goal.After-skip_spaces-left-in-len1-up) → c.skip_spaces-left-in-len1-up.result.now ≡ after_spaces (after_field c.loop-left.left.now)
left_is c = c.skip_spaces-left-in-len1-up.ensures ∙ ap after_spaces c.field-graphic.ensures.rest

pub loop-left-smaller : goal.loop-left-smaller
loop-left-smaller c =
    let less : length c.skip_spaces-left-in-len1-up.result.now < length c.loop-left.left.now = omega (arith, ap length (left_is c), text.shorter_next c.loop-left.left.now (begins c)) in
    less

pub loop-left-preserved : goal.loop-left-preserved
loop-left-preserved c =
    let xs = c.loop-left.left.now in
    let is = left_is c in
    let items = map (λ f. f.now) c.loop-left.fields.items in
    record {
      fields = text.fields_step items _ _ xs _ _ c.put.ensures.fields c.field-graphic.ensures.field (begins c) is c.loop-left.invariant.fields;
      few = c.put.ensures.few;
      plain = text.plain_step _ _ _ xs _ _ c.both-plain.ensures c.field-graphic.ensures.plain is c.loop-left.invariant.plain;
      rest = ap after_line is ∙ (text.line_spaces (after_field xs) ∙ (text.line_field xs ∙ c.loop-left.invariant.rest));
      skipped = ap after_spaces is ∙ (text.spaces_twice (after_field xs) ∙ sym is);
    }
