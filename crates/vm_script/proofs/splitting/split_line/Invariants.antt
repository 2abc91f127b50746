use Rattle.std.proofs.Common.{◌≡◌, ◌≤◌, ◌++◌, ◌&&◌, length, map, take}
use Rattle.std.specs.List.{list_all}
use Rattle.vm_script.specs.Lines.{is_plain, fields}
use Rattle.vm_script.specs.Cursor.{first_line, after_line, after_spaces}
use Rattle.vm_script.proofs.splitting.split_line.Given as goal

-- The fields so far and those of what is left are those of the line.
abbrev pub invariant-loop-left : goal.invariant-loop-left
invariant-loop-left l = record {
  fields : take 8 (map (λ f. f.now) l.fields.items ++ fields (first_line l.left)) ≡ take 8 (fields (first_line l.text));
  few : length l.fields.items ≤ 8;
  plain : (l.plain && list_all is_plain (first_line l.left)) ≡ list_all is_plain (first_line l.text);
  rest : after_line l.left ≡ after_line l.text;
  skipped : after_spaces l.left ≡ l.left;
}

abbrev pub decreases-loop-left : goal.decreases-loop-left
decreases-loop-left l = length l.left
