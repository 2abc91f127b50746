use Rattle.std.specs.Prelude.{◌≡◌, ◌≤◌, ◌+◌, ◌*◌, map, nat_le, vec_capacity}
use Rattle.std.specs.List.{range_with_len}
use Rattle.vnode_files.proofs.vnode.blanks_of.Given as goal

abbrev pub invariant-loop-page : goal.invariant-loop-page
invariant-loop-page l = record {
  blanks : l.blanks.items ≡ map (λ page. nat_le l.bytes (page * 4096)) (range_with_len 0 l.page);
  room : l.pages + l.more ≤ vec_capacity l.blanks;
}
