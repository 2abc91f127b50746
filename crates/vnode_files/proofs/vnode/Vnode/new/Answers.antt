use Rattle.std.specs.Prelude.{ℕ, ◌≡◌, ◌*◌, length, nat_le}
use Rattle.std.proofs.Common.{ap, ◌∙◌, rules}
use Rattle.std.proofs.lemmas.List.FromFn.{length-map-range_with_len}
use Rattle.vnode_files.specs.Grow.{page_count}
use Rattle.vnode_files.specs.Room.{page_ends}
use Rattle.vnode_files.proofs.vnode.Vnode.new.Goals as goal
use Rattle.vnode_files.proofs.vnode.Vnode.new.Goals.{In_ok-blanks}

pages : (c : In_ok-blanks) → c.sum-pages.result ≡ page_count c.args.info.extents
pages c = search rules

pub invariant_of-result : goal.invariant_of-result
invariant_of-result c = record {
  sound = record {
    bits = ap length c.in_ok-blanks.ensures.blanks ∙ length-map-range_with_len (λ (page : ℕ). nat_le c.args.info.length (page * 4096)) 0 c.sum-pages.result ∙ pages c;
    pages = c.requires.pages;
    blocks = c.requires.blocks;
    within = c.requires.within;
  };
  indexed = c.in_ok-ends.ensures.ends ∙ ap (page_ends 0) c.list.ensures;
  room = c.in_ok-ends.ensures.room;
}
