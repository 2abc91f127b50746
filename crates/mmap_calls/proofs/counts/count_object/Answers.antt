use Rattle.std.proofs.Common.{◌≡◌, length, vec_len, ap, ◌∙◌, arith}
use Rattle.std.proofs.lemmas.Grind.{get_or_default_zero}
use Rattle.mmap_calls.specs.RangeCounts.{zero_in}
use Rattle.mmap_calls.proofs.counts.count_object.Goals as goal

pub index_mut-requires : goal.index_mut-requires
index_mut-requires c =
    let within = c.requires.listed c.in-Zero.number (ap zero_in c.in-Zero.is) in
    let same : vec_len c.args.shown.now ≡ length c.args.shown.now.items = c.args.shown.now.ok.0 in
    omega (arith, within, same)

pub overflow_add-index_mut : goal.overflow_add-index_mut
overflow_add-index_mut c =
    let within = c.requires.listed c.in-Zero.number (ap zero_in c.in-Zero.is) in
    let value = c.index_mut.ensures.value ∙ get_or_default_zero c.args.shown.now.items c.in-Zero.number c.index_mut.result.now within in
    let few = c.requires.few c.in-Zero.number in
    omega (arith, value, few)
