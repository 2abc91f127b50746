use Rattle.std.proofs.Common.{◌<◌, ◌/◌, ◌∙◌, ap, length, arith, false, get_or}
use Rattle.std.proofs.lemmas.List.{get_or_default}
use Rattle.disk_mirror.proofs.BitLemmas.{length-word_bits, test_bit}
use Rattle.disk_mirror.proofs.bits.BitMap.get.Goals as goal

pub index-word-requires : goal.index-word-requires
index-word-requires c =
    let all = c.self.inside.words.items in
    let inside : c.args.place < c.self.inside.count = omega (arith, c.requires, ap length c.self.view_is, length-word_bits all c.self.inside.count) in
    omega (arith, inside, c.self.invariant)

pub returns : goal.returns
returns c =
    let all = c.self.inside.words.items in
    let inside : c.args.place < c.self.inside.count = omega (arith, c.requires, ap length c.self.view_is, length-word_bits all c.self.inside.count) in
    let there : c.args.place / 64 < length all = omega (arith, inside, c.self.invariant) in
    test_bit all c.self.inside.count c.args.place c.index-word.result.now inside (c.index-word.ensures ∙ get_or_default all (c.args.place / 64) c.index-word.result.now 0 there)
    ∙ ap (λ bits. get_or bits c.args.place false) c.self.view_is
