use Rattle.std.proofs.Common.{◌≡◌, ℕ, List, length, replicate, ◌∙◌, ap}
use Rattle.core_arena.proofs.BytesLemmas.{slice_after_write-whole}
use Rattle.test_tables.proofs.core_tests.filled.Goals as goal

pub returns : goal.returns
returns c =
    let same : length c.fill.new.self ≡ length c.args.frame.bytes = c.fill.ensures.len ∙ ap length c.bytes_mut.ensures.value in
    let bytes : c.fill.new.self ≡ replicate 4096 c.args.byte = c.fill.ensures.after (λ y e. e) ∙ ap (λ (n : ℕ). replicate n c.args.byte) c.bytes_mut.ensures.size in
    ap (λ (b : List ℕ). record c.args.frame { bytes = b }) (slice_after_write-whole c.args.frame.bytes c.fill.new.self same ∙ bytes)
