use Rattle.std.proofs.Common.{◌≡◌, ◌≤◌, ◌+◌, ℕ, List, ap, ◌∙◌, subst, arith, true}
use Rattle.std.specs.Prelude.{replicate, take}
use Rattle.std.proofs.lemmas.List.{take-replicate}
use Rattle.seg_ops.specs.page_store.Steps.{with_piece}
use Rattle.seg_ops.specs.vm_world.FileSteps.{ChangesFile}
use Rattle.seg_ops.specs.vm_world.Words.{memory}
use Rattle.seg_map.specs.Puts.{with_bytes_in}
use Rattle.seg_map.proofs.bytes.put_zeros.Goals as goal

zeros-are : (count at : ℕ) → at + count ≤ 4096 → take {A = ℕ} count (replicate 4096 0) ≡ replicate count 0
zeros-are count at within = take-replicate count 4096 0 (omega (arith, within))

pub returns-clause-store : goal.returns-clause-store
returns-clause-store g c =
    c.put.ensures.store ∙ ap (λ (z : List ℕ). with_piece c.args.world.now.store c.args.frame c.args.at z true) (zeros-are c.args.count c.args.at c.requires.within)

pub returns-clause-puts : goal.returns-clause-puts
returns-clause-puts g c = λ spaces fits.
    subst (λ (z : List ℕ). ChangesFile c.args.file (memory c.args.world.now spaces) (memory c.put.new.world spaces) (with_bytes_in c.args.page c.args.at z))
    (zeros-are c.args.count c.args.at c.requires.within) (c.put.ensures.puts spaces fits)
