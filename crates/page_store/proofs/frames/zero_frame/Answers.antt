use Rattle.std.proofs.Common.{◌≡◌, ℕ, List, Option, Some, ◌∙◌, ap, set, length, sym}
use Rattle.std.specs.Option.{option_map}
use Rattle.core_arena.specs.Bytes.{slice_after_write}
use Rattle.core_arena.proofs.BytesLemmas.{slice_after_write-whole}
use Rattle.page_store.proofs.frames.zero_frame.Goals as goal

pub returns : goal.returns
returns c =
    let size : length c.clear_page.new.page ≡ length c.bytes_mut.result.now = ap (λ (b : List ℕ). length b) c.clear_page.ensures ∙ sym c.bytes_mut.ensures.size in
    ap (λ (o : Option (List ℕ)). record c.args.core.now { frames = set c.args.core.now.frames c.args.frame o })
    (ap (λ (o : Option (List ℕ)). option_map (λ (b : List ℕ). slice_after_write b c.clear_page.new.page) o) c.bytes_mut.ensures.value
    ∙ ap (λ (b : List ℕ). Some b) (slice_after_write-whole c.bytes_mut.result.now c.clear_page.new.page size ∙ c.clear_page.ensures))
