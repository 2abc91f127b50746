use Rattle.core_arena.proofs.PageLemmas.{◌≡◌, ℕ, ◌+◌, ◌*◌, Some, subst, arith, sym, ap, ◌∙◌, length, [], ◌∷◌}
use Rattle.core_arena.proofs.PageLemmas.{length-replicate, Ptr, ◌+ₚ◌, zeros, pages_seen, AreInPlace, zeros-more}
use Rattle.core_arena.proofs.PageLemmas.{zeros-cut, in_place-push, moved-twice}
use Rattle.std.proofs.lemmas.List.{length-append}
use Rattle.core_arena.proofs.arena.Core.new.Goals as goal

pub loop-made-preserved : goal.loop-made-preserved
loop-made-preserved c =
    let i = c.loop-made.invariant in
    let at = c.as_mut_ptr-base.result in
    let made = c.loop-made._made in
    let pages = c.loop-made.pages.items in
    let page = c.cut-page.result.0 in
    let cut = zeros-cut made c.args.frames c.loop-made.rest.bytes c.loop-made-test.true i.5 in
    let zero_page : page.bytes ≡ zeros = c.cut-page.ensures.1 ∙ cut.0 in
    let here : page.at ≡ at +ₚ length pages * 4096 = c.cut-page.ensures.0 ∙ i.4 ∙ ap (λ (n : ℕ). at +ₚ n * 4096) (sym i.0) in
    let size : length page.bytes ≡ 4096 = ap length zero_page ∙ length-replicate {A = ℕ} 4096 0 in
    let pushed = c.push_reserved.ensures.items in (
      ap length pushed ∙ length-append pages (Some page ∷ []) ∙ ap (λ (n : ℕ). n + 1) i.0,
      omega (arith, i.1, c.push_reserved.ensures.capacity),
      subst (AreInPlace at) (sym pushed) (in_place-push at pages (Some page) i.2 (here, size)),
      ap pages_seen pushed ∙ zeros-more pages made page i.3 zero_page,
      c.cut-page.ensures.2 ∙ ap (λ (p : Ptr). p +ₚ 4096) i.4 ∙ moved-twice at (made * 4096) 4096 ((made + 1) * 4096) (omega arith),
      c.cut-page.ensures.3 ∙ cut.1,
    )
