use Rattle.core_arena.proofs.PageLemmas.{◌≡◌, ℕ, ◌*◌, ◌<◌, ◌^◌, List, Option, Some, IsSome, length, arith, sym}
use Rattle.core_arena.proofs.PageLemmas.{ap, ◌∙◌, subst, length-map, option_map, InBlock, all_bytes, pages_seen}
use Rattle.core_arena.proofs.PageLemmas.{InRow, row_bytes, CoreSeen, Stretch, all-home}
use Rattle.core_arena.proofs.arena.Core.all.Goals as goal
use Rattle.core_arena.proofs.arena.Core.all.Goals.{After-deref-2}

row : (c : After-deref-2) → let base = c.self.inside.region.base in let pages = c.self.inside.pages.items in
    InRow base pages × (all_bytes (pages_seen pages) ≡ Some (row_bytes pages)) × (length (row_bytes pages) ≡ length pages * 4096)
row c =
    all-home c.self.inside.region.base c.self.inside.pages.items c.self.invariant.in_place
    (subst (λ (l : List (Option Stretch)). IsSome (all_bytes (pages_seen l))) c.deref.ensures.value (sym c.if-not-are_home.ensures))

pub whole-requires : goal.whole-requires
whole-requires c =
    let r = row ((goal.at.whole-requires c).After-deref-2) in
    let base = c.self.inside.region.base in
    let frames = c.self.inside.region.frames in
    let some : 0 < frames = let ne : frames ≡ 0 → ⊥ = c.if-self-eq0.false in omega arith in
    subst (λ (l : List (Option Stretch)). InRow base l × InBlock base × (length (row_bytes l) ≡ frames * 4096) × (frames * 4096 < 2 ^ 63)) (sym c.deref-2.ensures.value)
    (r.0, c.self.invariant.placed some, r.2 ∙ ap (λ (n : ℕ). n * 4096) c.self.invariant.places, omega arith)

pub returns-clause-bytes : goal.returns-clause-bytes
returns-clause-bytes c =
    let r = row ((goal.at.returns-clause-bytes c).After-deref-2) in
    ap Some (c.whole.ensures ∙ ap row_bytes c.deref-2.ensures.value) ∙ sym r.1 ∙ ap (λ (k : CoreSeen). all_bytes k.frames) c.self.view_is

pub returns-clause-size : goal.returns-clause-size
returns-clause-size c =
    let r = row ((goal.at.returns-clause-size c).After-deref-2) in
    ap length (c.whole.ensures ∙ ap row_bytes c.deref-2.ensures.value) ∙ r.2
    ∙ ap (λ (n : ℕ). n * 4096) (sym (length-map c.self.inside.pages.items (option_map (λ (page : Stretch). page.bytes))) ∙ ap (λ (k : CoreSeen). length k.frames) c.self.view_is)
