use Rattle.std.proofs.Common.{◌≡◌, ◌∙◌, ap, sym, arith, Option, Some, List}
use Rattle.std.specs.Prelude.{slice_get, unwrap_or}
use Rattle.flat_model.specs.Words.{Page, zero_page}
use Rattle.flat_state.specs.Stored.{page_in}
use Rattle.flat_state.proofs.ObjectPages.{get-first, get-past}
use Rattle.flat_state.proofs.object_pages.ObjectPages.get.Goals as goal

pub returns-then-index-self : goal.returns-then-index-self
returns-then-index-self c =
    sym (ap (λ (ps : List Page). slice_get ps c.args.index) (sym c.self.view_is) ∙ get-past (page_in c.self.inside.stored.entries) 0 c.self.inside.count c.args.index (omega arith))

pub returns-in-Some : goal.returns-in-Some
returns-in-Some c =
    let stored = page_in c.self.inside.stored.entries in
    let there : c.in-Some.page.now ≡ stored c.args.index = ap (λ (o : Option Page). unwrap_or o zero_page) c.in-Some.ensures.value in
    ap (λ (p : Page). Some p) (c.as_slice.ensures ∙ there)
    ∙ sym (ap (λ (ps : List Page). slice_get ps c.args.index) (sym c.self.view_is) ∙ get-first stored c.self.inside.count c.args.index (omega arith))

pub returns-in-None : goal.returns-in-None
returns-in-None c =
    let stored = page_in c.self.inside.stored.entries in
    let none : zero_page ≡ stored c.args.index = ap (λ (o : Option Page). unwrap_or o zero_page) c.in-None.ensures.value in
    ap (λ (p : Page). Some p) (c.zero_bytes.ensures ∙ none)
    ∙ sym (ap (λ (ps : List Page). slice_get ps c.args.index) (sym c.self.view_is) ∙ get-first stored c.self.inside.count c.args.index (omega arith))
