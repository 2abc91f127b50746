use Rattle.core_arena.proofs.PageLemmas.{◌*◌, List, ℕ, Some, IsSome, sym, ◌∙◌, ap, subst, refl, slice_set}
use Rattle.core_arena.proofs.PageLemmas.{length, option_map, InBlock, origin_of, CoreSeen, bytes_at}
use Rattle.core_arena.proofs.PageLemmas.{slice_after_write, IsHomePage, home-page, placed-on, sound-set}
use Rattle.core_arena.proofs.PageLemmas.{seen-overwritten}
use Rattle.std.specs.List.{length_refill}
use Rattle.std.specs.Option.{option_copied_mut}
use Rattle.core_arena.proofs.arena.Core.bytes_mut.Goals as goal
use Rattle.core_arena.proofs.arena.Core.bytes_mut.Goals.{In-Some}

home : (c : In-Some) → IsHomePage c.self.inside.region.base c.self.inside.region.frames c.self.inside.pages.items c.args.i c.in-Some.page.now
home c =
    home-page c.self.inside.region.base c.self.inside.region.frames c.self.inside.pages.items c.self.inside.shell c.args.i c.in-Some.page.now c.index_mut.result.now c.self.invariant
    (subst (λ (k : CoreSeen). IsSome (bytes_at k.frames c.args.i)) (sym c.self.view_is) c.requires)
    (sym c.index_mut.ensures.value ∙ sym c.as_mut.ensures.value ∙ ap option_copied_mut c.in-Some.is)

pub bytes_mut-requires : goal.bytes_mut-requires
bytes_mut-requires c =
    let h = home c in
    (c.at-at.ensures ∙ sym h.at, subst InBlock (sym c.at-at.ensures) (placed-on c.self.inside.region.base (c.args.i * 4096) h.placed), h.size)

pub invariant_of-self-lent : goal.invariant_of-self-lent
invariant_of-self-lent c = λ w.
    let h = home ((goal.at.invariant_of-self-lent c).In-Some) in
    let page = c.in-Some.page.now in
    sound-set c.self.inside.region.base c.self.inside.region.frames c.self.inside.pages.items c.self.inside.shell c.args.i
    (Some (record { at = page.at; bytes = slice_after_write page.bytes w })) c.self.invariant
    (h.at, sym (length_refill (length page.bytes) page.bytes w refl) ∙ h.size)

pub returns : goal.returns
returns c =
    let h = home ((goal.at.returns c).In-Some) in (
      (
        refl,
        λ w.
            ap (λ frames. record { origin = origin_of c.self.inside.region.base c.self.inside.region.frames; frames = frames })
            (seen-overwritten c.self.inside.pages.items c.args.i c.in-Some.page.now w h.seen)
            ∙ ap (λ (k : CoreSeen). record k { frames = slice_set k.frames c.args.i (option_map (λ (bytes : List ℕ). slice_after_write bytes w) (bytes_at k.frames c.args.i)) }) c.self.view_is,
      ),
      record {
        writes_back = tt;
        value = ap (λ (k : CoreSeen). bytes_at k.frames c.args.i) (sym c.self.view_is) ∙ h.seen ∙ ap Some (sym c.bytes_mut.ensures.value);
        size = ap length c.bytes_mut.ensures.value ∙ h.size;
      },
    )
