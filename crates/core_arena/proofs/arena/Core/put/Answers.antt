use Rattle.core_arena.proofs.PageLemmas.{◌≡◌, ◌*◌, ℕ, Some, length, arith, sym, ◌∙◌, ap, slice_set, length-map}
use Rattle.core_arena.proofs.PageLemmas.{option_map, Ptr, ◌+ₚ◌, origin_of, CoreSeen, FrameSeen, Stretch}
use Rattle.core_arena.proofs.PageLemmas.{map-set, bytes_of, sound-set}
use Rattle.core_arena.proofs.OriginLemmas.{origin-parts}
use Rattle.core_arena.proofs.arena.Core.put.Goals as goal

-- the frame is of this core
same : (b b' : Ptr) (n n' : ℕ) (f : FrameSeen) (k : CoreSeen) → origin_of b n ≡ f.origin → f.origin ≡ k.origin → origin_of b' n' ≡ k.origin → (b ≡ b') × (n ≡ n')
same b b' n n' f k from is to = origin-parts b b' n n' (from ∙ is ∙ sym to)

pub index_mut-requires : goal.index_mut-requires
index_mut-requires c =
    let s = same c.f.inside.region.base c.self.inside.region.base c.f.inside.region.frames c.self.inside.region.frames c.args.f c.args.self.now
    (ap (λ (f : FrameSeen). f.origin) c.f.view_is) c.requires (ap (λ (k : CoreSeen). k.origin) c.self.view_is) in
    omega (arith, c.f.invariant.within, s.1, c.self.invariant.places, c.self.inside.pages.ok.0)

pub invariant_of-self : goal.invariant_of-self
invariant_of-self c =
    let s = same c.f.inside.region.base c.self.inside.region.base c.f.inside.region.frames c.self.inside.region.frames c.args.f c.args.self.now
    (ap (λ (f : FrameSeen). f.origin) c.f.view_is) c.requires (ap (λ (k : CoreSeen). k.origin) c.self.view_is) in
    sound-set c.self.inside.region.base c.self.inside.region.frames c.self.inside.pages.items c.self.inside.shell c.f.inside.number (Some c.f.inside.page) c.self.invariant
    (c.f.invariant.at ∙ ap (λ (p : Ptr). p +ₚ c.f.inside.number * 4096) s.0, c.f.invariant.size)

pub returns-clause-within : goal.returns-clause-within
returns-clause-within c =
    let s = same c.f.inside.region.base c.self.inside.region.base c.f.inside.region.frames c.self.inside.region.frames c.args.f c.args.self.now
    (ap (λ (f : FrameSeen). f.origin) c.f.view_is) c.requires (ap (λ (k : CoreSeen). k.origin) c.self.view_is) in
    let number = ap (λ (f : FrameSeen). f.number) c.f.view_is in
    let places = sym (length-map c.self.inside.pages.items (option_map (λ (page : Stretch). page.bytes))) ∙ ap (λ (k : CoreSeen). length k.frames) c.self.view_is in
    omega (arith, c.f.invariant.within, s.1, c.self.invariant.places, number, places)

pub returns-clause-new : goal.returns-clause-new
returns-clause-new c =
    rw (map-set bytes_of c.self.inside.pages.items c.f.inside.number (Some c.f.inside.page))
    (ap (λ (k : CoreSeen). record k { frames = slice_set k.frames c.f.inside.number (Some c.f.inside.page.bytes) }) c.self.view_is
    ∙ ap (λ (f : FrameSeen). record c.args.self.now { frames = slice_set c.args.self.now.frames f.number (Some f.bytes) }) c.f.view_is)
