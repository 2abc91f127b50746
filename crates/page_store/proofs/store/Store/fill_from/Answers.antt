use Rattle.std.proofs.Common.{◌≡◌, ℕ, ◌<◌, ◌==◌, true, List, Option, Some, None, length, refl, sym, ◌∙◌, ap, subst, arith}
use Rattle.std.specs.Prelude.{option_map}
use Rattle.std.proofs.Math.ListN.{length-set}
use Rattle.core_arena.specs.Bytes.{bytes_at}
use Rattle.page_hash.specs.Names.{find}
use Rattle.page_store.specs.Bytes.{clip}
use Rattle.page_store.specs.Laws.{FillsPage}
use Rattle.page_store.specs.Seen.{StoreSeen, IsSoundStore, IsListedFrame, store_of, residence}
use Rattle.page_store.specs.Steps.{next_frame, at_frame, with_frame_filled, front_bytes}
use Rattle.page_store.proofs.FillLemmas.{fills-frame, front-is, front-size, taken-home, taken-name, taken-row, taken-within}
use Rattle.page_store.proofs.QueryLemmas.{absent-is}
use Rattle.page_store.proofs.store.Store.fill_from.Given.{Over}
use Rattle.page_store.proofs.store.Store.fill_from.Goals.{After-copy_front}
use Rattle.page_store.proofs.store.Store.fill_from.Goals as goal

pub rename-requires-clause-absent : goal.rename-requires-clause-absent
rename-requires-clause-absent g c = absent-is _ c.args.name c.self.invariant.sound (ap (λ (x : StoreSeen). residence x c.args.name) c.self.view_is ∙ c.requires.absent)

pub rename-requires-clause-within : goal.rename-requires-clause-within
rename-requires-clause-within g c = taken-name _ _ c.self.invariant.sound c.take_frame-taken.ensures.frame

pub reset-requires : goal.reset-requires
reset-requires g c = taken-row _ _ c.self.invariant.sound c.take_frame-taken.ensures.frame

pub copy_front-requires-clause-to : goal.copy_front-requires-clause-to
copy_front-requires-clause-to g c = taken-home _ _ c.self.invariant.sound c.take_frame-taken.ensures.frame

-- the frame that is taken, the store that the call makes, and its laws
record Filled (g : Over) (c : After-copy_front g) : Type 0 where
  sound : IsSoundStore c.args.self.now
  next : next_frame c.args.self.now ≡ Some c.take_frame-taken.result
  new : store_of c.copy_front.new.core c.rename.new.names c.take_frame-taken.new.lists c.reset.new.locks c.self.inside.clock c.self.inside.bays
      c.self.inside.order ≡ with_frame_filled c.args.self.now c.take_frame-taken.result c.args.name (front_bytes c.args.self.now.frames c.args.frame c.args.valid) true
  laws : FillsPage c.args.self.now (with_frame_filled c.args.self.now c.take_frame-taken.result c.args.name (front_bytes c.args.self.now.frames c.args.frame c.args.valid) true) c.args.name
      true (λ notes table. front_bytes c.args.self.now.frames c.args.frame c.args.valid)

is : (g : Over) (c : After-copy_front g) → Filled g c
is g c =
    let sound : IsSoundStore c.args.self.now = subst IsSoundStore c.self.view_is c.self.invariant.sound in
    let next : next_frame c.args.self.now ≡ Some c.take_frame-taken.result = ap (λ (x : StoreSeen). next_frame x) (sym c.self.view_is) ∙ c.take_frame-taken.ensures.frame in
    let absent : find c.args.self.now.names c.args.name ≡ None = absent-is c.args.self.now c.args.name sound c.requires.absent in
    let front = ap (λ (x : StoreSeen). option_map (clip c.args.valid) (bytes_at x.frames c.args.frame)) c.self.view_is ∙ front-is c.args.self.now c.args.frame c.args.valid c.requires.home in
    record {
      sound = sound;
      next = next;
      new = rw (c.take_frame-taken.ensures.rest, c.rename.ensures.new, c.reset.ensures, c.copy_front.ensures, front)
          (ap (λ (x : StoreSeen). with_frame_filled x c.take_frame-taken.result c.args.name (front_bytes c.args.self.now.frames c.args.frame c.args.valid) true) c.self.view_is);
      laws = fills-frame c.args.self.now c.take_frame-taken.result c.args.name (front_bytes c.args.self.now.frames c.args.frame c.args.valid) true sound next absent (front-size c.args.self.now c.args.frame c.args.valid sound c.requires.home c.requires.valid) (λ notes table. front_bytes c.args.self.now.frames c.args.frame c.args.valid) (λ notes table. refl);
    }

pub invariant_of-self : goal.invariant_of-self
invariant_of-self g c =
    let i = is g (goal.at.invariant_of-self g c).After-copy_front in
    let count : length c.args.self.now.frames ≡ c.self.inside.frames = sym (ap (λ (x : StoreSeen). length x.frames) c.self.view_is) ∙ c.self.invariant.counted in
    let taken : c.take_frame-taken.result < length c.args.self.now.frames = taken-within c.args.self.now c.take_frame-taken.result i.sound i.next in
    record {
      sound = subst IsSoundStore (sym i.new) i.laws.sound;
      counted = ap (λ (x : StoreSeen). length x.frames) i.new ∙ length-set c.args.self.now.frames c.take_frame-taken.result _ ∙ count;
      listed = rw c.take_frame-taken.ensures.rest c.self.invariant.listed;
      pointer = c.self.invariant.pointer;
    }

pub returns-clause-new : goal.returns-clause-new
returns-clause-new g c =
    let i = is g (goal.at.returns-clause-new g c).After-copy_front in
    i.new ∙ sym (ap (λ (o : Option ℕ). at_frame o c.args.self.now (λ f. with_frame_filled c.args.self.now f c.args.name (front_bytes c.args.self.now.frames c.args.frame c.args.valid) true)) i.next)

pub returns-clause-laws : goal.returns-clause-laws
returns-clause-laws g c =
    let i = is g (goal.at.returns-clause-laws g c).After-copy_front in
    subst (λ (x : StoreSeen). FillsPage c.args.self.now x c.args.name true (λ notes table. front_bytes c.args.self.now.frames c.args.frame c.args.valid)) (sym i.new) i.laws
