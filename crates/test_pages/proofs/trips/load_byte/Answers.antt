use Rattle.std.proofs.Common.{◌≡◌, ℕ, Bool, true, List, ◌∙◌, ap, cond}
use Rattle.std.specs.Prelude.{slice_index}
use Rattle.page_store.specs.Bytes.{clip}
use Rattle.page_store.specs.Moves.{TakesFrame}
use Rattle.page_store.specs.Value.{tells, value}
use Rattle.page_store.specs.declared.place.Place.{Place}
use Rattle.test_pages.proofs.TripLemmas.{takes-keeps}
use Rattle.test_pages.proofs.trips.load_byte.Goals as goal

pub returns-in-Ok-clause-value : goal.returns-in-Ok-clause-value
returns-in-Ok-clause-value g c = λ notes table fits idle place told.
    let takes : TakesFrame c.args.store.now notes c.read_in.new.store notes table = c.read_in.ensures.takes notes table fits idle place in
    let tells_it : tells c.args.store.now notes (table c.args.name).disk ≡ true = ap (λ (p : Place). tells c.args.store.now notes p.disk) place ∙ told in
    ap (λ (b : List ℕ). slice_index b c.args.at) (c.bytes-in-Ok.ensures.value notes table ∙ takes.values c.args.name tells_it
    ∙ ap (λ (b : Bool). cond b (clip (table c.args.name).valid (value c.args.store.now notes table c.args.name)) (value c.args.store.now notes table c.args.name)) c.read_in.ensures.other)

pub returns-in-Ok-clause-keeps : goal.returns-in-Ok-clause-keeps
returns-in-Ok-clause-keeps g c = λ notes table fits idle place. takes-keeps c.args.store.now c.read_in.new.store notes notes table (c.read_in.ensures.takes notes table fits idle place)

pub returns-in-Err-clause-keeps : goal.returns-in-Err-clause-keeps
returns-in-Err-clause-keeps g c = λ notes table fits idle place. takes-keeps c.args.store.now c.read_in.new.store notes notes table (c.read_in.ensures.takes notes table fits idle place)
