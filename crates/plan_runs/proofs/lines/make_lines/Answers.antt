use Rattle.std.proofs.Common.{◌≡◌, ◌∷◌, ◌+◌, drop, sym, subst, ◌∙◌, ap, refl}
use Rattle.std.proofs.lemmas.List.{drop_all, drop_more}
use Rattle.volume_files.specs.vm_script.declared.plan.PlanLine.{PlanLine}
use Rattle.block_runs.specs.Lines.{IsCallLine}
use Rattle.block_runs.specs.Rows.{StopsForMemory}
use Rattle.block_runs.specs.Lines.{own_of}
use Rattle.block_runs.proofs.KernelCalls.{on_err}
use Rattle.volume_files.specs.flat_model.Told.{entries_of}
use Rattle.plan_runs.proofs.Alone.{line-may, lines-all, lines-front, lines-more, lines-start, lines-stopped}
use Rattle.plan_runs.proofs.GoingOn.{stays-still}
use Rattle.plan_runs.proofs.Rounds.{frames-still}
use Rattle.plan_runs.proofs.Trips.{then-too}
use Rattle.plan_runs.proofs.lines.make_lines.Given.{Over}
use Rattle.plan_runs.proofs.lines.make_lines.Goals as goal
use Rattle.plan_runs.proofs.lines.make_lines.Goals.{After-line-item}

pub loop-line-init : goal.loop-line-init
loop-line-init g c = lines-start c.args.state.now c.args.lines.now c.requires.none c.requires.ready

pub make_line-requires-clause-frames : goal.make_line-requires-clause-frames
make_line-requires-clause-frames g c = frames-still c.args.state.now c.loop-line.state c.args.frames c.loop-line.invariant.event c.requires.frames

pub make_line-requires-clause-still : goal.make_line-requires-clause-still
make_line-requires-clause-still g c = stays-still c.args.state.now c.loop-line.state c.loop-line.invariant.event c.requires.still

-- the line that is next
here : (g : Over) (c : After-line-item g) → IsCallLine c.line-item.result.act
here g c = subst (λ (l : PlanLine). IsCallLine l.act) (sym c.line-item.is) (c.requires.plain c.loop-line.line-index c.line-item.result c.loop-line-test.true)

next : (g : Over) (c : After-line-item g) → drop c.loop-line.line-index c.args.lines.now ≡ c.line-item.result ∷ drop (c.loop-line.line-index + 1) c.args.lines.now
next g c =
    drop_more c.args.lines.now c.loop-line.line-index c.line-item.result c.loop-line-test.true
    ∙ ap (λ (l : PlanLine). l ∷ drop (c.loop-line.line-index + 1) c.args.lines.now) (sym c.line-item.is)

pub make_line-requires-clause-line : goal.make_line-requires-clause-line
make_line-requires-clause-line g c = here g (goal.at.make_line-requires-clause-line g c).After-line-item

pub make_line-requires-clause-may : goal.make_line-requires-clause-may
make_line-requires-clause-may g c =
    let i = c.loop-line.line-index in
    line-may c.args.state.now c.loop-line.state c.args.lines.now (drop i c.args.lines.now) (drop (i + 1) c.args.lines.now) c.line-item.result (next g (goal.at.make_line-requires-clause-may g c).After-line-item) c.loop-line.invariant

pub loop-line-preserved : goal.loop-line-preserved
loop-line-preserved g c =
    let i = c.loop-line.line-index in
    let at = (goal.at.loop-line-preserved g c).After-line-item in
    lines-more c.args.state.now c.loop-line.state c.make_line.new.state c.args.lines.now (drop i c.args.lines.now) (drop (i + 1) c.args.lines.now) c.line-item.result (next g at) c.loop-line.invariant (here g at)
    c.make_line.ensures.event c.make_line.ensures.alone c.in_ok-make_line.ensures.made

pub returns-in_err-make_line-clause-event : goal.returns-in_err-make_line-clause-event
returns-in_err-make_line-clause-event g c = then-too c.args.state.now c.loop-line.state c.make_line.new.state c.loop-line.invariant.event c.make_line.ensures.event

pub returns-in_err-make_line-clause-front : goal.returns-in_err-make_line-clause-front
returns-in_err-make_line-clause-front g c =
    lines-front c.args.state.now c.loop-line.state c.args.lines.now (drop c.loop-line.line-index c.args.lines.now) c.make_line.new.state.history c.loop-line.invariant c.in_err-make_line.ensures.err

pub returns-in_err-make_line-clause-stopped : goal.returns-in_err-make_line-clause-stopped
returns-in_err-make_line-clause-stopped g c =
    let i = c.loop-line.line-index in
    let at = (goal.at.returns-in_err-make_line-clause-stopped g c).After-line-item in
    on_err c.from_residual.result (StopsForMemory (own_of 1 c.args.lines.now) (entries_of c.make_line.new.state.history 1))
    (lines-stopped c.args.state.now c.loop-line.state c.args.lines.now (drop i c.args.lines.now) (drop (i + 1) c.args.lines.now) c.line-item.result c.make_line.new.state.history (next g at) c.loop-line.invariant
    c.in_err-make_line.ensures.err c.in_err-make_line.ensures.takes)

pub returns-clause-front : goal.returns-clause-front
returns-clause-front g c =
    lines-front c.args.state.now c.loop-line.state c.args.lines.now (drop c.loop-line.line-index c.args.lines.now) c.loop-line.state.history c.loop-line.invariant refl

pub returns-clause-all : goal.returns-clause-all
returns-clause-all g c =
    let i = c.loop-line.line-index in
    lines-all c.args.state.now c.loop-line.state c.args.lines.now (drop i c.args.lines.now) c.loop-line.invariant (drop_all i c.args.lines.now c.loop-line-test.false)
