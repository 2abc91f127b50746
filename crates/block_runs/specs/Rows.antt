-- A row of callers in the order of their processes, and what it is when blocks are over. Public clauses cite this.
use Rattle.std.specs.Prelude.{drop, ℕ, ◌≡◌, ◌+◌, ◌<◌, ◌≤◌, ◌^◌, ◌++◌, ◌⊎◌, Bool, true, false, List, [], ◌∷◌, length, Some, suc}
use Rattle.std.specs.List.{list_any, AllByRecursion}
use mathlib.Core.List.{IsPrefix}
use Rattle.vm_script.specs.vm_types.declared.call.Entry.{Entry}
use Rattle.vm_script.specs.flat_model.Told.{entries_of}
use Rattle.vm_script.specs.flat_model.Births.{is_birth}
use Rattle.vm_script.specs.declared.plan.PlanLine.{PlanLine}
use Rattle.vm_script.specs.declared.plan.PlanAct.TheVariants as act
use Rattle.vm_script.specs.Blocks.{IsProcessBlock, AreProcessBlocks}
use Rattle.vm_script.specs.Told.{Spell, parent_of}
use Rattle.vm_kernel.specs.Callers.{KernelSeen, CallerSeen}
use Rattle.block_runs.specs.declared.blocks.Stretch.{Stretch}
use Rattle.block_runs.specs.Callers.{tree, IsCaller, SeesMore}
use Rattle.block_runs.specs.Running.{HasRun, RunsOn}
use Rattle.block_runs.specs.Conditions.{AreFit, MayMakeLines, MayGo}
use Rattle.block_runs.specs.Lines.{LineTakesMemory, own_of, StandsAt}

-- The callers of this process and of those behind it, in their order, each between its calls.
abbrev pub AreNumbered : KernelSeen → ℕ → List CallerSeen → Type 0
AreNumbered k n [] = Unit {0}
AreNumbered k n (v ∷ vs) = ((v.process ≡ n) × IsCaller k v) × AreNumbered k (n + 1) vs

-- What the callers of a row have seen is what `seen` says.
abbrev pub Agree : (ℕ → List Entry) → List CallerSeen → Type 0
Agree seen vs = AllByRecursion (λ (v : CallerSeen). seen v.process ≡ v.seat.seen) vs

-- The caller has not been used.
abbrev pub IsFresh : CallerSeen → Type 0
IsFresh v = v.seat.seen ≡ []

-- None of these callers has seen an entry.
abbrev pub AreFresh : List CallerSeen → Type 0
AreFresh vs = AllByRecursion IsFresh vs

-- The lines were made up to one of a call that takes memory, whose turn it was.
pub record StopsForMemory (lines : List PlanLine) (entries : List Entry) : Type 0 where
  pub made : List PlanLine
  pub line : PlanLine
  pub left : List PlanLine
  pub whole : made ++ line ∷ left ≡ lines
  pub spelled : Spell made entries
  pub takes : LineTakesMemory line.act

-- The caller's block was begun and is over: it made a front of its lines, and where `whole`, all of them.
pub record IsOver (seen : ℕ → List Entry) (whole : Bool) (lines : List PlanLine) (v : CallerSeen) : Type 0 where
  pub made : List PlanLine
  pub left : List PlanLine
  pub front : made ++ left ≡ own_of v.process lines
  pub all : whole ≡ true → left ≡ []
  pub run : HasRun seen v.process v.seat.seen made

-- The caller's block was never begun; or it was born, and is over.
abbrev pub MayBeOver : (ℕ → List Entry) → Bool → List PlanLine → CallerSeen → Type 0
MayBeOver seen whole lines v = IsFresh v ⊎ (IsOver seen whole lines v × (list_any (is_birth v.process) v.seat.seen ≡ true))

-- Each of these blocks never began, or is over.
abbrev pub AreOver : (ℕ → List Entry) → Bool → List PlanLine → List CallerSeen → Type 0
AreOver seen whole lines vs = AllByRecursion (MayBeOver seen whole lines) vs

-- S begins with all that these callers have seen.
abbrev pub AreMet : List Entry → List CallerSeen → Type 0
AreMet S vs = AllByRecursion (λ (v : CallerSeen). IsPrefix v.seat.seen S) vs

-- The block of the first caller is over, and so are those of the others, which are its descendants; it has met them all.
abbrev pub RowIsOver : (ℕ → List Entry) → Bool → List PlanLine → List CallerSeen → Type 0
RowIsOver seen whole lines [] = ⊥
RowIsOver seen whole lines (v ∷ vs) = IsOver seen whole lines v × AreOver seen whole lines vs × AreMet v.seat.seen vs

-- The first callers have seen no less.
abbrev pub FirstSeesMore : List CallerSeen → List CallerSeen → Type 0
FirstSeesMore (v ∷ vs) (w ∷ ws) = (w.process ≡ v.process) × IsPrefix v.seat.seen w.seat.seen
FirstSeesMore vs ws = ⊥

-- How a block ended, with those of its descendants that were born.
pub record BlockEnds (k : KernelSeen) (whole : Bool) (lines : List PlanLine) (old new : List CallerSeen) : Type 0 where
  pub numbered : (n : ℕ) → AreNumbered k n old → AreNumbered k n new
  pub counted : length new ≡ length old
  pub first : FirstSeesMore old new
  pub over : (seen : ℕ → List Entry) → Agree seen new → RowIsOver seen whole lines new

-- A block may be run: the row has its caller, which made no entry, and those of its descendants, which weren't used; and it may make its lines.
pub record IsBlockReady (k : KernelSeen) (lines : List PlanLine) (row : List CallerSeen) : Type 0 where
  pub first : CallerSeen
  pub rest : List CallerSeen
  pub is : row ≡ first ∷ rest
  pub caller : IsCaller k first
  pub numbered : AreNumbered k (first.process + 1) rest
  pub fresh : AreFresh rest
  pub none : entries_of first.seat.seen first.process ≡ []
  pub block : IsProcessBlock (tree k) first.process (first.process + 1) lines (first.process + 1 + length rest)
  pub few : first.process + 1 + length rest < 2 ^ 32
  pub fit : AreFit k lines
  pub may : MayMakeLines k first.process first.seat.seen (first.process + 1) lines

-- A block may go on with these lines: the row has the callers of the blocks that it may fork, from the number `next` on.
pub record IsOnWay (k : KernelSeen) (lines : List PlanLine) (v : CallerSeen) (row : List CallerSeen) (next : ℕ) : Type 0 where
  pub caller : IsCaller k v
  pub numbered : AreNumbered k next row
  pub fresh : AreFresh row
  pub block : IsProcessBlock (tree k) v.process next lines (next + length row)
  pub few : next + length row < 2 ^ 32
  pub below : v.process < next
  pub fit : AreFit k lines
  pub may : MayMakeLines k v.process v.seat.seen next lines

-- What a stretch of lines did: it made lines, and all the blocks that it forked are over and met.
pub record Stretches (seen : ℕ → List Entry) (whole : Bool) (p : ℕ) (S T : List Entry) (lines left : List PlanLine) (ran : List CallerSeen) : Type 0 where
  pub made : List PlanLine
  pub front : made ++ own_of p left ≡ own_of p lines
  pub runs : RunsOn seen p S T made
  pub over : AreOver seen whole lines ran
  pub met : AreMet T ran

-- How a stretch ended: the row's first callers were those of blocks that it forked or wasn't let fork, the others are unused.
pub record StretchEnds (k : KernelSeen) (whole : Bool) (v w : CallerSeen) (lines left : List PlanLine) (old new : List CallerSeen) (next after : ℕ) : Type 0 where
  pub process : w.process ≡ v.process
  pub begun : IsPrefix v.seat.seen w.seat.seen
  pub ran : List CallerSeen
  pub idle : List CallerSeen
  pub row : new ≡ ran ++ idle
  pub caller : IsCaller k w
  pub counted : length new ≡ length old
  pub numbered : AreNumbered k next new
  pub count : next + length ran ≡ after
  pub fresh : AreFresh idle
  pub fit : AreFit k left
  pub stands : whole ≡ true → StandsAt (tree k) v.process after left (next + length new)
  pub may : whole ≡ true → MayGo k w.process w.seat.seen after left
  pub shorter : length left ≤ length lines
  pub others : (q : ℕ) → after ≤ q → own_of q left ≡ own_of q lines
  pub did : (seen : ℕ → List Entry) → Agree seen ran → Stretches seen whole v.process v.seat.seen w.seat.seen lines left ran

-- Where a stretch that isn't stopped ends: at a wait, or behind the block's last line.
abbrev pub EndsAtWait : List PlanLine → Type 0
EndsAtWait [] = Unit {0}
EndsAtWait (l ∷ lines) = l.act ≡ act.Wait

-- What a stretch answers: it passed so many of the lines, and those behind them are left.
pub record IsStretch (k : KernelSeen) (s : Stretch) (v w : CallerSeen) (lines : List PlanLine) (old new : List CallerSeen) (next : ℕ) : Type 0 where
  pub ends : StretchEnds k s.whole v w lines (drop s.passed lines) old new next s.next
  pub wait : s.whole ≡ true → EndsAtWait (drop s.passed lines)
  pub passed : s.passed ≤ length lines

-- A child was born: its caller has seen its birth, and made no entry. The lines of its block and those behind it.
pub record IsChildBorn (k : KernelSeen) (inside others : List PlanLine) (v : CallerSeen) (row : List CallerSeen) (next after : ℕ) : Type 0 where
  pub child : CallerSeen
  pub rest : List CallerSeen
  pub is : row ≡ child ∷ rest
  pub caller : IsCaller k v
  pub numbered : AreNumbered k next row
  pub fresh : AreFresh rest
  pub none : entries_of child.seat.seen child.process ≡ []
  pub born : list_any (is_birth child.process) child.seat.seen ≡ true
  pub inside_is : IsProcessBlock (tree k) next (next + 1) inside after
  pub others_are : IsProcessBlock (tree k) v.process after others (next + length row)
  pub few : next + length row < 2 ^ 32
  pub below : v.process < next
  pub inside_fit : AreFit k inside
  pub others_fit : AreFit k others
  pub child_may : MayMakeLines k child.process child.seat.seen (child.process + 1) inside
  pub may : MayMakeLines k v.process v.seat.seen after others

-- A child's block and its parent's stretch are over, and have met.
pub record HaveMet (k : KernelSeen) (whole : Bool) (v w : CallerSeen) (inside others left : List PlanLine) (old new : List CallerSeen) (next after : ℕ) : Type 0 where
  pub ends : StretchEnds k whole v w (inside ++ others) left old new next after
  pub child : (seen : ℕ → List Entry) → Agree seen ends.ran → IsPrefix (seen next) w.seat.seen × (list_any (is_birth next) (seen next) ≡ true)

-- A stretch went on beside the blocks that were begun, both ended, and it met those it waits for.
pub record BothEnd (k : KernelSeen) (s : Stretch) (v w : CallerSeen) (inside others : List PlanLine) (old new : List CallerSeen) (next : ℕ) : Type 0 where
  pub met : HaveMet k s.whole v w inside others (drop s.passed others) old new next s.next
  pub wait : s.whole ≡ true → EndsAtWait (drop s.passed others)
  pub passed : s.passed ≤ length others

-- The caller made a line.
pub record MakesLine (v w : CallerSeen) (l : PlanLine) : Type 0 where
  pub es : List Entry
  pub more : SeesMore v w es
  pub own : Spell (l ∷ []) es
  pub bears : (c : ℕ) → list_any (is_birth c) es ≡ false

-- The process is a child's, by the plan.
abbrev pub HasForker : List ℕ → ℕ → Type 0
HasForker parents p = (r : ℕ) × (parent_of parents p ≡ Some (suc r))

-- A caller when all blocks are over: its block was never begun, and is no top block; or it was, as a top block or born, and is over.
abbrev pub IsClosing : List ℕ → (ℕ → List Entry) → Bool → List PlanLine → CallerSeen → Type 0
IsClosing parents seen whole lines v =
    (IsFresh v × HasForker parents v.process)
    ⊎ (IsOver seen whole lines v × ((parent_of parents v.process ≡ Some 0) ⊎ (list_any (is_birth v.process) v.seat.seen ≡ true)))

-- Top blocks may be run: the row has all callers, which weren't used, and each may make its lines.
pub record AreBlocksReady (k : KernelSeen) (lines : List PlanLine) (row : List CallerSeen) (next : ℕ) : Type 0 where
  pub numbered : AreNumbered k next row
  pub fresh : AreFresh row
  pub blocks : AreProcessBlocks (tree k) next lines (next + length row)
  pub few : next + length row < 2 ^ 32
  pub some : 1 ≤ next
  pub fit : AreFit k lines

-- How all blocks ended.
pub record AllEnd (k : KernelSeen) (whole : Bool) (lines : List PlanLine) (old new : List CallerSeen) : Type 0 where
  pub numbered : (n : ℕ) → AreNumbered k n old → AreNumbered k n new
  pub counted : length new ≡ length old
  pub closing : (seen : ℕ → List Entry) → Agree seen new → AllByRecursion (IsClosing (tree k) seen whole lines) new
