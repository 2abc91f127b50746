-- The sections that are still to come, piece by piece.
use Rattle.std.proofs.Common.{◌≡◌, ◌∙◌, ℕ, suc, ◌<◌, ◌≤◌, ◌+◌, ◌-◌, Bool, true, false, cond, refl, List, [], ◌∷◌, ◌++◌, Bor, length, map, sym, ap, ap₂, subst, get_or, append_assoc, append-nil, arith, ⊎_elim}
use Rattle.std.specs.Prelude.{if◌then◌else◌, codes, decimal, All, slice_index_or}
use Rattle.std.proofs.lemmas.Bool.{cases_lt, false≢true}
use Rattle.std.proofs.lemmas.List.{drop_all, get_or-map, get_or_read, length-map}
use Rattle.vm_script.specs.vm_types.WellFormed.{IsWellFormed}
use Rattle.vm_script.specs.vm_types.declared.call.Entry.{Entry}
use Rattle.vm_script.specs.flat_model.Told.{entries_of}
use Rattle.vm_script.specs.declared.plan.PlanLine.{PlanLine}
use Rattle.vm_script.specs.PlanSeen.{PlanSeen}
use Rattle.vm_script.specs.Told.{own_lines, is_born}
use Rattle.vm_report.specs.PiecesInside.{AreSorted, IsSectionPlace, left_of, lines_left, sections_left, pieces_from, text_from}
use Rattle.vm_report.specs.Report.{lines_text, process_section, section_heading, section_text, sections_from}
use Rattle.vm_report.specs.Runs.{entries_left, runs_seen}
use Rattle.vm_report.specs.declared.cursors.Cursor.{Cursor}
use Rattle.vm_report.specs.declared.runs.Run.{Run}
use Rattle.vm_report.proofs.Blocks.{group_is, own_few, own_well_formed}

pub below_last : (p n : ℕ) → p ≤ n → (p ≡ n → ⊥) → p < n
below_last p n le other = ⊎_elim (λ lt. lt) (λ ge. absurd (other (omega (arith, le, ge)))) (cases_lt p n)

pub begin_within : (born : Bool) (n begin : ℕ) → begin ≡ (if born then 0 else n) → begin ≤ n
begin_within true n begin is = omega (arith, is)
begin_within false n begin is = omega (arith, is)

-- a piece was added, or there was none
pub piece_less : (before more : Bool) (new old : ℕ) → before ≡ true → (more ≡ true → new < old) → cond more (new + 1) 0 < cond before (old + 1) 0
piece_less true true new old was fewer = let less = fewer refl in omega (arith, less)
piece_less true false new old was fewer = omega arith
piece_less false more new old was fewer = absurd (false≢true was)

-- borrowed lines, and the lines
pub seen_count : (ls : List (Bor PlanLine)) (own : List PlanLine) → map (λ (l : Bor PlanLine). l.now) ls ≡ own → length ls ≡ length own
seen_count ls own are = sym (length-map ls (λ (l : Bor PlanLine). l.now)) ∙ ap (λ (xs : List PlanLine). length xs) are

-- no line of the block is left
pub none_left : (ls : List PlanLine) (line : ℕ) (left : List Entry) → length ls ≤ line → text_from ls line left ≡ []
none_left ls line left past = ap (λ (rest : List PlanLine). lines_text rest left) (drop_all line ls past)

-- what holds of a front of two texts holds with the same rest behind them
pub behind_both : (a b c d rest : List ℕ) → a ++ b ≡ c ++ d → a ++ (b ++ rest) ≡ c ++ (d ++ rest)
behind_both a b c d rest same = sym (append_assoc a b rest) ∙ (ap (λ (t : List ℕ). t ++ rest) same ∙ append_assoc c d rest)

-- a section is its heading, and the lines where the process was born
pub section_begins : (p : ℕ) (born : Bool) (ls : List PlanLine) (es : List Entry) → section_text p born ls es ≡ section_heading p born ++ (if born then lines_text ls es else [])
section_begins p true ls es = sym (append_assoc (codes "process " ++ decimal p) (10 ∷ []) (lines_text ls es))
section_begins p false ls es = sym (append-nil (section_heading p false))

block_text : (born : Bool) (ls : List PlanLine) (es : List Entry) (line : ℕ) → line ≡ (if born then 0 else length ls) → text_from ls line es ≡ (if born then lines_text ls es else [])
block_text true ls es line is = ap (λ (k : ℕ). text_from ls k es) is
block_text false ls es line is = none_left ls line es (omega (arith, is))

module _ (plan : PlanSeen) (H : List Entry) where
  module _ (p line next : ℕ) (left : List Entry) (born : Bool) (below : p < length plan.parents) (past : length (own_lines plan p) ≤ line) (is : born ≡ is_born plan H (p + 1)) (begins : next ≡ (if born then 0 else length (own_lines plan (p + 1)))) where
    more : length plan.parents - p ≡ suc (length plan.parents - (p + 1))
    more = omega (arith, below)

    section : process_section plan (p + 1) H ≡ section_heading (p + 1) born ++ text_from (own_lines plan (p + 1)) next (entries_of H (p + 1))
    section =
        ap (λ (b : Bool). section_text (p + 1) b (own_lines plan (p + 1)) (entries_of H (p + 1))) (sym is)
        ∙ (section_begins (p + 1) born (own_lines plan (p + 1)) (entries_of H (p + 1))
        ∙ ap (λ (t : List ℕ). section_heading (p + 1) born ++ t) (sym (block_text born (own_lines plan (p + 1)) (entries_of H (p + 1)) next begins)))

    -- the heading of the next section was added
    pub next_left : (out : List ℕ) → (out ++ section_heading (p + 1) born) ++ (sections_left plan H (p + 1) next (entries_of H (p + 1))).text ≡ out ++ (sections_left plan H p line left).text
    next_left out =
        let block = text_from (own_lines plan (p + 1)) next (entries_of H (p + 1)) in
        let rest = sections_from plan H (length plan.parents - (p + 1)) (p + 1 + 1) in
        let opened : (sections_left plan H p line left).text ≡ process_section plan (p + 1) H ++ rest =
        ap₂ (λ (t : List ℕ) (n : ℕ). t ++ sections_from plan H n (p + 1)) (none_left (own_lines plan p) line left past) more in
        append_assoc out (section_heading (p + 1) born) (block ++ rest)
        ∙ ap (λ (t : List ℕ). out ++ t)
        (sym (append_assoc (section_heading (p + 1) born) block rest) ∙ (ap (λ (t : List ℕ). t ++ rest) (sym section) ∙ sym opened))

    pub next_fewer : (sections_left plan H (p + 1) next (entries_of H (p + 1))).pieces < (sections_left plan H p line left).pieces
    next_fewer =
        let count : pieces_from plan (length plan.parents - p) (p + 1) ≡ suc (length (own_lines plan (p + 1)) + pieces_from plan (length plan.parents - (p + 1)) (p + 1 + 1)) =
        ap (λ (n : ℕ). pieces_from plan n (p + 1)) more in
        omega (arith, count)

-- the lines of process p, as its group has them
pub lines_of_process : (plan : PlanSeen) (H : List Entry) (births : List Bool) (lines : List (List PlanLine)) (entries : List (List Run)) → AreSorted plan H births lines entries → (p : ℕ) → p ≤ length plan.parents
    → (ls : List (Bor PlanLine)) (group : List PlanLine) → map (λ (l : Bor PlanLine). l.now) ls ≡ group → group ≡ get_or lines p group → map (λ (l : Bor PlanLine). l.now) ls ≡ own_lines plan p
lines_of_process plan H births lines entries sorted p known ls group is at =
    let count = sorted.lines_count in
    group_is (λ (l : Bor PlanLine). l.now) lines p ls group (own_lines plan p) is at (omega (arith, count, known)) (sorted.lines_of p (omega (arith, known)))

-- A PLACE in the section of process p, whose runs these are.
module _ (plan : PlanSeen) (H : List Entry) (births : List Bool) (lines : List (List PlanLine)) (entries : List (List Run)) (sorted : AreSorted plan H births lines entries) (p : ℕ) (known : p ≤ length plan.parents) (runs : List Run) (at : runs ≡ get_or entries p runs) where
  group : p < length entries
  group = let count = sorted.entries_count in omega (arith, count, known)

  are : runs ≡ slice_index_or entries p []
  are = get_or_read entries p runs group at []

  -- what is left, by the process's number
  pub by_number : (place : Cursor) → entries_left H runs place ≡ left_of H entries p place
  by_number place = ap (λ (rs : List Run). entries_left H rs place) are

  seen : runs_seen H runs ≡ entries_of H p
  seen = ap (runs_seen H) at ∙ (sym (get_or-map (runs_seen H) entries p runs [] group) ∙ sorted.entries_of p (omega (arith, known)))

  -- the first place
  module _ (place : Cursor) (first : entries_left H runs place ≡ runs_seen H runs) where
    pub first_left : left_of H entries p place ≡ entries_of H p
    first_left = sym (by_number place) ∙ (first ∙ seen)

    pub first_place : (line : ℕ) → line ≤ length (own_lines plan p) → (place.front ≡ [] → entries_left H runs place ≡ []) → IsSectionPlace plan H entries p line place
    first_place line within whole = record {
      known = known;
      line_within = within;
      few =
          let few = sorted.few in
          let own = own_few H p in
          let same = ap (λ (es : List Entry). length es) first_left in
          omega (arith, few, own, same);
      well_formed = subst (All (λ (e : Entry). IsWellFormed e.call)) (sym first_left) (own_well_formed H p sorted.well_formed);
      whole = λ none. sym (by_number place) ∙ whole none;
    }

  -- lines of the block were added
  module _ (ls : List (Bor PlanLine)) (own : map (λ (l : Bor PlanLine). l.now) ls ≡ own_lines plan p) where
    shown : (line : ℕ) (place : Cursor) → lines_left ls line (entries_left H runs place) ≡ text_from (own_lines plan p) line (left_of H entries p place)
    shown line place = ap₂ (λ (xs : List PlanLine) (es : List Entry). text_from xs line es) own (by_number place)

    pub lines_text_on : (out next : List ℕ) (line on : ℕ) (place to : Cursor) → next ++ lines_left ls on (entries_left H runs to) ≡ out ++ lines_left ls line (entries_left H runs place)
        → next ++ (sections_left plan H p on (left_of H entries p to)).text ≡ out ++ (sections_left plan H p line (left_of H entries p place)).text
    lines_text_on out next line on place to same =
        behind_both next (text_from (own_lines plan p) on (left_of H entries p to)) out (text_from (own_lines plan p) line (left_of H entries p place)) (sections_from plan H (length plan.parents - p) (p + 1))
        (ap (λ (t : List ℕ). next ++ t) (sym (shown on to)) ∙ (same ∙ ap (λ (t : List ℕ). out ++ t) (shown line place)))
