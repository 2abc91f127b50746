-- A line's text tells the line where it stands.
use Rattle.std.proofs.Common.{◌≡◌, ℕ, false, List, [], ◌∷◌, ◌++◌, map, Option, Some, None, refl, sym, subst, ap, ◌∙◌}
use Rattle.std.specs.Prelude.{All}
use Rattle.std.proofs.lemmas.Bool.{false≢true}
use Rattle.std.proofs.lemmas.List.Elements.{All-head, All-tail}
use Rattle.vm_report.specs.vm_types.declared.call.Entry.{Entry}
use Rattle.trace_text.specs.EntryForm.{IsTracedEntry}
use Rattle.trace_text.specs.EntryReading.{◌>>=◌}
use Rattle.trace_text.specs.TraceLines.{TraceLine, Slots, Disk, Root, File, Piece, Entries, Act, trace_line_text, IsTraceLine, IsOpeningLine}
use Rattle.trace_text.specs.LineOrder.{LinePlace, AtOpening, AtDisks, AtRoots, InFile, AtEntries, place_after, place_after_all, takes_entries, NoneThere}
use Rattle.trace_text.proofs.EntriesAgain.{one_entry}
use Rattle.trace_text.proofs.OpeningAgain.{one_opening_line}

-- before the entries only lines of the opening part may stand, and behind their number only entries
no_entry_yet : (s : LinePlace) (e : Entry) (t : LinePlace) → takes_entries s ≡ false → ¬ (place_after s (Act e) ≡ Some t)
no_entry_yet AtOpening e t is so = cc
no_entry_yet (AtDisks least disks) e t is so = cc
no_entry_yet (AtRoots least disks) e t is so = cc
no_entry_yet (InFile disks files len least) e t is so = cc
no_entry_yet (AtEntries n) e t is so = false≢true (sym is)

pub opens : (s t : LinePlace) (l : TraceLine) → takes_entries s ≡ false → place_after s l ≡ Some t → IsOpeningLine l
opens s t (Act e) is so = absurd (no_entry_yet s e t is so)
opens s t (Slots n) is so = tt
opens s t (Disk d) is so = tt
opens s t (Root p) is so = tt
opens s t (File x) is so = tt
opens s t (Piece offset bytes) is so = tt
opens s t (Entries n) is so = tt

pub acts : (n : ℕ) (t : LinePlace) (l : TraceLine) → place_after (AtEntries n) l ≡ Some t → (e : Entry) × (l ≡ Act e)
acts n t (Act e) so = (e, refl)
acts n t (Slots m) so = absurd cc
acts n t (Disk d) so = absurd cc
acts n t (Root p) so = absurd cc
acts n t (File x) so = absurd cc
acts n t (Piece offset bytes) so = absurd cc
acts n t (Entries m) so = absurd cc

one_act : (l m : TraceLine) (d e : Entry) → l ≡ Act d → m ≡ Act e → IsTraceLine l → IsTraceLine m → trace_line_text l ≡ trace_line_text m → l ≡ m
one_act l m d e is_l is_m g h same =
    let first : IsTracedEntry d = subst IsTraceLine is_l g in
    let second : IsTracedEntry e = subst IsTraceLine is_m h in
    let texts = ap trace_line_text (sym is_l) ∙ (same ∙ ap trace_line_text is_m) in
    is_l ∙ (ap Act (one_entry d e first second texts) ∙ sym is_m)

-- a text is that of one line alone, where it stands
one_line_there : (s a b : LinePlace) (l m : TraceLine) → place_after s l ≡ Some a → place_after s m ≡ Some b → IsTraceLine l → IsTraceLine m
    → trace_line_text l ≡ trace_line_text m → l ≡ m
one_line_there (AtEntries n) a b l m so too g h same =
    let first = acts n a l so in
    let second = acts n b m too in
    one_act l m first.0 second.0 first.1 second.1 g h same
one_line_there AtOpening a b l m so too g h same = one_opening_line l m g h (opens AtOpening a l refl so) (opens AtOpening b m refl too) same
one_line_there (AtDisks least disks) a b l m so too g h same =
    one_opening_line l m g h (opens (AtDisks least disks) a l refl so) (opens (AtDisks least disks) b m refl too) same
one_line_there (AtRoots least disks) a b l m so too g h same =
    one_opening_line l m g h (opens (AtRoots least disks) a l refl so) (opens (AtRoots least disks) b m refl too) same
one_line_there (InFile disks files len least) a b l m so too g h same =
    one_opening_line l m g h (opens (InFile disks files len least) a l refl so) (opens (InFile disks files len least) b m refl too) same

-- a run's first step
record FirstStep (s : LinePlace) (l : TraceLine) (ls : List TraceLine) (z : LinePlace) : Type 0 where
  next : LinePlace
  step : place_after s l ≡ Some next
  rest : place_after_all next ls ≡ Some z

step_of : (o : Option LinePlace) (s : LinePlace) (l : TraceLine) (ls : List TraceLine) (z : LinePlace) → place_after s l ≡ o
    → (o >>= λ t. place_after_all t ls) ≡ Some z → FirstStep s l ls z
step_of None s l ls z is run = absurd cc
step_of (Some t) s l ls z is run = record { next = t; step = is; rest = run }

first_step : (s : LinePlace) (l : TraceLine) (ls : List TraceLine) (z : LinePlace) → place_after_all s (l ∷ ls) ≡ Some z → FirstStep s l ls z
first_step s l ls z run = step_of (place_after s l) s l ls z refl run

-- two runs over the same texts are over the same lines
pub same_lines : (ls ms : List TraceLine) (from s z : LinePlace) → place_after_all from ls ≡ Some s → All IsTraceLine ls → place_after_all from ms ≡ Some z
    → All IsTraceLine ms → map trace_line_text ls ≡ map trace_line_text ms → ls ≡ ms
same_lines [] [] from s z run all too each same = refl
same_lines [] (m ∷ ms) from s z run all too each same = absurd cc
same_lines (l ∷ ls) [] from s z run all too each same = absurd cc
same_lines (l ∷ ls) (m ∷ ms) from s z run all too each same =
    let a = first_step from l ls s run in
    let b = first_step from m ms z too in
    let texts : trace_line_text l ≡ trace_line_text m = cc in
    let one = one_line_there from a.next b.next l m a.step b.step (All-head IsTraceLine l ls all) (All-head IsTraceLine m ms each) texts in
    let next : a.next ≡ b.next = let both = sym a.step ∙ (ap (place_after from) one ∙ b.step) in cc in
    let run_b : place_after_all b.next ls ≡ Some s = subst (λ (p : LinePlace). place_after_all p ls ≡ Some s) next a.rest in
    let rest : map trace_line_text ls ≡ map trace_line_text ms = cc in
    let behind = same_lines ls ms b.next s z run_b (All-tail IsTraceLine l ls all) b.rest (All-tail IsTraceLine m ms each) rest in
    cc

-- where a line was read that may not stand there, no other line with its text may
pub other_line : (s : LinePlace) (l : TraceLine) (line : List ℕ) → takes_entries s ≡ false → IsTraceLine l → IsOpeningLine l → line ≡ trace_line_text l
    → place_after s l ≡ None → NoneThere s line
other_line s l line is may opening text stop = λ m t told step same.
    let one : m ≡ l = one_opening_line m l told may (opens s t m is step) opening (sym same ∙ text) in
    let both : Some t ≡ None = sym step ∙ (ap (λ (x : TraceLine). place_after s x) one ∙ stop) in
    cc

-- lines behind which no line with this text may stand are not continued by it
pub refused : (ls ms : List TraceLine) (from s z : LinePlace) (line : List ℕ) (more : List (List ℕ)) → place_after_all from ls ≡ Some s → All IsTraceLine ls
    → NoneThere s line → place_after_all from ms ≡ Some z → All IsTraceLine ms → ¬ (map trace_line_text ms ≡ map trace_line_text ls ++ line ∷ more)
refused [] [] from s z line more run all none too each = λ same. cc
refused [] (m ∷ ms) from s z line more run all none too each = λ same.
    let step = first_step from m ms z too in
    let here : from ≡ s = cc in
    let there : place_after s m ≡ Some step.next = subst (λ (p : LinePlace). place_after p m ≡ Some step.next) here step.step in
    let text : line ≡ trace_line_text m = cc in
    none m step.next (All-head IsTraceLine m ms each) there text
refused (l ∷ ls) [] from s z line more run all none too each = λ same. cc
refused (l ∷ ls) (m ∷ ms) from s z line more run all none too each = λ same.
    let a = first_step from l ls s run in
    let b = first_step from m ms z too in
    let texts : trace_line_text l ≡ trace_line_text m = cc in
    let one = one_line_there from a.next b.next l m a.step b.step (All-head IsTraceLine l ls all) (All-head IsTraceLine m ms each) texts in
    let next : a.next ≡ b.next = let both = sym a.step ∙ (ap (place_after from) one ∙ b.step) in cc in
    let rest : map trace_line_text ms ≡ map trace_line_text ls ++ line ∷ more = cc in
    let run_b : place_after_all b.next ls ≡ Some s = subst (λ (p : LinePlace). place_after_all p ls ≡ Some s) next a.rest in
    refused ls ms b.next s z line more run_b (All-tail IsTraceLine l ls all) none b.rest (All-tail IsTraceLine m ms each) rest
