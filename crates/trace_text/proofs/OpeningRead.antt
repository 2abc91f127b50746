-- Lines that were read, and what may come next.
use Rattle.std.proofs.Common.{◌≡◌, ℕ, ◌<◌, ◌+◌, ◌-◌, ◌*◌, ◌/◌, ◌==◌, ◌&&◌, Bool, true, false, List, [], ◌∷◌, ◌++◌, length, map, drop, Option, Some, None, refl, sym, subst, ap, ap₂, ◌∙◌}
use Rattle.std.specs.Prelude.{nat_eq, if◌then◌else◌}
use Rattle.std.specs.List.{list_any}
use Rattle.std.proofs.lemmas.Bool.{eq-eqb, ne_eqb}
use Rattle.vm_report.specs.vm_types.WellFormed.{IsNumber}
use Rattle.vm_report.specs.flat_model.Words.{with_bytes}
use Rattle.trace_text.specs.declared.opening.TraceOpening.{TraceOpening}
use Rattle.trace_text.specs.declared.opening_words.FileHead.{FileHead as KeptHead}
use Rattle.trace_text.specs.declared.opening_words.OpeningLine.{OpeningLine}
use Rattle.trace_text.specs.declared.opening_words.OpeningLine.TheVariants as kept
use Rattle.trace_text.specs.declared.so_far.OpeningSoFar.{OpeningSoFar}
use Rattle.trace_text.specs.declared.traced_file.TracedFile.{TracedFile as KeptFile}
use Rattle.trace_text.specs.BadLines.{IsFirstBadLine}
use Rattle.trace_text.specs.Traces.{TracedFile, Trace}
use Rattle.trace_text.specs.LinesRead.{file_with_bytes, untold, tell, HasRead}
use Rattle.trace_text.specs.LineOrder.{LinePlace, AtOpening, AtDisks, AtRoots, InFile, AtEntries, file_at, file_place, place_after, takes_entries, NoneThere}
use Rattle.trace_text.specs.OpeningSeen.{head_seen, least_offset, padded, traced_file_seen, opening_line_seen, place_seen, trace_seen, opening_seen}
use Rattle.trace_text.specs.OpeningTaken.{TakesLine, entries_at}
use Rattle.trace_text.specs.EntryReading.{◌>>=◌}
use Rattle.trace_text.specs.TraceLines.{TraceLine, FileHead, Slots, File, trace_line_text, IsTraceLine, IsOpeningLine, fed_lines}
use Rattle.trace_text.proofs.FirstBad.{none_read, read_more, bad_next, left_is}
use Rattle.trace_text.proofs.LineTexts.{opens}
use Rattle.trace_text.proofs.Padded.{any_number}

pub seen_opens : (l : OpeningLine) → IsOpeningLine (opening_line_seen l)
seen_opens (kept.Slots n) = tt
seen_opens (kept.Disk d n) = tt
seen_opens (kept.Root p) = tt
seen_opens (kept.File x) = tt
seen_opens (kept.Piece offset bytes) = tt
seen_opens (kept.Entries n) = tt

-- a line that isn't the first
pub not_first : (l : OpeningLine) → ((n : ℕ) → l ≡ kept.Slots n → ⊥) → place_after AtOpening (opening_line_seen l) ≡ None
not_first (kept.Slots n) not = absurd (not n refl)
not_first (kept.Disk d n) not = refl
not_first (kept.Root p) not = refl
not_first (kept.File x) not = refl
not_first (kept.Piece offset bytes) not = refl
not_first (kept.Entries n) not = refl

-- where a text is no line of the opening part, none may come before the entries
pub no_line_there : (s : LinePlace) (line : List ℕ) → takes_entries s ≡ false → ((l : TraceLine) → IsTraceLine l → IsOpeningLine l → ¬ (line ≡ trace_line_text l))
    → NoneThere s line
no_line_there s line is none = λ l t may step same. none l may (opens s t l is step) same

-- a file with a piece more
file_made : KeptHead → List ℕ → TracedFile
file_made h bytes = record { name = h.name.items; writable = h.writable; disk = h.disk; extents = h.extents.items; bytes = bytes }

pub piece_seen : (f g : KeptFile) (offset : ℕ) (bytes : List ℕ) → g.head ≡ f.head
    → padded g.head.len g.bytes.items ≡ with_bytes (padded f.head.len f.bytes.items) offset bytes → traced_file_seen g ≡ file_with_bytes offset bytes (traced_file_seen f)
unfolding file_made
piece_seen f g offset bytes head same = ap₂ (λ (h : KeptHead) (b : List ℕ). file_made h b) head same

-- what was read, by another name
read_as : (text left : List ℕ) (t u : Trace) (s w : LinePlace) (n : ℕ) → HasRead text left t s n → u ≡ t → w ≡ s → HasRead text left u w n
read_as text left t u s w n h same there =
    subst (λ (x : Trace). HasRead text left x w n) (sym same) (subst (λ (p : LinePlace). HasRead text left t p n) (sym there) h)

-- the first line
pub first_line_read : (text line rest : List ℕ) (slots : ℕ) (so_far : OpeningSoFar) → text ≡ line ++ rest → IsNumber slots → line ≡ trace_line_text (Slots slots)
    → place_seen so_far ≡ AtDisks 0 [] → trace_seen so_far ≡ tell untold (Slots slots) → HasRead text rest (trace_seen so_far) (place_seen so_far) 1
first_line_read text line rest slots so_far cut may is place trace =
    let read = read_more text text rest untold AtOpening (AtDisks 0 []) 0 (Slots slots) (none_read text) may refl (cut ∙ ap (λ x. x ++ rest) is) in
    read_as text rest (tell untold (Slots slots)) (trace_seen so_far) (AtDisks 0 []) (place_seen so_far) 1 read trace place

pub first_line_bad : (text line rest : List ℕ) → (0 < length text → fed_lines text ≡ line ∷ fed_lines rest) → NoneThere AtOpening line → IsFirstBadLine text 1
first_line_bad text line rest fed none =
    bad_next text text rest line untold AtOpening 0 (none_read text) (λ (is : AtOpening ≡ AtEntries 0). absurd cc) fed none

-- a line more
pub next_line_read : (text left line rest : List ℕ) (old new : OpeningSoFar) (n : ℕ) → HasRead text left (trace_seen old) (place_seen old) n → TakesLine line old new
    → left ≡ line ++ rest → HasRead text rest (trace_seen new) (place_seen new) (n + 1)
next_line_read text left line rest old new n h k cut =
    let read = read_more text left rest (trace_seen old) (place_seen old) (place_seen new) n k.told h k.may k.place (cut ∙ ap (λ x. x ++ rest) k.text) in
    read_as text rest (tell (trace_seen old) k.told) (trace_seen new) (place_seen new) (place_seen new) (n + 1) read k.trace refl

before_entries : (s : LinePlace) → entries_at s ≡ None → takes_entries s ≡ false
before_entries AtOpening none = refl
before_entries (AtDisks least numbers) none = refl
before_entries (AtRoots least numbers) none = refl
before_entries (InFile numbers files len least) none = refl
before_entries (AtEntries n) none = absurd cc

pub next_line_bad : (text left line rest : List ℕ) (so_far : OpeningSoFar) (n : ℕ) → HasRead text left (trace_seen so_far) (place_seen so_far) n
    → entries_at (place_seen so_far) ≡ None → (0 < length left → fed_lines left ≡ line ∷ fed_lines rest)
    → (takes_entries (place_seen so_far) ≡ false → NoneThere (place_seen so_far) line) → IsFirstBadLine text (n + 1)
next_line_bad text left line rest so_far n h before fed none =
    let early : place_seen so_far ≡ AtEntries 0 → ⊥ = λ is. let both : ◌≡◌ {A = Option ℕ} (Some 0) None = sym (ap entries_at is) ∙ before in absurd cc in
    bad_next text left rest line (trace_seen so_far) (place_seen so_far) n h early fed (none (before_entries (place_seen so_far) before))

-- the number of entries
pub opening_read : (text left : List ℕ) (so_far : OpeningSoFar) (o : TraceOpening) (n : ℕ) → HasRead text left (trace_seen so_far) (place_seen so_far) n
    → opening_seen o ≡ trace_seen so_far → place_seen so_far ≡ AtEntries o.entries → o.lines ≡ n → o.length ≡ length text - length left
    → HasRead text (drop o.length text) (opening_seen o) (AtEntries o.entries) o.lines
opening_read text left so_far o n h trace place lines size =
    let behind : drop o.length text ≡ left = ap (λ k. drop k text) size ∙ left_is text left (trace_seen so_far) (place_seen so_far) n h in
    let read = read_as text left (trace_seen so_far) (opening_seen o) (place_seen so_far) (AtEntries o.entries) n h trace (sym place) in
    subst (λ (x : List ℕ). HasRead text x (opening_seen o) (AtEntries o.entries) o.lines) (sym behind)
    (subst (λ (k : ℕ). HasRead text left (opening_seen o) (AtEntries o.entries) k) (sym lines) read)

-- a file's line, where a file may stand
pub file_refused : (s : LinePlace) (x : FileHead) (numbers : List ℕ) (n : ℕ) → Some (numbers, n) ≡ file_place s
    → ((x.file == n) && list_any (nat_eq x.disk) numbers) ≡ false → place_after s (File x) ≡ None
file_refused s x numbers n at not =
    ap (λ (o : Option (List ℕ × ℕ)). o >>= file_at x) (sym at) ∙ ap (λ (b : Bool). if b then Some (InFile numbers (n + 1) x.len 0) else None) not

pub file_accepted : (s : LinePlace) (h : KeptHead) (numbers : List ℕ) (n : ℕ) (f : KeptFile) → Some (numbers, n) ≡ file_place s
    → ((h.file == n) && list_any (nat_eq h.disk) numbers) ≡ true → f.head ≡ h → f.bytes.items ≡ []
    → Some (InFile numbers (n + 1) f.head.len (least_offset f)) ≡ place_after s (File (head_seen h))
file_accepted s h numbers n f at both head none =
    ap₂ (λ (k : KeptHead) (bs : List ℕ). Some (InFile numbers (n + 1) k.len ((length bs + 31) / 32 * 32))) head none
    ∙ sym (
    ap (λ (o : Option (List ℕ × ℕ)). o >>= file_at (head_seen h)) (sym at) ∙ ap (λ (b : Bool). if b then Some (InFile numbers (n + 1) h.len 0) else None) both)

pub no_number : (file n disk : ℕ) (disks : List (ℕ × ℕ)) → (file ≡ n → ⊥) → ((file == n) && list_any (nat_eq disk) (map (λ d. d.0) disks)) ≡ false
no_number file n disk disks apart = ap (λ b. b && list_any (nat_eq disk) (map (λ d. d.0) disks)) (ne_eqb file n apart)

pub no_disk : (file n disk : ℕ) (disks : List (ℕ × ℕ)) → list_any (λ d. nat_eq disk d.0) disks ≡ false
    → ((file == n) && list_any (nat_eq disk) (map (λ d. d.0) disks)) ≡ false
no_disk file n disk disks none = and_false (file == n) (list_any (nat_eq disk) (map (λ d. d.0) disks)) (any_number disk disks ∙ none)
  where
    and_false : (a b : Bool) → b ≡ false → (a && b) ≡ false
    and_false true b is = is
    and_false false b is = refl

pub both_there : (file n disk : ℕ) (disks : List (ℕ × ℕ)) → file ≡ n → list_any (λ d. nat_eq disk d.0) disks ≡ true
    → ((file == n) && list_any (nat_eq disk) (map (λ d. d.0) disks)) ≡ true
both_there file n disk disks is some = ap (λ b. b && list_any (nat_eq disk) (map (λ d. d.0) disks)) (eq-eqb file n is) ∙ (any_number disk disks ∙ some)
