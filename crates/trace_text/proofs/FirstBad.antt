-- What was read of a text, a line more, and the first bad line.
use Rattle.std.proofs.Common.{◌≡◌, ℕ, zero, suc, ◌≤◌, ◌<◌, ◌+◌, ◌-◌, Bool, true, false, List, [], ◌∷◌, ◌++◌, length, map, take, drop, replicate, get_or, Some, None, inl, inr, cond, refl, sym, subst, ap, ap₂, ◌∙◌, append_assoc, append-nil, arith}
use Rattle.std.specs.List.{flat_map, onto_first}
use Rattle.std.proofs.lemmas.Bool.{eq-eqb, ne_eqb}
use Rattle.std.proofs.lemmas.List.{length-append, length-replicate, length-map, length_push, map-append, take_at, drop_at, flat_map_more}
use Rattle.std.proofs.lemmas.List.Elements.{All-push, All-append, All-replicate, All-cons, All-nil, All-same}
use Rattle.vm_report.specs.vm_types.declared.call.Call.TheVariants as call
use Rattle.vm_report.specs.vm_types.declared.call.Reply.TheVariants as reply
use Rattle.vm_report.specs.vm_types.declared.call.Entry.{Entry}
use Rattle.vm_report.specs.vm_script.Lines.{is_feed}
use Rattle.vm_report.specs.Trace.{entry_text}
use Rattle.trace_text.specs.EntryForm.{IsTracedEntry}
use Rattle.trace_text.specs.EntryReading.{◌>>=◌}
use Rattle.trace_text.specs.Traces.{Trace, trace_text}
use Rattle.trace_text.specs.TraceForm.{IsTrace}
use Rattle.trace_text.specs.TraceLines.{TraceLine, Slots, Disk, Root, Entries, Act, trace_line_text, IsTraceLine, fed_lines}
use Rattle.trace_text.specs.LineOrder.{LinePlace, AtOpening, AtDisks, AtRoots, InFile, AtEntries, place_after, place_after_all, NoneThere, files_lines, trace_lines}
use Rattle.trace_text.specs.BadLines.{IsTextOfTrace, BeginTrace, IsFirstBadLine}
use Rattle.trace_text.specs.LinesRead.{untold, tell, IsTold, EntriesTold, opening_lines, lines_told, HasRead}
use Rattle.trace_text.proofs.FedLines.{fed_front, some_bytes, trace_told}
use Rattle.trace_text.proofs.LineRuns.{after_append, trace_run}
use Rattle.trace_text.proofs.LinesTold as may
use Rattle.trace_text.proofs.LineTexts.{acts, refused, same_lines}
use Rattle.trace_text.proofs.LinesTelling.{regrouped, first_trace, told_more}
use Rattle.trace_text.proofs.OneTrace.{lines_of_text}

-- the first line of a text, and what follows it
record FirstFed (text : List ℕ) : Type 0 where
  line : List ℕ
  rest : List ℕ
  cut : text ≡ line ++ rest
  fed : fed_lines text ≡ line ∷ fed_lines rest

fed_first : (fed : Bool) (b : ℕ) (bytes : List ℕ) → is_feed b ≡ fed → (1 ≤ length bytes → FirstFed bytes) → FirstFed (b ∷ bytes)
fed_first true b bytes is more = record {
  line = b ∷ [];
  rest = bytes;
  cut = refl;
  fed = ap (λ t. cond t ((b ∷ []) ∷ fed_lines bytes) (onto_first b (fed_lines bytes))) is;
}
fed_first false b [] is more = record {
  line = b ∷ [];
  rest = [];
  cut = refl;
  fed = ap (λ t. cond t ((b ∷ []) ∷ []) ((b ∷ []) ∷ [])) is;
}
fed_first false b (c ∷ bytes) is more =
    let first = more (omega arith) in
    record {
      line = b ∷ first.line;
      rest = first.rest;
      cut = ap (λ t. b ∷ t) first.cut;
      fed = ap (λ t. cond t ((b ∷ []) ∷ fed_lines (c ∷ bytes)) (onto_first b (fed_lines (c ∷ bytes)))) is ∙ ap (λ t. onto_first b t) first.fed;
    }

first_fed : (text : List ℕ) → 1 ≤ length text → FirstFed text
first_fed [] some = absurd (omega (arith, some))
first_fed (b ∷ bytes) some = fed_first (is_feed b) b bytes refl (λ (more : 1 ≤ length bytes). first_fed bytes more)

one_byte : (fed : Bool) (b : ℕ) → cond fed ((b ∷ []) ∷ []) ((b ∷ []) ∷ []) ≡ (b ∷ []) ∷ []
one_byte true b = refl
one_byte false b = refl

-- a text's first line by its length: no line feed stands before its end
pub cut_fed : (n : ℕ) (text : List ℕ) → n < length text → ((k : ℕ) → k < n → get_or text k 0 ≡ 10 → ⊥) → (suc n < length text → get_or text n 0 ≡ 10)
    → fed_lines text ≡ take (suc n) text ∷ fed_lines (drop (suc n) text)
cut_fed n [] room plain fed = absurd (omega (arith, room))
cut_fed zero (b ∷ []) room plain fed = one_byte (is_feed b) b
cut_fed zero (b ∷ c ∷ bytes) room plain fed =
    let is : is_feed b ≡ true = eq-eqb b 10 (fed (omega arith)) in
    ap (λ t. cond t ((b ∷ []) ∷ fed_lines (c ∷ bytes)) (onto_first b (fed_lines (c ∷ bytes)))) is
cut_fed (suc n) (b ∷ bytes) room plain fed =
    let is : is_feed b ≡ false = ne_eqb b 10 (plain 0 (omega arith)) in
    let more = cut_fed n bytes (omega (arith, room)) (λ (k : ℕ) (less : k < n). plain (suc k) (omega (arith, less))) (λ (less : suc n < length bytes). fed (omega (arith, less))) in
    ap (λ t. cond t ((b ∷ []) ∷ fed_lines bytes) (onto_first b (fed_lines bytes))) is ∙ ap (λ t. onto_first b t) more

-- a trace that goes on from what is told, where these lines may follow
record Whole (t : Trace) (s : LinePlace) : Type 0 where
  whole : Trace
  is : IsTrace whole
  more : List TraceLine
  lines : trace_lines whole ≡ lines_told t s ++ more

opening_first : (t : Trace) → trace_lines t ≡ opening_lines t ++ Entries (length t.history) ∷ map Act t.history
opening_first t =
    ap (λ ls. Slots t.slots ∷ ls)
    (regrouped (map Disk t.disks) (map Root t.roots) (files_lines 0 t.files) (Entries (length t.history) ∷ map Act t.history))

opened_whole : (t : Trace) (s : LinePlace) → lines_told t s ≡ opening_lines t → IsTrace t → Whole t s
opened_whole t s same h = record {
  whole = t;
  is = h;
  more = Entries (length t.history) ∷ map Act t.history;
  lines = opening_first t ∙ ap (λ ls. ls ++ Entries (length t.history) ∷ map Act t.history) (sym same);
}

nothing_done : Entry
nothing_done = record { process = 0; call = call.Exit; reply = reply.Done; cleared = 0 }

done_told : IsTracedEntry nothing_done
unfolding nothing_done
done_told = record { process = omega arith; cleared = omega arith; call = tt; reply = tt }

entries_whole : (t : Trace) (n : ℕ) → EntriesTold t n → Whole t (AtEntries n)
entries_whole t n told =
    let trace = told.trace in
    let count = told.count in
    let more = replicate n nothing_done in
    let size : length (t.history ++ more) ≡ length t.history + n = length-append t.history more ∙ ap (λ k. length t.history + k) (length-replicate n nothing_done) in
    let whole : Trace = record t { history = t.history ++ more } in
    record {
      whole = whole;
      is = record {
        slots = trace.slots;
        rising = trace.rising;
        blocks = trace.blocks;
        roots = trace.roots;
        files = trace.files;
        numbered = trace.numbered;
        entries = All-append IsTracedEntry t.history more trace.entries (All-replicate IsTracedEntry n nothing_done done_told);
        count = omega (arith, size, count);
      };
      more = map Act more;
      lines =
          opening_first whole
          ∙ (ap₂ (λ (k : ℕ) (ls : List TraceLine). opening_lines t ++ Entries k ∷ ls) size (map-append Act t.history more)
          ∙ sym (append_assoc (opening_lines t) (Entries (length t.history + n) ∷ map Act t.history) (map Act more)));
    }

whole_from : (t : Trace) (s : LinePlace) → IsTold t s → Whole t s
whole_from t AtOpening told = record { whole = tell untold (Slots 0); is = first_trace 0 (omega arith); more = Slots 0 ∷ Entries 0 ∷ []; lines = refl }
whole_from t (AtDisks least numbers) told = opened_whole t (AtDisks least numbers) refl told.trace
whole_from t (AtRoots least numbers) told = opened_whole t (AtRoots least numbers) refl told.trace
whole_from t (InFile numbers count len least) told = opened_whole t (InFile numbers count len least) refl told.trace
whole_from t (AtEntries n) told = entries_whole t n told

begins : (t : Trace) (s : LinePlace) → IsTold t s → BeginTrace (map trace_line_text (lines_told t s))
begins t s told =
    let w = whole_from t s told in
    let texts = lines_of_text w.whole w.is ∙ (ap (map trace_line_text) w.lines ∙ map-append trace_line_text (lines_told t s) w.more) in
    (w.whole, w.is, map trace_line_text w.more, texts)

-- nothing is read
pub none_read : (text : List ℕ) → HasRead text text untold AtOpening 0
none_read text = record { front = refl; lines = refl; each = All-nil IsTraceLine; run = refl; told = refl }

-- a line more is read
pub read_more : (text left rest : List ℕ) (t : Trace) (s u : LinePlace) (n : ℕ) (l : TraceLine) → HasRead text left t s n → IsTraceLine l → place_after s l ≡ Some u
    → left ≡ trace_line_text l ++ rest → HasRead text rest (tell t l) u (n + 1)
read_more text left rest t s u n l h may is cut =
    let L = lines_told t s in
    let more = told_more t s u l h.told may is in
    let size = length_push L l in
    let behind : place_after_all s (l ∷ []) ≡ Some u = ap (λ o. o >>= λ p. Some p) is in
    record {
      front =
          h.front ∙ (ap (λ x. flat_map trace_line_text L ++ x) cut
          ∙ (sym (append_assoc (flat_map trace_line_text L) (trace_line_text l) rest)
          ∙ (ap (λ x. x ++ rest) (flat_map_more trace_line_text [] L l)
          ∙ ap (λ ls. flat_map trace_line_text ls ++ rest) (sym more.lines))));
      lines = ap (λ (ls : List TraceLine). length ls) more.lines ∙ (size ∙ ap (λ k. k + 1) h.lines);
      each = All-same IsTraceLine (lines_told (tell t l) u) (L ++ l ∷ []) more.lines (All-push IsTraceLine L l h.each may);
      run =
          ap (λ ls. place_after_all AtOpening ls) more.lines
          ∙ (after_append AtOpening L (l ∷ []) ∙ (ap (λ o. o >>= λ p. place_after_all p (l ∷ [])) h.run ∙ behind));
      told = more.told;
    }

-- an entry more is read
pub entry_read : (text left rest : List ℕ) (t : Trace) (m n : ℕ) (e : Entry) → HasRead text left t (AtEntries (suc m)) n → IsTracedEntry e → left ≡ entry_text e ++ rest
    → HasRead text rest (tell t (Act e)) (AtEntries m) (n + 1)
entry_read text left rest t m n e h may cut = read_more text left rest t (AtEntries (suc m)) (AtEntries m) n (Act e) h may refl cut

-- the text's lines are those that were read and those that are left
texts_of : (text left : List ℕ) (t : Trace) (s : LinePlace) (n : ℕ) → HasRead text left t s n → fed_lines text ≡ map trace_line_text (lines_told t s) ++ fed_lines left
texts_of text left t s n h = ap fed_lines h.front ∙ fed_front (lines_told t s) left h.each

count_of : (text left : List ℕ) (t : Trace) (s : LinePlace) (n : ℕ) → HasRead text left t s n → length (map trace_line_text (lines_told t s)) ≡ n
count_of text left t s n h = length-map (lines_told t s) trace_line_text ∙ h.lines

good_so_far : (text left : List ℕ) (t : Trace) (s : LinePlace) (n : ℕ) → HasRead text left t s n → BeginTrace (take n (fed_lines text))
good_so_far text left t s n h =
    let front = ap (λ ls. take n ls) (texts_of text left t s n h) ∙ take_at (map trace_line_text (lines_told t s)) (fed_lines left) n (count_of text left t s n h) in
    subst (λ (ls : List (List ℕ)). BeginTrace ls) (sym front) (begins t s h.told)

-- the lines that were read with one more that may not follow them begin no trace
not_begun : (text left : List ℕ) (t : Trace) (s : LinePlace) (n : ℕ) (line : List ℕ) → HasRead text left t s n → NoneThere s line
    → ¬ BeginTrace (map trace_line_text (lines_told t s) ++ line ∷ [])
not_begun text left t s n line h none = λ begun.
    let u = begun.0 in
    let is = begun.1 in
    let more = begun.2 in
    let A = map trace_line_text (lines_told t s) in
    let texts = sym (lines_of_text u is) ∙ (begun.3 ∙ append_assoc A (line ∷ []) more) in
    refused (lines_told t s) (trace_lines u) AtOpening s (AtEntries 0) line more h.run h.each none (trace_run u is) (may.lines_told u is) texts

bad_line : (text left rest line : List ℕ) (t : Trace) (s : LinePlace) (n : ℕ) → HasRead text left t s n → fed_lines left ≡ line ∷ fed_lines rest → NoneThere s line
    → IsFirstBadLine text (n + 1)
bad_line text left rest line t s n h fed none =
    let A = map trace_line_text (lines_told t s) in
    let count = count_of text left t s n h in
    let lines = texts_of text left t s n h ∙ ap (λ ls. A ++ ls) fed in
    let size = ap (λ (ls : List (List ℕ)). length ls) lines ∙ length-append A (line ∷ fed_lines rest) in
    let inside : n < length (fed_lines text) = omega (arith, size, count) in
    let pushed = length_push A line in
    let front : take (n + 1) (fed_lines text) ≡ A ++ line ∷ [] =
    ap (λ ls. take (n + 1) ls) (lines ∙ sym (append_assoc A (line ∷ []) (fed_lines rest)))
    ∙ take_at (A ++ line ∷ []) (fed_lines rest) (n + 1) (omega (arith, pushed, count)) in
    let bad : ¬ BeginTrace (take (n + 1) (fed_lines text)) = λ begun. not_begun text left t s n line h none (subst (λ (ls : List (List ℕ)). BeginTrace ls) front begun) in
    (n, refl, record { good = good_so_far text left t s n h; bad = inl (inside, bad) })

ended_early : (text : List ℕ) (t : Trace) (s : LinePlace) (n : ℕ) → HasRead text [] t s n → (s ≡ AtEntries 0 → ⊥) → IsFirstBadLine text (n + 1)
ended_early text t s n h early =
    let L = lines_told t s in
    let lines = texts_of text [] t s n h ∙ append-nil (map trace_line_text L) in
    let all : n ≡ length (fed_lines text) = sym (ap (λ (ls : List (List ℕ)). length ls) lines ∙ count_of text [] t s n h) in
    let bad : ¬ IsTextOfTrace text = λ whole.
    let u = whole.0 in
    let texts = sym lines ∙ (ap fed_lines whole.2 ∙ lines_of_text u whole.1) in
    let same = same_lines L (trace_lines u) AtOpening s (AtEntries 0) h.run h.each (trace_run u whole.1) (may.lines_told u whole.1) texts in
    let both : Some s ≡ Some (AtEntries 0) = sym h.run ∙ (ap (λ ls. place_after_all AtOpening ls) same ∙ trace_run u whole.1) in
    early cc in
    (n, refl, record { good = good_so_far text [] t s n h; bad = inr (all, bad) })

-- the next line isn't one that may stand there
pub bad_next : (text left rest line : List ℕ) (t : Trace) (s : LinePlace) (n : ℕ) → HasRead text left t s n → (s ≡ AtEntries 0 → ⊥)
    → (1 ≤ length left → fed_lines left ≡ line ∷ fed_lines rest) → NoneThere s line → IsFirstBadLine text (n + 1)
bad_next text [] rest line t s n h early fed none = ended_early text t s n h early
bad_next text (b ∷ left) rest line t s n h early fed none = bad_line text (b ∷ left) rest line t s n h (fed (omega arith)) none

-- no entry's line follows where one has to
pub bad_entry : (text left : List ℕ) (t : Trace) (m n : ℕ) → HasRead text left t (AtEntries (suc m)) n
    → ((e : Entry) (rest : List ℕ) → IsTracedEntry e → ¬ (left ≡ entry_text e ++ rest)) → IsFirstBadLine text (n + 1)
bad_entry text [] t m n h none = ended_early text t (AtEntries (suc m)) n h (λ (is : AtEntries (suc m) ≡ AtEntries 0). let same : suc m ≡ 0 = cc in absurd (omega (arith, same)))
bad_entry text (b ∷ left) t m n h none =
    let first = first_fed (b ∷ left) (omega arith) in
    bad_line text (b ∷ left) first.rest first.line t (AtEntries (suc m)) n h first.fed
    (λ (l : TraceLine) (p : LinePlace) (may : IsTraceLine l) (step : place_after (AtEntries (suc m)) l ≡ Some p) (same : first.line ≡ trace_line_text l).
    let act = acts (suc m) p l step in
    let entry : IsTracedEntry act.0 = subst IsTraceLine act.1 may in
    let line : first.line ≡ entry_text act.0 = same ∙ ap trace_line_text act.1 in
    none act.0 first.rest entry (first.cut ∙ ap (λ x. x ++ first.rest) line))

-- a line follows the last entry
pub bad_rest : (text left : List ℕ) (t : Trace) (n : ℕ) → HasRead text left t (AtEntries 0) n → 1 ≤ length left → IsFirstBadLine text (n + 1)
bad_rest text left t n h some =
    let first = first_fed left some in
    bad_line text left first.rest first.line t (AtEntries 0) n h first.fed
    (λ (l : TraceLine) (p : LinePlace) (may : IsTraceLine l) (step : place_after (AtEntries 0) l ≡ Some p) (same : first.line ≡ trace_line_text l).
    let act = acts 0 p l step in
    let none : place_after (AtEntries 0) l ≡ None = ap (λ (x : TraceLine). place_after (AtEntries 0) x) act.1 in
    let both : Some p ≡ None = sym step ∙ none in
    cc)

-- the whole text is read
pub whole_read : (text : List ℕ) (t : Trace) (n : ℕ) → HasRead text [] t (AtEntries 0) n → IsTrace t × (text ≡ trace_text t)
whole_read text t n h =
    let count : length t.history + 0 ≡ length t.history = omega arith in
    let lines : lines_told t (AtEntries 0) ≡ trace_lines t = ap (λ k. opening_lines t ++ Entries k ∷ map Act t.history) count ∙ sym (opening_first t) in
    (h.told.trace, h.front ∙ (append-nil (flat_map trace_line_text (lines_told t (AtEntries 0))) ∙ (ap (λ ls. flat_map trace_line_text ls) lines ∙ sym (trace_told t))))

-- a text that has a line isn't empty
some_left : (left line : List ℕ) (more : List (List ℕ)) → fed_lines left ≡ line ∷ more → 1 ≤ length left
some_left [] line more is = absurd cc
some_left (b ∷ left) line more is = omega arith

-- where an entry's line stands first, it is the first line
pub entry_first : (left rest line behind : List ℕ) (e : Entry) → IsTracedEntry e → (1 ≤ length left → fed_lines left ≡ line ∷ fed_lines behind)
    → left ≡ entry_text e ++ rest → line ≡ entry_text e
entry_first left rest line behind e may fed is =
    let all = All-cons IsTraceLine (Act e) [] may (All-nil IsTraceLine) in
    let cut : fed_lines left ≡ entry_text e ∷ fed_lines rest =
    ap fed_lines (is ∙ ap (λ x. x ++ rest) (sym (append-nil (entry_text e)))) ∙ fed_front (Act e ∷ []) rest all in
    let both = sym (fed (some_left left (entry_text e) (fed_lines rest) cut)) ∙ cut in
    cc

-- each line has a byte, so no more lines are read than bytes
line_bytes : (ls : List TraceLine) → length ls ≤ length (flat_map trace_line_text ls)
line_bytes [] = omega arith
line_bytes (l ∷ ls) =
    let some = some_bytes l in
    let more = line_bytes ls in
    let both = length-append (trace_line_text l) (flat_map trace_line_text ls) in
    omega (arith, some, more, both)

pub read_room : (text left : List ℕ) (t : Trace) (s : LinePlace) (n : ℕ) → HasRead text left t s n → n + length left ≤ length text
read_room text left t s n h =
    let L = lines_told t s in
    let size = ap (λ (x : List ℕ). length x) h.front ∙ length-append (flat_map trace_line_text L) left in
    let some = line_bytes L in
    let lines = h.lines in
    omega (arith, size, some, lines)

-- what is left is the text behind so many bytes
pub left_is : (text left : List ℕ) (t : Trace) (s : LinePlace) (n : ℕ) → HasRead text left t s n → drop (length text - length left) text ≡ left
left_is text left t s n h =
    let front = flat_map trace_line_text (lines_told t s) in
    let size = ap (λ (x : List ℕ). length x) h.front ∙ length-append front left in
    let here : length front ≡ length text - length left = omega (arith, size) in
    ap (λ (x : List ℕ). drop (length text - length left) x) h.front ∙ drop_at front left (length text - length left) here
