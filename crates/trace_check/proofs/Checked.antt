-- Entries that are read and judged, one by one; and a text that is read to its end stands for what was read.
use Rattle.std.proofs.Common.{◌≡◌, ℕ, suc, ◌≤◌, ◌<◌, ◌+◌, ◌-◌, List, [], ◌∷◌, ◌++◌, length, take, drop, Ok, refl, sym, subst, ap, ◌∙◌, length-append, arith}
use borrow.Author.Rules.{part_to_end}
use Rattle.flat_model.specs.vm_types.declared.call.Entry.{Entry}
use Rattle.flat_model.specs.Flat.{Flat}
use Rattle.trace_text.specs.EntryForm.{IsTracedEntry}
use Rattle.trace_text.specs.vm_report.Trace.{entry_text}
use Rattle.trace_text.specs.Traces.{Trace}
use Rattle.trace_text.specs.TraceForm.{IsTrace}
use Rattle.trace_text.specs.TraceLines.{Act, fed_lines}
use Rattle.trace_text.specs.LineOrder.{AtEntries}
use Rattle.trace_text.specs.LinesRead.{HasRead}
use Rattle.trace_text.specs.BadLines.{IsFirstBadLine}
use Rattle.trace_text.proofs.FedLines.{some_bytes}
use Rattle.trace_text.proofs.FirstBad.{bad_entry, bad_rest, entry_first, entry_read, whole_read}
use Rattle.trace_check.specs.declared.judge.Judge.{Judge}
use Rattle.trace_check.specs.declared.verdict.Verdict.{Verdict}
use Rattle.trace_check.specs.Judging.{HasJudged}
use Rattle.trace_check.specs.Checks.{IsChecked, flat_of_trace}
use Rattle.trace_check.specs.Verdicts.{IsVerdict}

abbrev with_history : Trace → List Entry → Trace
with_history t H = record t { history = H }

-- So many entries are left of a text; those before them were read, and judged from flat memory on as the opening part tells it.
pub record Checking (text left : List ℕ) (t : Trace) (m n : ℕ) (judge : Judge) : Type 0 where
  pub history : List Entry
  pub read : HasRead text left (record t { history = history }) (AtEntries m) n
  pub judged : HasJudged (flat_of_trace t) history judge

pub checking_none : (text left : List ℕ) (t : Trace) (m n : ℕ) (judge : Judge) → HasRead text left t (AtEntries m) n → t.history ≡ [] → HasJudged (flat_of_trace t) [] judge
    → Checking text left t m n judge
checking_none text left t m n judge read none judged = record {
  history = [];
  read = subst (λ (H : List Entry). HasRead text left (with_history t H) (AtEntries m) n) none read;
  judged = judged;
}

-- an entry more
pub checking_more : (text left own rest : List ℕ) (t : Trace) (k m n : ℕ) (e : Entry) (old new : Judge) → Checking text left t k n old → k ≡ suc m → IsTracedEntry e
    → left ≡ own ++ rest → own ≡ entry_text e → ((F : Flat) (H : List Entry) → HasJudged F H old → HasJudged F (H ++ e ∷ []) new) → Checking text rest t m (n + 1) new
checking_more text left own rest t k m n e old new h same may cut line takes =
    let read = subst (λ (j : ℕ). HasRead text left (with_history t h.history) (AtEntries j) n) same h.read in
    record {
      history = h.history ++ e ∷ [];
      read = entry_read text left rest (with_history t h.history) m n e read may (cut ∙ ap (λ x. x ++ rest) line);
      judged = takes (flat_of_trace t) h.history h.judged;
    }

-- an entry's line has a byte
pub entry_room : (left own rest : List ℕ) (e : Entry) → left ≡ own ++ rest → own ≡ entry_text e → length rest + 1 ≤ length left
entry_room left own rest e cut line =
    let some = some_bytes (Act e) in
    let here = ap (λ (x : List ℕ). length x) line in
    let size = ap (λ (x : List ℕ). length x) cut ∙ length-append own rest in
    omega (arith, some, here, size)

-- a line that is none of an entry's, where one has to follow
pub checking_stops : (text left own rest : List ℕ) (t : Trace) (k m n : ℕ) (judge : Judge) → Checking text left t k n judge → k ≡ suc m
    → (0 < length left → fed_lines left ≡ own ∷ fed_lines rest) → ((e : Entry) → IsTracedEntry e → ¬ (own ≡ entry_text e)) → IsFirstBadLine text (n + 1)
checking_stops text left own rest t k m n judge h same fed none =
    let read = subst (λ (j : ℕ). HasRead text left (with_history t h.history) (AtEntries j) n) same h.read in
    bad_entry text left (with_history t h.history) m n read
    (λ (e : Entry) (behind : List ℕ) (may : IsTracedEntry e) (is : left ≡ entry_text e ++ behind). none e may (entry_first left behind own rest e may fed is))

-- a line behind the last entry
pub checking_long : (text left : List ℕ) (t : Trace) (k n : ℕ) (judge : Judge) → Checking text left t k n judge → k ≡ 0 → 0 < length left → IsFirstBadLine text (n + 1)
checking_long text left t k n judge h none some =
    bad_rest text left (with_history t h.history) n (subst (λ (j : ℕ). HasRead text left (with_history t h.history) (AtEntries j) n) none h.read) some

pub checking_all : (text left : List ℕ) (t : Trace) (k n : ℕ) (judge : Judge) (v : Verdict) → Checking text left t k n judge → k ≡ 0 → length left ≡ 0
    → ((F : Flat) (H : List Entry) → HasJudged F H judge → IsVerdict F H v) → IsChecked text (Ok v)
checking_all text [] t k n judge v h none empty says =
    let read = subst (λ (j : ℕ). HasRead text [] (with_history t h.history) (AtEntries j) n) none h.read in
    let whole = whole_read text (with_history t h.history) n read in (
      flat_of_trace t,
      h.history,
      record { trace = with_history t h.history; is = whole.0; print = whole.1; flat = refl; history = refl },
      says (flat_of_trace t) h.history h.judged,
    )
checking_all text (b ∷ left) t k n judge v h none empty says = absurd (omega (arith, empty))

-- what was read before the entries may be told
pub may_open : (text left : List ℕ) (t : Trace) (m n : ℕ) → HasRead text left t (AtEntries m) n → IsTrace t
may_open text left t m n h = h.told.trace

-- the text that is left behind so many bytes
pub unread_read : (text : List ℕ) (t : Trace) (n m lines : ℕ) → HasRead text (drop n text) t (AtEntries m) lines
    → HasRead text (take (length text - n) (drop n text)) t (AtEntries m) lines
unread_read text t n m lines read = subst (λ (x : List ℕ). HasRead text x t (AtEntries m) lines) (sym (part_to_end text n)) read
