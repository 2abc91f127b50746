-- The entries of a legal history may be told in a trace.
use Rattle.std.proofs.Common.{◌≡◌, ℕ, ◌+◌, ◌*◌, ◌%◌, ◌^◌, ◌<◌, ◌≤◌, ◌||◌, Bool, true, false, List, [], ◌∷◌, length, take, drop, Option, Some, None, Result, Ok, Err, refl, sym, subst, ◌∙◌, inl, inr, arith, length-take}
use Rattle.std.proofs.Math.Pow.{pow_mono}
use Rattle.std.proofs.lemmas.List.Elements.{All-append, All-drop, All-take, All-nil}
use Rattle.std.specs.Prelude.{All, IsTrue, min, nat_le, ok_or, slice_get}
use Rattle.std.specs.List.{concat}
use Rattle.std.specs.FinSet as set
use Rattle.volume_files.specs.vm_types.declared.call.Call.{Call}
use Rattle.volume_files.specs.vm_types.declared.call.Call.TheVariants.{Load, Store, Map, Unmap, Protect, Sync, Read, Write, Truncate, Fork, Exit}
use Rattle.volume_files.specs.vm_types.declared.call.Entry.{Entry}
use Rattle.volume_files.specs.vm_types.declared.call.Errno.{Errno}
use Rattle.volume_files.specs.vm_types.declared.call.Errno.TheVariants as errno
use Rattle.volume_files.specs.vm_types.declared.call.Place.{Place}
use Rattle.volume_files.specs.vm_types.declared.call.Place.TheVariants.{At, Any}
use Rattle.volume_files.specs.vm_types.declared.call.Reply.{Reply}
use Rattle.volume_files.specs.vm_types.declared.call.Reply.TheVariants as reply
use Rattle.volume_files.specs.vm_types.declared.call.Signal.{Signal}
use Rattle.volume_files.specs.vm_types.Pages.{line_rest, page, pages_in}
use Rattle.volume_files.specs.vm_types.Prot.{can_read, can_write}
use Rattle.volume_files.specs.vm_types.WellFormed.{IsNumber, IsPlace, IsWellFormed}
use Rattle.volume_files.specs.vm_types.Words.{FitsWord, IsByte, IsWordSize, word_value}
use Rattle.volume_files.specs.flat_model.Access.{access_target, with_page_stored}
use Rattle.volume_files.specs.flat_model.Births.{is_birth}
use Rattle.volume_files.specs.flat_model.Flat.{File, Flat, IsFile, IsFlat, private_cells, reserved}
use Rattle.volume_files.specs.flat_model.History.{Steps}
use Rattle.volume_files.specs.flat_model.Mapping.{Request, cells_of, first_page, is_range, map_result, may_have, valid_range, without_pages, without_replaced}
use Rattle.volume_files.specs.flat_model.Parts.{existing_file, file_bytes, file_of_length, read_line, room_for, with_file_at, with_part}
use Rattle.volume_files.specs.flat_model.Processes.{with_child}
use Rattle.volume_files.specs.flat_model.Refusals.{◌>>◌, Effect, check, done_effect, or_refused, or_signal}
use Rattle.volume_files.specs.flat_model.Space.{with_prots}
use Rattle.volume_files.specs.flat_model.Access.{with_space}
use Rattle.volume_files.specs.flat_model.Step.{IsDue, IsStep, effect, is_bit_set, step, tails_cleared}
use Rattle.volume_files.specs.flat_model.Words.{IsPage, Page, word_at, word_put}
use Rattle.volume_files.proofs.flat_model.BirthTests.{is_birth-is}
use Rattle.volume_files.proofs.flat_model.Bytes.{All-slice_get}
use Rattle.volume_files.proofs.flat_model.Frames.{StepFrame-step}
use Rattle.volume_files.proofs.flat_model.Gap.{lowest_gap-fits}
use Rattle.volume_files.proofs.flat_model.Mappings.{get-cells_of, mapped-map_result}
use Rattle.volume_files.proofs.flat_model.Stores.{IsPage-shown, is_met}
use Rattle.volume_files.proofs.flat_model.WellFormed.{All-Each, Each, Each-All, IsFlat-step, IsFlat-tails_cleared}
use Rattle.trace_text.specs.EntryForm.{IsReplyTo, IsTracedEntry}
use Rattle.printed_traces.specs.Printed.{HasToldCounts}

-- A WORD that a page shows fits its size
word-1 : (xs : List ℕ) → Each IsByte xs → word_value (take 1 xs) < 2 ^ (8 * 1)
word-1 [] each = omega arith
word-1 (a ∷ xs) each = let x : a < 256 = each.0 in omega (arith, x)

word-2 : (xs : List ℕ) → Each IsByte xs → word_value (take 2 xs) < 2 ^ (8 * 2)
word-2 [] each = omega arith
word-2 (a ∷ []) each = let x : a < 256 = each.0 in omega (arith, x)
word-2 (a ∷ b ∷ xs) each = let x : a < 256 = each.0 in let y : b < 256 = each.1.0 in omega (arith, x, y)

word-4 : (xs : List ℕ) → Each IsByte xs → word_value (take 4 xs) < 2 ^ (8 * 4)
word-4 [] each = omega arith
word-4 (a ∷ []) each = let x : a < 256 = each.0 in omega (arith, x)
word-4 (a ∷ b ∷ []) each = let x : a < 256 = each.0 in let y : b < 256 = each.1.0 in omega (arith, x, y)
word-4 (a ∷ b ∷ c ∷ []) each = let x : a < 256 = each.0 in let y : b < 256 = each.1.0 in let z : c < 256 = each.1.1.0 in omega (arith, x, y, z)
word-4 (a ∷ b ∷ c ∷ d ∷ xs) each =
    let x : a < 256 = each.0 in
    let y : b < 256 = each.1.0 in
    let z : c < 256 = each.1.1.0 in
    let w : d < 256 = each.1.1.1.0 in
    omega (arith, x, y, z, w)

word-fits : (n : ℕ) (xs : List ℕ) → IsWordSize n → Each IsByte xs → FitsWord n (word_value (take n xs))
word-fits n xs (inl one) each = subst (λ (k : ℕ). word_value (take k xs) < 2 ^ (8 * k)) (sym one) (word-1 xs each)
word-fits n xs (inr (inl two)) each = subst (λ (k : ℕ). word_value (take k xs) < 2 ^ (8 * k)) (sym two) (word-2 xs each)
word-fits n xs (inr (inr four)) each = subst (λ (k : ℕ). word_value (take k xs) < 2 ^ (8 * k)) (sym four) (word-4 xs each)

page-word : (bytes : Page) (a n : ℕ) → IsWordSize n → IsPage bytes → FitsWord n (word_at bytes a n)
page-word bytes a n size is = word-fits n (drop (a % 4096) bytes) size (Each-All IsByte (drop (a % 4096) bytes) (All-drop IsByte (a % 4096) bytes is.bytes))

-- THE ADDRESS of a mapping is a number
first-low : (F : Flat) (p : ℕ) (place : Place) (n first : ℕ) → IsFlat F → IsPlace place → first_page (cells_of (without_replaced F p place n) p) place n ≡ Some first
    → IsNumber (4096 * first)
first-low F p (At a) n first flat small is = let same : page a ≡ first = cc in let low : a < 2 ^ 32 = small in omega (arith, same, low)
first-low F p Any n first flat small is =
    let fits = lowest_gap-fits (cells_of F p) n first (λ q c at. flat.pages p q c (get-cells_of F p q ∙ at)) is in
    let low = fits.1 in
    omega (arith, low)

-- THE BYTES of a part of a read are at most those of a line
bytes-all : (pages : List Page) → Each IsPage pages → All IsByte (concat pages)
bytes-all [] each = All-nil IsByte
bytes-all (p ∷ pages) each = All-append IsByte p (concat pages) each.0.bytes (bytes-all pages each.1)

abbrev IsLineRead : List ℕ → Type 0
IsLineRead line = (length line ≤ 64) × All IsByte line

line-read : (file : File) (offset len : ℕ) → IsFile file → IsLineRead (read_line file offset len)
line-read file offset len is =
    let most = length-take (min len (line_rest offset)) (drop offset (file_bytes file)) in (
      omega (arith, most),
      All-take IsByte (min len (line_rest offset)) (drop offset (file_bytes file))
          (All-drop IsByte offset (file_bytes file) (All-take IsByte file.len (concat file.pages) (bytes-all file.pages (Each-All IsPage file.pages is.pages)))),
    )

-- THE REPLY THAT IS DUE may be told
by-signal : {A : Type 0} (P : Reply → Type 0) (F : Flat) (acts : A → Effect) (r : Result A Signal) → ((x : A) → r ≡ Ok x → P (acts x).reply)
    → ((s : Signal) → P (reply.Signal s)) → P (or_signal F acts r).reply
by-signal P F acts (Ok x) done signals = done x refl
by-signal P F acts (Err s) done signals = signals s

by-refusal : {A : Type 0} (P : Reply → Type 0) (F : Flat) (acts : A → Effect) (r : Result A Errno) → ((x : A) → r ≡ Ok x → P (acts x).reply)
    → ((e : Errno) → P (reply.Refused e)) → P (or_refused F acts r).reply
by-refusal P F acts (Ok x) done refusals = done x refl
by-refusal P F acts (Err e) done refusals = refusals e

file-is : (F : Flat) (f : ℕ) (file : File) → IsFlat F → existing_file F f ≡ Ok file → IsFile file
file-is F f file flat is = by_option (slice_get F.files f) refl is
  where
    by_option : (o : Option File) → slice_get F.files f ≡ o → ok_or o errno.NoObject ≡ Ok file → IsFile file
    by_option None at e = absurd cc
    by_option (Some x) at e = let same : x ≡ file = cc in subst IsFile same (All-slice_get IsFile F.files f x flat.files at)

due-told : (F : Flat) (p : ℕ) (c : Call) → IsFlat F → IsWellFormed c → IsReplyTo c (effect F p c).reply
due-told F p (Load a n) flat well =
    by-signal (IsReplyTo (Load a n)) F (λ m. record { reply = reply.Word (word_at m.1 a n); after = F }) (access_target F p can_read a n)
    (λ m is. let met = is_met F p can_read a n m.0 m.1 is in page-word m.1 a n well.1 (IsPage-shown F m.0 m.1 flat (flat.cells p (page a) m.0 met.cell) met.shows)) (λ s. tt)
due-told F p (Store a n v) flat well =
    by-signal (IsReplyTo (Store a n v)) F (λ m. done_effect (with_page_stored F p (page a) m.0 (word_put m.1 a n v))) (access_target F p can_write a n) (λ m is. tt) (λ s. tt)
due-told F p (Map place len prot kind object offset) flat well =
    let r : Request = record { place = place; len = len; prot = prot; kind = kind; object = object; offset = offset } in
    by-refusal (IsReplyTo (Map place len prot kind object offset)) F (λ m. record { reply = reply.Mapped (4096 * m.0); after = m.1 }) (map_result F p r)
    (λ m is. first-low F p place (pages_in len) m.0 flat well.0 (mapped-map_result F p r m.0 m.1 is).first_is) (λ e. tt)
due-told F p (Unmap a len) flat well =
    by-refusal (IsReplyTo (Unmap a len)) F (λ x. done_effect (without_pages F p (page a) (pages_in len))) (check (is_range a len) errno.Invalid) (λ x is. tt) (λ e. tt)
due-told F p (Protect a len prot) flat well =
    by-refusal (IsReplyTo (Protect a len prot)) F (λ x. done_effect (with_space F p (with_prots (cells_of F p) (page a) (pages_in len) prot)))
    (valid_range F p a len >> check (may_have (cells_of F p) (page a) (pages_in len) prot) errno.Access) (λ x is. tt) (λ e. tt)
due-told F p (Sync a len) flat well =
    by-refusal (IsReplyTo (Sync a len)) F (λ x. record { reply = reply.Synced 0; after = F }) (valid_range F p a len) (λ x is. omega arith) (λ e. tt)
due-told F p (Read file offset len) flat well =
    by-refusal (IsReplyTo (Read file offset len)) F (λ x. record { reply = reply.Bytes (read_line x offset len); after = F }) (existing_file F file)
    (λ x is. line-read x offset len (file-is F file x flat is)) (λ e. tt)
due-told F p (Write file offset line rest) flat well =
    by-refusal (IsReplyTo (Write file offset line rest)) F (λ x. done_effect (with_file_at F file (with_part offset line x))) (room_for F file (offset + length line)) (λ x is. tt) (λ e. tt)
due-told F p (Truncate file len) flat well =
    by-refusal (IsReplyTo (Truncate file len)) F (λ x. done_effect (with_file_at F file (file_of_length len x))) (room_for F file len) (λ x is. tt) (λ e. tt)
due-told F p (Fork child) flat well =
    by-refusal (IsReplyTo (Fork child)) F (λ x. done_effect (with_child F p child)) (check (nat_le (reserved F + private_cells (cells_of F p)) F.slots) errno.NoSwap) (λ x is. tt) (λ e. tt)
due-told F p Exit flat well = tt

reply-told : (F : Flat) (p : ℕ) (c : Call) (cleared : ℕ) (r : Reply) → IsFlat F → IsWellFormed c → IsDue F (record { process = p; call = c; reply = r; cleared = cleared }) → HasToldCounts r
    → IsReplyTo c r
reply-told F p c cleared reply.Done flat well due counts = tt
reply-told F p c cleared (reply.Word v) flat well due counts = subst (IsReplyTo c) due (due-told F p c flat well)
reply-told F p c cleared (reply.Mapped a) flat well due counts = subst (IsReplyTo c) due (due-told F p c flat well)
reply-told F p c cleared (reply.Bytes line) flat well due counts = subst (IsReplyTo c) due (due-told F p c flat well)
reply-told F p c cleared (reply.Synced from) flat well due counts = counts
reply-told F p c cleared (reply.Signal s) flat well due counts = tt
reply-told F p c cleared (reply.Refused e) flat well due counts = tt
reply-told F p c cleared (reply.Io disk before after) flat well due counts = counts

-- THE ENTRIES, where flat memory is well formed, has few files, and those who were born have numbers
pub record CanBeTold (F : Flat) : Type 0 where
  pub flat : IsFlat F
  pub few : length F.files ≤ 64
  pub born : (p : ℕ) → IsTrue (set.contains F.born p) → IsNumber p

one-told : (F : Flat) (e : Entry) → CanBeTold F → IsStep F e → IsWellFormed e.call → HasToldCounts e.reply → IsTracedEntry e
one-told F e can is well counts =
    let below = is.files in
    let most = pow_mono can.few in
    record {
      process = can.born e.process (can.flat.born e.process is.alive);
      cleared = omega (arith, below, most);
      call = well;
      reply = reply-told (tails_cleared F (is_bit_set e.cleared)) e.process e.call e.cleared e.reply (IsFlat-tails_cleared F (is_bit_set e.cleared) can.flat) well is.due counts;
    }

still-told : (F : Flat) (e : Entry) → CanBeTold F → IsStep F e → IsWellFormed e.call → CanBeTold (step F e)
still-told F e can is well =
    let frame = StepFrame-step F e can.flat.born is in
    record {
      flat = IsFlat-step F e can.flat well is;
      few = subst (λ (n : ℕ). n ≤ 64) (sym frame.files) can.few;
      born = λ p yes. by_birth p (set.contains F.born p) (is_birth p e) refl refl (sym (frame.born p) ∙ yes);
    }
  where
    by_birth : (p : ℕ) (a b : Bool) → set.contains F.born p ≡ a → is_birth p e ≡ b → (a || b) ≡ true → IsNumber p
    by_birth p true b was birth or = can.born p was
    by_birth p false true was birth or = subst IsWellFormed ((is_birth-is p e).0 birth).0 well
    by_birth p false false was birth or = absurd cc

each-told : (F : Flat) (H : List Entry) → CanBeTold F → Steps F H → Each (λ (e : Entry). IsWellFormed e.call) H → Each (λ (e : Entry). HasToldCounts e.reply) H → Each IsTracedEntry H
each-told F [] can steps well counts = tt
each-told F (e ∷ H) can steps well counts =
    (one-told F e can steps.0 well.0 counts.0, each-told (step F e) H (still-told F e can steps.0 well.0) steps.1 well.1 counts.1)

pub entries-told : (F : Flat) (H : List Entry) → CanBeTold F → Steps F H → All (λ (e : Entry). IsWellFormed e.call) H → All (λ (e : Entry). HasToldCounts e.reply) H → All IsTracedEntry H
entries-told F H can steps well counts =
    All-Each IsTracedEntry H (each-told F H can steps (Each-All (λ (e : Entry). IsWellFormed e.call) H well) (Each-All (λ (e : Entry). HasToldCounts e.reply) H counts))
