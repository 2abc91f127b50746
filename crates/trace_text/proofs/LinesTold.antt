-- The lines of a trace may be told.
use Rattle.std.proofs.Common.{◌≡◌, ℕ, zero, suc, ◌≤◌, ◌+◌, ◌-◌, ◌/◌, ◌^◌, ◌==◌, Bool, true, false, List, [], ◌∷◌, ◌++◌, length, map, take, drop, refl, arith}
use Rattle.std.specs.Prelude.{All, if◌then◌else◌}
use Rattle.std.specs.List.{list_all}
use Rattle.std.proofs.lemmas.List.{length-take, length-drop}
use Rattle.std.proofs.lemmas.List.Elements.{All-nil, All-cons, All-head, All-tail, All-append, All-take, All-drop, All-contains}
use Rattle.vm_report.specs.vm_types.declared.call.Entry.{Entry}
use Rattle.vm_report.specs.vm_types.WellFormed.{IsNumber}
use Rattle.vm_report.specs.vm_types.Words.{IsByte}
use Rattle.trace_text.specs.EntryForm.{IsTracedEntry}
use Rattle.trace_text.specs.Traces.{TracedFile, Trace}
use Rattle.trace_text.specs.TraceForm.{RiseFrom, IsTracedFile, IsTrace}
use Rattle.trace_text.specs.TraceLines.{Slots, Disk, Root, File, Piece, Entries, Act, IsTraceLine}
use Rattle.trace_text.specs.LineOrder.{pieces_lines, head_of, files_lines, trace_lines}
use Rattle.trace_text.proofs.LineRuns.{some_told}

disks_told : (disks : List (ℕ × ℕ)) (n : ℕ) → RiseFrom n (map (λ d. d.0) disks) → All (λ d. IsNumber d.1) disks → All IsTraceLine (map Disk disks)
disks_told [] n rise blocks = All-nil IsTraceLine
disks_told (d ∷ disks) n rise blocks =
    All-cons IsTraceLine (Disk d) (map Disk disks) (rise.1, All-head (λ x. IsNumber x.1) d disks blocks)
    (disks_told disks (d.0 + 1) rise.2 (All-tail (λ x. IsNumber x.1) d disks blocks))

roots_told : (roots : List ℕ) (n : ℕ) → RiseFrom n roots → All IsTraceLine (map Root roots)
roots_told [] n rise = All-nil IsTraceLine
roots_told (p ∷ roots) n rise = All-cons IsTraceLine (Root p) (map Root roots) rise.1 (roots_told roots (p + 1) rise.2)

entries_told : (H : List Entry) → All IsTracedEntry H → All IsTraceLine (map Act H)
entries_told [] all = All-nil IsTraceLine
entries_told (e ∷ H) all = All-cons IsTraceLine (Act e) (map Act H) (All-head IsTracedEntry e H all) (entries_told H (All-tail IsTracedEntry e H all))

one_piece_told : (t : Bool) (len offset : ℕ) (bytes : List ℕ) → list_all (λ b. b == 0) (take 32 bytes) ≡ t → length bytes ≡ len - offset → IsNumber len
    → All IsByte bytes → All IsTraceLine (if t then [] else Piece offset (take 32 bytes) ∷ [])
one_piece_told true len offset bytes told size small all = All-nil IsTraceLine
one_piece_told false len offset bytes told size small all =
    let some = some_told (take 32 bytes) told in
    let count = length-take 32 bytes in
    let inside : IsNumber offset = omega (arith, some, count, size, small) in
    let few : length (take 32 bytes) ≤ 32 = omega (arith, count) in
    All-cons IsTraceLine (Piece offset (take 32 bytes)) [] (inside, record { some = some; few = few; told = told; each = All-take IsByte 32 bytes all })
    (All-nil IsTraceLine)

pieces_told : (n len offset : ℕ) (bytes : List ℕ) → length bytes ≡ len - offset → IsNumber len → All IsByte bytes → All IsTraceLine (pieces_lines n offset bytes)
pieces_told zero len offset bytes size small all = All-nil IsTraceLine
pieces_told (suc n) len offset bytes size small all =
    let cut : length (drop 32 bytes) ≡ len - (offset + 32) = let e = length-drop 32 bytes in omega (arith, e, size) in
    let t = list_all (λ b. b == 0) (take 32 bytes) in
    All-append IsTraceLine (if t then [] else Piece offset (take 32 bytes) ∷ []) (pieces_lines n (offset + 32) (drop 32 bytes))
    (one_piece_told t len offset bytes refl size small all) (pieces_told n len (offset + 32) (drop 32 bytes) cut small (All-drop IsByte 32 bytes all))

rise_numbers : (ns : List ℕ) (n : ℕ) → RiseFrom n ns → All IsNumber ns
rise_numbers [] n rise = All-nil IsNumber
rise_numbers (m ∷ ns) n rise = All-cons IsNumber m ns rise.1 (rise_numbers ns (m + 1) rise.2)

files_told : (files : List TracedFile) (disks : List (ℕ × ℕ)) (k : ℕ) → All IsNumber (map (λ d. d.0) disks) → k + length files ≤ 2 ^ 32
    → All (IsTracedFile disks) files → All IsTraceLine (files_lines k files)
files_told [] disks k numbers few all = All-nil IsTraceLine
files_told (file ∷ files) disks k numbers few all =
    let own = All-head (IsTracedFile disks) file files all in
    let len = length file.bytes in
    let ps = pieces_lines ((len + 31) / 32) 0 file.bytes in
    let disk = All-contains IsNumber (map (λ d. d.0) disks) file.disk numbers own.disk in
    let pieces = pieces_told ((len + 31) / 32) len 0 file.bytes (omega arith) own.len own.bytes in
    All-cons IsTraceLine (File (head_of k file)) (ps ++ files_lines (k + 1) files)
    (record { file = omega (arith, few); name = own.name; disk = disk; len = own.len; extents = own.extents })
    (All-append IsTraceLine ps (files_lines (k + 1) files) pieces
    (files_told files disks (k + 1) numbers (omega (arith, few)) (All-tail (IsTracedFile disks) file files all)))

pub lines_told : (t : Trace) → IsTrace t → All IsTraceLine (trace_lines t)
lines_told t h =
    let numbers = rise_numbers (map (λ d. d.0) t.disks) 0 h.rising in
    let few : 0 + length t.files ≤ 2 ^ 32 = let n = h.numbered in omega (arith, n) in
    let entries = Entries (length t.history) ∷ map Act t.history in
    let files = files_lines 0 t.files ++ entries in
    let roots = map Root t.roots ++ files in
    let e = All-cons IsTraceLine (Entries (length t.history)) (map Act t.history) h.count (entries_told t.history h.entries) in
    let f = All-append IsTraceLine (files_lines 0 t.files) entries (files_told t.files t.disks 0 numbers few h.files) e in
    let r = All-append IsTraceLine (map Root t.roots) files (roots_told t.roots 1 h.roots) f in
    let d = All-append IsTraceLine (map Disk t.disks) roots (disks_told t.disks 0 h.rising h.blocks) r in
    All-cons IsTraceLine (Slots t.slots) (map Disk t.disks ++ roots) h.slots d
