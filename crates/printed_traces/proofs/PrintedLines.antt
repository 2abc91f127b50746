-- The lines that a run prints of a trace are those of the trace that it tells.
use Rattle.std.proofs.Common.{◌≡◌, ℕ, suc, ◌+◌, Bool, true, false, List, [], ◌∷◌, ◌++◌, length, map, Some, refl, sym, ap, ap₂, ◌∙◌, append-nil, codes, arith}
use Rattle.std.specs.Prelude.{◌==◌, decimal, slice_get, if◌then◌else◌}
use Rattle.std.specs.List.{flat_map}
use Rattle.std.specs.FinMap as finite
use Rattle.volume_files.specs.flat_model.Flat.{File}
use Rattle.volume_files.specs.flat_model.Opening.{flat_at_opening}
use Rattle.volume_files.specs.flat_model.Parts.{file_at_opening}
use Rattle.volume_files.specs.vnode_files.declared.extent.Extent.{Extent}
use Rattle.volume_files.specs.vm_types.declared.call.Entry.{Entry}
use Rattle.volume_files.specs.vm_report.Report.{file_lines}
use Rattle.volume_files.specs.vm_report.Trace.{disk_text, entries_text, file_text, opening_text, root_text, roots_text}
use Rattle.volume_files.specs.vm_script.PlanSeen.{PlanSeen}
use Rattle.volume_files.specs.vm_script.Processes.{kernel_parents}
use Rattle.volume_files.specs.vm_script.Rules.{amounts_of}
use Rattle.volume_files.specs.stored_files.declared.showing.Heading.TheVariants.{Trace as traced}
use Rattle.volume_files.specs.Opened.{OpenedFile, infos_of, opened_flat_file, opening_flat, top_processes}
use Rattle.volume_files.specs.stored_files.Texts.{extent_pairs, files_from}
use Rattle.flat_state.specs.Cells.{extents_of}
use Rattle.trace_text.specs.Traces.{traced_file_text, traced_files_text}
use Rattle.trace_text.specs.TraceForm.{IsTrace}
use Rattle.trace_check.specs.Checks.{IsTextFor, file_of_trace}
use Rattle.printed_traces.specs.Printed.{AreBytesOf, printed_text, told_file, told_trace}

-- ---- the top processes
root_line : (b : Bool) (p : ℕ) (lines tops : List ℕ) → lines ≡ flat_map (λ q. root_text q 0) tops
    → (if b then codes "root " ++ decimal p ++ 10 ∷ [] else []) ++ lines ≡ flat_map (λ q. root_text q 0) (if b then p ∷ tops else tops)
root_line true p lines tops is = ap (λ (t : List ℕ). (codes "root " ++ decimal p ++ 10 ∷ []) ++ t) is
root_line false p lines tops is = is

root_lines : (p : ℕ) (parents : List ℕ) → roots_text p parents ≡ flat_map (λ q. root_text q 0) (top_processes p parents)
root_lines p [] = refl
root_lines p (parent ∷ parents) = root_line (parent == 0) p (roots_text (p + 1) parents) (top_processes (p + 1) parents) (root_lines (p + 1) parents)

front_told : (slots : ℕ) (sizes : List (ℕ × ℕ)) (parents : List ℕ)
    → opening_text slots sizes parents ≡ opening_text slots sizes [] ++ flat_map (λ q. root_text q 0) (top_processes 1 parents)
front_told slots sizes parents =
    let front = codes "trace swap " ++ decimal slots ++ 10 ∷ flat_map disk_text sizes in
    let roots = flat_map (λ q. root_text q 0) (top_processes 1 parents) in
    ap (λ (t : List ℕ). front ++ t) (root_lines 1 parents) ∙ ap (λ (t : List ℕ). t ++ roots) (sym (append-nil front))

-- ---- the files
module _ (bytes : ℕ → List ℕ) where
  sections_told : (k : ℕ) (files : List OpenedFile) → ((j : ℕ) (f : OpenedFile) → slice_get files j ≡ Some f → bytes (k + j) ≡ f.bytes)
      → ((j : ℕ) (f : OpenedFile) → slice_get files j ≡ Some f → f.info.length ≡ length f.bytes)
      → files_from traced bytes k (infos_of files) ≡ traced_files_text k (map told_file files)
  sections_told k [] told sizes = refl
  sections_told k (f ∷ files) told sizes =
      let here : k ≡ k + 0 = omega arith in
      let rest = sections_told (k + 1) files
      (λ j g is. let next : (k + 1) + j ≡ k + suc j = omega arith in ap bytes next ∙ told (suc j) g is) (λ j g is. sizes (suc j) g is) in
      ap₂ (λ (n : ℕ) (own : List ℕ). (file_text k f.info.name f.info.writable f.info.disk n (extent_pairs f.info.extents) ++ file_lines 0 own)
      ++ files_from traced bytes (k + 1) (infos_of files)) (sizes 0 f refl) (ap bytes here ∙ told 0 f refl)
      ∙ ap (λ (t : List ℕ). traced_file_text k (told_file f) ++ t) rest

extents_told : (extents : List Extent) → extents_of (extent_pairs extents) ≡ extents
extents_told [] = refl
extents_told (e ∷ extents) = ap (λ (es : List Extent). e ∷ es) (extents_told extents)

files_told : (files : List OpenedFile) → ((j : ℕ) (f : OpenedFile) → slice_get files j ≡ Some f → f.info.length ≡ length f.bytes)
    → map file_of_trace (map told_file files) ≡ map opened_flat_file files
files_told [] sizes = refl
files_told (f ∷ files) sizes =
    let own : file_of_trace (told_file f) ≡ opened_flat_file f =
    ap₂ (λ (n : ℕ) (es : List Extent). file_at_opening n f.info.disk es f.info.writable f.bytes) (sym (sizes 0 f refl)) (extents_told f.info.extents) in
    ap₂ (λ (x : File) (xs : List File). x ∷ xs) own (files_told files (λ j g is. sizes (suc j) g is))

-- ---- what is printed
pub printed_stands : (plan : PlanSeen) (sizes : List (ℕ × ℕ)) (files : List OpenedFile) (bytes : ℕ → List ℕ) (H : List Entry) → AreBytesOf files bytes
    → IsTrace (told_trace plan sizes files H) → IsTextFor (printed_text plan sizes files bytes H) (opening_flat plan sizes files) H
printed_stands plan sizes files bytes H are may =
    let own : (j : ℕ) (f : OpenedFile) → slice_get files j ≡ Some f → f.info.length ≡ length f.bytes =
    λ j f is. sym (are.lengths j f is) ∙ ap (λ (x : List ℕ). length x) (are.told j f is) in
    let told : (j : ℕ) (f : OpenedFile) → slice_get files j ≡ Some f → bytes (0 + j) ≡ f.bytes =
    λ j f is. let same : 0 + j ≡ j = omega arith in ap bytes same ∙ are.told j f is in
    let slots = (amounts_of plan.setup).slots in
    record {
      trace = told_trace plan sizes files H;
      is = may;
      print =
          ap₂ (λ (front sections : List ℕ). (front ++ sections) ++ entries_text H) (front_told slots sizes (kernel_parents plan)) (sections_told bytes 0 files told own);
      flat = ap (λ (fs : List File). flat_at_opening slots (finite.from_entries sizes) fs (top_processes 1 (kernel_parents plan))) (sym (files_told files own));
      history = refl;
    }
