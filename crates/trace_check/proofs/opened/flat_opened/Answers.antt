use Rattle.std.proofs.Common.{◌≡◌, ◌∙◌, ap, subst, sym, List, ℕ}
use Rattle.std.specs.Prelude.{All, IsSome}
use Rattle.std.specs.FinMap as finite
use Rattle.flat_model.specs.Flat.{Flat}
use Rattle.trace_text.specs.declared.traced_file.TracedFile.{TracedFile}
use Rattle.trace_check.proofs.Openings.{kept_disks}
use Rattle.trace_check.proofs.opened.flat_opened.Goals as goal

pub add_files-requires : goal.add_files-requires
add_files-requires c =
    let there = ap (λ (G : Flat). G.disks) c.in_ok-add_disks.ensures ∙ ap (λ (ds : List (ℕ × ℕ)). finite.from_entries ds) c.as_slice.ensures.value in
    subst (λ (fs : List TracedFile). All (λ (f : TracedFile). IsSome (finite.get c.add_disks.new.flat.disks f.head.disk)) fs) (sym c.as_slice-2.ensures.value)
    (kept_disks c.args.opening.now c.add_disks.new.flat.disks c.requires there)
