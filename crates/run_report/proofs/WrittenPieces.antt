-- A text that is written in pieces, and a rest of it that is kept back meanwhile.
use Rattle.std.proofs.Common.{◌≡◌, ◌∙◌, ℕ, ◌≤◌, List, [], ◌++◌, true, false, ap, refl, sym, subst, append_assoc, append-nil}
use Rattle.std.specs.Prelude.{Option, Some, None, is_some}
use Rattle.std.proofs.lemmas.Bool.{false≢true}
use Rattle.volume_files.specs.block_device.StreamSeen.{SinkSeen}
use Rattle.volume_files.specs.vm_types.declared.call.Entry.{Entry}
use Rattle.volume_files.specs.vm_script.PlanSeen.{PlanSeen}
use Rattle.volume_files.specs.vm_report.Report.{process_sections}
use Rattle.volume_files.specs.stored_files.Texts.{Wrote, WroteFront, WrotePart}
use Rattle.volume_files.proofs.stored_files.WrittenTexts.{front_more, front_then, part_more, part_then, risen_since, wrote_front, wrote_nothing, wrote_then}
use Rattle.run_endings.specs.declared.ending.Ending.{Ending}
use Rattle.run_endings.specs.declared.ending.Ending.TheVariants as ending
use Rattle.run_report.specs.AskedTexts.{sections_or_summary, summary_or_none}
use Rattle.run_report.specs.ReportEnds.{KeptBack, MiddleStops}

-- nothing was written yet
pub kept_all : (k : SinkSeen) (text : List ℕ) → KeptBack k k text text
kept_all k text = record { sent = []; wrote = wrote_nothing k; whole = refl }

-- the text was written, and is empty
pub kept_none : (k0 k1 : SinkSeen) (text rest : List ℕ) → Wrote k0 k1 text → rest ≡ [] → KeptBack k0 k1 text rest
kept_none k0 k1 text rest wrote is = record { sent = text; wrote = wrote; whole = ap (λ (t : List ℕ). text ++ t) is ∙ append-nil text }

module _ (k0 k1 : SinkSeen) (all text left : List ℕ) (kept : KeptBack k0 k1 all (text ++ left)) where
  -- of what is left some went over into the text
  pub kept_over : (more behind : List ℕ) → more ++ behind ≡ text ++ left → KeptBack k0 k1 all (more ++ behind)
  kept_over more behind same = record { sent = kept.sent; wrote = kept.wrote; whole = ap (λ (t : List ℕ). kept.sent ++ t) same ∙ kept.whole }

  -- of the text some was written
  pub kept_on : (k2 : SinkSeen) (rest : List ℕ) → KeptBack k1 k2 text rest → KeptBack k0 k2 all (rest ++ left)
  kept_on k2 rest more = record {
    sent = kept.sent ++ more.sent;
    wrote = wrote_then k0 k1 k2 kept.sent more.sent kept.wrote more.wrote;
    whole =
        append_assoc kept.sent more.sent (rest ++ left)
        ∙ (ap (λ (t : List ℕ). kept.sent ++ t) (sym (append_assoc more.sent rest left) ∙ ap (λ (t : List ℕ). t ++ left) more.whole) ∙ kept.whole);
  }

  -- memory lacked
  pub kept_front : WroteFront k0 k1 all
  kept_front = subst (WroteFront k0 k1) kept.whole (front_more k0 k1 kept.sent (text ++ left) (wrote_front k0 k1 kept.sent kept.wrote))

  -- the text wasn't written
  pub kept_stop : (k2 : SinkSeen) → k0.faults ≤ k1.faults → (how : Ending) → MiddleStops text k1 k2 how → MiddleStops all k0 k2 how
  kept_stop k2 later ending.Memory m =
      subst (WroteFront k0 k2) (append_assoc kept.sent text left ∙ kept.whole)
      (front_more k0 k2 (kept.sent ++ text) left (front_then k0 k1 k2 kept.sent text kept.wrote m))
  kept_stop k2 later ending.Sink m = (
    risen_since k0.faults k1.faults k2.faults later m.0,
    subst (WrotePart k0 k2) (append_assoc kept.sent text left ∙ kept.whole)
        (part_more k0 k2 (kept.sent ++ text) left (part_then k0 k1 k2 kept.sent text kept.wrote m.1)),
  )
  kept_stop k2 later ending.Whole m = absurd m
  kept_stop k2 later ending.Usage m = absurd m
  kept_stop k2 later (ending.NoScript f) m = absurd m
  kept_stop k2 later (ending.Refused r) m = absurd m
  kept_stop k2 later ending.NotRead m = absurd m
  kept_stop k2 later ending.OpeningSink m = absurd m
  kept_stop k2 later (ending.Opening f) m = absurd m
  kept_stop k2 later (ending.Closing f) m = absurd m
  kept_stop k2 later (ending.Showing f) m = absurd m
  kept_stop k2 later (ending.Checked t) m = absurd m
  kept_stop k2 later (ending.Informed t) m = absurd m

-- what was kept back is the text alone
pub kept_alone : (k0 k1 : SinkSeen) (all text left : List ℕ) → left ≡ [] → KeptBack k0 k1 all (text ++ left) → KeptBack k0 k1 all text
kept_alone k0 k1 all text left none kept =
    subst (KeptBack k0 k1 all) (ap (λ (t : List ℕ). text ++ t) none ∙ append-nil text) kept

pub kept_written : (k0 k1 k2 : SinkSeen) (all rest : List ℕ) → KeptBack k0 k1 all rest → Wrote k1 k2 rest → Wrote k0 k2 all
kept_written k0 k1 k2 all rest kept wrote = subst (Wrote k0 k2) kept.whole (wrote_then k0 k1 k2 kept.sent rest kept.wrote wrote)

-- why the rest wasn't written
pub rest_stop : (k0 k1 k2 : SinkSeen) (all rest : List ℕ) → KeptBack k0 k1 all rest → k0.faults ≤ k1.faults → (how : Ending) → MiddleStops rest k1 k2 how → MiddleStops all k0 k2 how
rest_stop k0 k1 k2 all rest kept later how m =
    kept_stop k0 k1 all rest [] (subst (KeptBack k0 k1 all) (sym (append-nil rest)) kept) k2 later how m

-- the text before the files, with sections or without
pub with_sections : (front : List ℕ) (make : Option ℕ) (plan : PlanSeen) (H : List Entry) → is_some make ≡ false
    → (front ++ summary_or_none make H) ++ process_sections plan H ≡ front ++ sections_or_summary make plan H
with_sections front None plan H is = ap (λ (t : List ℕ). t ++ process_sections plan H) (append-nil front)
with_sections front (Some number) plan H is = absurd (false≢true (sym is))

pub without_sections : (front : List ℕ) (make : Option ℕ) (plan : PlanSeen) (H : List Entry) → is_some make ≡ true
    → front ++ summary_or_none make H ≡ front ++ sections_or_summary make plan H
without_sections front None plan H is = absurd (false≢true is)
without_sections front (Some number) plan H is = refl
