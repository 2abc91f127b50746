use Rattle.std.proofs.Common.{refl, length}
use Rattle.std.specs.Prelude.{Ok}
use Rattle.volume_files.specs.Opened.{opening_flat}
use Rattle.volume_files.specs.stored_files.Written.{disk_sizes}
use Rattle.trace_check.specs.declared.verdict.Verdict.TheVariants as verdict
use Rattle.printed_traces.specs.Printed.{printed_text}
use Rattle.printed_traces.proofs.RunsTold.{run-stands}
use Rattle.printed_traces.proofs.printed_laws.printed_trace_law.Goals as goal

pub returns : goal.returns
returns c = record {
  stands = run-stands;
  legal = λ plan holds files a made H bytes ran are r answer.
      c.one_answer_law.ensures (printed_text plan (disk_sizes a.disks) files bytes H) r (Ok (verdict.Legal (length H))) answer
      (opening_flat plan (disk_sizes a.disks) files, H, run-stands plan holds files a made H bytes ran are, (ran.legal, refl));
}
