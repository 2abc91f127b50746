-- A plan that is ready.
use Rattle.std.proofs.Common.{◌≡◌, ℕ, ◌<◌, ◌^◌, List, length, sym, subst, arith}
use Rattle.std.specs.Prelude.{None, Ok, Option}
use Rattle.std.proofs.lemmas.List.{length-map}
use Rattle.volume_files.specs.block_device.StreamSeen.{SinkSeen}
use Rattle.volume_files.specs.block_device.declared.rack.Spec.{Spec}
use Rattle.volume_files.specs.vm_script.PlanSeen.{PlanSeen}
use Rattle.volume_files.specs.vm_script.Rules.{broken_rule}
use Rattle.volume_files.specs.vnode_files.Files.{FilesSeen}
use Rattle.run_input.specs.Asked.{Given, Asked, WasAsked}
use Rattle.volume_files.specs.Attached.{ArePlaced, AttachedSeen}
use Rattle.volume_files.specs.stored_files.Written.{AreOnlyRead, disk_sizes}
use Rattle.run_opening.specs.Ready.{AreReadBytes, IsReady}
use Rattle.volume_files.specs.Opened.{OpenedFile, infos_of, names_of, numbered_plan}
use Rattle.run_input.specs.Reading.{IsPlayable}
use Rattle.volume_files.specs.stored_files.Texts.{Wrote}
use Rattle.run_report.specs.AskedTexts.{trace_opening}
use Rattle.volume_files.proofs.FileLineLemmas.{length-made}
use Rattle.run_input.proofs.PlayablePlans.{playable-named}
use Rattle.run_opening.proofs.Traced.{opening-read, placed-read, tell-read}

-- placed by the plan, and so by the plan with the numbers of its files
numbered-placed : (plan : PlanSeen) (holds : Spec → Option (List (List ℕ))) (files : List OpenedFile) (a : AttachedSeen) (made : FilesSeen) → ArePlaced plan holds files a made
    → ArePlaced (numbered_plan files plan) holds files a made
numbered-placed plan holds files a made p = record {
  numbers = p.numbers;
  handed = record { each = p.handed.each; kinds = p.handed.kinds; first = p.handed.first };
  sizes = p.sizes;
  fresh = p.fresh;
  well = p.well;
  have = p.have;
  some = p.some;
  names = p.names;
  own = p.own;
  kept = p.kept;
  given = record { tables = p.given.tables; found = p.given.found; read = p.given.read; mounted = p.given.mounted; lines = p.given.lines };
  written = record { each = p.written.each; last = p.written.last };
  filled = p.filled;
  told = p.told;
  stored = p.stored;
}

pub placed-as : (plan old : PlanSeen) (holds : Spec → Option (List (List ℕ))) (files : List OpenedFile) (a : AttachedSeen) (made : FilesSeen) → plan ≡ numbered_plan files old
    → ArePlaced old holds files a made → ArePlaced plan holds files a made
placed-as plan old holds files a made is p = subst (λ (q : PlanSeen). ArePlaced q holds files a made) (sym is) (numbered-placed old holds files a made p)

-- the plan with the numbers of its files may be played
pub numbered-playable : (plan new : PlanSeen) (holds : Spec → Option (List (List ℕ))) (files : List OpenedFile) (a : AttachedSeen) (made : FilesSeen) → ArePlaced plan holds files a made
    → new ≡ numbered_plan files plan → IsPlayable plan → IsPlayable new
numbered-playable plan new holds files a made p is may =
    let count : length made.files ≡ length files = length-made made files p.fresh in
    let few : length (names_of files) < 2 ^ 32 = omega (arith, count, p.well.few_files, length-map files (λ (f : OpenedFile). f.info.name)) in
    subst IsPlayable (sym is) (playable-named (names_of files) plan few may)

-- A run is ready once its trace was written.
pub is-ready : (g : Given) (k0 k1 : SinkSeen) (what : Asked) (files : List OpenedFile) (bytes : ℕ → List ℕ) → WasAsked g (Ok what) → (a b : AttachedSeen) (made made2 : FilesSeen)
    → ArePlaced what.plan g.holds files a made → AreReadBytes files a.disks bytes → AreOnlyRead a.disks b.disks → b.swap ≡ a.swap → made2 ≡ made → (plan : PlanSeen)
    → plan ≡ numbered_plan files what.plan → broken_rule plan ≡ None → IsPlayable plan → Wrote k0 k1 (trace_opening what.options plan (disk_sizes a.disks) (infos_of files) bytes)
    → IsReady g k0 k1 what files bytes b made2 plan
is-ready g k0 k1 what files bytes asked a b made made2 p read r same kept plan numbered rules playable wrote = record {
  asked = asked;
  placed = subst (ArePlaced what.plan g.holds files b) (sym kept) (placed-read what.plan g.holds files a b made p r same);
  numbered = numbered;
  rules = rules;
  playable = playable;
  read = record { lengths = read.lengths; told = λ t. read.told (tell-read (infos_of files) a.disks b.disks r t) };
  wrote = subst (Wrote k0 k1) (opening-read what files bytes a b.disks made g.holds p r)
      (subst (λ (q : PlanSeen). Wrote k0 k1 (trace_opening what.options q (disk_sizes a.disks) (infos_of files) bytes)) numbered wrote);
}
