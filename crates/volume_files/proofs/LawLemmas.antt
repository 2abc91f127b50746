-- What a file line that keeps the rules gives, and what it keeps of the files.
use Rattle.std.specs.Prelude.{ℕ, ◌≡◌, ◌≢◌, ◌<◌, ◌≤◌, ◌+◌, ◌*◌, ◌&&◌, not, nat_le, nat_lt, Bool, true, false, List, [], ◌∷◌, ◌++◌, length, codes, Option, Some, None, All, if◌then◌else◌}
use Rattle.std.specs.List.{AllByRecursion, list_any, list_all}
use Rattle.std.specs.Str.{bytes_eq}
use Rattle.std.proofs.Common.{sym, subst, refl, arith}
use Rattle.std.proofs.lemmas.Bool.{both_ways, and_parts, leb-true, ltb-false, not-true, not-false, or_parts as or_none}
use Rattle.std.proofs.lemmas.List.{map_push}
use Rattle.std.proofs.lemmas.List.Elements.{recursion_from_All, All-from_recursion}
use Rattle.std.proofs.lemmas.List.Sums.{sum_by-cons}
use Rattle.volume_format.specs.vnode_files.declared.extent.Extent.{Extent}
use Rattle.volume_format.specs.vnode_files.declared.vnode.FileInfo.{FileInfo}
use Rattle.volume_format.specs.vnode_files.Grow.{page_count}
use Rattle.volume_format.specs.Rules.{is_table_name_byte}
use Rattle.volume_format.specs.Volume.{IsVolumeName}
use Rattle.vm_report.specs.vm_script.declared.plan.SetupAct.{SetupAct}
use Rattle.vm_report.specs.vm_script.declared.plan.SetupAct.TheVariants as given
use Rattle.vm_report.specs.vm_script.declared.plan.SetupLine.{SetupLine}
use Rattle.vm_report.specs.vm_script.Fields.{is_file_name, is_name_letter, is_word}
use Rattle.vm_report.specs.vm_script.PlanSeen.{PlanSeen}
use Rattle.vm_report.specs.vm_script.Printed.{IsSetupAct}
use Rattle.vm_report.specs.vm_script.Counts.{entry_count}
use Rattle.vm_report.specs.vm_script.Rules.{broken_join, broken_rule, has_wrong_frames, amounts_of, is_from_to, has_wrong_disk, lacks_disk, is_wrong_file}
use Rattle.vm_report.specs.vm_script.Sound.{IsSoundSetup}
use Rattle.volume_files.specs.Attached.{HasItsBytes}
use Rattle.volume_files.specs.Opened.{OpenedFile, infos_of, names_of, new_file}
use Rattle.volume_files.specs.Placing.{IsPlaceable}
use Rattle.volume_files.proofs.FileLineLemmas.{bytes-same}
use Rattle.volume_files.proofs.LineLemmas.{KeptByLines, HoldsItsBytes, all_push}
use Rattle.volume_files.proofs.MountedLaws.{Differ, differ-append, all_then}

-- What holds of a file line.
pub record GoodFile (name : List ℕ) (pages : ℕ) (bytes : List ℕ) : Type 0 where
  pub name_is : IsVolumeName name
  pub some : 1 ≤ pages
  pub most : pages ≤ 16383
  pub holds : length bytes ≤ pages * 4096
  pub each : All (λ b. b < 256) bytes

abbrev pub LineLaw : SetupAct → Type 0
LineLaw (given.File name writable disk pages bytes) = GoodFile name pages bytes
LineLaw a = Unit {0}

letters-are : (name : List ℕ) → list_all is_name_letter name ≡ true → list_all is_table_name_byte name ≡ true
unfolding is_table_name_byte
letters-are name h = h

name-law : (name : List ℕ) → is_file_name name ≡ true → IsVolumeName name
name-law name h =
    let a = and_parts (nat_le 1 (length name) && nat_le (length name) 16 && list_all is_name_letter name) (not (is_word name (codes "zero"))) h in
    let b = and_parts (nat_le 1 (length name) && nat_le (length name) 16) (list_all is_name_letter name) a.0 in
    let d = and_parts (nat_le 1 (length name)) (nat_le (length name) 16) b.0 in
    record {
      some = leb-true 1 (length name) d.0;
      short = leb-true (length name) 16 d.1;
      bytes = letters-are name b.1;
      other = λ e. both_ways (bytes_eq name (codes "zero")) (not-true (is_word name (codes "zero")) a.1) (bytes-same name (codes "zero") e);
    }

act-law : (act : SetupAct) → IsSetupAct act → is_wrong_file act ≡ false → LineLaw act
act-law (given.Frames n) sound right = tt
act-law (given.Swap n) sound right = tt
act-law (given.Translations n) sound right = tt
act-law (given.Join disk other mirror) sound right = tt
act-law (given.Blank disk blocks) sound right = tt
act-law (given.Path disk path) sound right = tt
act-law (given.File name writable disk pages bytes) sound right =
    let both = or_none (not (is_from_to 1 16383 pages)) (nat_lt (pages * 4096) (length bytes)) right in
    let range = and_parts (nat_le 1 pages) (nat_le pages 16383) (not-false (is_from_to 1 16383 pages) both.0) in
    record {
      name_is = name-law name sound.0;
      some = leb-true 1 pages range.0;
      most = leb-true pages 16383 range.1;
      holds = ltb-false (pages * 4096) (length bytes) both.1;
      each = sound.4;
    }

-- the plan keeps rule 6
kept_test : (b : Bool) (n : ℕ) (rest : Option ℕ) → (if b then Some n else rest) ≡ None → (b ≡ false) × (rest ≡ None)
kept_test true n rest h = absurd (some-none n h)
  where
    some-none : (n : ℕ) → ◌≡◌ {A = Option ℕ} (Some n) None → ⊥
    some-none n is = cc
kept_test false n rest h = (refl, h)

files-right : (plan : PlanSeen) → broken_rule plan ≡ None → list_any (λ (l : SetupLine). is_wrong_file l.act) plan.setup ≡ false
files-right plan kept =
    let a = (kept_test (has_wrong_frames plan.setup) 1 _ kept).1 in
    let b = (kept_test (nat_lt 65536 (amounts_of plan.setup).slots) 2 _ a).1 in
    let c = (kept_test (not (is_from_to 8 65536 (amounts_of plan.setup).translations)) 3 _ b).1 in
    let d = (kept_test (has_wrong_disk plan.setup) 4 _ c).1 in
    let e = (kept_test (list_any (λ (l : SetupLine). lacks_disk plan.setup l.act) plan.setup) 5 _ d).1 in
    (kept_test (list_any (λ (l : SetupLine). is_wrong_file l.act) plan.setup) 6 _ e).0

-- and the rules of disks and of joins
pub disks-right : (plan : PlanSeen) → broken_rule plan ≡ None → has_wrong_disk plan.setup ≡ false
disks-right plan kept =
    let a = (kept_test (has_wrong_frames plan.setup) 1 _ kept).1 in
    let b = (kept_test (nat_lt 65536 (amounts_of plan.setup).slots) 2 _ a).1 in
    let c = (kept_test (not (is_from_to 8 65536 (amounts_of plan.setup).translations)) 3 _ b).1 in
    (kept_test (has_wrong_disk plan.setup) 4 _ c).0

pub joins-right : (plan : PlanSeen) → broken_rule plan ≡ None → broken_join plan.setup ≡ None
joins-right plan kept =
    let a = (kept_test (has_wrong_frames plan.setup) 1 _ kept).1 in
    let b = (kept_test (nat_lt 65536 (amounts_of plan.setup).slots) 2 _ a).1 in
    let c = (kept_test (not (is_from_to 8 65536 (amounts_of plan.setup).translations)) 3 _ b).1 in
    let d = (kept_test (has_wrong_disk plan.setup) 4 _ c).1 in
    let e = (kept_test (list_any (λ (l : SetupLine). lacks_disk plan.setup l.act) plan.setup) 5 _ d).1 in
    let f = (kept_test (list_any (λ (l : SetupLine). is_wrong_file l.act) plan.setup) 6 _ e).1 in
    let h = (kept_test (nat_lt 64 (length plan.parents)) 7 _ f).1 in
    (kept_test (nat_lt 1048576 (entry_count plan.lines)) 8 _ h).1

each_law : (setup : List SetupLine) → AllByRecursion (λ (l : SetupLine). IsSetupAct l.act) setup
    → list_any (λ (l : SetupLine). is_wrong_file l.act) setup ≡ false → AllByRecursion (λ (l : SetupLine). LineLaw l.act) setup
each_law [] sound right = tt
each_law (l ∷ setup) sound right =
    let both = or_none (is_wrong_file l.act) (list_any (λ (k : SetupLine). is_wrong_file k.act) setup) right in
    (act-law l.act sound.0 both.0, each_law setup sound.1 both.1)

pub line-laws : (plan : PlanSeen) → broken_rule plan ≡ None → IsSoundSetup plan.setup → AllByRecursion (λ (l : SetupLine). LineLaw l.act) plan.setup
line-laws plan kept sound = each_law plan.setup (recursion_from_All (λ (l : SetupLine). IsSetupAct l.act) plan.setup sound) (files-right plan kept)

law-placeable : (act : SetupAct) → LineLaw act → IsPlaceable act
law-placeable (given.Frames n) law = tt
law-placeable (given.Swap n) law = tt
law-placeable (given.Translations n) law = tt
law-placeable (given.Join disk other mirror) law = tt
law-placeable (given.Blank disk blocks) law = tt
law-placeable (given.Path disk path) law = tt
law-placeable (given.File name writable disk pages bytes) law = (law.name_is.some, law.name_is.short, law.some, law.most, law.holds)

pub placeable-lines : (plan : PlanSeen) → broken_rule plan ≡ None → IsSoundSetup plan.setup → All (λ (l : SetupLine). IsPlaceable l.act) plan.setup
placeable-lines plan kept sound =
    All-from_recursion (λ (l : SetupLine). IsPlaceable l.act) plan.setup
    (all_then (λ (l : SetupLine). LineLaw l.act) (λ (l : SetupLine). IsPlaceable l.act) plan.setup (λ l law. law-placeable l.act law) (line-laws plan kept sound))

placeable-holds : (act : SetupAct) → IsPlaceable act → HoldsItsBytes act
placeable-holds (given.Frames n) p = tt
placeable-holds (given.Swap n) p = tt
placeable-holds (given.Translations n) p = tt
placeable-holds (given.Join disk other mirror) p = tt
placeable-holds (given.Blank disk blocks) p = tt
placeable-holds (given.Path disk path) p = tt
placeable-holds (given.File name writable disk pages bytes) p =
    let some = p.2 in
    let holds = p.4 in
    (some, omega (arith, holds))

pub holding-lines : (setup : List SetupLine) → All (λ (l : SetupLine). IsPlaceable l.act) setup → AllByRecursion (λ (l : SetupLine). HoldsItsBytes l.act) setup
holding-lines setup all =
    all_then (λ (l : SetupLine). IsPlaceable l.act) (λ (l : SetupLine). HoldsItsBytes l.act) setup (λ l p. placeable-holds l.act p)
    (recursion_from_All (λ (l : SetupLine). IsPlaceable l.act) setup all)

-- What is kept of the files' names, bytes and pages.
pub record GoodFiles (files : List OpenedFile) : Type 0 where
  pub names : AllByRecursion (λ (i : FileInfo). IsVolumeName i.name) (infos_of files)
  pub differ : Differ (infos_of files)
  pub own : AllByRecursion HasItsBytes files
  pub kept : AllByRecursion (λ (f : OpenedFile). 1 ≤ page_count f.info.extents) files

each_new : (name : List ℕ) (disk : ℕ) (files : List OpenedFile) → list_any (bytes_eq name) (names_of files) ≡ false
    → AllByRecursion (λ (i : FileInfo). (i.disk ≡ disk → i.name ≢ name) × Unit {0}) (infos_of files)
each_new name disk [] none = tt
each_new name disk (f ∷ files) none =
    let both = or_none (bytes_eq name f.info.name) (list_any (bytes_eq name) (names_of files)) none in
    ((λ same e. both_ways (bytes_eq name f.info.name) both.0 (bytes-same name f.info.name (sym e)), tt), each_new name disk files both.1)

pub good-kept : (sizes : ℕ → ℕ) → KeptByLines sizes LineLaw GoodFiles
good-kept sizes files name writable disk pages bytes start law can good =
    let f = new_file name writable disk pages bytes start in
    let pushed : infos_of (files ++ f ∷ []) ≡ infos_of files ++ f.info ∷ [] = map_push (λ (g : OpenedFile). g.info) files f in
    let e : Extent = record { start = start; pages = pages } in
    let count : page_count (e ∷ []) ≡ pages + 0 = sum_by-cons (λ (x : Extent). x.pages) e [] in
    record {
      names = subst (λ (is : List FileInfo). AllByRecursion (λ (i : FileInfo). IsVolumeName i.name) is) (sym pushed)
          (all_push (λ (i : FileInfo). IsVolumeName i.name) (infos_of files) f.info good.names law.name_is);
      differ = subst Differ (sym pushed) (differ-append (infos_of files) (f.info ∷ []) good.differ (tt, tt) (each_new name disk files can.new));
      own = all_push HasItsBytes files f good.own (record { count = refl; bytes = law.each });
      kept = all_push (λ (g : OpenedFile). 1 ≤ page_count g.info.extents) files f good.kept (omega (arith, count, law.some));
    }
