-- The files as the processes find them, or the set-up rule that keeps them from being opened. Public clauses cite this.
use Rattle.std.specs.Prelude.{ℕ, ◌==◌, ◌+◌, ◌-◌, nat_le, nat_lt, Bool, List, [], ◌∷◌, ◌++◌, length, drop, map, filter, filter_map, replicate}
use Rattle.std.specs.Prelude.{is_some, true, false, slice_index_or, unwrap_or, Option, Some, None, option_map, option_and_then, IfSome, Result, Ok, Err, if◌then◌else◌, ◌≡◌, ◌≤◌}
use Rattle.std.specs.List.{find, flat_map, list_all, list_any, range_with_len}
use Rattle.std.specs.FinMap as finite
use Rattle.std.specs.Map.{lookup}
use Rattle.std.specs.Str.{bytes_eq}
use Rattle.block_device.specs.declared.rack.Spec.{Spec}
use Rattle.block_device.specs.declared.rack.Spec.TheVariants as spec
use Rattle.block_device.specs.DiskSeen.{DiskSeen, HasBlocks}
use Rattle.block_device.specs.Joins.{content_of_both}
use Rattle.block_device.specs.RackSeen.{spec_number, IsAttached}
use Rattle.vm_report.specs.flat_model.Flat.{File, Flat}
use Rattle.vm_report.specs.flat_model.Opening.{flat_at_opening}
use Rattle.vm_report.specs.flat_model.Parts.{file_at_opening}
use Rattle.volume_format.specs.vnode_files.declared.extent.Extent.{Extent}
use Rattle.volume_format.specs.vnode_files.declared.extent.TheConstants.{MOST_EXTENTS}
use Rattle.volume_format.specs.vnode_files.declared.vnode.FileInfo.{FileInfo}
use Rattle.volume_format.specs.vnode_files.Grow.{is_free}
use Rattle.volume_format.specs.declared.rules.BadVolume.{BadVolume}
use Rattle.volume_format.specs.Rules.{reading}
use Rattle.volume_format.specs.Table.{TableSeen}
use Rattle.volume_format.specs.Volume.{IsVolumeTable}
use Rattle.vm_report.specs.vm_script.declared.plan.SetupAct.{SetupAct}
use Rattle.vm_report.specs.vm_script.declared.plan.SetupAct.TheVariants as given
use Rattle.vm_report.specs.vm_script.declared.plan.SetupLine.{SetupLine}
use Rattle.vm_report.specs.vm_script.FileNames.{with_files}
use Rattle.vm_report.specs.vm_script.PlanSeen.{PlanSeen}
use Rattle.vm_report.specs.vm_script.Processes.{kernel_parents}
use Rattle.vm_report.specs.vm_script.Rules.{amounts_of, gives_disk, is_from_to}
use Rattle.joined_disk.specs.disk_stripe.StripeSeen.{stripe_blocks}
use Rattle.volume_disks.specs.Volumes.{first_spec, is_mirror, size_fault, spec_count}
use Rattle.volume_disks.specs.declared.stops.VolumeStop.{VolumeStop}
use Rattle.volume_disks.specs.declared.stops.VolumeStop.TheVariants as unfit
use Rattle.volume_disks.specs.declared.volume_spec.VolumeSpec.{VolumeSpec}
use Rattle.volume_disks.specs.declared.volume_spec.VolumeSpec.TheVariants.{Plain, Joined}
use Rattle.stored_files.specs.Closed.{info_on, stored_bytes}
use Rattle.volume_files.specs.declared.stops.Refusal.{Refusal}
use Rattle.volume_files.specs.declared.stops.Refusal.TheVariants as refusal

-- The disk that a set-up line gives, if it gives one.
abbrev pub given_disk : SetupAct → Option Spec
given_disk (given.Blank disk blocks) = Some (spec.Blank disk blocks)
given_disk (given.Path disk path) = Some (spec.Path disk path)
given_disk a = None

-- The disk of a number that these lines give, if one does.
abbrev pub disk_numbered : List SetupLine → ℕ → Option Spec
disk_numbered setup number = option_and_then (λ l. given_disk l.act) (find (λ l. gives_disk number l.act) setup)

-- The disk to which a line joins that of a number as its second, and whether it mirrors the two.
abbrev pub joined_to : ℕ → SetupAct → Option (ℕ × Bool)
joined_to number (given.Join disk other mirror) = if disk == number then Some (other, mirror) else None
joined_to number a = None

-- The line joins the disk of a number to another as its second.
abbrev pub is_second : ℕ → SetupAct → Bool
is_second number (given.Join disk other mirror) = other == number
is_second number a = false

-- The disk to which the first of these lines joins that of a number, and whether it mirrors the two.
abbrev pub joined_by : List SetupLine → ℕ → Option (ℕ × Bool)
joined_by setup number = option_and_then (λ (l : SetupLine). joined_to number l.act) (find (λ (l : SetupLine). is_some (joined_to number l.act)) setup)

-- The second disk of the volume of a number, where a line joins one to it, and whether it mirrors the two.
abbrev pub second_numbered : List SetupLine → ℕ → Option (Spec × Bool)
second_numbered setup number = option_and_then (λ (j : ℕ × Bool). option_map (λ (s : Spec). (s, j.1)) (disk_numbered setup j.0)) (joined_by setup number)

-- The volume of a disk alone, or of it and the second one, if one is joined to it.
abbrev pub with_second : Option (Spec × Bool) → Spec → VolumeSpec
with_second None first = Plain first
with_second (Some second) first = Joined first second.0 second.1

-- The volume of a number that these lines give, if they give one: a disk that is the second of two is none.
abbrev pub volume_numbered : List SetupLine → ℕ → Option VolumeSpec
volume_numbered setup number =
    if list_any (λ (l : SetupLine). is_second number l.act) setup then None else option_map (with_second (second_numbered setup number)) (disk_numbered setup number)

-- The number of a volume: that of its disk, or of its first disk.
abbrev pub volume_number : VolumeSpec → ℕ
volume_number v = spec_number (first_spec v)

-- The volumes of these lines, in rising number.
abbrev pub setup_volumes : List SetupLine → List VolumeSpec
setup_volumes setup = filter_map (volume_numbered setup) (range_with_len 0 8)

-- THE VOLUMES of a plan: the disks on which files lie, each one that is attached, or two as one. Whatever is said of files, tables and sizes goes by these.
abbrev pub volume_specs : PlanSeen → List VolumeSpec
volume_specs plan = setup_volumes plan.setup

-- The blocks of the disk of a spec as it is attached.
abbrev pub blocks_held : (Spec → Option (List (List ℕ))) → Spec → List (List ℕ)
blocks_held holds (spec.Blank number blocks) = replicate blocks (replicate 4096 0)
blocks_held holds (spec.Path number path) = unwrap_or (holds (spec.Path number path)) []

-- The blocks of a volume as it is attached: those of its disk, those of both in turn, or, of a mirror, those of the first.
abbrev pub volume_blocks : (Spec → Option (List (List ℕ))) → VolumeSpec → List (List ℕ)
volume_blocks holds (Plain s) = blocks_held holds s
volume_blocks holds (Joined first second false) = stripe_blocks (blocks_held holds first) (blocks_held holds second)
volume_blocks holds (Joined first second true) = blocks_held holds first

-- The volumes as they are attached, with their numbers.
abbrev pub volumes_held : (Spec → Option (List (List ℕ))) → List VolumeSpec → List (ℕ × List (List ℕ))
volumes_held holds specs = map (λ v. (volume_number v, volume_blocks holds v)) specs

-- How many blocks two disks of this size have as one: both together, or, of a mirror, those of one.
abbrev pub joined_size : Bool → ℕ → ℕ
joined_size false size = size + size
joined_size true size = size

-- The blocks of two disks as one, where both tell: in turn, or, of a mirror, those of the first.
abbrev pub joined_content : Bool → Option (List (List ℕ)) → Option (List (List ℕ)) → Option (List (List ℕ))
joined_content false first second = content_of_both stripe_blocks first second
joined_content true first second = content_of_both (λ blocks others. blocks) first second

-- Both disks of a volume were attached, their sizes fit, and the volume has their blocks and its
-- size.
pub record AreJoined (holds : Spec → Option (List (List ℕ))) (first second : Spec) (mirror : Bool) (disk : DiskSeen) : Type 0 where
  pub a : DiskSeen
  pub b : DiskSeen
  pub one : IsAttached first (holds first) a
  pub two : IsAttached second (holds second) b
  pub one_whole : HasBlocks a.content a.size
  pub two_whole : HasBlocks b.content b.size
  pub fit : size_fault (spec_number first, a.size) (spec_number second, b.size) ≡ None
  pub size : disk.size ≡ joined_size mirror a.size
  pub content : disk.content ≡ joined_content mirror a.content b.content

-- A volume was attached: its one disk, or both its disks joined.
abbrev pub HasVolumeBlocks : (Spec → Option (List (List ℕ))) → VolumeSpec → DiskSeen → Type 0
HasVolumeBlocks holds (Plain s) disk = IsAttached s (holds s) disk
HasVolumeBlocks holds (Joined first second mirror) disk = AreJoined holds first second mirror disk

-- How many disks a volume has by its spec, and whether it mirrors them.
abbrev pub spec_kind : VolumeSpec → ℕ × Bool
spec_kind v = (spec_count v, is_mirror v)

-- How many disks a disk is, and whether it has each block on two of them.
abbrev pub disk_kind : DiskSeen → ℕ × Bool
disk_kind d = (d.kind.members, d.kind.mirror)

-- A volume was attached, and it is as many disks as its spec has, mirrored exactly where it says so.
abbrev pub IsVolumeAttached : (Spec → Option (List (List ℕ))) → VolumeSpec → DiskSeen → Type 0
IsVolumeAttached holds v disk = HasVolumeBlocks holds v disk × (disk_kind disk ≡ spec_kind v)

-- A file as it is opened: its record, and the bytes up to its length.
pub record OpenedFile : Type 0 where
  pub info : FileInfo
  pub bytes : List ℕ

-- A file of a volume as it is opened: its record on the disk of that number, and the bytes that the
-- disk has of it.
abbrev pub mounted_file : ℕ × List (List ℕ) → FileInfo → OpenedFile
mounted_file disk info = record { info = info_on disk.0 info; bytes = stored_bytes disk.1 info }

-- The table of a disk that was read, or the rule of volumes that its block 0 breaks.
abbrev pub table_read : Result TableSeen BadVolume → Result TableSeen ℕ
table_read (Ok table) = Ok table
table_read (Err bad) = Err bad.rule

-- The table that block 0 says of a disk of so many blocks, or the rule of volumes that is broken: 0 where these are fewer than 2 or more than 16,384.
abbrev pub table_of_read : List ℕ → ℕ → Result TableSeen ℕ
table_of_read block size = if is_from_to 2 16384 size then table_read (reading block size) else Err 0

-- The table of a disk of these blocks.
abbrev pub table_on : List (List ℕ) → Result TableSeen ℕ
table_on blocks = table_of_read (slice_index_or blocks 0 []) (length blocks)

-- The number of a spec's disk, and how many blocks it has as it is held.
abbrev pub held_size : (Spec → Option (List (List ℕ))) → Spec → ℕ × ℕ
held_size holds s = (spec_number s, length (blocks_held holds s))

-- The rule that two disks' sizes break: rule 0 of volumes for the size of one, set-up rule 15 if
-- they differ.
abbrev pub size_refusal : VolumeStop → Option Refusal
size_refusal (unfit.Size disk) = Some (refusal.Volume disk 0)
size_refusal unfit.Unequal = Some (refusal.Rule 15)
size_refusal why = None

-- The rule that the sizes of a volume's two disks break, if it has two and their sizes don't serve.
abbrev pub sizes_refused : (Spec → Option (List (List ℕ))) → VolumeSpec → Option Refusal
sizes_refused holds (Plain s) = None
sizes_refused holds (Joined first second mirror) = option_and_then size_refusal (size_fault (held_size holds first) (held_size holds second))

-- The table of the volume of a number, or the refusal by the rule that its size or block 0 breaks.
abbrev pub told_table : ℕ → Result TableSeen ℕ → Result TableSeen Refusal
told_table number (Err rule) = Err (refusal.Volume number rule)
told_table number (Ok table) = Ok table

-- A table or its refusal, unless a rule was broken before it.
abbrev pub unless_refused : Option Refusal → Result TableSeen Refusal → Result TableSeen Refusal
unless_refused (Some r) table = Err r
unless_refused None table = table

-- The table of a volume as it is held, or the rule that its disks' sizes, its own size or its block
-- 0 breaks.
abbrev pub volume_table : (Spec → Option (List (List ℕ))) → VolumeSpec → Result TableSeen Refusal
volume_table holds v = unless_refused (sizes_refused holds v) (told_table (volume_number v) (table_on (volume_blocks holds v)))

-- The files of a volume, and behind them those of the volumes behind it; or the first rule that is
-- broken.
abbrev pub with_mounted : ℕ × List (List ℕ) → Result TableSeen Refusal → Result (List OpenedFile) Refusal → Result (List OpenedFile) Refusal
with_mounted disk (Err r) more = Err r
with_mounted disk (Ok table) (Err r) = Err r
with_mounted disk (Ok table) (Ok files) = Ok (map (mounted_file disk) table.entries ++ files)

-- The files that volumes have as they are attached, volume by volume, each in the order of its table; or the first rule that is broken.
abbrev pub mounted_files : (Spec → Option (List (List ℕ))) → List VolumeSpec → Result (List OpenedFile) Refusal
mounted_files holds [] = Ok []
mounted_files holds (v ∷ specs) = with_mounted (volume_number v, volume_blocks holds v) (volume_table holds v) (mounted_files holds specs)

-- The extents of those of the files that lie on a disk.
abbrev pub extents_of_disk : ℕ → List FileInfo → List Extent
extents_of_disk disk infos = flat_map (λ i. i.extents) (filter (λ i. i.disk == disk) infos)

-- So many blocks from a block on are free.
abbrev pub is_free_run : ℕ → List Extent → ℕ → ℕ → Bool
is_free_run blocks extents pages start = list_all (is_free blocks extents) (range_with_len start pages)

-- The least block from block 1 on from which so many blocks are free; none where there is none, or where the extents fill a table.
abbrev pub place_for : ℕ → List Extent → ℕ → Option ℕ
place_for blocks extents pages =
    if nat_lt (length extents) MOST_EXTENTS then find (is_free_run blocks extents pages) (range_with_len 1 (blocks - 1)) else None

-- A file that a line of the script gives, with one extent.
abbrev pub new_file : List ℕ → Bool → ℕ → ℕ → List ℕ → ℕ → OpenedFile
new_file name writable disk pages bytes start = record {
  info = record { name = name; disk = disk; extents = record { start = start; pages = pages } ∷ []; length = length bytes; writable = writable };
  bytes = bytes;
}

-- The records of opened files.
abbrev pub infos_of : List OpenedFile → List FileInfo
infos_of files = map (λ f. f.info) files

-- The names of opened files.
abbrev pub names_of : List OpenedFile → List (List ℕ)
names_of files = map (λ f. f.info.name) files

-- The bytes of opened file k; none if there are fewer files.
abbrev pub opened_bytes_at : List OpenedFile → ℕ → List ℕ
opened_bytes_at files k = slice_index_or (map (λ f. f.bytes) files) k []

-- The files with one more that begins at a block, or set-up rule 12 if no block serves.
abbrev pub with_placed : List OpenedFile → (ℕ → OpenedFile) → Option ℕ → Result (List OpenedFile) Refusal
with_placed files file None = Err (refusal.Rule 12)
with_placed files file (Some start) = Ok (files ++ file start ∷ [])

-- The files with that of a set-up line, if it gives one; or the rule that it breaks: there may be 64 files, its name has to be new, and there has
-- to be a place for it.
abbrev pub with_line_file : (ℕ → ℕ) → List OpenedFile → SetupAct → Result (List OpenedFile) Refusal
with_line_file sizes files (given.File name writable disk pages bytes) =
    if nat_le 64 (length files) then Err (refusal.Rule 10)
    else if list_any (bytes_eq name) (names_of files) then Err (refusal.Rule 11)
    else with_placed files (new_file name writable disk pages bytes) (place_for (sizes disk) (extents_of_disk disk (infos_of files)) pages)
with_line_file sizes files a = Ok files

-- The files with those of all set-up lines, one line after another; or the first rule that one
-- breaks.
abbrev pub with_line_files : (ℕ → ℕ) → Result (List OpenedFile) Refusal → List SetupLine → Result (List OpenedFile) Refusal
with_line_files sizes (Err r) setup = Err r
with_line_files sizes (Ok files) [] = Ok files
with_line_files sizes (Ok files) (l ∷ setup) = with_line_files sizes (with_line_file sizes files l.act) setup

-- The files if there are at most 64, otherwise set-up rule 10; a rule broken before stands.
abbrev pub if_few : Result (List OpenedFile) Refusal → Result (List OpenedFile) Refusal
if_few (Err r) = Err r
if_few (Ok files) = if nat_lt 64 (length files) then Err (refusal.Rule 10) else Ok files

-- The size of the disk of a number.
abbrev pub size_held : List (ℕ × List (List ℕ)) → ℕ → ℕ
size_held disks number = unwrap_or (option_map length (lookup (λ n. n == number) disks)) 0

-- THE FILES AS THEY ARE OPENED: those of the volumes and then those of the script's lines; or the first set-up rule that is broken.
abbrev pub opened_files : PlanSeen → (Spec → Option (List (List ℕ))) → Result (List OpenedFile) Refusal
opened_files plan holds =
    with_line_files (size_held (volumes_held holds (volume_specs plan))) (if_few (mounted_files holds (volume_specs plan))) plan.setup

-- The records of the files that tables have, on the disks of these numbers.
abbrev pub mounted_infos : List ℕ → List TableSeen → List FileInfo
mounted_infos [] tables = []
mounted_infos (n ∷ numbers) [] = []
mounted_infos (n ∷ numbers) (t ∷ tables) = map (info_on n) t.entries ++ mounted_infos numbers tables

-- How many blocks the disk of a number has, of disks with these numbers and sizes.
abbrev pub size_among : List (ℕ × ℕ) → ℕ → ℕ
size_among sizes number = unwrap_or (lookup (λ n. n == number) sizes) 0

-- The blocks that the rack tells it holds for a disk by path; none for a blank disk.
abbrev pub content_held : (Spec → Option (List (List ℕ))) → Spec → Option (List (List ℕ))
content_held holds (spec.Blank number blocks) = None
content_held holds (spec.Path number path) = holds (spec.Path number path)

-- The blocks that the rack tells it holds for a volume: those of its disk, or those of both as one.
abbrev pub volume_content : (Spec → Option (List (List ℕ))) → VolumeSpec → Option (List (List ℕ))
volume_content holds (Plain s) = content_held holds s
volume_content holds (Joined first second mirror) = joined_content mirror (content_held holds first) (content_held holds second)

-- Where the rack tells the blocks of a volume, block 0 says this table.
abbrev pub RackSays : (Spec → Option (List (List ℕ))) → VolumeSpec → TableSeen → Type 0
RackSays holds v table = IfSome (volume_content holds v) (λ blocks. table_on blocks ≡ Ok table)

-- The table that was read of a volume, of this number and size, as it was attached.
pub record IsTableRead (holds : Spec → Option (List (List ℕ))) (s : VolumeSpec) (disk : ℕ × ℕ) (table : TableSeen) : Type 0 where
  pub number : disk.0 ≡ volume_number s
  pub some : 2 ≤ disk.1
  pub few : disk.1 ≤ 16384
  pub blocks : table.blocks ≡ disk.1
  pub volume : IsVolumeTable table
  pub told : RackSays holds s table

-- Each of these tables was read of the volume of its spec, on the disk of that number and size.
abbrev pub AreTablesRead : (Spec → Option (List (List ℕ))) → List VolumeSpec → List (ℕ × ℕ) → List TableSeen → Type 0
AreTablesRead holds [] [] [] = Unit {0}
AreTablesRead holds (s ∷ specs) (d ∷ disks) (t ∷ tables) = IsTableRead holds s d t × AreTablesRead holds specs disks tables
AreTablesRead holds specs disks tables = ⊥

-- THE FILES OVER ANY DISKS, whether they tell or not: those of the tables that were read, and then those of the script's lines; or the rule from 10 to
-- 12 that is broken. What hangs on telling is which tables these are, and the bytes of their files.
pub record ComesTo (plan : PlanSeen) (holds : Spec → Option (List (List ℕ))) (sizes : List (ℕ × ℕ)) (files : Result (List OpenedFile) Refusal) : Type 0 where
  pub tables : List TableSeen
  pub found : List OpenedFile
  pub read : AreTablesRead holds (volume_specs plan) sizes tables
  pub mounted : infos_of found ≡ mounted_infos (map (λ (d : ℕ × ℕ). d.0) sizes) tables
  pub lines : with_line_files (size_among sizes) (if_few (Ok found)) plan.setup ≡ files

-- The files of the script's lines: those behind the ones that the tables have.
abbrev pub line_files_of : List OpenedFile → List OpenedFile → List OpenedFile
line_files_of found files = drop (length found) files

-- The plan with the numbers of the files of its names.
abbrev pub numbered_plan : List OpenedFile → PlanSeen → PlanSeen
numbered_plan files plan = with_files (names_of files) plan

-- A file of flat memory as it is opened: its tail is zeros.
abbrev pub opened_flat_file : OpenedFile → File
opened_flat_file f = file_at_opening f.info.length f.info.disk f.info.extents f.info.writable f.bytes

-- The processes without a parent, by the parents of the processes from number p on.
abbrev pub top_processes : ℕ → List ℕ → List ℕ
top_processes p [] = []
top_processes p (parent ∷ parents) = if parent == 0 then p ∷ top_processes (p + 1) parents else top_processes (p + 1) parents

-- FLAT MEMORY AS THE PROCESSES FIND IT: the swap slots, the disks of these numbers and sizes, these files, and each top process with an empty space.
abbrev pub opening_flat : PlanSeen → List (ℕ × ℕ) → List OpenedFile → Flat
opening_flat plan sizes files =
    flat_at_opening (amounts_of plan.setup).slots (finite.from_entries sizes) (map opened_flat_file files) (top_processes 1 (kernel_parents plan))
