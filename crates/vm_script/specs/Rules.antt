-- The set-up rules that look at the script alone. Public clauses cite this.
use Rattle.std.specs.Prelude.{ℕ, ◌+◌, ◌*◌, ◌==◌, Bool, true, false, not, ◌&&◌, ◌||◌, List, [], ◌∷◌, length, fold, count_by, nat_le, nat_lt, Option, Some, None, if◌then◌else◌}
use Rattle.std.specs.List.{list_any}
use Rattle.vm_script.specs.declared.plan.SetupAct.{SetupAct}
use Rattle.vm_script.specs.declared.plan.SetupAct.TheVariants as given
use Rattle.vm_script.specs.declared.plan.SetupLine.{SetupLine}
use Rattle.vm_script.specs.declared.rules.Amounts.{Amounts}
use Rattle.vm_script.specs.PlanSeen.{PlanSeen}
use Rattle.vm_script.specs.Counts.{entry_count}

-- What one more line gives: page frames, swap slots or translations.
abbrev pub with_amount : Amounts → SetupLine → Amounts
with_amount amounts l = elim l.act [
  | given.Frames n ↦ record amounts { frames = n }
  | given.Swap n ↦ record amounts { slots = n }
  | given.Translations n ↦ record amounts { translations = n }
  | _ ↦ amounts
]

-- What these lines give, where no line does the default.
abbrev pub amounts_of : List SetupLine → Amounts
amounts_of setup = fold with_amount (record { frames = 64; slots = 64; translations = 256 }) setup

-- The line gives a disk.
abbrev pub gives_a_disk : SetupAct → Bool
gives_a_disk (given.Blank disk blocks) = true
gives_a_disk (given.Path disk path) = true
gives_a_disk a = false

-- The line gives the disk of this number.
abbrev pub gives_disk : ℕ → SetupAct → Bool
gives_disk d (given.Blank disk blocks) = disk == d
gives_disk d (given.Path disk path) = disk == d
gives_disk d a = false

-- The disks, the swap disk among them where there are swap slots.
abbrev pub disk_line_count : List SetupLine → ℕ
disk_line_count setup = count_by (λ l. gives_a_disk l.act) setup + (if (amounts_of setup).slots == 0 then 0 else 1)

-- The number lies from low to high, both included.
abbrev pub is_from_to : ℕ → ℕ → ℕ → Bool
is_from_to low high n = nat_le low n && nat_le n high

-- The frames are at least four more than the disks, and at most 4096.
abbrev pub has_wrong_frames : List SetupLine → Bool
has_wrong_frames setup = not (is_from_to (disk_line_count setup + 4) 4096 (amounts_of setup).frames)

-- A disk's number is at most 7, and a blank disk has 2 to 16,384 blocks.
abbrev pub is_right_disk : SetupAct → Bool
is_right_disk (given.Blank disk blocks) = nat_le disk 7 && is_from_to 2 16384 blocks
is_right_disk (given.Path disk path) = nat_le disk 7
is_right_disk a = true

-- The line gives the number of a disk that one of these lines gives.
abbrev pub gives_again : SetupAct → List SetupLine → Bool
gives_again (given.Blank disk blocks) others = list_any (λ l. gives_disk disk l.act) others
gives_again (given.Path disk path) others = list_any (λ l. gives_disk disk l.act) others
gives_again a others = false

-- A disk line is wrong by itself, or gives a number that a later one gives too.
abbrev pub has_wrong_disk : List SetupLine → Bool
has_wrong_disk [] = false
has_wrong_disk (l ∷ setup) = not (is_right_disk l.act) || gives_again l.act setup || has_wrong_disk setup

-- The line is a file's, and none of the set-up lines gives its disk.
abbrev pub lacks_disk : List SetupLine → SetupAct → Bool
lacks_disk setup (given.File name writable disk pages bytes) = not (list_any (λ l. gives_disk disk l.act) setup)
lacks_disk setup a = false

-- The line is a file's, and its pages are too few, too many, or too few for its bytes.
abbrev pub is_wrong_file : SetupAct → Bool
is_wrong_file (given.File name writable disk pages bytes) = not (is_from_to 1 16383 pages) || nat_lt (pages * 4096) (length bytes)
is_wrong_file a = false

-- The line joins two disks.
abbrev pub is_join : SetupAct → Bool
is_join (given.Join disk other mirror) = true
is_join a = false

-- The line joins the disk of this number to another.
abbrev pub joins_disk : ℕ → SetupAct → Bool
joins_disk d (given.Join disk other mirror) = (disk == d) || (other == d)
joins_disk d a = false

-- The line is that of a file on the disk of this number.
abbrev pub lays_file_on : ℕ → SetupAct → Bool
lays_file_on d (given.File name writable disk pages bytes) = disk == d
lays_file_on d a = false

-- One of these lines gives the disk of this number, and no two of them join it.
abbrev pub can_be_joined : List SetupLine → ℕ → Bool
can_be_joined setup d = list_any (λ l. gives_disk d l.act) setup && nat_le (count_by (λ l. joins_disk d l.act) setup) 1

-- The first disk of a join can't be joined, or is the second too.
abbrev pub is_wrong_first : List SetupLine → ℕ → ℕ → Bool
is_wrong_first setup disk other = (disk == other) || not (can_be_joined setup disk)

-- The second disk of a join can't be joined, or has a file.
abbrev pub is_wrong_second : List SetupLine → ℕ → Bool
is_wrong_second setup other = not (can_be_joined setup other) || list_any (λ l. lays_file_on other l.act) setup

-- The line joins disks of which one is wrong in its place.
abbrev pub is_wrong_pair : List SetupLine → ℕ → ℕ → Bool
is_wrong_pair setup disk other = is_wrong_first setup disk other || is_wrong_second setup other

-- The line joins two disks of which one is wrong in its place.
abbrev pub is_wrong_join : List SetupLine → SetupAct → Bool
is_wrong_join setup (given.Join disk other mirror) = is_wrong_pair setup disk other
is_wrong_join setup a = false

-- The rule of joined disks, where a line breaks it.
abbrev pub broken_join : List SetupLine → Option ℕ
broken_join setup = if list_any (λ l. is_wrong_join setup l.act) setup then Some 14 else None

-- The first of these rules that the plan breaks, by its number.
abbrev pub broken_rule : PlanSeen → Option ℕ
broken_rule plan =
    if has_wrong_frames plan.setup then Some 1
    else if nat_lt 65536 (amounts_of plan.setup).slots then Some 2
    else if not (is_from_to 8 65536 (amounts_of plan.setup).translations) then Some 3
    else if has_wrong_disk plan.setup then Some 4
    else if list_any (λ l. lacks_disk plan.setup l.act) plan.setup then Some 5
    else if list_any (λ l. is_wrong_file l.act) plan.setup then Some 6
    else if nat_lt 64 (length plan.parents) then Some 7
    else if nat_lt 1048576 (entry_count plan.lines) then Some 8
    else broken_join plan.setup
