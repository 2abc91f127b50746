-- What is said of a set-up rule that looks at a script alone, once it is broken. Public clauses cite this.
use Rattle.std.specs.Prelude.{ℕ, ◌+◌, ◌==◌, Bool, not, ◌||◌, List, [], ◌∷◌, ◌++◌, codes, decimal, find, nat_lt, Option, Some, None, if◌then◌else◌}
use Rattle.std.specs.Option.{option_map_or}
use Rattle.vm_script.specs.declared.plan.SetupAct.TheVariants as given
use Rattle.vm_script.specs.declared.plan.SetupLine.{SetupLine}
use Rattle.vm_script.specs.Plans.{gives_frames, gives_swap, gives_translations}
use Rattle.vm_script.specs.Rules.{amounts_of, disk_line_count, gives_again, is_right_disk, is_wrong_file, lacks_disk}

-- The first line that gives the frames, the swap slots or the translations.
abbrev pub frames_line : List SetupLine → Option SetupLine
frames_line setup = find (λ l. gives_frames l.act) setup

abbrev pub swap_line : List SetupLine → Option SetupLine
swap_line setup = find (λ l. gives_swap l.act) setup

abbrev pub translations_line : List SetupLine → Option SetupLine
translations_line setup = find (λ l. gives_translations l.act) setup

-- The first disk line that is wrong by itself, or that a later one repeats.
abbrev pub wrong_disk_line : List SetupLine → Option SetupLine
wrong_disk_line [] = None
wrong_disk_line (l ∷ setup) = if not (is_right_disk l.act) || gives_again l.act setup then Some l else wrong_disk_line setup

-- The first file line whose disk isn't given.
abbrev pub lacking_line : List SetupLine → Option SetupLine
lacking_line setup = find (λ l. lacks_disk setup l.act) setup

-- The first file line whose pages are too few, too many, or too few for its bytes.
abbrev pub pages_line : List SetupLine → Option SetupLine
pages_line setup = find (λ l. is_wrong_file l.act) setup

-- The line that breaks a rule, where the rule is one of single lines.
abbrev pub rule_breaker : List SetupLine → ℕ → Option SetupLine
rule_breaker setup rule =
    if rule == 1 then frames_line setup
    else if rule == 2 then swap_line setup
    else if rule == 3 then translations_line setup
    else if rule == 4 then wrong_disk_line setup
    else if rule == 5 then lacking_line setup
    else if rule == 6 then pages_line setup
    else None

-- The number of the line that breaks a rule; 0 where none does by itself.
abbrev pub rule_line : List SetupLine → ℕ → ℕ
rule_line setup rule = option_map_or (λ l. l.line) (rule_breaker setup rule) 0

-- So many disks.
abbrev pub disks_text : ℕ → List ℕ
disks_text n = decimal n ++ (if n == 1 then codes " disk" else codes " disks")

abbrev pub frames_text : List SetupLine → List ℕ
frames_text setup =
    codes "frames is " ++ decimal (amounts_of setup).frames ++ codes "; with " ++ disks_text (disk_line_count setup)
    ++ codes " it has to be from " ++ decimal (disk_line_count setup + 4) ++ codes " to 4096"

abbrev pub translations_text : List SetupLine → List ℕ
translations_text setup = codes "translations is " ++ decimal (amounts_of setup).translations ++ codes "; it has to be from 8 to 65536"

abbrev pub is_wrong_count : ℕ → Bool
is_wrong_count blocks = nat_lt blocks 2 || nat_lt 16384 blocks

abbrev pub are_wrong_pages : ℕ → Bool
are_wrong_pages pages = nat_lt pages 1 || nat_lt 16383 pages

-- Of so many processes.
abbrev pub processes_text : ℕ → List ℕ
processes_text count = codes "there are " ++ decimal count ++ codes " processes; a script has at most 64"
