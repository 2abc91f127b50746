-- What is said of a rule of volumes, of a set-up rule that looks at disks, of a signal and of a refusal. Public clauses cite this.
use Rattle.std.specs.Prelude.{ℕ, List, ◌==◌, codes, if◌then◌else◌}
use Rattle.vm_script.specs.vm_types.declared.call.Errno.{Errno}
use Rattle.vm_script.specs.vm_types.declared.call.Errno.TheVariants as errno
use Rattle.vm_script.specs.vm_types.declared.call.Signal.{Signal}
use Rattle.vm_script.specs.vm_types.declared.call.Signal.TheVariants as signal

-- Of a signal.
abbrev pub signal_help : Signal → List ℕ
signal_help signal.NoMap = codes "nothing is mapped at the address"
signal_help signal.Prot = codes "the page's protection forbids the access"
signal_help signal.Align = codes "the address is no multiple of the word's size"
signal_help signal.Past = codes "the page lies past the end of the mapped object"

-- Of a refusal.
abbrev pub errno_help : Errno → List ℕ
errno_help errno.Invalid = codes "an address or offset is no multiple of 4096, the length is 0, or the range leaves the user addresses"
errno_help errno.Access = codes "the protection is more than the object allows"
errno_help errno.NoSwap = codes "too few swap slots are left for the private pages"
errno_help errno.NoRoom = codes "no gap of the address space is long enough"
errno_help errno.TooLarge = codes "the process would have more than 65536 mapped pages"
errno_help errno.NotMapped = codes "a page of the range isn't mapped"
errno_help errno.ReadOnly = codes "the file may only be read"
errno_help errno.TooBig = codes "the file can't become so long"
errno_help errno.NoObject = codes "no disk has a file of that name"

-- Of a set-up rule that looks at disks.
unfoldable pub disk_rule_help : ℕ → List ℕ
disk_rule_help rule =
    if rule == 9 then codes "the disk is no volume"
    else if rule == 10 then codes "there are more than 64 files on the disks and in the script"
    else if rule == 11 then codes "a file line gives a name that a file has already"
    else if rule == 12 then codes "a disk has too few free blocks in a row for a file line's pages, or no room in its table"
    else if rule == 15 then codes "two disks that are joined have different numbers of blocks"
    else codes "a set-up rule is broken"

-- Of a rule of both versions of volumes.
unfoldable pub old_volume_help : ℕ → List ℕ
old_volume_help rule =
    if rule == 0 then codes "a disk has from 2 to 16384 blocks of 4096 bytes"
    else if rule == 1 then codes "block 0 is neither zeros nor begins with SUNVMVOL"
    else if rule == 2 then codes "the table's version is neither 1 nor 2"
    else if rule == 3 then codes "the table is that of a disk with another number of blocks"
    else if rule == 4 then codes "the table says more than 64 files"
    else if rule == 5 then codes "the table's header has other bytes where zeros have to be"
    else if rule == 6 then codes "a file's name in the table is no name"
    else if rule == 7 then codes "a file's mode in the table is neither 0 nor 1"
    else if rule == 8 then codes "a file's blocks begin in block 0, are none, or leave the disk"
    else if rule == 9 then codes "a file is longer than its blocks"
    else if rule == 10 then codes "the files don't stand in the order of their blocks"
    else if rule == 11 then codes "two files in the table have one name"
    else if rule == 12 then codes "the table has other bytes where zeros have to be"
    else codes "the table is broken"

-- Of a rule of volumes.
unfoldable pub volume_help : ℕ → List ℕ
volume_help rule =
    if rule == 14 then codes "the table says more than 252 extents"
    else if rule == 15 then codes "a file's extents aren't the next ones of the table's list"
    else if rule == 16 then codes "an extent begins in block 0, has no block, or leaves the disk"
    else if rule == 17 then codes "two extents have a block in common"
    else if rule == 18 then codes "an extent goes on where the same file's extent before it ends"
    else if rule == 19 then codes "the table's list has more extents than the files"
    else old_volume_help rule
