-- The files as data, so that a model may have them as its value. Inside: no public clause cites this.
use Rattle.std.specs.Prelude.{ℕ, Bool, List, refl}
use Rattle.std.specs.Coded.{Coded, code_by, coded×, coded_ℕ, coded_bool, coded_list}
use Rattle.std.specs.Ordering.{nat_cmp}
use Rattle.std.specs.FinMap as map
use Rattle.vnode_files.specs.declared.vnode.FileInfo.{FileInfo}
use Rattle.vnode_files.specs.contracts.vnode.FileInfo as info
use Rattle.vnode_files.specs.Vnode.{VnodeSeen}
use Rattle.vnode_files.specs.Files.{FilesSeen}

-- A file as data: its record, and for each of its pages whether it is blank.
abbrev pub vnode_code : Coded VnodeSeen
vnode_code =
    code_by (FileInfo × List Bool) (coded× info.the_row.coded (coded_list coded_bool))
    (λ v. (v.info, v.blanks)) (λ p. record { info = p.0; blanks = p.1 }) (λ _. refl)

-- The files as data: the blocks of each disk that was set, and the list of the files.
abbrev pub files_code : Coded FilesSeen
files_code =
    code_by (map.FinMap nat_cmp ℕ × List VnodeSeen) (coded× (map.code coded_ℕ coded_ℕ) (coded_list vnode_code))
    (λ s. (s.disks, s.files)) (λ p. record { disks = p.0; files = p.1 }) (λ _. refl)
