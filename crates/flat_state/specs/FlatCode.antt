-- A flat as data, so that a model may have it as its value. Inside: no public clause cites this.
use Rattle.std.specs.Prelude.{ℕ, Bool, List, Option, refl}
use Rattle.std.specs.Coded.{Coded, code_by, coded×, coded_ℕ, coded_bool, coded_list, coded_option}
use Rattle.std.specs.Ordering.{nat_cmp}
use Rattle.std.specs.FinMap as map
use Rattle.std.specs.FinSet as set
use Rattle.flat_model.specs.vm_types.declared.prot.Prot.{Prot}
use Rattle.flat_model.specs.vm_types.declared.call.Kind.{Kind}
use Rattle.flat_model.specs.vm_types.declared.call.Object.{Object}
use Rattle.flat_model.specs.vm_types.contracts.prot.Prot as prot
use Rattle.flat_model.specs.vm_types.contracts.call.Kind as kind
use Rattle.flat_model.specs.vm_types.contracts.call.Object as object
use Rattle.flat_model.specs.vnode_files.declared.extent.Extent.{Extent}
use Rattle.flat_model.specs.vnode_files.contracts.extent.Extent as extent
use Rattle.flat_model.specs.Words.{Page}
use Rattle.flat_model.specs.Flat.{Cell, Space, File, Flat}
use Rattle.flat_state.specs.PageCode.{page_code}

-- A cell as data, field by field.
abbrev pub cell_code : Coded Cell
cell_code =
    code_by (Prot × (Prot × (Kind × (Object × (ℕ × Option Page))))) (coded× prot.the_row.coded (coded× prot.the_row.coded (coded× kind.the_row.coded (coded× object.the_row.coded (coded× coded_ℕ (coded_option page_code))))))
    (λ c. (c.prot, (c.max, (c.kind, (c.object, (c.index, c.own)))))) (λ p. record { prot = p.0; max = p.1.0; kind = p.1.1.0; object = p.1.1.1.0; index = p.1.1.1.1.0; own = p.1.1.1.1.1 }) (λ _. refl)

-- A file as data, field by field.
abbrev pub file_code : Coded File
file_code =
    code_by (ℕ × (ℕ × (List Extent × (Bool × List Page)))) (coded× coded_ℕ (coded× coded_ℕ (coded× (coded_list extent.the_row.coded) (coded× coded_bool (coded_list page_code)))))
    (λ f. (f.len, (f.disk, (f.extents, (f.writable, f.pages))))) (λ p. record { len = p.0; disk = p.1.0; extents = p.1.1.0; writable = p.1.1.1.0; pages = p.1.1.1.1 }) (λ _. refl)

-- Flat memory as data, field by field.
abbrev pub flat_code : Coded Flat
flat_code =
    code_by (ℕ × (map.FinMap nat_cmp ℕ × (List File × (map.FinMap nat_cmp (List Page) × (map.FinMap nat_cmp Space × set.FinSet nat_cmp)))))
    (coded× coded_ℕ (coded× (map.code coded_ℕ coded_ℕ) (coded× (coded_list file_code) (coded× (map.code coded_ℕ (coded_list page_code)) (coded× (map.code coded_ℕ (map.code coded_ℕ cell_code)) (set.code coded_ℕ))))))
    (λ f. (f.slots, (f.disks, (f.files, (f.zeros, (f.spaces, f.born)))))) (λ p. record { slots = p.0; disks = p.1.0; files = p.1.1.0; zeros = p.1.1.1.0; spaces = p.1.1.1.1.0; born = p.1.1.1.1.1 }) (λ _. refl)
