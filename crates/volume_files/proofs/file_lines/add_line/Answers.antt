use Rattle.std.specs.Prelude.{ℕ, ◌≡◌, ◌<◌, ◌≤◌, ◌^◌, List, [], ◌∷◌, ◌++◌, length, Option, Some, unwrap_or, All, IsSome, Result}
use Rattle.std.specs.FinMap as finite
use Rattle.std.proofs.Common.{arith, sym, ap, ◌∙◌, subst}
use Rattle.std.proofs.lemmas.List.Elements.{All-cons, All-nil, All-push}
use Rattle.volume_format.specs.vnode_files.declared.extent.Extent.{Extent}
use Rattle.volume_format.specs.vnode_files.declared.vnode.FileInfo.{FileInfo}
use Rattle.volume_format.specs.vnode_files.Files.{FilesSeen, IsNumberOf, block_count, extents_on}
use Rattle.volume_format.specs.vnode_files.Grow.{extent_end}
use Rattle.volume_format.specs.vnode_files.Vnode.{VnodeSeen, fresh_vnode}
use Rattle.volume_files.specs.declared.stops.Refusal.{Refusal}
use Rattle.volume_files.specs.Opened.{OpenedFile, new_file, place_for, with_line_file, with_placed}
use Rattle.volume_files.specs.Placing.{HasOpened, HaveSetDisks, IsPlaceable, Gave}
use Rattle.volume_files.proofs.FileLineLemmas.{line-old, line-new, place-found, place-set, beside-found, opened-push}
use Rattle.volume_files.proofs.file_lines.add_line.Goals as goal
use Rattle.volume_files.proofs.file_lines.add_line.Goals.{After-is_some, After-place_for, After-add}

few : (c : After-is_some) → length c.args.files.now.files < 64
few c = omega (arith, c.if-count-ge64.false, c.count.ensures.count)

-- the number of the name that the line gives
numbered : (c : After-is_some) → IsNumberOf c.args.files.now.files c.in-File.name c.number.result
numbered c = subst (λ (name : List ℕ). IsNumberOf c.args.files.now.files name c.number.result) (c.new-name.ensures ∙ c.bytes.ensures) c.number.ensures

pub returns-then-is_some-clause-placed : goal.returns-then-is_some-clause-placed
returns-then-is_some-clause-placed c =
    let d = (goal.at.returns-then-is_some-clause-placed c).After-is_some in
    λ before opened.
    ap (with_line_file (block_count c.args.files.now.disks) before) c.in-File.is
    ∙ line-old (block_count c.args.files.now.disks) c.args.files.now before opened c.in-File.name c.in-File.writable c.in-File.disk c.in-File.pages c.in-File.bytes
    c.number.result (few d) (numbered d) (sym c.is_some.ensures ∙ c.if-is_some.true)

-- what the line gives where its name is new
given : (c : After-place_for) → (before : List OpenedFile) → HasOpened c.args.files.now before
    → with_line_file (block_count c.args.files.now.disks) before c.args.act.now
    ≡ with_placed before (new_file c.in-File.name c.in-File.writable c.in-File.disk c.in-File.pages c.in-File.bytes) c.place_for.result
given c before opened =
    let d = (goal.at.After-place_for c).After-is_some in
    ap (with_line_file (block_count c.args.files.now.disks) before) c.in-File.is
    ∙ line-new (block_count c.args.files.now.disks) c.args.files.now before opened c.in-File.name c.in-File.writable c.in-File.disk c.in-File.pages c.in-File.bytes
    c.number.result c.deref.result.now c.unwrap_or-blocks.result c.place_for.result (few d) (numbered d) (sym c.is_some.ensures ∙ c.if-is_some.false)
    (c.deref.ensures.value ∙ c.in_ok-used.ensures) (c.unwrap_or-blocks.ensures ∙ ap (λ (o : Option ℕ). unwrap_or o 0) c.disk_blocks.ensures) c.place_for.ensures

pub returns-in_default-place_for-clause-placed : goal.returns-in_default-place_for-clause-placed
returns-in_default-place_for-clause-placed c =
    let d = (goal.at.returns-in_default-place_for-clause-placed c).After-place_for in
    λ before opened. given d before opened ∙ ap (with_placed before (new_file c.in-File.name c.in-File.writable c.in-File.disk c.in-File.pages c.in-File.bytes)) c.in_default-place_for.is

pub add-requires-clause-blocks : goal.add-requires-clause-blocks
add-requires-clause-blocks c =
    let law = subst IsPlaceable c.in-File.is c.requires.placeable in
    let e : Extent = record { start = c.in-Some.start; pages = c.in-File.pages } in
    let f = place-found c.unwrap_or-blocks.result c.deref.result.now c.in-File.pages c.in-Some.start law.2 (sym c.place_for.ensures ∙ c.in-Some.is) in
    let end : extent_end e ≤ 2 ^ 32 = omega (arith, f.within) in
    subst (λ (es : List Extent). All (λ (x : Extent). extent_end x ≤ 2 ^ 32) es) (sym c.in_ok-new.ensures)
    (All-cons (λ (x : Extent). extent_end x ≤ 2 ^ 32) e [] end (All-nil (λ (x : Extent). extent_end x ≤ 2 ^ 32)))

-- the record of the file that was added
added : (c : After-add) → FileInfo
added c = record { name = c.new-name.result; disk = c.in-File.disk; extents = c.in_ok-new.field-0; length = length c.bytes-2.result.now; writable = c.in-File.writable }

pub returns-clause-placed : goal.returns-clause-placed
returns-clause-placed c =
    let d = (goal.at.returns-clause-placed c).After-place_for in
    λ before opened.
    let file = new_file c.in-File.name c.in-File.writable c.in-File.disk c.in-File.pages c.in-File.bytes in
    let name : c.new-name.result ≡ c.in-File.name = c.new-name.ensures ∙ c.bytes.ensures in
    let extents : c.in_ok-new.field-0 ≡ record { start = c.in-Some.start; pages = c.in-File.pages } ∷ [] = c.in_ok-new.ensures in
    let long : length c.bytes-2.result.now ≡ length c.in-File.bytes = ap length c.bytes-2.ensures in
    let same : ◌≡◌ {A = FileInfo}
    (record { name = c.new-name.result; disk = c.in-File.disk; extents = c.in_ok-new.field-0; length = length c.bytes-2.result.now; writable = c.in-File.writable }) (file c.in-Some.start).info =
    λ i. record { name = name i; disk = c.in-File.disk; extents = extents i; length = long i; writable = c.in-File.writable } in
    let grew : c.add.new.self.files ≡ c.args.files.now.files ++ fresh_vnode (file c.in-Some.start).info ∷ [] =
    ap (λ (s : FilesSeen). s.files) c.in_ok-add.ensures.new ∙ ap (λ (x : FileInfo). c.args.files.now.files ++ fresh_vnode x ∷ []) same in
    subst (λ (r : Result (List OpenedFile) Refusal). Gave c.add.new.self r)
    (sym (given d before opened ∙ ap (with_placed before file) c.in-Some.is))
    (opened-push c.args.files.now c.add.new.self before (file c.in-Some.start) opened grew)

pub returns-clause-lie : goal.returns-clause-lie
returns-clause-lie c =
    let law = subst IsPlaceable c.in-File.is c.requires.placeable in
    let old = c.args.files.now in
    let info : FileInfo = record { name = c.new-name.result; disk = c.in-File.disk; extents = c.in_ok-new.field-0; length = length c.bytes-2.result.now; writable = c.in-File.writable } in
    let size : c.unwrap_or-blocks.result ≡ block_count old.disks c.in-File.disk = c.unwrap_or-blocks.ensures ∙ ap (λ (o : Option ℕ). unwrap_or o 0) c.disk_blocks.ensures in
    let uses : c.deref.result.now ≡ extents_on c.in-File.disk old.files = c.deref.ensures.value ∙ c.in_ok-used.ensures in
    let found : place_for c.unwrap_or-blocks.result (extents_on c.in-File.disk old.files) c.in-File.pages ≡ Some c.in-Some.start =
    ap (λ (es : List Extent). place_for c.unwrap_or-blocks.result es c.in-File.pages) (sym uses) ∙ sym c.place_for.ensures ∙ c.in-Some.is in
    let beside = beside-found old info c.unwrap_or-blocks.result c.in-File.pages c.in-Some.start c.in_ok-new.ensures c.requires.lie.apart law.2 size found in
    let keeps = c.in_ok-add.ensures.layout beside in
    let f = place-found c.unwrap_or-blocks.result (extents_on c.in-File.disk old.files) c.in-File.pages c.in-Some.start law.2 found in
    let set : IsSome (finite.get old.disks c.in-File.disk) = place-set old c.in-File.disk c.unwrap_or-blocks.result c.in-Some.start c.in-File.pages size law.2 f.within in
    record {
      set = subst HaveSetDisks (sym c.in_ok-add.ensures.new)
          (All-push (λ (v : VnodeSeen). IsSome (finite.get old.disks v.info.disk)) old.files (fresh_vnode info) c.requires.lie.set set);
      on_disks = keeps.on_disks c.requires.lie.on_disks;
      apart = keeps.none_meet c.requires.lie.apart;
      few = keeps.few c.requires.lie.few;
    }
