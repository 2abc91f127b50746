-- Blocks to which the bytes of the script's files came have their pages, as flat memory has them at the opening.
use Rattle.std.proofs.Common.{◌≡◌, ℕ, zero, suc, ◌+◌, ◌<◌, ◌-◌, ◌*◌, Bool, true, false, List, [], ◌∷◌, ◌++◌, length, Option, Some, None, refl, sym, ap, ◌∙◌, subst, arith, append-nil}
use Rattle.std.specs.Prelude.{IfOk, Ok, Err, Result, drop, min, nat_le, nat_lt, option_and_then, option_map, replicate, slice_get, slice_index_or, take, unwrap_or, if◌then◌else◌}
use Rattle.std.specs.Option.{option_map_or}
use Rattle.std.specs.List.{AllByRecursion, list_any, range_with_len, sum_by}
use Rattle.std.specs.Str.{bytes_eq}
use Rattle.std.proofs.lemmas.List.{append_assoc, length-drop, length-take, drop-replicate, take_at}
use Rattle.std.proofs.lemmas.List.Sums.{sum_by-cons}
use Rattle.std.proofs.lemmas.List.FromFn.{get_or-range_with_len, length-range_with_len}
use Rattle.volume_files.proofs.flat_model.Bytes.{All-slice_get}
use Rattle.std.proofs.lemmas.Option.{none-some, same_Some, slice_get-get_or}
use Rattle.volume_files.specs.vm_types.Pages.{bytes_before, pages_in}
use Rattle.volume_files.specs.vnode_files.declared.extent.Extent.{Extent}
use Rattle.volume_files.specs.vnode_files.Files.{FilesSeen}
use Rattle.volume_files.specs.vnode_files.Vnode.{IsSoundVnode, VnodeSeen, fresh_vnode, page_blocks}
use Rattle.volume_files.specs.volume_format.Table.{front_block}
use Rattle.volume_files.specs.flat_model.Flat.{File, Flat}
use Rattle.volume_files.specs.flat_model.Parts.{pages_of_bytes}
use Rattle.vm_core.specs.page_hash.declared.PageName.{PageName}
use Rattle.vm_core.specs.page_store.Bytes.{clip}
use Rattle.vm_core.specs.vm_world.mark_laws.Pages.{bytes_there, disk_place, file_page, page_there}
use Rattle.vm_core.proofs.mark_laws.Along.{before-some}
use Rattle.volume_files.specs.block_device.declared.rack.Spec.{Spec}
use Rattle.volume_files.specs.vm_script.PlanSeen.{PlanSeen}
use Rattle.volume_files.specs.vm_script.declared.plan.SetupAct.{SetupAct}
use Rattle.volume_files.specs.vm_script.declared.plan.SetupAct.TheVariants as given
use Rattle.volume_files.specs.vm_script.declared.plan.SetupLine.{SetupLine}
use Rattle.volume_files.specs.declared.stops.Refusal.{Refusal}
use Rattle.volume_files.specs.declared.stops.Refusal.TheVariants as refusal
use Rattle.volume_files.specs.Attached.{ArePlaced, AttachedSeen, HasFilledPage, HasItsBytes}
use Rattle.volume_files.specs.Handed.{block_told}
use Rattle.volume_files.specs.Placing.{filled_pages}
use Rattle.volume_files.specs.Opened.{OpenedFile, extents_of_disk, if_few, infos_of, line_files_of, names_of, new_file, opened_flat_file, opening_flat, place_for, with_line_file, with_line_files, with_placed}
use Rattle.volume_files.proofs.DiskLists.{at-map}
use Rattle.volume_files.proofs.LineLemmas.{err-ok, same_Ok}
use Rattle.volume_files.proofs.PageLemmas.{length-filled, page_filled}

-- A file has one extent.
abbrev HasOneExtent : OpenedFile → Type 0
HasOneExtent f = (e : Extent) × (f.info.extents ≡ e ∷ [])

-- what a line adds: nothing, or a file with one extent
abbrev AddsOne : List OpenedFile → List OpenedFile → Type 0
AddsOne before after = (lines : List OpenedFile) × (after ≡ before ++ lines) × AllByRecursion HasOneExtent lines

adds-none : (before : List OpenedFile) → AddsOne before before
adds-none before = ([], sym (append-nil before), tt)

placed-one : (before : List OpenedFile) (name : List ℕ) (writable : Bool) (disk pages : ℕ) (bytes : List ℕ) (place : Option ℕ) → IfOk (with_placed before (new_file name writable disk pages bytes) place) (AddsOne before)
placed-one before name writable disk pages bytes None = tt
placed-one before name writable disk pages bytes (Some start) = (new_file name writable disk pages bytes start ∷ [], refl, ((record { start = start; pages = pages }, refl), tt))

file-one : (sizes : ℕ → ℕ) (before : List OpenedFile) (name : List ℕ) (writable : Bool) (disk pages : ℕ) (bytes : List ℕ) → IfOk (with_line_file sizes before (given.File name writable disk pages bytes)) (AddsOne before)
file-one sizes before name writable disk pages bytes =
    let placed = with_placed before (new_file name writable disk pages bytes) (place_for (sizes disk) (extents_of_disk disk (infos_of before)) pages) in
    elim (nat_le 64 (length before)) as (λ (t : Bool). IfOk (if t then Err (refusal.Rule 10) else if list_any (bytes_eq name) (names_of before) then Err (refusal.Rule 11) else placed) (AddsOne before)) [
      | true ↦ tt
      | false ↦ elim (list_any (bytes_eq name) (names_of before)) as (λ (t : Bool). IfOk (if t then Err (refusal.Rule 11) else placed) (AddsOne before)) [
        | true ↦ tt
        | false ↦ placed-one before name writable disk pages bytes (place_for (sizes disk) (extents_of_disk disk (infos_of before)) pages)
      ]
    ]

act-one : (sizes : ℕ → ℕ) (before : List OpenedFile) (act : SetupAct) → IfOk (with_line_file sizes before act) (AddsOne before)
act-one sizes before (given.Frames n) = adds-none before
act-one sizes before (given.Swap n) = adds-none before
act-one sizes before (given.Translations n) = adds-none before
act-one sizes before (given.Join disk other mirror) = adds-none before
act-one sizes before (given.Blank disk blocks) = adds-none before
act-one sizes before (given.Path disk path) = adds-none before
act-one sizes before (given.File name writable disk pages bytes) = file-one sizes before name writable disk pages bytes

all-joined : (xs ys : List OpenedFile) → AllByRecursion HasOneExtent xs → AllByRecursion HasOneExtent ys → AllByRecursion HasOneExtent (xs ++ ys)
all-joined [] ys a b = b
all-joined (x ∷ xs) ys a b = (a.0, all-joined xs ys a.1 b)

lines-one : (sizes : ℕ → ℕ) (setup : List SetupLine) (before after : List OpenedFile) → with_line_files sizes (Ok before) setup ≡ Ok after → AddsOne before after
lines-one sizes [] before after is = subst (AddsOne before) (same_Ok before after is) (adds-none before)
lines-one sizes (l ∷ setup) before after is =
    elim (with_line_file sizes before l.act) as (λ (r : Result (List OpenedFile) Refusal). IfOk r (AddsOne before) → with_line_files sizes r setup ≡ Ok after → AddsOne before after) [
      | Ok next ↦ λ adds rest.
          let more = lines-one sizes setup next after rest in
          (adds.0 ++ more.0, more.1 ∙ ap (λ (fs : List OpenedFile). fs ++ more.0) adds.1 ∙ append_assoc before adds.0 more.0, all-joined adds.0 more.0 adds.2 more.2)
      | Err e ↦ λ adds rest. absurd (err-ok e after rest)
    ] (act-one sizes before l.act) is

few-lines : (sizes : ℕ → ℕ) (found after : List OpenedFile) (setup : List SetupLine) → with_line_files sizes (if_few (Ok found)) setup ≡ Ok after → AddsOne found after
few-lines sizes found after setup is =
    elim (nat_lt 64 (length found)) as (λ (t : Bool). with_line_files sizes (if t then Err (refusal.Rule 10) else Ok found) setup ≡ Ok after → AddsOne found after) [
      | true ↦ λ rest. absurd (err-ok (refusal.Rule 10) after rest)
      | false ↦ λ rest. lines-one sizes setup found after rest
    ] is

-- an element behind a front
behind-front : {A : Type 0} (xs ys : List A) (j : ℕ) (y : A) → slice_get ys j ≡ Some y → slice_get (xs ++ ys) (length xs + j) ≡ Some y
behind-front [] ys j y at = let same : j ≡ 0 + j = omega arith in subst (λ (n : ℕ). slice_get ys n ≡ Some y) same at
behind-front (x ∷ xs) ys j y at =
    let same : suc (length xs + j) ≡ suc (length xs) + j = omega arith in
    subst (λ (n : ℕ). slice_get (x ∷ xs ++ ys) n ≡ Some y) same (behind-front xs ys j y at)

front-dropped : {A : Type 0} (xs ys : List A) → drop (length xs) (xs ++ ys) ≡ ys
front-dropped [] ys = refl
front-dropped (x ∷ xs) ys = front-dropped xs ys

one-at : (fs : List OpenedFile) (j : ℕ) (f : OpenedFile) → AllByRecursion HasOneExtent fs → slice_get fs j ≡ Some f → HasOneExtent f
one-at [] j f all at = absurd (none-some f at)
one-at (x ∷ fs) zero f all at = subst HasOneExtent (same_Some x f at) all.0
one-at (x ∷ fs) (suc j) f all at = one-at fs j f all.1 at

-- the block of a page of a file with one extent
block-in : (e : Extent) (page : ℕ) → page < e.pages → slice_get (page_blocks (e ∷ [])) page ≡ Some (e.start + page)
block-in e page lt =
    ap (λ (bs : List ℕ). slice_get bs page) (append-nil (range_with_len e.start e.pages))
    ∙ slice_get-get_or (range_with_len e.start e.pages) page 0 (let long = length-range_with_len e.start e.pages in omega (arith, lt, long))
    ∙ ap Some (get_or-range_with_len e.start e.pages page 0 lt)

-- a page that bytes fill has zeros behind the end of a file of so many bytes
zeros-behind : (n k : ℕ) → n ≡ k → ◌≡◌ {A = List ℕ} (drop k (replicate 4096 0)) (replicate (4096 - n) 0)
zeros-behind n k same = drop-replicate k 4096 0 ∙ ap (λ (j : ℕ). replicate (4096 - j) 0) (sym same)

clip-filled : (bytes : List ℕ) (page : ℕ) → page < pages_in (length bytes) → clip (bytes_before (length bytes) page) (slice_index_or (filled_pages bytes) page []) ≡ slice_index_or (filled_pages bytes) page []
clip-filled bytes page below =
    let at = page * 4096 in
    let end = min (length bytes) (at + 4096) in
    let n = bytes_before (length bytes) page in
    let own = drop at bytes in
    let long : length own ≡ length bytes - at = length-drop at bytes in
    let count : n ≡ end - at = omega (arith, below) in
    let copied : List ℕ = take (end - at) own in
    let rest : List ℕ = drop (end - at) (replicate 4096 0) in
    let is : copied ++ rest ≡ slice_index_or (filled_pages bytes) page [] = page_filled bytes page end copied rest below refl refl refl in
    let short : min (end - at) (length own) ≡ n = omega (arith, long, count, below) in
    let size : length copied ≡ n = length-take (end - at) own ∙ short in
    let tail : rest ≡ replicate (4096 - n) 0 = zeros-behind n (end - at) count in
    ap (clip n) (sym is) ∙ ap (λ (xs : List ℕ). xs ++ replicate (4096 - n) 0) (take_at copied rest n size) ∙ ap (λ (xs : List ℕ). copied ++ xs) (sym tail) ∙ is

module _ (plan : PlanSeen) (holds : Spec → Option (List (List ℕ))) (files : List OpenedFile) (a : AttachedSeen) (made : FilesSeen) (placed : ArePlaced plan holds files a made) (shown : PlanSeen) (sizes : List (ℕ × ℕ)) where
  abbrev F : Flat
  F = opening_flat shown sizes files

  -- a file of a line, which is the k-th
  module _ (k : ℕ) (f : OpenedFile) (at : slice_get files k ≡ Some f) (one : HasOneExtent f) (page : ℕ) (below : page < pages_in (length f.bytes)) where
    abbrev name : PageName
    name = record { object = k; page = page }

    there : slice_get F.files k ≡ Some (opened_flat_file f)
    there = at-map opened_flat_file files k f at

    count : length f.bytes ≡ f.info.length
    count = (All-slice_get HasItsBytes files k f placed.own at).count

    sound : IsSoundVnode (fresh_vnode f.info)
    sound = All-slice_get IsSoundVnode made.files k (fresh_vnode f.info) placed.well.sound
        (ap (λ (vs : List VnodeSeen). slice_get vs k) placed.fresh ∙ at-map fresh_vnode (infos_of files) k f.info (at-map (λ (g : OpenedFile). g.info) files k f at))

    within : page < one.0.pages
    within =
        let fits = sound.within in
        let pages : sum_by (λ (x : Extent). x.pages) f.info.extents ≡ one.0.pages + 0 = ap (sum_by (λ (x : Extent). x.pages)) one.1 ∙ sum_by-cons (λ (x : Extent). x.pages) one.0 [] in
        let size = count in
        omega (arith, below, fits, pages, size)

    -- its place, ..
    line-place : disk_place F name ≡ Some (f.info.disk, front_block f.info.extents + page)
    line-place =
        ap (λ (o : Option File). option_and_then (λ (x : File). option_map (λ (b : ℕ). (let z : ℕ × ℕ = (x.disk, b) in z)) (slice_get (page_blocks x.extents) page)) o) there
        ∙ ap (λ (c : Option ℕ). option_map (λ (b : ℕ). (let z : ℕ × ℕ = (f.info.disk, b) in z)) c)
        (ap (λ (es : List Extent). slice_get (page_blocks es) page) one.1 ∙ block-in one.0 page within ∙ ap (λ (n : ℕ). Some (n + page)) (sym (ap front_block one.1)))

    -- .. its bytes before the file's end, ..
    line-ends : bytes_there F name ≡ bytes_before (length f.bytes) page
    line-ends = ap (λ (o : Option File). option_map_or (λ (x : File). bytes_before x.len page) o 0) there ∙ ap (λ (n : ℕ). bytes_before n page) (sym count)

    line-inside : 0 < bytes_there F name
    line-inside = subst (λ (n : ℕ). 0 < n) (sym line-ends) (before-some (length f.bytes) page below)

    -- .. and the page
    line-page : page_there F name ≡ slice_index_or (filled_pages f.bytes) page []
    line-page =
        ap (λ (n : ℕ). clip n (file_page F name)) line-ends
        ∙ ap (clip (bytes_before (length f.bytes) page)) (
        ap (λ (o : Option File). unwrap_or (option_and_then (λ (x : File). slice_get x.pages page) o) []) there
        ∙ ap (λ (n : ℕ). unwrap_or (slice_get (pages_of_bytes (pages_in n) (f.bytes ++ replicate (4096 * pages_in n - n) 0)) page) []) (sym count)
        ∙ ap (λ (o : Option (List ℕ)). unwrap_or o []) (slice_get-get_or (filled_pages f.bytes) page [] (let long = length-filled f.bytes in omega (arith, below, long))))
        ∙ clip-filled f.bytes page below

  -- A BLOCK THAT A LINE'S BYTES FILLED has the page that a file keeps there.
  pub line-filled : (number : ℕ) (content : Option (List (List ℕ))) (block : ℕ) → HasFilledPage (line_files_of placed.given.found files) number content block
      → (name : PageName) × (disk_place F name ≡ Some (number, block)) × (0 < bytes_there F name) × (block_told content block ≡ Some (page_there F name))
  line-filled number content block h =
      let found = placed.given.found in
      let adds = few-lines _ found files plan.setup placed.given.lines in
      let lines : line_files_of found files ≡ adds.0 = ap (drop (length found)) adds.1 ∙ front-dropped found adds.0 in
      let mine : slice_get adds.0 h.k ≡ Some h.file = ap (λ (fs : List OpenedFile). slice_get fs h.k) (sym lines) ∙ h.there in
      let k = length found + h.k in
      let at : slice_get files k ≡ Some h.file = ap (λ (fs : List OpenedFile). slice_get fs k) adds.1 ∙ behind-front found adds.0 h.k h.file mine in
      let one = one-at adds.0 h.k h.file adds.2 mine in (
        record { object = k; page = h.page },
        line-place k h.file at one h.page h.within ∙ (λ i. Some (h.on_disk i, sym h.in_block i)),
        line-inside k h.file at one h.page h.within,
        h.has ∙ ap (λ (bytes : List ℕ). Some bytes) (sym (line-page k h.file at one h.page h.within)),
      )
