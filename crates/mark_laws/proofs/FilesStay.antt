-- Where a step leaves the blocks and the ends of the files.
use Rattle.std.proofs.Common.{◌≡◌, ℕ, zero, suc, ◌+◌, ◌-◌, ◌*◌, ◌≤◌, max, Bool, true, false, List, [], ◌∷◌, ◌++◌, length, map, Option, Some, None, Result, Ok, Err, refl, sym, ap, subst, ◌∙◌, ◌⊎◌, inl, inr, arith}
use Rattle.std.specs.Prelude.{IsFalse, All, nat_lt, nat_le, option_and_then, option_map, replicate, slice_get, slice_set, take, unwrap_or, if◌then◌else◌}
use Rattle.std.specs.FinMap as finite
use Rattle.std.proofs.lemmas.Bool.{cases_eq, eq-eqb}
use Rattle.std.proofs.lemmas.List.{length-set, length-map, length-take}
use Rattle.std.proofs.lemmas.Option.{slice_get-map}
use Rattle.flat_model.specs.vm_types.declared.call.Call.{Call}
use Rattle.flat_model.specs.vm_types.declared.call.Call.TheVariants.{Load, Store, Map, Unmap, Protect, Sync, Read, Write, Truncate, Fork, Exit}
use Rattle.flat_model.specs.vm_types.declared.call.Entry.{Entry}
use Rattle.flat_model.specs.vm_types.declared.call.Reply.{Reply}
use Rattle.flat_model.specs.vm_types.declared.call.Reply.TheVariants as reply
use Rattle.flat_model.specs.vm_types.declared.call.Errno.{Errno}
use Rattle.flat_model.specs.vm_types.declared.call.Errno.TheVariants as errno
use Rattle.flat_model.specs.vm_types.declared.call.Signal.{Signal}
use Rattle.flat_model.specs.vm_types.declared.call.Kind.{Kind}
use Rattle.flat_model.specs.vm_types.declared.call.Kind.TheVariants.{Shared, Private}
use Rattle.flat_model.specs.vm_types.declared.call.Object.{Object}
use Rattle.flat_model.specs.vm_types.declared.call.Object.TheVariants as object
use Rattle.flat_model.specs.vm_types.declared.call.Place.{Place}
use Rattle.flat_model.specs.vm_types.declared.call.Place.TheVariants.{At, Any}
use Rattle.flat_model.specs.vm_types.Parts.{file_of_call}
use Rattle.flat_model.specs.vm_types.Prot.{can_read, can_write}
use Rattle.flat_model.specs.vnode_files.declared.extent.Extent.{Extent}
use Rattle.flat_model.specs.vnode_files.Grow.{is_free, page_count}
use Rattle.flat_model.specs.vnode_files.Vnode.{page_blocks}
use Rattle.flat_model.proofs.vnode_files.BlockLemmas.{length-page_blocks}
use Rattle.flat_model.proofs.vnode_files.GrowthLaws.{growth_law}
use Rattle.flat_model.specs.Words.{Page, page, pages_in, word_at, word_put}
use Rattle.page_store.specs.page_hash.declared.PageName.{PageName}
use Rattle.flat_model.specs.Flat.{Cell, File, Flat, reserved, private_cells}
use Rattle.flat_model.specs.Refusals.{◌>>◌, check, Effect, or_signal, or_refused, done_effect}
use Rattle.flat_model.specs.Access.{access_target, with_change_at, file_with_page, with_page, with_page_stored, with_cell, with_space}
use Rattle.flat_model.specs.Space.{with_prots}
use Rattle.flat_model.specs.Mapping.{Request, cells_of, is_range, without_replaced, with_object, map_result, with_mapping, without_pages, valid_range, may_have}
use Rattle.flat_model.specs.Parts.{read_line, without_tail, longer_file, shorter_file, file_of_length, with_part, with_file_at, existing_file, room_for, extents_beside}
use Rattle.flat_model.specs.Processes.{with_child}
use Rattle.flat_model.specs.Step.{effect, after_act, step, is_bit_set, files_cleared, tails_cleared}
use Rattle.mark_laws.specs.Pages.{disk_place}
use Rattle.mark_laws.specs.FileLaws.{KeepsSize, KeepsOldBlocks, KeepsPageBlocks, HaveBlocks, IsFreeBlock, is_cut_of, StepFiles, FilesStay}
use Rattle.flat_model.proofs.Bytes.{slice_get-slice_set, All-slice_get}
use Rattle.flat_model.proofs.FileBytes.{length-pages_with_bytes, len-longer_file}
use Rattle.flat_model.proofs.Frames.{slice_get-set_apart, there}
use Rattle.flat_model.proofs.Mappings.{mapped-map_result}
use Rattle.flat_model.proofs.Rooms.{has_room}
use Rattle.flat_model.proofs.ShapeSteps.{longer-count}
use Rattle.mark_laws.proofs.FreeBlocks.{free-block}
use Rattle.mark_laws.proofs.PagePlaces.{place-parts, no-block}

-- what of a file isn't its bytes, with how many pages it has
pub record Size : Type 0 where
  pub len : ℕ
  pub disk : ℕ
  pub extents : List Extent
  pub count : ℕ

abbrev pub size_with : File → ℕ → Size
size_with file count = record { len = file.len; disk = file.disk; extents = file.extents; count = count }

abbrev pub size_of : File → Size
size_of file = size_with file (length file.pages)

-- a change of one file, of which the call is
record ChangeFile (call : Call) (F G : Flat) : Type 0 where
  f : ℕ
  old : File
  new : File
  of : file_of_call call ≡ Some f
  was : slice_get F.files f ≡ Some old
  files : G.files ≡ slice_set F.files f new
  blocks : KeepsOldBlocks old new
  longer : IsFalse (is_cut_of f call) → old.len ≤ new.len
  kept : KeepsPageBlocks old → KeepsPageBlocks new
  fresh : (page b : ℕ) → slice_get (page_blocks old.extents) page ≡ None → slice_get (page_blocks new.extents) page ≡ Some b → IsFreeBlock F old.disk b

-- what a call does to the files: no size changes, or that of its own file
abbrev ChangesFiles : Call → Flat → Flat → Type 0
ChangesFiles call F G = (G.disks ≡ F.disks) × ((map size_of G.files ≡ map size_of F.files) ⊎ ChangeFile call F G)

sizes-with_change_at : (j : ℕ) (new : Page) (fs : List File) (i : ℕ) → map size_of (with_change_at (file_with_page j new) fs i) ≡ map size_of fs
sizes-with_change_at j new [] i = refl
sizes-with_change_at j new (x ∷ fs) zero =
    ap (λ (n : ℕ). size_with x n ∷ map size_of fs) (length-set x.pages j new)
sizes-with_change_at j new (x ∷ fs) (suc i) = ap (λ (l : List Size). size_of x ∷ l) (sizes-with_change_at j new fs i)

sizes-cleared : (t : ℕ → Bool) (fs : List File) → map size_of (files_cleared t fs) ≡ map size_of fs
sizes-cleared t [] = refl
sizes-cleared t (x ∷ fs) = one (t 0) ∙ ap (λ (l : List Size). size_of x ∷ l) (sizes-cleared (λ f. t (suc f)) fs)
  where
    one : (b : Bool) → ◌≡◌ {A = List Size} (size_of (if b then without_tail x else x) ∷ map size_of (files_cleared (λ f. t (suc f)) fs)) (size_of x ∷ map size_of (files_cleared (λ f. t (suc f)) fs))
    one true = ap (λ (n : ℕ). size_with x n ∷ map size_of (files_cleared (λ f. t (suc f)) fs))
        (length-pages_with_bytes x.pages x.len (replicate (4096 * length x.pages - x.len) 0))
    one false = refl

sizes-with_page : (F : Flat) (o : Object) (i : ℕ) (new : Page) → map size_of (with_page F o i new).files ≡ map size_of F.files
sizes-with_page F (object.File f) i new = sizes-with_change_at i new F.files f
sizes-with_page F (object.Zero z) i new = refl
sizes-with_page F object.NewZero i new = refl

sizes-stored : (F : Flat) (p q : ℕ) (c : Cell) (new : Page) → map size_of (with_page_stored F p q c new).files ≡ map size_of F.files
sizes-stored F p q c new = by_kind c.kind
  where
    by_kind : (k : Kind) → map size_of (elim k as (λ x. Flat) [ Shared ↦ with_page F c.object c.index new | Private ↦ with_cell F p q (record c { own = Some new }) ]).files ≡ map size_of F.files
    by_kind Shared = sizes-with_page F c.object c.index new
    by_kind Private = refl

disks-stored : (F : Flat) (p q : ℕ) (c : Cell) (new : Page) → (with_page_stored F p q c new).disks ≡ F.disks
disks-stored F p q c new = by_kind c.kind c.object
  where
    by_kind : (k : Kind) (o : Object) → (elim k as (λ x. Flat) [ Shared ↦ with_page F o c.index new | Private ↦ with_cell F p q (record c { own = Some new }) ]).disks ≡ F.disks
    by_kind Shared (object.File f) = refl
    by_kind Shared (object.Zero z) = refl
    by_kind Shared object.NewZero = refl
    by_kind Private o = refl

-- a mapping leaves files and disks
record KeepsFiles (F G : Flat) : Type 0 where
  disks : G.disks ≡ F.disks
  files : G.files ≡ F.files

files-with_object : (G : Flat) (k : Kind) (o : Object) (n : ℕ) → KeepsFiles G (with_object G k o n)
files-with_object G Shared (object.File f) n = record { disks = refl; files = refl }
files-with_object G Shared object.NewZero n = record { disks = refl; files = refl }
files-with_object G Shared (object.Zero z) n = record { disks = refl; files = refl }
files-with_object G Private o n = record { disks = refl; files = refl }

files-without_replaced : (F : Flat) (p : ℕ) (place : Place) (n : ℕ) → KeepsFiles F (without_replaced F p place n)
files-without_replaced F p (At a) n = record { disks = refl; files = refl }
files-without_replaced F p Any n = record { disks = refl; files = refl }

files-mapped : (F : Flat) (p : ℕ) (r : Request) (first : ℕ) → KeepsFiles F (with_mapping F p r first)
files-mapped F p r first =
    let made = files-with_object (without_replaced F p r.place (pages_in r.len)) r.kind r.object (pages_in r.len) in
    let left = files-without_replaced F p r.place (pages_in r.len) in
    record { disks = made.disks ∙ left.disks; files = made.files ∙ left.files }

front : (xs ys : List ℕ) (i b : ℕ) → slice_get xs i ≡ Some b → slice_get (xs ++ ys) i ≡ Some b
front [] ys i b is = absurd (let z : ◌≡◌ {A = Option ℕ} None (Some b) = is in cc)
front (x ∷ xs) ys zero b is = is
front (x ∷ xs) ys (suc i) b is = front xs ys i b is

-- a page that is new has one of the blocks behind
behind-front : (P : ℕ → Type 0) (xs ys : List ℕ) (i b : ℕ) → slice_get xs i ≡ None → slice_get (xs ++ ys) i ≡ Some b → All P ys → P b
behind-front P [] ys i b none at all = All-slice_get P ys i b all at
behind-front P (x ∷ xs) ys zero b none at all = absurd (let z : ◌≡◌ {A = Option ℕ} (Some x) None = none in cc)
behind-front P (x ∷ xs) ys (suc i) b none at all = behind-front P xs ys i b none at all

-- where there are so many blocks for a file and for so many bytes, there are for the new file
abbrev FitsWith : ℕ → File → File → Type 0
FitsWith end file new = (n : ℕ) → pages_in end ≤ n → length file.pages ≤ n → pages_in file.len ≤ n → (length new.pages ≤ n) × (pages_in new.len ≤ n)

-- a file for which there was room keeps its blocks
changes-room : (F : Flat) (call : Call) (f end : ℕ) (file new : File) → file_of_call call ≡ Some f → room_for F f end ≡ Ok file → new.disk ≡ file.disk → new.extents ≡ file.extents
    → (IsFalse (is_cut_of f call) → file.len ≤ new.len) → FitsWith end file new → ChangesFiles call F (with_file_at F f new)
changes-room F call f end file new of is disk extents longer fits =
    let room = has_room F f end file is in
    let gives = growth_law (unwrap_or (finite.get F.disks room.old.disk) 0) (extents_beside F.files f room.old.disk) room.old.extents (pages_in end) room.extents room.grown in
    let same : new.extents ≡ room.extents = extents ∙ ap (λ (x : File). x.extents) room.file in
    let blocks : page_blocks new.extents ≡ page_blocks room.old.extents ++ gives.takes.added = ap page_blocks same ∙ gives.takes.places in (
      refl,
      inr (record {
        f = f;
        old = room.old;
        new = new;
        of = of;
        was = room.found;
        files = refl;
        blocks = record {
          disk = disk ∙ ap (λ (x : File). x.disk) room.file;
          blocks = λ i b at. ap (λ (bs : List ℕ). slice_get bs i) blocks ∙ front (page_blocks room.old.extents) gives.takes.added i b at;
        };
        longer = λ uncut. let le = longer uncut in let e = ap (λ (x : File). x.len) room.file in omega (arith, le, e);
        kept = λ k.
            let now : length (page_blocks new.extents) ≡ page_count room.extents = ap (λ (es : List Extent). length (page_blocks es)) same ∙ length-page_blocks room.extents in
            let was = length-page_blocks room.old.extents in
            let count = gives.count in
            let pages : length file.pages ≡ length room.old.pages = ap (λ (x : File). length x.pages) room.file in
            let len : pages_in file.len ≡ pages_in room.old.len = ap (λ (x : File). pages_in x.len) room.file in
            let k_pages = k.pages in
            let k_len = k.len in
            let r = fits (length (page_blocks new.extents)) (omega (arith, now, was, count)) (omega (arith, now, was, count, pages, k_pages)) (omega (arith, now, was, count, len, k_len)) in
            record { pages = r.0; len = r.1 };
        fresh = λ page b none at. free-block F f room.old b room.found
            (behind-front (λ (c : ℕ). is_free (unwrap_or (finite.get F.disks room.old.disk) 0) (extents_beside F.files f room.old.disk ++ room.old.extents) c ≡ true)
            (page_blocks room.old.extents) gives.takes.added page b none (sym (ap (λ (bs : List ℕ). slice_get bs page) blocks) ∙ at) gives.takes.free);
      }),
    )

longer-fits : (n : ℕ) (file : File) → FitsWith n file (longer_file n file)
longer-fits n file k end pages len =
    let count = longer-count n file in
    let same : pages_in (longer_file n file).len ≡ pages_in (max file.len n) = ap pages_in (len-longer_file n file) in
    (omega (arith, count, end, pages), omega (arith, same, end, len))

with_part-fits : (offset : ℕ) (line : List ℕ) (file : File) → FitsWith (offset + length line) file (with_part offset line file)
unfolding with_part
with_part-fits offset line file k end pages len =
    let long = longer-fits (offset + length line) file k end pages len in
    let count = length-pages_with_bytes (longer_file (offset + length line) file).pages offset line in
    let le = long.0 in
    (omega (arith, count, le), long.1)

shorter-fits : (n : ℕ) (file : File) → FitsWith n file (shorter_file n file)
shorter-fits n file k end pages len =
    let count = length-pages_with_bytes (take (pages_in n) file.pages) n (replicate (4096 * length (take (pages_in n) file.pages) - n) 0) in
    let few = length-take (pages_in n) file.pages in
    (omega (arith, count, few, pages), end)

of_length-fits : (n : ℕ) (file : File) → FitsWith n file (file_of_length n file)
of_length-fits n file = by_less (nat_lt n file.len) (nat_lt file.len n)
  where
    by_less : (a b : Bool) → FitsWith n file (if a then shorter_file n file else if b then longer_file n file else file)
    by_less true b = shorter-fits n file
    by_less false true = longer-fits n file
    by_less false false = λ k end pages len. (pages, len)

with_part-sizes : (offset : ℕ) (line : List ℕ) (file : File) → ((with_part offset line file).disk ≡ file.disk) × ((with_part offset line file).extents ≡ file.extents) × (file.len ≤ (with_part offset line file).len)
unfolding with_part longer_file
with_part-sizes offset line file = (refl, refl, omega arith)

of_length-sizes : (n : ℕ) (file : File) → ((file_of_length n file).disk ≡ file.disk) × ((file_of_length n file).extents ≡ file.extents)
unfolding longer_file
of_length-sizes n file = by_less (nat_lt n file.len) (nat_lt file.len n)
  where
    by_less : (a b : Bool) → ((if a then shorter_file n file else if b then longer_file n file else file).disk ≡ file.disk) × ((if a then shorter_file n file else if b then longer_file n file else file).extents ≡ file.extents)
    by_less true b = (refl, refl)
    by_less false true = (refl, refl)
    by_less false false = (refl, refl)

-- an answer by which no file changes, where a signal or an errno is due
by-signal : {A : Type 0} (call : Call) (F : Flat) (acts : A → Effect) (r : Result A Signal) → ((x : A) → r ≡ Ok x → ChangesFiles call F (acts x).after) → ChangesFiles call F (or_signal F acts r).after
by-signal call F acts (Ok x) some = some x refl
by-signal call F acts (Err s) some = (refl, inl refl)

by-refusal : {A : Type 0} (call : Call) (F : Flat) (acts : A → Effect) (r : Result A Errno) → ((x : A) → r ≡ Ok x → ChangesFiles call F (acts x).after) → ChangesFiles call F (or_refused F acts r).after
by-refusal call F acts (Ok x) some = some x refl
by-refusal call F acts (Err e) some = (refl, inl refl)

-- A CALL
changes_outcome : (F : Flat) (p : ℕ) (call : Call) → ChangesFiles call F (effect F p call).after
changes_outcome F p (Load a n) = by-signal (Load a n) F (λ m. record { reply = reply.Word (word_at m.1 a n); after = F }) (access_target F p can_read a n) (λ m is. (refl, inl refl))
changes_outcome F p (Store a n v) = by-signal (Store a n v) F (λ m. done_effect (with_page_stored F p (page a) m.0 (word_put m.1 a n v))) (access_target F p can_write a n)
    (λ m is. (disks-stored F p (page a) m.0 (word_put m.1 a n v), inl (sizes-stored F p (page a) m.0 (word_put m.1 a n v))))
changes_outcome F p (Map place len prot kind object offset) =
    let r : Request = record { place = place; len = len; prot = prot; kind = kind; object = object; offset = offset } in
    by-refusal (Map place len prot kind object offset) F (λ m. record { reply = reply.Mapped (4096 * m.0); after = m.1 }) (map_result F p r)
    (λ m is. let after = (mapped-map_result F p r m.0 m.1 is).after in let keeps = files-mapped F p r m.0 in
    (ap (λ (G : Flat). G.disks) after ∙ keeps.disks, inl (ap (λ (G : Flat). map size_of G.files) after ∙ ap (map size_of) keeps.files)))
changes_outcome F p (Unmap a len) = by-refusal (Unmap a len) F (λ x. done_effect (without_pages F p (page a) (pages_in len))) (check (is_range a len) errno.Invalid) (λ x is. (refl, inl refl))
changes_outcome F p (Protect a len prot) =
    by-refusal (Protect a len prot) F (λ x. done_effect (with_space F p (with_prots (cells_of F p) (page a) (pages_in len) prot)))
    (valid_range F p a len >> check (may_have (cells_of F p) (page a) (pages_in len) prot) errno.Access) (λ x is. (refl, inl refl))
changes_outcome F p (Sync a len) = by-refusal (Sync a len) F (λ x. record { reply = reply.Synced 0; after = F }) (valid_range F p a len) (λ x is. (refl, inl refl))
changes_outcome F p (Read file offset len) = by-refusal (Read file offset len) F (λ x. record { reply = reply.Bytes (read_line x offset len); after = F }) (existing_file F file) (λ x is. (refl, inl refl))
changes_outcome F p (Write file offset line rest) =
    by-refusal (Write file offset line rest) F (λ x. done_effect (with_file_at F file (with_part offset line x))) (room_for F file (offset + length line))
    (λ x is. let s = with_part-sizes offset line x in
    changes-room F (Write file offset line rest) file (offset + length line) x (with_part offset line x) refl is s.0 s.1 (λ _. s.2) (with_part-fits offset line x))
changes_outcome F p (Truncate file len) =
    by-refusal (Truncate file len) F (λ x. done_effect (with_file_at F file (file_of_length len x))) (room_for F file len)
    (λ x is. let s = of_length-sizes len x in
    changes-room F (Truncate file len) file len x (file_of_length len x) refl is s.0 s.1 (λ uncut. absurd (own-cut file len uncut)) (of_length-fits len x))
  where
    own-cut : (f n : ℕ) → IsFalse (is_cut_of f (Truncate f n)) → ⊥
    own-cut f n uncut = let z : true ≡ false = sym (eq-eqb f f refl) ∙ uncut in cc
changes_outcome F p (Fork child) = by-refusal (Fork child) F (λ x. done_effect (with_child F p child)) (check (nat_le (reserved F + private_cells (cells_of F p)) F.slots) errno.NoSwap) (λ x is. (refl, inl refl))
changes_outcome F p Exit = (refl, inl refl)

changes_acted : (F : Flat) (e : Entry) → ChangesFiles e.call F (after_act F e)
changes_acted F e = by_reply e.reply
  where
    by_reply : (r : Reply) → ChangesFiles e.call F (after_act F (record e { reply = r }))
    by_reply (reply.Io disk before after) = (refl, inl refl)
    by_reply (reply.Word w) = changes_outcome F e.process e.call
    by_reply reply.Done = changes_outcome F e.process e.call
    by_reply (reply.Mapped a) = changes_outcome F e.process e.call
    by_reply (reply.Synced b) = changes_outcome F e.process e.call
    by_reply (reply.Bytes line) = changes_outcome F e.process e.call
    by_reply (reply.Signal s) = changes_outcome F e.process e.call
    by_reply (reply.Refused n) = changes_outcome F e.process e.call

-- the place of a page, by the size of its file
abbrev size-place : ℕ → Option Size → Option (ℕ × ℕ)
size-place page o = option_and_then (λ (s : Size). option_map (λ (block : ℕ). (s.disk, block)) (slice_get (page_blocks s.extents) page)) o

place-size : (o : Option File) (page : ℕ) → option_and_then (λ (file : File). option_map (λ (block : ℕ). (let z : ℕ × ℕ = (file.disk, block) in z)) (slice_get (page_blocks file.extents) page)) o ≡ size-place page (option_map size_of o)
place-size None page = refl
place-size (Some file) page = refl

place-alike : (F G : Flat) (name : PageName) → option_map size_of (slice_get G.files name.object) ≡ option_map size_of (slice_get F.files name.object) → disk_place G name ≡ disk_place F name
place-alike F G name same = place-size (slice_get G.files name.object) name.page ∙ ap (size-place name.page) same ∙ sym (place-size (slice_get F.files name.object) name.page)

pub sizes-at : (fs gs : List File) (f : ℕ) → map size_of gs ≡ map size_of fs → option_map size_of (slice_get gs f) ≡ option_map size_of (slice_get fs f)
sizes-at fs gs f same = sym (slice_get-map size_of gs f) ∙ ap (λ (l : List Size). slice_get l f) same ∙ slice_get-map size_of fs f

-- A STEP
-- a file that is there, where no size changed
same-there : (fs gs : List File) → map size_of gs ≡ map size_of fs → (f : ℕ) (file : File) → slice_get fs f ≡ Some file → (g : File) × (slice_get gs f ≡ Some g) × (size_of g ≡ size_of file)
same-there fs gs same f file at = by_file (slice_get gs f) refl
    (sym (slice_get-map size_of gs f) ∙ ap (λ (l : List Size). slice_get l f) same ∙ slice_get-map size_of fs f ∙ ap (option_map size_of) at)
  where
    by_file : (o : Option File) → slice_get gs f ≡ o → option_map size_of o ≡ Some (size_of file) → (g : File) × (slice_get gs f ≡ Some g) × (size_of g ≡ size_of file)
    by_file None e is = absurd (let z : ◌≡◌ {A = Option Size} None (Some (size_of file)) = is in cc)
    by_file (Some g) e is = (g, e, (let z : ◌≡◌ {A = Option Size} (Some (size_of g)) (Some (size_of file)) = is in cc))

module _ (F : Flat) (e : Entry) where
  tails : Flat
  tails = tails_cleared F (is_bit_set e.cleared)

  pub cleared : map size_of (tails_cleared F (is_bit_set e.cleared)).files ≡ map size_of F.files
  cleared = sizes-cleared (is_bit_set e.cleared) F.files

  -- where a file is then: as long as it was on the same blocks, or the call is of it
  abbrev StaysOr : ℕ → File → File → Type 0
  StaysOr f file new = (size_of new ≡ size_of file) ⊎ ((file_of_call e.call ≡ Some f) × KeepsOldBlocks file new × (IsFalse (is_cut_of f e.call) → file.len ≤ new.len))

  there-then : (f : ℕ) (file : File) → slice_get F.files f ≡ Some file → (new : File) × (slice_get (step F e).files f ≡ Some new) × StaysOr f file new
  there-then f file at =
      let g = same-there F.files (tails_cleared F (is_bit_set e.cleared)).files cleared f file at in
      by_change g.0 g.1 g.2 (changes_acted (tails_cleared F (is_bit_set e.cleared)) e)
    where
      by_change : (g : File) → slice_get (tails_cleared F (is_bit_set e.cleared)).files f ≡ Some g → size_of g ≡ size_of file → ChangesFiles e.call (tails_cleared F (is_bit_set e.cleared)) (step F e)
          → (new : File) × (slice_get (step F e).files f ≡ Some new) × StaysOr f file new
      by_change g there same (d, inl kept) =
          let h = same-there (tails_cleared F (is_bit_set e.cleared)).files (step F e).files kept f g there in
          (h.0, h.1, inl (h.2 ∙ same))
      by_change g there same (d, inr c) = elim (cases_eq f c.f) [
        | inl here ↦
            let one : c.old ≡ g = (let z : ◌≡◌ {A = Option File} (Some c.old) (Some g) = sym c.was ∙ ap (slice_get (tails_cleared F (is_bit_set e.cleared)).files) (sym here) ∙ there in cc) in
            let size : size_of c.old ≡ size_of file = ap size_of one ∙ same in (
              c.new,
              ap (λ (fs : List File). slice_get fs f) c.files ∙ ap (slice_get (slice_set (tails_cleared F (is_bit_set e.cleared)).files c.f c.new)) here ∙ slice_get-slice_set (tails_cleared F (is_bit_set e.cleared)).files c.f c.old c.new c.was,
              inr (
                c.of ∙ ap Some (sym here),
                record {
                  disk = c.blocks.disk ∙ ap (λ (s : Size). s.disk) size;
                  blocks = λ i b is. c.blocks.blocks i b (ap (λ (s : Size). slice_get (page_blocks s.extents) i) size ∙ is);
                },
                λ uncut. let le = c.longer (subst (λ (k : ℕ). IsFalse (is_cut_of k e.call)) here uncut) in let n = ap (λ (s : Size). s.len) size in omega (arith, le, n),
              ),
            )
        | inr apart ↦ (
          g,
          ap (λ (fs : List File). slice_get fs f) c.files ∙ slice_get-set_apart (tails_cleared F (is_bit_set e.cleared)).files c.f f c.new apart ∙ there,
          inl same,
        )
      ]

  count-then : length (step F e).files ≡ length F.files
  count-then = by_change (changes_acted (tails_cleared F (is_bit_set e.cleared)) e) ∙ lengths F.files (tails_cleared F (is_bit_set e.cleared)).files cleared
    where
      lengths : (fs gs : List File) → map size_of gs ≡ map size_of fs → length gs ≡ length fs
      lengths fs gs same = sym (length-map gs size_of) ∙ ap length same ∙ length-map fs size_of

      by_change : ChangesFiles e.call (tails_cleared F (is_bit_set e.cleared)) (step F e) → length (step F e).files ≡ length (tails_cleared F (is_bit_set e.cleared)).files
      by_change (d, inl kept) = lengths (tails_cleared F (is_bit_set e.cleared)).files (step F e).files kept
      by_change (d, inr c) = ap length c.files ∙ length-set (tails_cleared F (is_bit_set e.cleared)).files c.f c.new

  -- a page that came to be kept
  place-tails : (name : PageName) → disk_place (tails_cleared F (is_bit_set e.cleared)) name ≡ disk_place F name
  place-tails name = place-alike F (tails_cleared F (is_bit_set e.cleared)) name (sizes-at F.files (tails_cleared F (is_bit_set e.cleared)).files name.object cleared)

  fresh-then : (name : PageName) (disk block : ℕ) → disk_place F name ≡ None → disk_place (step F e) name ≡ Some (disk, block) → IsFreeBlock F disk block
  fresh-then name disk block none at = by_change (changes_acted (tails_cleared F (is_bit_set e.cleared)) e)
    where
      without : disk_place (tails_cleared F (is_bit_set e.cleared)) name ≡ None
      without = place-tails name ∙ none

      as-before : option_map size_of (slice_get (step F e).files name.object) ≡ option_map size_of (slice_get (tails_cleared F (is_bit_set e.cleared)).files name.object) → IsFreeBlock F disk block
      as-before same = absurd (let z : ◌≡◌ {A = Option (ℕ × ℕ)} None (Some (disk, block)) = sym without ∙ sym (place-alike (tails_cleared F (is_bit_set e.cleared)) (step F e) name same) ∙ at in cc)

      by_change : ChangesFiles e.call (tails_cleared F (is_bit_set e.cleared)) (step F e) → IsFreeBlock F disk block
      by_change (d, inl kept) = as-before (sizes-at (tails_cleared F (is_bit_set e.cleared)).files (step F e).files name.object kept)
      by_change (d, inr c) = elim (cases_eq name.object c.f) [
        | inl here ↦
            let p = place-parts (step F e) name disk block at in
            let now : slice_get (step F e).files name.object ≡ Some c.new =
            ap (slice_get (step F e).files) here ∙ ap (λ (fs : List File). slice_get fs c.f) c.files ∙ slice_get-slice_set (tails_cleared F (is_bit_set e.cleared)).files c.f c.old c.new c.was in
            let same : p.file ≡ c.new = (let z : ◌≡◌ {A = Option File} (Some p.file) (Some c.new) = sym p.there ∙ now in cc) in
            let free = c.fresh name.page block
            (no-block (tails_cleared F (is_bit_set e.cleared)) name c.old (ap (slice_get (tails_cleared F (is_bit_set e.cleared)).files) here ∙ c.was) without)
            (sym (ap (λ (x : File). slice_get (page_blocks x.extents) name.page) same) ∙ p.at) in
            let on : c.old.disk ≡ disk = sym c.blocks.disk ∙ sym (ap (λ (x : File). x.disk) same) ∙ p.on in
            subst (λ (k : ℕ). IsFreeBlock F k block) on (record { within = free.within; free = λ n has. free.free n (place-tails n ∙ has) })
        | inr apart ↦ as-before (ap (option_map size_of) (ap (λ (fs : List File). slice_get fs name.object) c.files ∙ slice_get-set_apart (tails_cleared F (is_bit_set e.cleared)).files c.f name.object c.new apart))
      ]

  -- files keep blocks for their pages
  abbrev AreKept : List File → Type 0
  AreKept fs = (f : ℕ) (file : File) → slice_get fs f ≡ Some file → KeepsPageBlocks file

  sizes-keep : (fs gs : List File) → map size_of gs ≡ map size_of fs → AreKept fs → AreKept gs
  sizes-keep fs gs same have f file at =
      let n = same-there gs fs (sym same) f file at in
      let k = have f n.0 n.1 in
      let size = n.2 in
      record {
        pages = subst (λ (s : Size). s.count ≤ length (page_blocks s.extents)) size k.pages;
        len = subst (λ (s : Size). pages_in s.len ≤ length (page_blocks s.extents)) size k.len;
      }

  pub kept-then : HaveBlocks F → HaveBlocks (step F e)
  kept-then have = by_change (changes_acted (tails_cleared F (is_bit_set e.cleared)) e)
    where
      before : AreKept (tails_cleared F (is_bit_set e.cleared)).files
      before = sizes-keep F.files (tails_cleared F (is_bit_set e.cleared)).files cleared have

      by_change : ChangesFiles e.call (tails_cleared F (is_bit_set e.cleared)) (step F e) → HaveBlocks (step F e)
      by_change (d, inl kept) = sizes-keep (tails_cleared F (is_bit_set e.cleared)).files (step F e).files kept before
      by_change (d, inr c) = λ f file at. elim (cases_eq f c.f) [
        | inl here ↦
            let now : slice_get (step F e).files f ≡ Some c.new =
            ap (slice_get (step F e).files) here ∙ ap (λ (fs : List File). slice_get fs c.f) c.files ∙ slice_get-slice_set (tails_cleared F (is_bit_set e.cleared)).files c.f c.old c.new c.was in
            let same : c.new ≡ file = (let z : ◌≡◌ {A = Option File} (Some c.new) (Some file) = sym now ∙ at in cc) in
            subst KeepsPageBlocks same (c.kept (before c.f c.old c.was))
        | inr apart ↦ before f file (sym (slice_get-set_apart (tails_cleared F (is_bit_set e.cleared)).files c.f f c.new apart) ∙ sym (ap (λ (fs : List File). slice_get fs f) c.files) ∙ at)
      ]

  pub step-files : StepFiles F e (step F e)
  step-files = record {
    disks = (changes_acted (tails_cleared F (is_bit_set e.cleared)) e).0;
    fresh = fresh-then;
    count = count-then;
    sizes = λ f file at other.
        let n = there-then f file at in
        there (slice_get (step F e).files f) n.0 (KeepsSize file) n.1 (elim n.2 [
          | inl same ↦ record { len = ap (λ (s : Size). s.len) same; disk = ap (λ (s : Size). s.disk) same; extents = ap (λ (s : Size). s.extents) same }
          | inr own ↦ absurd (other own.0)
        ]);
    blocks = λ f file at.
        let n = there-then f file at in
        there (slice_get (step F e).files f) n.0 (KeepsOldBlocks file) n.1 (elim n.2 [
          | inl same ↦ record { disk = ap (λ (s : Size). s.disk) same; blocks = λ i b is. ap (λ (s : Size). slice_get (page_blocks s.extents) i) same ∙ is }
          | inr own ↦ own.1
        ]);
    longer = λ f file at uncut.
        let n = there-then f file at in
        there (slice_get (step F e).files f) n.0 (λ new. file.len ≤ new.len) n.1 (elim n.2 [
          | inl same ↦ (let k = ap (λ (s : Size). s.len) same in omega (arith, k))
          | inr own ↦ own.2 uncut
        ]);
  }

pub files_stay_rule : FilesStay
files_stay_rule = record { files = λ F e. step-files F e; kept = λ F e have. kept-then F e have }
