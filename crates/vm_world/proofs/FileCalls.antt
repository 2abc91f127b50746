-- CALLS ON FILES, as flat memory has them.
use Rattle.std.proofs.Common.{◌≡◌, ℕ, zero, suc, ◌+◌, ◌-◌, ◌%◌, ◌<◌, ◌≤◌, ◌==◌, min, Bool, true, false, cond, List, [], ◌∷◌, ◌++◌, length, map, Option, Some, None, refl, sym, ap, ◌∙◌, inl, inr, subst, arith}
use Rattle.std.specs.Prelude.{option_map, slice_get, slice_set, IsSome, IsTrue, All, Result, Ok, Err, IsOk, ok_or, is_some, nat_lt, take, drop, filter, remove, unwrap_or, ◌⊎◌, if◌then◌else◌}
use Rattle.std.specs.List.{flat_map, concat}
use Rattle.std.specs.FinMap as finite
use Rattle.std.specs.FinSet as set
use Rattle.std.specs.Ordering.{nat_cmp}
use Rattle.std.proofs.lemmas.Bool.{ltb-true, ltb-false, lt-ltb}
use Rattle.std.proofs.lemmas.List.{length-map, length-take, map-append, take-map, drop-map}
use Rattle.std.proofs.Math.Seq.{take-nil}
use Rattle.std.proofs.Math.ListN.{drop_of_length-le}
use Rattle.flat_model.specs.vm_types.declared.call.Call.{Call}
use Rattle.flat_model.specs.vm_types.declared.call.Call.TheVariants as call
use Rattle.flat_model.specs.vm_types.declared.call.Entry.{Entry}
use Rattle.flat_model.specs.vm_types.declared.call.Errno.{Errno}
use Rattle.flat_model.specs.vm_types.declared.call.Errno.TheVariants as errno
use Rattle.flat_model.specs.vm_types.declared.call.Reply.{Reply}
use Rattle.flat_model.specs.vm_types.declared.call.Reply.TheVariants as reply
use Rattle.flat_model.specs.vm_types.Pages.{line_rest}
use Rattle.page_store.specs.Notes.{Notes}
use Rattle.flat_model.specs.vnode_files.declared.extent.Extent.{Extent}
use Rattle.flat_model.specs.vnode_files.declared.vnode.FileInfo.{FileInfo}
use Rattle.flat_model.specs.vnode_files.Files.{FilesSeen, vnode_at, growth_of, extents_on}
use Rattle.flat_model.specs.vnode_files.Grow.{growth}
use Rattle.flat_model.specs.vnode_files.Vnode.{VnodeSeen}
use Rattle.flat_model.specs.Access.{with_change_at}
use Rattle.flat_model.specs.Flat.{File, Flat, IsFile, IsFlat}
use Rattle.flat_model.specs.Parts.{existing_file, writable_file, growth_in, room_for, extents_beside, with_extents_of, with_file_at, with_part, file_of_length, write_part, truncate, read_part, read_line, file_bytes}
use Rattle.flat_model.specs.Refusals.{◌>>=◌, ◌>>◌, check, Effect, or_refused, done_effect}
use Rattle.flat_model.specs.Shapes.{without_bytes}
use Rattle.flat_model.specs.Step.{IsDue, after_act, effect}
use Rattle.flat_model.specs.Words.{Page, page, page_size, pages_in, IsPage}
use Rattle.flat_model.proofs.Lines.{lines_in_pages_law}
use Rattle.vm_world.specs.CallSteps.{ChangesMemory, ActsOnMemory}
use Rattle.vm_world.specs.ServingLaws.{done_entry}
use Rattle.vm_world.specs.FileCalls.{room_refusal, file_refusal, read_count, ReadsFileLine, FileCallsLaw}
use Rattle.vm_world.specs.FileSteps.{file_seen, with_file_changed, ChangesFile}
use Rattle.vm_world.specs.FlatMemory.{Memory, flat_memory, shape_of, file_with_pages, files_with_pages, pages_from}
use Rattle.vm_world.specs.MemoryFits.{MemoryFits}
use Rattle.vm_world.specs.NotesFit.{NotesFit}
use Rattle.vm_world.specs.Pages.{page_value, file_contents}
use Rattle.vm_world.specs.World.{World, AllTell, file_name}
use Rattle.vm_world.proofs.FilePages.{page-in, page-past, file-in}
use Rattle.vm_world.proofs.FileSteps.{file_rule, file-at, no-file-at, file-whole-at}
use Rattle.flat_model.specs.vm_types.Parts.{file_of_call}
use Rattle.vm_world.specs.Plans.{MayMeetFault, IsRefusal, refusal_in}
use Rattle.vm_world.specs.Wants.{HasRoomFor}
use Rattle.vm_world.proofs.MayFails.{writable_in, writable-in, kept_file}
use Rattle.vm_world.proofs.PageNames.{not-slot, file-apart}

-- WHERE FILES LIE, flat memory's files and the world's tell alike.
abbrev Keyed : Type 0
Keyed = ℕ × List Extent

abbrev keyed_extents : ℕ → List Keyed → List Extent
keyed_extents disk ks = flat_map (λ (k : Keyed). k.1) (filter (λ (k : Keyed). k.0 == disk) ks)

abbrev key_of : File → Keyed
key_of file = (file.disk, file.extents)

abbrev vnode_key : VnodeSeen → Keyed
vnode_key v = (v.info.disk, v.info.extents)

keyed : {A : Type 0} (key : A → Keyed) (disk : ℕ) (xs : List A) → flat_map (λ (x : A). (key x).1) (filter (λ (x : A). (key x).0 == disk) xs) ≡ keyed_extents disk (map key xs)
keyed key disk [] = refl
keyed {A} key disk (x ∷ xs) = by_test ((key x).0 == disk) (keyed key disk xs)
  where
    by_test : (b : Bool) → flat_map (λ (y : A). (key y).1) (filter (λ (y : A). (key y).0 == disk) xs) ≡ keyed_extents disk (map key xs)
        → flat_map (λ (y : A). (key y).1) (cond b (x ∷ filter (λ (y : A). (key y).0 == disk) xs) (filter (λ (y : A). (key y).0 == disk) xs)) ≡ flat_map (λ (k : Keyed). k.1) (cond b (key x ∷ filter (λ (k : Keyed). k.0 == disk) (map key xs)) (filter (λ (k : Keyed). k.0 == disk) (map key xs)))
    by_test true rest = ap (λ (es : List Extent). (key x).1 ++ es) rest
    by_test false rest = rest

map-remove : {A : Type 0} (key : A → Keyed) (xs : List A) (i : ℕ) → map key (remove xs i) ≡ remove (map key xs) i
map-remove key xs i = map-append key (take i xs) (drop (suc i) xs) ∙ ap (λ (ks : List Keyed). ks ++ map key (drop (suc i) xs)) (sym (take-map key i xs)) ∙ ap (λ (ks : List Keyed). take i (map key xs) ++ ks) (sym (drop-map key (suc i) xs))

keys-same : (page : ℕ → ℕ → Page) (k : ℕ) (vs : List VnodeSeen) → map key_of (files_with_pages page k (map (λ (v : VnodeSeen). v.info) vs)) ≡ map vnode_key vs
keys-same page k [] = refl
keys-same page k (v ∷ vs) = ap (λ (ks : List Keyed). vnode_key v ∷ ks) (keys-same page (suc k) vs)

module _ (m : Memory) (born : set.FinSet nat_cmp) (notes : Notes) where
  abbrev F : Flat
  F = flat_memory m born notes

  beside-same : (f disk : ℕ) → extents_beside F.files f disk ≡ extents_on disk (remove m.world.files.files f)
  beside-same f disk =
      keyed key_of disk (remove F.files f) ∙ ap (keyed_extents disk) (map-remove key_of F.files f ∙ ap (λ (ks : List Keyed). remove ks f) (keys-same (file_contents (page_value m.world notes)) 0 m.world.files.files) ∙ sym (map-remove vnode_key m.world.files.files f))
      ∙ sym (keyed vnode_key disk (remove m.world.files.files f))

  -- GROWTH is the same in both.
  pub growth-same : (f pages : ℕ) → growth_in F f (file_seen m.world notes f) pages ≡ growth_of m.world.files f pages
  growth-same f pages =
      let info = (vnode_at m.world.files f).info in
      ap (λ (es : List Extent). growth (unwrap_or (finite.get m.world.files.disks info.disk) 0) es info.extents pages) (beside-same f info.disk)

abbrev room_from : Option File → (File → Option (List Extent)) → Result File Errno
room_from o grown = (ok_or o errno.NoObject >>= λ file. (check file.writable errno.ReadOnly >> Ok file)) >>= λ file. (ok_or (grown file) errno.TooBig >>= λ extents. Ok (with_extents_of extents file))

abbrev room_told : Option Errno → File → Result File Errno
room_told None file = Ok file
room_told (Some e) file = Err e

room-is : (G : Flat) (f end : ℕ) → room_for G f end ≡ room_from (slice_get G.files f) (λ file. growth_in G f file (pages_in end))
unfolding room_for writable_file
room-is G f end = refl

module _ (m : Memory) (fits : MemoryFits m) (born : set.FinSet nat_cmp) (notes : Notes) where
  abbrev G : Flat
  G = flat_memory m born notes

  -- THE ROOM for so many bytes.
  room-by : (f end : ℕ) (o : Option Errno) → room_refusal m.world.files f end ≡ o → (extents : List Extent) → (o ≡ None → growth_of m.world.files f (pages_in end) ≡ Some extents)
      → room_for G f end ≡ room_told o (with_extents_of extents (file_seen m.world notes f))
  room-by f end o is extents grown = room-is G f end ∙ by_there (nat_lt f (length m.world.files.files)) refl is
    where
      answer : Option Errno → Result File Errno
      answer a = room_told a (with_extents_of extents (file_seen m.world notes f))

      by_growth : (g : Option (List Extent)) → growth_of m.world.files f (pages_in end) ≡ g → cond (is_some g) None (Some errno.TooBig) ≡ o → (ok_or g errno.TooBig >>= λ es. Ok (with_extents_of es (file_seen m.world notes f))) ≡ answer o
      by_growth None g_is e = ap answer e
      by_growth (Some es) g_is e =
          let same : es ≡ extents = let z : Some es ≡ Some extents = sym g_is ∙ grown (sym e) in cc in
          ap (λ (x : List Extent). Ok (with_extents_of x (file_seen m.world notes f))) same ∙ ap answer e

      by_mode : (b : Bool) → (vnode_at m.world.files f).info.writable ≡ b → cond b (cond (is_some (growth_of m.world.files f (pages_in end))) None (Some errno.TooBig)) (Some errno.ReadOnly) ≡ o
          → ((check b errno.ReadOnly >> Ok (file_seen m.world notes f)) >>= λ file. (ok_or (growth_in G f file (pages_in end)) errno.TooBig >>= λ es. Ok (with_extents_of es file))) ≡ answer o
      by_mode false b_is e = ap answer e
      by_mode true b_is e = ap (λ (g : Option (List Extent)). ok_or g errno.TooBig >>= λ es. Ok (with_extents_of es (file_seen m.world notes f))) (growth-same m born notes f (pages_in end)) ∙ by_growth (growth_of m.world.files f (pages_in end)) refl e

      by_there : (b : Bool) → nat_lt f (length m.world.files.files) ≡ b
          → cond b (cond (vnode_at m.world.files f).info.writable (cond (is_some (growth_of m.world.files f (pages_in end))) None (Some errno.TooBig)) (Some errno.ReadOnly)) (Some errno.NoObject) ≡ o
          → room_from (slice_get G.files f) (λ file. growth_in G f file (pages_in end)) ≡ answer o
      by_there false b_is e = ap (λ (x : Option File). room_from x (λ file. growth_in G f file (pages_in end))) (no-file-at m.world notes f (let z = ltb-false f (length m.world.files.files) b_is in omega (arith, z))) ∙ ap answer e
      by_there true b_is e = ap (λ (x : Option File). room_from x (λ file. growth_in G f file (pages_in end))) (file-at m.world notes f (ltb-true f (length m.world.files.files) b_is)) ∙ by_mode (vnode_at m.world.files f).info.writable refl e

-- NOTHING CHANGES.
still : (p cleared : ℕ) (m : Memory) (e : Entry) → MemoryFits m → ((born : set.FinSet nat_cmp) (notes : Notes) → flat_memory m born notes ≡ after_act (flat_memory m born notes) e)
    → ((born : set.FinSet nat_cmp) (notes : Notes) → NotesFit m.world notes → AllTell m.world notes → IsFlat (flat_memory m born notes) → IsDue (flat_memory m born notes) e × (flat_memory m born notes ≡ after_act (flat_memory m born notes) e)) → ActsOnMemory m m e
still p cleared m e fits same acts = record {
  machine = record { core = refl; frames = refl; slots = refl; disks = refl; modes = refl; bays = refl };
  others = λ q ne. refl;
  memory = fits;
  notes = λ notes nf. nf;
  tells = λ notes nf. ((λ tell. tell), (λ tell. tell));
  flat = acts;
  shaped = λ born notes. ap without_bytes (same born notes);
}

some-errno : (o : Option Errno) (e : Errno) (r : Option Errno → Result File Errno) → o ≡ Some e → r o ≡ r (Some e)
some-errno o e r is = ap r is

refused : (p cleared : ℕ) (c : Call) (e : Errno) (m : Memory) → MemoryFits m → file_refusal m.world.files c ≡ Some e → ActsOnMemory m m (done_entry p c (reply.Refused e) cleared)
refused p cleared (call.Read f offset len) e m fits is = still p cleared m (done_entry p (call.Read f offset len) (reply.Refused e) cleared) fits
    (λ born notes. sym (ap (λ (x : Effect). x.after) (same born notes))) (λ born notes nf tell flat. (ap (λ (x : Effect). x.reply) (same born notes), sym (ap (λ (x : Effect). x.after) (same born notes))))
  where
    by_there : (notes : Notes) (b : Bool) → nat_lt f (length m.world.files.files) ≡ b → cond b None (Some errno.NoObject) ≡ Some e
        → (slice_get (files_with_pages (file_contents (page_value m.world notes)) 0 (map (λ (v : VnodeSeen). v.info) m.world.files.files)) f ≡ None) × (e ≡ errno.NoObject)
    by_there notes true b_is h = absurd (let z : ◌≡◌ {A = Option Errno} None (Some e) = h in cc)
    by_there notes false b_is h = (no-file-at m.world notes f (ltb-false f (length m.world.files.files) b_is), let z : ◌≡◌ {A = Option Errno} (Some errno.NoObject) (Some e) = h in cc)

    same : (born : set.FinSet nat_cmp) (notes : Notes) → read_part (flat_memory m born notes) f offset len ≡ record { reply = reply.Refused e; after = flat_memory m born notes }
    same born notes =
        let G = flat_memory m born notes in
        let none : (slice_get G.files f ≡ None) × (e ≡ errno.NoObject) = by_there notes (nat_lt f (length m.world.files.files)) refl is in
        ap (λ (o : Option File). or_refused G (λ (file : File). record { reply = reply.Bytes (read_line file offset len); after = G }) (ok_or o errno.NoObject)) none.0 ∙ ap (λ (x : Errno). record { reply = reply.Refused x; after = G }) (sym none.1)
refused p cleared (call.Write f offset line rest) e m fits is = still p cleared m (done_entry p (call.Write f offset line rest) (reply.Refused e) cleared) fits
    (λ born notes. sym (ap (λ (x : Effect). x.after) (same born notes))) (λ born notes nf tell flat. (ap (λ (x : Effect). x.reply) (same born notes), sym (ap (λ (x : Effect). x.after) (same born notes))))
  where
    same : (born : set.FinSet nat_cmp) (notes : Notes) → write_part (flat_memory m born notes) f offset line ≡ record { reply = reply.Refused e; after = flat_memory m born notes }
    same born notes =
        let G = flat_memory m born notes in
        let room = room-by m fits born notes f (offset + length line) (Some e) is [] (λ none. absurd (let z : ◌≡◌ {A = Option Errno} (Some e) None = none in cc)) in
        ap (λ (r : Result File Errno). or_refused G (λ (file : File). done_effect (with_file_at G f (with_part offset line file))) r) room
refused p cleared (call.Truncate f len) e m fits is = still p cleared m (done_entry p (call.Truncate f len) (reply.Refused e) cleared) fits
    (λ born notes. sym (ap (λ (x : Effect). x.after) (same born notes))) (λ born notes nf tell flat. (ap (λ (x : Effect). x.reply) (same born notes), sym (ap (λ (x : Effect). x.after) (same born notes))))
  where
    same : (born : set.FinSet nat_cmp) (notes : Notes) → truncate (flat_memory m born notes) f len ≡ record { reply = reply.Refused e; after = flat_memory m born notes }
    same born notes =
        let G = flat_memory m born notes in
        let room = room-by m fits born notes f len (Some e) is [] (λ none. absurd (let z : ◌≡◌ {A = Option Errno} (Some e) None = none in cc)) in
        ap (λ (r : Result File Errno). or_refused G (λ (file : File). done_effect (with_file_at G f (file_of_length len file))) r) room
refused p cleared (call.Load a n) e m fits is = absurd (let z : ◌≡◌ {A = Option Errno} None (Some e) = is in cc)
refused p cleared (call.Store a n v) e m fits is = absurd (let z : ◌≡◌ {A = Option Errno} None (Some e) = is in cc)
refused p cleared (call.Map a b c d x y) e m fits is = absurd (let z : ◌≡◌ {A = Option Errno} None (Some e) = is in cc)
refused p cleared (call.Unmap a b) e m fits is = absurd (let z : ◌≡◌ {A = Option Errno} None (Some e) = is in cc)
refused p cleared (call.Protect a b c) e m fits is = absurd (let z : ◌≡◌ {A = Option Errno} None (Some e) = is in cc)
refused p cleared (call.Sync a b) e m fits is = absurd (let z : ◌≡◌ {A = Option Errno} None (Some e) = is in cc)
refused p cleared (call.Fork a) e m fits is = absurd (let z : ◌≡◌ {A = Option Errno} None (Some e) = is in cc)
refused p cleared call.Exit e m fits is = absurd (let z : ◌≡◌ {A = Option Errno} None (Some e) = is in cc)

-- the file is there, where a call on it is served
there-by : (f n : ℕ) (a : Option Errno) → cond (nat_lt f n) a (Some errno.NoObject) ≡ None → f < n
there-by f n a is = by_test (nat_lt f n) refl is
  where
    by_test : (b : Bool) → nat_lt f n ≡ b → cond b a (Some errno.NoObject) ≡ None → f < n
    by_test true e h = ltb-true f n e
    by_test false e h = absurd (let z : ◌≡◌ {A = Option Errno} (Some errno.NoObject) None = h in cc)

-- an element that is changed is set at its place
changed_there : {X : Type 0} (g : X → X) (xs : List X) (i : ℕ) (x : X) → slice_get xs i ≡ Some x → with_change_at g xs i ≡ slice_set xs i (g x)
changed_there g [] i x is = refl
changed_there g (y ∷ ys) zero x is = let same : y ≡ x = let both : Some y ≡ Some x = is in cc in ap (λ z. g z ∷ ys) same
changed_there g (y ∷ ys) (suc i) x is = ap (λ zs. y ∷ zs) (changed_there g ys i x is)

changed-is : (m : Memory) (born : set.FinSet nat_cmp) (notes : Notes) (f : ℕ) (g : File → File) → f < length m.world.files.files → with_file_changed (flat_memory m born notes) f g ≡ with_file_at (flat_memory m born notes) f (g (file_seen m.world notes f))
changed-is m born notes f g lt = ap (λ (fs : List File). record (flat_memory m born notes) { files = fs }) (changed_there g (flat_memory m born notes).files f (file_seen m.world notes f) (file-at m.world notes f lt))

grown-acts : (p f end cleared : ℕ) (c : Call) (extents : List Extent) (old new : Memory) (h : File → File) → MemoryFits old → room_refusal old.world.files f end ≡ None → growth_of old.world.files f (pages_in end) ≡ Some extents
    → ChangesFile f old new (λ file. h (with_extents_of extents file)) → ((G : Flat) → effect G p c ≡ or_refused G (λ file. done_effect (with_file_at G f (h file))) (room_for G f end)) → ActsOnMemory old new (done_entry p c reply.Done cleared)
grown-acts p f end cleared c extents old new h fits served grown changes does =
    let lt = there-by f (length old.world.files.files) (cond (vnode_at old.world.files f).info.writable (cond (is_some (growth_of old.world.files f (pages_in end))) None (Some errno.TooBig)) (Some errno.ReadOnly)) served in
    let c' = file_rule.flat p f old new (λ file. h (with_extents_of extents file)) fits lt changes in
    let same : (born : set.FinSet nat_cmp) (notes : Notes) → effect (flat_memory old born notes) p c ≡ done_effect (with_file_at (flat_memory old born notes) f (h (with_extents_of extents (file_seen old.world notes f)))) = λ born notes.
    let G = flat_memory old born notes in
    does G ∙ ap (λ (r : Result File Errno). or_refused G (λ (file : File). done_effect (with_file_at G f (h file))) r) (room-by old fits born notes f end None served extents (λ none. grown)) in
    let turned : (born : set.FinSet nat_cmp) (notes : Notes) → with_file_changed (flat_memory old born notes) f (λ file. h (with_extents_of extents file)) ≡ (effect (flat_memory old born notes) p c).after = λ born notes.
    changed-is old born notes f (λ file. h (with_extents_of extents file)) lt ∙ sym (ap (λ (x : Effect). x.after) (same born notes)) in
    record {
      machine = c'.machine;
      others = c'.others;
      memory = c'.memory;
      notes = c'.notes;
      tells = c'.tells;
      flat = λ born notes nf tell flat. (ap (λ (x : Effect). x.reply) (same born notes), (c'.flat born notes nf tell flat).0 ∙ turned born notes);
      shaped = λ born notes. c'.shaped born notes ∙ ap without_bytes (turned born notes);
    }

-- A PART OF A READ.
some-take : {A : Type 0} (n : ℕ) (xs : List A) → n ≡ 0 → take n xs ≡ []
some-take n xs e = ap (λ (k : ℕ). take k xs) e ∙ search

read-is : (file : File) (offset len : ℕ) (page_at : ℕ → Page) → IsFile file → ((i : ℕ) → i < pages_in file.len → slice_get file.pages i ≡ Some (page_at i)) → read_line file offset len ≡ take (read_count file.len offset len) (drop (offset % page_size) (page_at (page offset)))
read-is file offset len page_at whole at = by_end (split offset file.len)
  where
    split : (a b : ℕ) → (a < b) ⊎ (b ≤ a)
    split a b = grind arith

    by_end : (offset < file.len) ⊎ (file.len ≤ offset) → read_line file offset len ≡ take (read_count file.len offset len) (drop (offset % page_size) (page_at (page offset)))
    by_end (inl lt) = lines_in_pages_law.of_file file offset (min len (line_rest offset)) (page_at (page offset)) (λ k d l. (whole.pages k d l).whole) (at (page offset) (omega (arith, lt))) (lines_in_pages_law.line offset (min len (line_rest offset)) (omega arith))
    by_end (inr le) =
        let none : read_count file.len offset len ≡ 0 = omega (arith, le) in
        let past : drop offset (file_bytes file) ≡ [] = drop_of_length-le (file_bytes file) (let n = length-take file.len (concat file.pages) in omega (arith, n, le)) in
        ap (λ (bytes : List ℕ). take (min len (line_rest offset)) bytes) past ∙ take-nil (min len (line_rest offset)) ∙ sym (some-take (read_count file.len offset len) (drop (offset % page_size) (page_at (page offset))) none)

-- it changes nothing, whatever it reads
read-still : (G : Flat) (f offset len : ℕ) → G ≡ (read_part G f offset len).after
read-still G f offset len = by_file (slice_get G.files f)
  where
    by_file : (o : Option File) → G ≡ (or_refused G (λ (file : File). record { reply = reply.Bytes (read_line file offset len); after = G }) (ok_or o errno.NoObject)).after
    by_file None = refl
    by_file (Some file) = refl

reads : (p f offset len cleared : ℕ) (line : List ℕ) (m : Memory) → MemoryFits m → file_refusal m.world.files (call.Read f offset len) ≡ None → ReadsFileLine m.world f offset len line → ActsOnMemory m m (done_entry p (call.Read f offset len) (reply.Bytes line) cleared)
reads p f offset len cleared line m fits served is =
    let lt = there-by f (length m.world.files.files) None served in
    still p cleared m (done_entry p (call.Read f offset len) (reply.Bytes line) cleared) fits (λ born notes. read-still (flat_memory m born notes) f offset len) (λ born notes nf tell flat.
    let G = flat_memory m born notes in
    let file = file_seen m.world notes f in
    let n = pages_in (vnode_at m.world.files f).info.length in
    let got : read_line file offset len ≡ line =
    read-is file offset len (file_contents (page_value m.world notes) f) (file-whole-at m born notes f lt flat) (λ i below. let z : 0 + i ≡ i = omega arith in page-in (file_contents (page_value m.world notes) f) 0 n i below ∙ ap (λ (j : ℕ). Some (file_contents (page_value m.world notes) f j)) z)
    ∙ ap (λ (b : Bool). take (read_count file.len offset len) (drop (offset % page_size) (cond b [] (page_value m.world notes (file_name f (page offset)))))) (not-slot f (file-apart m.world.files f fits.files lt)) ∙ sym (is notes nf tell) in
    let same : read_part G f offset len ≡ record { reply = reply.Bytes line; after = G } =
    ap (λ (o : Option File). or_refused G (λ (x : File). record { reply = reply.Bytes (read_line x offset len); after = G }) (ok_or o errno.NoObject)) (file-at m.world notes f lt) ∙ ap (λ (l : List ℕ). record { reply = reply.Bytes l; after = G }) got in
    (ap (λ (x : Effect). x.reply) same, sym (ap (λ (x : Effect). x.after) same)))

-- A CALL THAT ISN'T REFUSED may meet a device error.
room-writable : (m : Memory) (born : set.FinSet nat_cmp) (notes : Notes) (f end : ℕ) → room_refusal m.world.files f end ≡ None → IsOk (writable_file (flat_memory m born notes) f)
room-writable m born notes f end served =
    let lt = there-by f (length m.world.files.files) (cond (vnode_at m.world.files f).info.writable (cond (is_some (growth_of m.world.files f (pages_in end))) None (Some errno.TooBig)) (Some errno.ReadOnly)) served in
    subst (λ (r : Result File Errno). IsOk r) (sym (writable-in (flat_memory m born notes) f ∙ ap writable_in (file-at m.world notes f lt))) (by_mode (vnode_at m.world.files f).info.writable refl (by_there (nat_lt f (length m.world.files.files)) (lt-ltb f (length m.world.files.files) lt) served))
  where
    abbrev-mode : Option Errno
    abbrev-mode = cond (vnode_at m.world.files f).info.writable (cond (is_some (growth_of m.world.files f (pages_in end))) None (Some errno.TooBig)) (Some errno.ReadOnly)

    by_there : (b : Bool) → b ≡ true → cond b abbrev-mode (Some errno.NoObject) ≡ None → abbrev-mode ≡ None
    by_there true e h = h
    by_there false e h = absurd (let z : false ≡ true = e in cc)

    by_mode : (b : Bool) → (vnode_at m.world.files f).info.writable ≡ b → abbrev-mode ≡ None → IsOk (check (vnode_at m.world.files f).info.writable errno.ReadOnly >> kept_file (file_seen m.world notes f))
    by_mode true e h = subst (λ (b : Bool). IsOk (check b errno.ReadOnly >> kept_file (file_seen m.world notes f))) (sym e) refl
    by_mode false e h = absurd (let z : ◌≡◌ {A = Option Errno} (Some errno.ReadOnly) None = sym (ap (λ (b : Bool). cond b (cond (is_some (growth_of m.world.files f (pages_in end))) None (Some errno.TooBig)) (Some errno.ReadOnly)) e) ∙ h in cc)

file-faults : (p : ℕ) (c : Call) (f : ℕ) (m : Memory) → file_of_call c ≡ Some f → file_refusal m.world.files c ≡ None → MayMeetFault m p c
file-faults p (call.Read g offset len) f m is served born notes =
    let lt = there-by g (length m.world.files.files) None served in
    subst (λ (o : Option File). IsOk (ok_or o errno.NoObject)) (sym (file-at m.world notes g lt)) refl
file-faults p (call.Write g offset line rest) f m is served born notes = room-writable m born notes g (offset + length line) served
file-faults p (call.Truncate g len) f m is served born notes = room-writable m born notes g len served
file-faults p (call.Load a n) f m is served born notes = absurd (let z : ◌≡◌ {A = Option ℕ} None (Some f) = is in cc)
file-faults p (call.Store a n v) f m is served born notes = absurd (let z : ◌≡◌ {A = Option ℕ} None (Some f) = is in cc)
file-faults p (call.Map a b c d x y) f m is served born notes = absurd (let z : ◌≡◌ {A = Option ℕ} None (Some f) = is in cc)
file-faults p (call.Unmap a b) f m is served born notes = absurd (let z : ◌≡◌ {A = Option ℕ} None (Some f) = is in cc)
file-faults p (call.Protect a b c) f m is served born notes = absurd (let z : ◌≡◌ {A = Option ℕ} None (Some f) = is in cc)
file-faults p (call.Sync a b) f m is served born notes = absurd (let z : ◌≡◌ {A = Option ℕ} None (Some f) = is in cc)
file-faults p (call.Fork a) f m is served born notes = absurd (let z : ◌≡◌ {A = Option ℕ} None (Some f) = is in cc)
file-faults p call.Exit f m is served born notes = absurd (let z : ◌≡◌ {A = Option ℕ} None (Some f) = is in cc)

-- THE ERRNO THAT IS DUE, whatever the disks have.
has-room : (files : FilesSeen) (f end : ℕ) → room_refusal files f end ≡ None → HasRoomFor files f end
has-room files f end is = by_there (nat_lt f (length files.files)) refl is
  where
    by_growth : (g : Option (List Extent)) → f < length files.files → (vnode_at files f).info.writable ≡ true → growth_of files f (pages_in end) ≡ g → cond (is_some g) None (Some errno.TooBig) ≡ None → HasRoomFor files f end
    by_growth None lt mode e h = absurd (let z : ◌≡◌ {A = Option Errno} (Some errno.TooBig) None = h in cc)
    by_growth (Some es) lt mode e h = record { there = lt; writable = mode; room = subst (λ (o : Option (List Extent)). IsSome o) (sym e) refl }

    by_mode : (b : Bool) → f < length files.files → (vnode_at files f).info.writable ≡ b → cond b (cond (is_some (growth_of files f (pages_in end))) None (Some errno.TooBig)) (Some errno.ReadOnly) ≡ None → HasRoomFor files f end
    by_mode true lt e h = by_growth (growth_of files f (pages_in end)) lt e refl h
    by_mode false lt e h = absurd (let z : ◌≡◌ {A = Option Errno} (Some errno.ReadOnly) None = h in cc)

    by_there : (b : Bool) → nat_lt f (length files.files) ≡ b
        → cond b (cond (vnode_at files f).info.writable (cond (is_some (growth_of files f (pages_in end))) None (Some errno.TooBig)) (Some errno.ReadOnly)) (Some errno.NoObject) ≡ None → HasRoomFor files f end
    by_there true e h = by_mode (vnode_at files f).info.writable (ltb-true f (length files.files) e) refl h
    by_there false e h = absurd (let z : ◌≡◌ {A = Option Errno} (Some errno.NoObject) None = h in cc)

some-of : {A : Type 0} (o : Option A) → IsSome o → (x : A) × (o ≡ Some x)
some-of None is = absurd (let z : false ≡ true = is in cc)
some-of (Some x) is = (x, refl)

room-due : (m : Memory) (fits : MemoryFits m) (born : set.FinSet nat_cmp) (notes : Notes) (f end : ℕ) (h : File → File)
    → refusal_in (or_refused (flat_memory m born notes) (λ file. done_effect (with_file_at (flat_memory m born notes) f (h file))) (room_for (flat_memory m born notes) f end)).reply ≡ option_map reply.Refused (room_refusal m.world.files f end)
room-due m fits born notes f end h = by_refusal (room_refusal m.world.files f end) refl
  where
    told : Result File Errno → Option Reply
    told r = refusal_in (or_refused (flat_memory m born notes) (λ file. done_effect (with_file_at (flat_memory m born notes) f (h file))) r).reply

    by_refusal : (o : Option Errno) → room_refusal m.world.files f end ≡ o → told (room_for (flat_memory m born notes) f end) ≡ option_map reply.Refused o
    by_refusal (Some e) is = ap told (room-by m fits born notes f end (Some e) is [] (λ none. absurd (let z : ◌≡◌ {A = Option Errno} (Some e) None = none in cc)))
    by_refusal None is =
        let g = some-of (growth_of m.world.files f (pages_in end)) (has-room m.world.files f end is).room in
        ap told (room-by m fits born notes f end None is g.0 (λ none. g.1))

read-due : (m : Memory) (born : set.FinSet nat_cmp) (notes : Notes) (f offset len : ℕ)
    → refusal_in (read_part (flat_memory m born notes) f offset len).reply ≡ option_map reply.Refused (cond (nat_lt f (length m.world.files.files)) None (Some errno.NoObject))
read-due m born notes f offset len = by_there (nat_lt f (length m.world.files.files)) refl
  where
    told : Option File → Option Reply
    told o = refusal_in (or_refused (flat_memory m born notes) (λ (file : File). record { reply = reply.Bytes (read_line file offset len); after = flat_memory m born notes }) (ok_or o errno.NoObject)).reply

    by_there : (b : Bool) → nat_lt f (length m.world.files.files) ≡ b → told (slice_get (flat_memory m born notes).files f) ≡ option_map reply.Refused (cond b None (Some errno.NoObject))
    by_there true e = ap told (file-at m.world notes f (ltb-true f (length m.world.files.files) e))
    by_there false e = ap told (no-file-at m.world notes f (ltb-false f (length m.world.files.files) e))

file-due : (p : ℕ) (c : Call) (f : ℕ) (m : Memory) → MemoryFits m → file_of_call c ≡ Some f → IsRefusal m p c (option_map reply.Refused (file_refusal m.world.files c))
file-due p (call.Read g offset len) f m fits is born notes = read-due m born notes g offset len
file-due p (call.Write g offset line rest) f m fits is born notes = room-due m fits born notes g (offset + length line) (with_part offset line)
file-due p (call.Truncate g len) f m fits is born notes = room-due m fits born notes g len (file_of_length len)
file-due p (call.Load a n) f m fits is born notes = absurd (let z : ◌≡◌ {A = Option ℕ} None (Some f) = is in cc)
file-due p (call.Store a n v) f m fits is born notes = absurd (let z : ◌≡◌ {A = Option ℕ} None (Some f) = is in cc)
file-due p (call.Map a b c d x y) f m fits is born notes = absurd (let z : ◌≡◌ {A = Option ℕ} None (Some f) = is in cc)
file-due p (call.Unmap a b) f m fits is born notes = absurd (let z : ◌≡◌ {A = Option ℕ} None (Some f) = is in cc)
file-due p (call.Protect a b c) f m fits is born notes = absurd (let z : ◌≡◌ {A = Option ℕ} None (Some f) = is in cc)
file-due p (call.Sync a b) f m fits is born notes = absurd (let z : ◌≡◌ {A = Option ℕ} None (Some f) = is in cc)
file-due p (call.Fork a) f m fits is born notes = absurd (let z : ◌≡◌ {A = Option ℕ} None (Some f) = is in cc)
file-due p call.Exit f m fits is born notes = absurd (let z : ◌≡◌ {A = Option ℕ} None (Some f) = is in cc)

pub file_calls_law : FileCallsLaw
file_calls_law = record {
  refused = refused;
  read = reads;
  written = λ p f offset rest cleared line extents old new fits served grown changes. grown-acts p f (offset + length line) cleared (call.Write f offset line rest) extents old new (with_part offset line) fits served grown changes (λ G. refl);
  truncated = λ p f len cleared extents old new fits served grown changes. grown-acts p f len cleared (call.Truncate f len) extents old new (file_of_length len) fits served grown changes (λ G. refl);
  faults = λ p c f m fits is served. file-faults p c f m is served;
  due = file-due;
  room = has-room;
}
