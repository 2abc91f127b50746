-- Whether a process's call may meet a device error depends on the presence and protection of its own cells, and on which files there are and may be written.
use Rattle.std.proofs.Common.{◌≡◌, ℕ, ◌+◌, ◌%◌, ◌==◌, Bool, true, false, List, Option, Some, None, refl, sym, ap, ◌∙◌, subst}
use Rattle.std.specs.Prelude.{option_map, unwrap_or, slice_get, option_and_then, is_some, IsSome, Result, Ok, ok_or, IsOk, ◌↔◌}
use Rattle.std.specs.FinSet as set
use Rattle.std.specs.FinMap as finite
use Rattle.std.specs.Ordering.{nat_cmp}
use Rattle.flat_model.specs.vm_types.declared.prot.Prot.{Prot}
use Rattle.flat_model.specs.vm_types.Prot.{can_read, can_write}
use Rattle.flat_model.specs.vm_types.declared.call.Call.{Call}
use Rattle.flat_model.specs.vm_types.declared.call.Call.TheVariants.{Load, Store, Map, Unmap, Protect, Sync, Read, Write, Truncate, Fork, Exit}
use Rattle.flat_model.specs.vm_types.declared.call.Signal.{Signal}
use Rattle.flat_model.specs.vm_types.declared.call.Signal.TheVariants as signal
use Rattle.flat_model.specs.vm_types.declared.call.Errno.{Errno}
use Rattle.flat_model.specs.vm_types.declared.call.Errno.TheVariants as errno
use Rattle.flat_model.specs.vnode_files.declared.vnode.FileInfo.{FileInfo}
use Rattle.addr_space.specs.Space.{Part, piece_at}
use Rattle.flat_model.specs.Words.{Page, page, pages_in}
use Rattle.flat_model.specs.Flat.{Cell, File, Flat, Space, space_of, cell_at, shown}
use Rattle.flat_model.specs.Refusals.{◌>>=◌, ◌>>◌, check}
use Rattle.flat_model.specs.Access.{access_target}
use Rattle.flat_model.specs.Mapping.{cells_of, valid_range, is_range}
use Rattle.flat_model.specs.Space.{all_pages}
use Rattle.flat_model.specs.Parts.{existing_file, writable_file}
use Rattle.flat_model.specs.Step.{MayFail, IsPastAtMost}
use Rattle.vm_world.specs.Segments.{Segment, Spot, spot_at}
use Rattle.vm_world.specs.Pages.{Contents}
use Rattle.vm_world.specs.FlatMemory.{Shape, cell_of, space_with, file_with_pages, flat_shaped}
use Rattle.vm_world.proofs.Maps.{get-map_with, get-space_with, cell-at}
use Rattle.vm_world.proofs.FilePages.{file-in}
use Rattle.vm_world.proofs.FlatWhole.{some-inj}

-- an access, by the tests that it makes
abbrev met_of : Bool → Option Cell → (Prot → Bool) → (Cell → Option Page) → Result (Cell × Page) Signal
met_of b o may sh = check b signal.Align >> (ok_or o signal.NoMap >>= λ cell. check (may cell.prot) signal.Prot >> (ok_or (sh cell) signal.Past >>= λ bytes. Ok (cell, bytes)))

met-of : (F : Flat) (p : ℕ) (may : Prot → Bool) (a n : ℕ) → access_target F p may a n ≡ met_of (a % n == 0) (cell_at F p (page a)) may (shown F)
unfolding access_target
met-of F p may a n = refl

abbrev got : Cell → Option Page → Result (Cell × Page) Signal
got c r = ok_or r signal.Past >>= λ bytes. Ok (c, bytes)

by_may : (m : Bool) (r r' : Option Page) (c c' : Cell) → IsPastAtMost (check m signal.Prot >> got c r) → IsPastAtMost (check m signal.Prot >> got c' r')
by_may true r None c c' h = tt
by_may true r (Some x) c c' h = tt
by_may false r r' c c' h = absurd h

past-spot : (b : Bool) (o : Option Spot) (may : Prot → Bool) (h h' : ℕ → ℕ → Option Page) (sh sh' : Cell → Option Page) → IsPastAtMost (met_of b (option_map (cell_of h) o) may sh) → IsPastAtMost (met_of b (option_map (cell_of h') o) may sh')
past-spot false o may h h' sh sh' is = absurd is
past-spot true None may h h' sh sh' is = absurd is
past-spot true (Some x) may h h' sh sh' is = by_may (may x.0.prot) (sh (cell_of h x)) (sh' (cell_of h' x)) (cell_of h x) (cell_of h' x) is

abbrev pub is_writable : FileInfo → Bool
is_writable info = info.writable

abbrev pub writable_in : Option File → Result File Errno
writable_in o = ok_or o errno.NoObject >>= λ file. check file.writable errno.ReadOnly >> Ok file

pub writable-in : (F : Flat) (f : ℕ) → writable_file F f ≡ writable_in (slice_get F.files f)
unfolding writable_file
writable-in F f = refl

abbrev pub kept_file : File → Result File Errno
kept_file x = Ok x

by_writable : (b : Bool) (x y : File) → IsOk (check b errno.ReadOnly >> kept_file x) → IsOk (check b errno.ReadOnly >> kept_file y)
by_writable true x y is = refl
by_writable false x y is = is

-- of two records, where both are there or neither, and both or neither may be written
by_info : (o o' : Option FileInfo) (old new : ℕ → Page) → option_map is_writable o' ≡ option_map is_writable o → IsOk (ok_or (option_map (file_with_pages old) o) errno.NoObject) → IsOk (ok_or (option_map (file_with_pages new) o') errno.NoObject)
by_info None o' old new same is = absurd (let z : ◌≡◌ {A = Bool} false true = is in cc)
by_info (Some info) None old new same is = absurd (let z : ◌≡◌ {A = Option Bool} None (Some info.writable) = same in cc)
by_info (Some info) (Some info') old new same is = refl

by_info_writable : (o o' : Option FileInfo) (old new : ℕ → Page) → option_map is_writable o' ≡ option_map is_writable o → IsOk (writable_in (option_map (file_with_pages old) o)) → IsOk (writable_in (option_map (file_with_pages new) o'))
by_info_writable None o' old new same is = absurd (let z : ◌≡◌ {A = Bool} false true = is in cc)
by_info_writable (Some info) None old new same is = absurd (let z : ◌≡◌ {A = Option Bool} None (Some info.writable) = same in cc)
by_info_writable (Some info) (Some info') old new same is =
    let equal : info'.writable ≡ info.writable = some-inj info'.writable info.writable same in
    subst (λ (b : Bool). IsOk (check b errno.ReadOnly >> kept_file (file_with_pages new info'))) (sym equal) (by_writable info.writable (file_with_pages old info) (file_with_pages new info') is)

-- two shapes with the same space of a process, and with files of the same modes
module _ (s s' : Shape) (born born' : set.FinSet nat_cmp) (c c' : Contents) (p : ℕ) (space : finite.get s'.spaces p ≡ finite.get s.spaces p) (modes : (f : ℕ) → option_map is_writable (slice_get s'.files f) ≡ option_map is_writable (slice_get s.files f)) where
  access-fails : (a n : ℕ) (may : Prot → Bool) → IsPastAtMost (access_target (flat_shaped s born c) p may a n) → IsPastAtMost (access_target (flat_shaped s' born' c') p may a n)
  access-fails a n may is =
      let F : Flat = flat_shaped s born c in
      let G : Flat = flat_shaped s' born' c' in
      let spot : spot_at s'.spaces p (page a) ≡ spot_at s.spaces p (page a) = ap (option_and_then (λ (parts : List (Part Segment)). piece_at parts (page a))) space in
      let old = met-of F p may a n ∙ ap (λ (o : Option Cell). met_of (a % n == 0) o may (shown F)) (cell-at c.place s.spaces p (page a)) in
      let new = met-of G p may a n ∙ ap (λ (o : Option Cell). met_of (a % n == 0) o may (shown G)) (cell-at c'.place s'.spaces p (page a) ∙ ap (option_map (cell_of c'.place)) spot) in
      subst IsPastAtMost (sym new) (past-spot (a % n == 0) (spot_at s.spaces p (page a)) may c.place c'.place (shown F) (shown G) (subst IsPastAtMost old is))

  -- a page has a cell in the one space exactly where it has one in the other
  same-cells : (q : ℕ) → is_some (finite.get (cells_of (flat_shaped s born c) p) q) ≡ is_some (finite.get (cells_of (flat_shaped s' born' c') p) q)
  same-cells q =
      ap (λ (o : Option Space). is_some (finite.get (unwrap_or o finite.empty) q)) (get-map_with (space_with c.place) s.spaces p) ∙ by_space (finite.get s.spaces p)
      ∙ sym (ap (λ (o : Option Space). is_some (finite.get (unwrap_or o finite.empty) q)) (get-map_with (space_with c'.place) s'.spaces p ∙ ap (option_map (space_with c'.place)) space))
    where
      some-map : (f g : Spot → Cell) (o : Option Spot) → is_some (option_map f o) ≡ is_some (option_map g o)
      some-map f g None = refl
      some-map f g (Some x) = refl

      by_space : (o : Option (List (Part Segment))) → is_some (finite.get (unwrap_or (option_map (space_with c.place) o) finite.empty) q) ≡ is_some (finite.get (unwrap_or (option_map (space_with c'.place) o) finite.empty) q)
      by_space None = refl
      by_space (Some parts) = ap (λ (o : Option Cell). is_some o) (get-space_with c.place parts q) ∙ some-map (cell_of c.place) (cell_of c'.place) (piece_at parts q) ∙ sym (ap (λ (o : Option Cell). is_some o) (get-space_with c'.place parts q))

  sync-fails : (a len : ℕ) → IsOk (valid_range (flat_shaped s born c) p a len) → IsOk (valid_range (flat_shaped s' born' c') p a len)
  unfolding valid_range
  sync-fails a len is =
      let same : (λ (q : ℕ). is_some (finite.get (cells_of (flat_shaped s born c) p) q)) ≡ (λ (q : ℕ). is_some (finite.get (cells_of (flat_shaped s' born' c') p) q)) = λ i q. same-cells q i in
      subst (λ (t : ℕ → Bool). IsOk (check {E = Errno} (is_range a len) errno.Invalid >> check (all_pages t (page a) (pages_in len)) errno.NotMapped)) same is

  read-fails : (f : ℕ) → IsOk (existing_file (flat_shaped s born c) f) → IsOk (existing_file (flat_shaped s' born' c') f)
  read-fails f is =
      subst (λ (o : Option File). IsOk (ok_or o errno.NoObject)) (sym (file-in c'.file 0 f s'.files))
      (by_info (slice_get s.files f) (slice_get s'.files f) (c.file (0 + f)) (c'.file (0 + f)) (modes f) (subst (λ (o : Option File). IsOk (ok_or o errno.NoObject)) (file-in c.file 0 f s.files) is))

  write-fails : (f : ℕ) → IsOk (writable_file (flat_shaped s born c) f) → IsOk (writable_file (flat_shaped s' born' c') f)
  write-fails f is =
      subst (λ (r : Result File Errno). IsOk r) (sym (writable-in (flat_shaped s' born' c') f ∙ ap writable_in (file-in c'.file 0 f s'.files)))
      (by_info_writable (slice_get s.files f) (slice_get s'.files f) (c.file (0 + f)) (c'.file (0 + f)) (modes f)
      (subst (λ (r : Result File Errno). IsOk r) (writable-in (flat_shaped s born c) f ∙ ap writable_in (file-in c.file 0 f s.files)) is))

  -- OTHER CONTENTS AND OTHER PROCESSES' SPACES make no call fail that could not.
  pub may-fail : (call : Call) → MayFail (flat_shaped s born c) p call → MayFail (flat_shaped s' born' c') p call
  may-fail (Load a n) is = access-fails a n can_read is
  may-fail (Store a n v) is = access-fails a n can_write is
  may-fail (Sync a len) is = sync-fails a len is
  may-fail (Read file offset len) is = read-fails file is
  may-fail (Write file offset line rest) is = write-fails file is
  may-fail (Truncate file len) is = write-fails file is
  may-fail (Map place len prot kind object offset) is = absurd is
  may-fail (Unmap a len) is = absurd is
  may-fail (Protect a len prot) is = absurd is
  may-fail (Fork child) is = absurd is
  may-fail Exit is = absurd is

-- who has segments is alive, and only they
pub alive-flat : (s : Shape) (born : set.FinSet nat_cmp) (c : Contents) (p : ℕ) → IsSome (space_of (flat_shaped s born c) p) ↔ IsSome (finite.get s.spaces p)
alive-flat s born c p = subst (λ (o : Option Space). IsSome o ↔ IsSome (finite.get s.spaces p)) (sym (get-map_with (space_with c.place) s.spaces p)) (by_space (finite.get s.spaces p))
  where
    by_space : (o : Option (List (Part Segment))) → IsSome (option_map (space_with c.place) o) ↔ IsSome o
    by_space None = ((λ is. is), (λ is. is))
    by_space (Some parts) = ((λ is. refl), (λ is. refl))
