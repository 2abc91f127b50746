-- What holds of the process and call that a plan or a flight is for stays while pages and the spaces of other processes change, and while these make entries.
use Rattle.std.proofs.Common.{◌≡◌, ◌≢◌, ℕ, ◌==◌, Bool, false, cond, List, [], ◌∷◌, ◌++◌, length, map, Option, Some, None, refl, sym, ap, ◌∙◌, inl, inr, subst, arith}
use Rattle.std.specs.Prelude.{option_map, slice_get, IsSome, MatchOption}
use Rattle.std.specs.FinMap as finite
use Rattle.std.specs.FinSet as set
use Rattle.std.specs.Ordering.{nat_cmp}
use Rattle.std.proofs.lemmas.Bool.Decides.{eqb_tells}
use Rattle.std.proofs.lemmas.List.{length-append}
use Rattle.std.proofs.lemmas.Option.{slice_get-map}
use Rattle.flat_model.specs.vm_types.declared.call.Entry.{Entry}
use Rattle.addr_space.specs.Space.{Part}
use Rattle.page_store.specs.Notes.{Notes}
use Rattle.flat_model.specs.vnode_files.declared.vnode.FileInfo.{FileInfo}
use Rattle.flat_model.specs.vnode_files.Vnode.{VnodeSeen}
use Rattle.flat_model.specs.Flat.{Flat}
use Rattle.flat_model.specs.OpenLaws.{FollowsOn, last_entry}
use Rattle.flat_model.specs.Told.{entries_of}
use Rattle.flat_model.proofs.Opens.{open_calls_law}
use Rattle.flat_model.proofs.Replays.{joined_histories_law}
use Rattle.vm_world.specs.World.{World}
use Rattle.vm_world.specs.Pages.{contents_of}
use Rattle.vm_world.specs.Segments.{Segment}
use Rattle.vm_world.specs.FlatMemory.{Memory, flat_memory, shape_of}
use Rattle.vm_world.specs.State.{Caller, FileMode, mode_of, seat_of}
use Rattle.vm_world.specs.StateFits.{CallerFits}
use Rattle.vm_world.specs.WorldSteps.{KeepsTables}
use Rattle.vm_world.proofs.MayFails.{is_writable, may-fail, alive-flat}

-- a file's mode, from its record
abbrev info_mode : FileInfo → FileMode
info_mode i = record { name = i.name; disk = i.disk; writable = i.writable }

modes-of : (vs : List VnodeSeen) → map mode_of vs ≡ map info_mode (map (λ (v : VnodeSeen). v.info) vs)
modes-of [] = refl
modes-of (v ∷ vs) = ap (λ (ms : List FileMode). mode_of v ∷ ms) (modes-of vs)

-- the same records have the same modes
pub same-modes : (old new : World) → KeepsTables old new → map mode_of new.files.files ≡ map mode_of old.files.files
same-modes old new k = modes-of new.files.files ∙ ap (map info_mode) k.infos ∙ sym (modes-of old.files.files)

-- the same modes are there, and may be written, at the same numbers
writable-same : (old new : List VnodeSeen) (f : ℕ) → map mode_of new ≡ map mode_of old
    → option_map is_writable (slice_get (map (λ (v : VnodeSeen). v.info) new) f) ≡ option_map is_writable (slice_get (map (λ (v : VnodeSeen). v.info) old) f)
writable-same old new f same = by_mode new f ∙ ap (λ (ms : List FileMode). option_map (λ (m : FileMode). m.writable) (slice_get ms f)) same ∙ sym (by_mode old f)
  where
    by_option : (o : Option VnodeSeen) → option_map is_writable (option_map (λ (v : VnodeSeen). v.info) o) ≡ option_map (λ (m : FileMode). m.writable) (option_map mode_of o)
    by_option None = refl
    by_option (Some v) = refl

    by_mode : (vs : List VnodeSeen) (f : ℕ) → option_map is_writable (slice_get (map (λ (v : VnodeSeen). v.info) vs) f) ≡ option_map (λ (m : FileMode). m.writable) (slice_get (map mode_of vs) f)
    by_mode vs f = ap (option_map is_writable) (slice_get-map (λ (v : VnodeSeen). v.info) vs f) ∙ by_option (slice_get vs f) ∙ sym (ap (option_map (λ (m : FileMode). m.writable)) (slice_get-map mode_of vs f))

-- WHILE PAGES AND OTHER SPACES CHANGE.
pub caller-kept : (old new : Memory) (born born' : set.FinSet nat_cmp) (before after : Notes) (H : List Entry) (entries : List ℕ) (seat : ℕ) (of : Caller) → finite.get new.spaces of.0 ≡ finite.get old.spaces of.0
    → map mode_of new.world.files.files ≡ map mode_of old.world.files.files → CallerFits (flat_memory old born before) H entries seat of → CallerFits (flat_memory new born' after) H entries seat of
caller-kept old new born born' before after H entries seat of space modes c = record {
  own = c.own;
  alive = (alive-flat (shape_of new) born' (contents_of new.world after) of.0).1 (subst (λ (o : Option (List (Part Segment))). IsSome o) (sym space) ((alive-flat (shape_of old) born (contents_of old.world before) of.0).0 c.alive));
  room = c.room;
  fails = may-fail (shape_of old) (shape_of new) born born' (contents_of old.world before) (contents_of new.world after) of.0 space (λ f. writable-same old.world.files.files new.world.files.files f modes) of.1 c.fails;
  follows = c.follows;
}

-- WHILE ANOTHER PROCESS makes an entry.
pub caller-longer : (F : Flat) (H : List Entry) (entries : List ℕ) (e : Entry) (seat k : ℕ) (of : Caller) → seat_of e.process ≡ seat → k ≢ seat → CallerFits F H entries k of → CallerFits F (H ++ e ∷ []) entries k of
caller-longer F H entries e seat k of own far c =
    let apart : (e.process == of.0) ≡ false = elim (eqb_tells e.process of.0) [ inl y ↦ absurd (far (sym c.own ∙ ap seat_of (sym y.1) ∙ own)) | inr n ↦ n.0 ] in
    let joined = ap (λ (es : List Entry). length es) (joined_histories_law.entries H (e ∷ []) of.0) in
    let both = length-append (entries_of H of.0) (entries_of (e ∷ []) of.0) in
    let none : length (entries_of (e ∷ []) of.0) ≡ 0 = ap (λ (b : Bool). length (cond b (e ∷ []) [])) apart in
    let room = c.room in
    record {
      own = c.own;
      alive = c.alive;
      room = omega (arith, joined, both, none, room);
      fails = c.fails;
      follows = λ r n. subst (λ (o : Option Entry). MatchOption o (Unit {0}) (λ d. FollowsOn d (record { process = of.0; call = of.1; reply = r; cleared = n })))
          (sym (open_calls_law.last H e of.0 ∙ ap (λ (b : Bool). cond b (Some e) (last_entry of.0 H)) apart)) (c.follows r n);
    }
