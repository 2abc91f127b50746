-- What a part or a Truncate leaves, by the one file that it changes.
use Rattle.std.proofs.Common.{◌≡◌, ℕ, ◌<◌, Bool, List, map, length, Option, Some, Result, Ok, Err, refl, sym, ap, subst, ◌∙◌, arith}
use Rattle.std.specs.Prelude.{All, IsOk, is_ok, ok_or, slice_get, slice_set}
use Rattle.std.specs.Result.{result_map_both}
use Rattle.std.proofs.Common.{get_or}
use Rattle.std.proofs.lemmas.Option.{slice_get_within, slice_get_read, get_or_from_slice_get}
use Rattle.flat_model.specs.vm_types.declared.call.Errno.{Errno}
use Rattle.flat_model.specs.vm_types.declared.call.Errno.TheVariants as errno
use Rattle.flat_model.specs.vm_types.declared.call.Reply.TheVariants as reply
use Rattle.flat_model.specs.vnode_files.declared.extent.Extent.{Extent}
use Rattle.flat_state.specs.declared.files.FileState.{FileState}
use Rattle.flat_model.specs.Flat.{File, Flat, IsFlat, IsFile}
use Rattle.flat_model.specs.Refusals.{◌>>=◌, ◌>>◌, check, or_refused, done_effect}
use Rattle.flat_state.specs.Cells.{flat_file}
use Rattle.flat_model.specs.Parts.{existing_file, read_line, read_part, writable_file, room_for, with_extents_of, with_file_at}
use Rattle.flat_state.proofs.Trees.{map_set, length_map}
use Rattle.flat_state.proofs.FilePages.{at-mapped}
use Rattle.flat_model.proofs.Rooms.{has_room}

-- the extents that there is room for
abbrev pub extents_got : Result File Errno → Result (List Extent) Errno
extents_got r = result_map_both (λ f. f.extents) (λ e. e) r

-- a file that there is room for, and its extents
pub record HasExtents (F : Flat) (n end : ℕ) (extents : List Extent) : Type 0 where
  pub old : File
  pub found : slice_get F.files n ≡ Some old
  pub room : room_for F n end ≡ Ok (with_extents_of extents old)

pub has_extents : (F : Flat) (n end : ℕ) (extents : List Extent) → extents_got (room_for F n end) ≡ Ok extents → HasExtents F n end extents
has_extents F n end extents is = by_room (room_for F n end) refl is
  where
    by_room : (r : Result File Errno) → room_for F n end ≡ r → extents_got r ≡ Ok extents → HasExtents F n end extents
    by_room (Ok new) r_is got =
        let h = has_room F n end new r_is in
        let same : new.extents ≡ extents = let left : Result (List Extent) Errno = Ok new.extents in let both : left ≡ Ok extents = got in cc in
        let kept : h.extents ≡ extents = ap (λ (f : File). f.extents) (sym h.file) ∙ same in
        record { old = h.old; found = h.found; room = r_is ∙ ap (λ (f : File). Ok f) h.file ∙ ap (λ (es : List Extent). Ok (with_extents_of es h.old)) kept }
    by_room (Err e) r_is got = absurd (let left : Result (List Extent) Errno = Err e in let both : left ≡ Ok extents = got in cc)

-- there is such a file
pub room-within : (F : Flat) (n end : ℕ) (extents : List Extent) → extents_got (room_for F n end) ≡ Ok extents → n < length F.files
room-within F n end extents is = let h = has_extents F n end extents is in slice_get_within F.files n h.old h.found

-- the file at a place of the plain form is well formed
pub file-of_flat : (F : Flat) (files : List FileState) (n : ℕ) (file : FileState) → IsFlat F → F.files ≡ map flat_file files → n < length files → file ≡ get_or files n file → IsFile (flat_file file)
file-of_flat F files n file flat is lt at =
    let all : All IsFile (map flat_file files) = subst (All IsFile) is flat.files in
    subst IsFile (at-mapped flat_file files n file lt at) (all n (flat_file file) (omega (arith, length_map flat_file files)))

-- and it is the file of that number
pub file-found : (F : Flat) (files : List FileState) (n : ℕ) (file : FileState) → F.files ≡ map flat_file files → n < length files → file ≡ get_or files n file → slice_get F.files n ≡ Some (flat_file file)
file-found F files n file is lt at =
    let within : n < length (map flat_file files) = omega (arith, length_map flat_file files) in
    ap (λ (fs : List File). slice_get fs n) is ∙ slice_get_read (map flat_file files) (length (map flat_file files)) n (flat_file file) refl within (sym (at-mapped flat_file files n file lt at))

-- a part of a read of a file that is there answers its bytes, and may fail
pub read-due : (F : Flat) (n offset len : ℕ) (file : File) → slice_get F.files n ≡ Some file → (read_part F n offset len).reply ≡ reply.Bytes (read_line file offset len)
read-due F n offset len file found = ap (λ (o : Option File). (or_refused F (λ f. record { reply = reply.Bytes (read_line f offset len); after = F }) (ok_or o errno.NoObject)).reply) found

pub read-may_fail : (F : Flat) (n : ℕ) (file : File) → slice_get F.files n ≡ Some file → IsOk (existing_file F n)
read-may_fail F n file found = ap (λ (o : Option File). is_ok (ok_or {E = Errno} o errno.NoObject)) found

-- a file that there is room for may be written
pub room-writable : (F : Flat) (n end : ℕ) (extents : List Extent) → extents_got (room_for F n end) ≡ Ok extents → IsOk (writable_file F n)
unfolding writable_file
room-writable F n end extents is =
    let h = has_extents F n end extents is in
    let r = has_room F n end (with_extents_of extents h.old) h.room in
    ap (λ (o : Option File). is_ok (ok_or o errno.NoObject >>= λ file. (check file.writable errno.ReadOnly >> Ok file))) r.found ∙ ap (λ (b : Bool). is_ok {T = File} {E = Errno} (check b errno.ReadOnly >> Ok r.old)) r.writable

-- what is done where there is room is done
pub room-done : (F : Flat) (n end : ℕ) (extents : List Extent) (g : File → Flat) → extents_got (room_for F n end) ≡ Ok extents → (or_refused F (λ f. done_effect (g f)) (room_for F n end)).reply ≡ reply.Done
room-done F n end extents g is = ap (λ (r : Result File Errno). (or_refused F (λ f. done_effect (g f)) r).reply) (has_extents F n end extents is).room

-- a file that was changed where there was room for it
pub file-changed : (F : Flat) (files : List FileState) (n end : ℕ) (extents : List Extent) (file new : FileState) (g : File → File) → F.files ≡ map flat_file files → n < length files → file ≡ get_or files n file → extents_got (room_for F n end) ≡ Ok extents → flat_file new ≡ g (with_extents_of extents (flat_file file)) → record F { files = map flat_file (slice_set files n new) } ≡ (or_refused F (λ f. done_effect (with_file_at F n (g f))) (room_for F n end)).after
file-changed F files n end extents file new g is lt at room changed =
    let h = has_extents F n end extents room in
    let old : h.old ≡ flat_file file = sym (get_or_from_slice_get F.files n h.old (flat_file file) h.found) ∙ ap (λ (fs : List File). get_or fs n (flat_file file)) is ∙ at-mapped flat_file files n file lt at in
    ap (λ (fs : List File). record F { files = fs }) (map_set flat_file files n new ∙ ap (λ (fs : List File). slice_set fs n (flat_file new)) (sym is) ∙ ap (slice_set F.files n) (changed ∙ ap (λ (f : File). g (with_extents_of extents f)) (sym old)))
    ∙ sym (ap (λ (r : Result File Errno). (or_refused F (λ f. done_effect (with_file_at F n (g f))) r).after) h.room)
