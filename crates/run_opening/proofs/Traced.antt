-- Files that are placed, once their disks were read for the trace.
use Rattle.run_kernel.proofs.StartedFlat.{infos-fresh as made-infos}
use Rattle.std.proofs.Common.{◌≡◌, ℕ, zero, suc, ◌<◌, ◌==◌, ◌++◌, true, false, List, [], ◌∷◌, length, map, take, drop, append-nil, refl, sym, ap, ◌∙◌, subst, arith, inl, inr}
use Rattle.std.specs.Prelude.{All, Bool, IfSome, IsSome, Err, Ok, Option, Some, None, is_some, option_map, slice_get, zip, if◌then◌else◌}
use Rattle.std.specs.FinMap as finite
use Rattle.std.specs.Map.{lookup}
use Rattle.std.proofs.lemmas.Bool.{false≢true, ne_eqb}
use Rattle.std.proofs.lemmas.List.{drop_all, length-map, take_all}
use Rattle.std.proofs.lemmas.Option.{none-some, same_Some}
use Rattle.volume_files.specs.block_device.DiskSeen.{DiskSeen}
use Rattle.volume_files.specs.block_device.OpenSeen.{OpenFaultSeen}
use Rattle.volume_files.specs.block_device.StreamSeen.{SinkSeen}
use Rattle.volume_files.specs.block_device.declared.numbered.NumberedDisk.{NumberedDisk}
use Rattle.volume_files.specs.block_device.declared.rack.Spec.{Spec}
use Rattle.volume_files.specs.volume_disks.declared.volume_spec.VolumeSpec.{VolumeSpec}
use Rattle.volume_files.proofs.flat_model.Bytes.{All-slice_get}
use Rattle.vm_core.specs.kernel_close.Finish.{HistorySeen}
use Rattle.volume_files.specs.vm_script.PlanSeen.{PlanSeen}
use Rattle.volume_files.specs.vnode_files.Files.{FilesSeen}
use Rattle.volume_files.specs.vnode_files.Vnode.{VnodeSeen}
use Rattle.volume_files.specs.vnode_files.declared.vnode.FileInfo.{FileInfo}
use Rattle.run_endings.specs.declared.ending.Ending.{Ending}
use Rattle.run_endings.specs.declared.ending.Ending.TheVariants as ending
use Rattle.run_outcome.specs.declared.stop.Stop.{Stop}
use Rattle.command_line.specs.declared.options.Options.{Options}
use Rattle.run_endings.specs.declared.fault.RunFault.{RunFault}
use Rattle.volume_files.specs.stored_files.declared.showing.Heading.TheVariants.{Trace}
use Rattle.volume_files.specs.stored_files.declared.showing.ShowStop.{ShowStop}
use Rattle.volume_files.specs.stored_files.declared.showing.ShowStop.TheVariants as show
use Rattle.run_input.specs.Asked.{Given, Asked, WasAsked}
use Rattle.volume_files.specs.Attached.{AreFilledBy, ArePlaced, AttachedSeen, FileDisksTell, HasFilledPage, HasItsBytes, bare_disks}
use Rattle.volume_files.specs.stored_files.Written.{numbered_seen, infos_made, AreFilesBytes, AreOnlyRead, HaveFirstBlocks, FaultCounts, IsCountedSince, TraceShows, disk_sizes, open_fault_counts}
use Rattle.volume_files.specs.stored_files.Closed.{StoreFiles, info_at, stored_bytes}
use Rattle.run_opening.specs.Ready.{AreReadBytes, TraceStops, opening_stop}
use Rattle.run_outcome.specs.Ended.{End, stop_end}
use Rattle.volume_files.proofs.DiskCounts.{kinds-read, kinds-still}
use Rattle.volume_files.specs.Handed.{AreUncounted, HandsAll, HasDiskCause, HasSpecSize, HaveSpecSizes, HaveTold, IsCountedBy, volumes_of, sizes_of, AreWrittenAt, IsSwapAsGiven, block_told}
use Rattle.volume_files.specs.Opened.{OpenedFile, opened_bytes_at, infos_of, line_files_of, numbered_plan, setup_volumes, volume_number}
use Rattle.run_outcome.specs.Run.{AreOpenedBytes, CaseOf, IsOpened, Outside, opening_part, wrote_before}
use Rattle.volume_files.specs.stored_files.Texts.{IsPageUnread, Wrote, WroteFront, WrotePart, file_sections, sections_before, trace_front}
use Rattle.run_report.specs.AskedTexts.{trace_opening}
use Rattle.run_opening.proofs.Courses.{files-told, spec-size}
use Rattle.volume_files.proofs.stored_files.WrittenTexts.{wrote_front}
use Rattle.volume_files.proofs.FaultCauses.{if-counted}
use Rattle.volume_files.proofs.DiskLists.{at-map, have-read, in-map, lookup-at, low-disks, mate, same-image, sizes-by, zip-back, to-all}
use Rattle.volume_files.proofs.GivenFiles.{comes-sizes}
use Rattle.volume_files.specs.vm_script.Rules.{amounts_of}

-- ---- disks that were only read

size-of : ℕ × DiskSeen → ℕ
size-of d = d.1.size

sizes-read : (old new : List (ℕ × DiskSeen)) → AreOnlyRead old new → map (λ (d : ℕ × DiskSeen). d.1.size) new ≡ map (λ (d : ℕ × DiskSeen). d.1.size) old
sizes-read old new r = same-image (λ (d : ℕ × DiskSeen). d.1.size) old new r.count (λ i x y xi yi. (r.each i x y xi yi).size)

pub pairs-read : (old new : List (ℕ × DiskSeen)) → AreOnlyRead old new → disk_sizes new ≡ disk_sizes old
pairs-read old new r = sizes-by new old r.numbers (sizes-read old new r)

pub tell-read : (infos : List FileInfo) (old new : List (ℕ × DiskSeen)) → AreOnlyRead old new → FileDisksTell infos new → FileDisksTell infos old
tell-read infos old new r t i k disk at lt own =
    let m = mate old new r.numbers i disk at in
    subst (λ (c : Option (List (List ℕ))). IsSome c) (r.each i disk m.0 at m.1).content (t i k m.0 m.1 lt (own ∙ sym m.2))

told-read : (old new : List (ℕ × DiskSeen)) → AreOnlyRead old new → All (λ (d : DiskSeen). IsSome d.content) (bare_disks new) → All (λ (d : DiskSeen). IsSome d.content) (bare_disks old)
told-read old new r told = to-all (λ (d : DiskSeen). IsSome d.content) (bare_disks old) (λ i d at.
    let x = in-map (λ (p : ℕ × DiskSeen). p.1) old i d at in
    let m = mate old new r.numbers i x.0 x.1 in
    subst (λ (y : DiskSeen). IsSome y.content) x.2 (subst (λ (c : Option (List (List ℕ))). IsSome c) (r.each i x.0 m.0 x.1 m.1).content
    (All-slice_get (λ (e : DiskSeen). IsSome e.content) (bare_disks new) i m.0.1 told (at-map (λ (p : ℕ × DiskSeen). p.1) new i m.0 m.1))))

stored-read : (infos : List FileInfo) (bytes : ℕ → List ℕ) (old new : List (ℕ × DiskSeen)) → AreOnlyRead old new → StoreFiles old infos bytes → StoreFiles new infos bytes
stored-read infos bytes old new r h i k disk at lt own =
    let m = mate new old (sym r.numbers) i disk at in
    subst (λ (c : Option (List (List ℕ))). IfSome c (λ blocks. stored_bytes blocks (info_at infos k) ≡ bytes k)) (sym (r.each i m.0 disk m.1 at).content)
    (h i k m.0 m.1 lt (own ∙ sym m.2))

first-read : (old new : List (ℕ × DiskSeen)) → AreOnlyRead old new → HaveFirstBlocks old → HaveFirstBlocks new
first-read old new r h i disk at =
    let m = mate new old (sym r.numbers) i disk at in
    subst (λ (n : ℕ). 0 < n) (sym (r.each i m.0 disk m.1 at).size) (h i m.0 m.1)

specs-read : (specs : List VolumeSpec) (old new : List (ℕ × DiskSeen)) → AreOnlyRead old new → HaveSpecSizes specs (bare_disks old) → HaveSpecSizes specs (bare_disks new)
specs-read specs old new r h = (
  length-map new (λ (p : ℕ × DiskSeen). p.1) ∙ r.count ∙ sym (length-map old (λ (p : ℕ × DiskSeen). p.1)) ∙ h.0,
  λ i s d si di.
      let x = in-map (λ (p : ℕ × DiskSeen). p.1) new i d di in
      let m = mate new old (sym r.numbers) i x.0 x.1 in
      subst (HasSpecSize s) x.2 (spec-size s m.0.1 x.0.1 (r.each i m.0 x.0 m.1 x.1).size (h.1 i s m.0.1 si (at-map (λ (p : ℕ × DiskSeen). p.1) old i m.0 m.1))),
)

hands-read : (plan : PlanSeen) (old new : List (ℕ × DiskSeen)) (swap : Option DiskSeen) → AreOnlyRead old new → HandsAll plan (bare_disks old) swap → HandsAll plan (bare_disks new) swap
hands-read plan old new swap r h = record {
  each = specs-read (setup_volumes plan.setup) old new r h.each;
  kinds = kinds-still new old (kinds-read old new r) ∙ h.kinds;
  first = h.first;
}

-- disks that were read were written where they were
written-read : (plan : PlanSeen) (holds : Spec → Option (List (List ℕ))) (lines : List OpenedFile) (old new : List (ℕ × DiskSeen)) (swap swap2 : Option DiskSeen) → AreOnlyRead old new → swap2 ≡ swap
    → AreWrittenAt plan holds lines (bare_disks old) swap → AreWrittenAt plan holds lines (bare_disks new) swap2
written-read plan holds lines old new swap swap2 r same h = record {
  each = λ i s d si di.
      let x = in-map (λ (p : ℕ × DiskSeen). p.1) new i d di in
      let m = mate new old (sym r.numbers) i x.0 x.1 in
      let w = h.each i s m.0.1 si (at-map (λ (p : ℕ × DiskSeen). p.1) old i m.0 m.1) in (
        w.0,
        w.1,
        λ block free.
            ap (λ (z : DiskSeen). block_told z.content block) (sym x.2)
            ∙ ap (λ (c : Option (List (List ℕ))). block_told c block) (r.each i m.0 x.0 m.1 x.1).content ∙ w.2 block free,
      );
  last = subst (IsSwapAsGiven (amounts_of plan.setup).slots) (sym same) h.last;
}

-- .. and filled as they were
filled-read : (plan : PlanSeen) (holds : Spec → Option (List (List ℕ))) (lines : List OpenedFile) (old new : List (ℕ × DiskSeen)) → AreOnlyRead old new
    → AreFilledBy plan holds lines (bare_disks old) → AreFilledBy plan holds lines (bare_disks new)
filled-read plan holds lines old new r h i s d si di =
    let x = in-map (λ (p : ℕ × DiskSeen). p.1) new i d di in
    let m = mate new old (sym r.numbers) i x.0 x.1 in
    let w = h i s m.0.1 si (at-map (λ (p : ℕ × DiskSeen). p.1) old i m.0 m.1) in
    let same : d.content ≡ m.0.1.content = ap (λ (z : DiskSeen). z.content) (sym x.2) ∙ (r.each i m.0 x.0 m.1 x.1).content in (
      w.0,
      w.1,
      record {
        tells = ap (λ (c : Option (List (List ℕ))). is_some c) same ∙ w.2.tells;
        each = λ block. elim (w.2.each block) [
          | inl stays ↦ inl (ap (λ (c : Option (List (List ℕ))). block_told c block) same ∙ stays)
          | inr page ↦ inr (subst (λ (c : Option (List (List ℕ))). HasFilledPage lines (volume_number s) c block) (sym same) page)
        ];
      },
    )

-- the files are placed still
pub placed-read : (plan : PlanSeen) (holds : Spec → Option (List (List ℕ))) (files : List OpenedFile) (a b : AttachedSeen) (made : FilesSeen) → ArePlaced plan holds files a made
    → AreOnlyRead a.disks b.disks → b.swap ≡ a.swap → ArePlaced plan holds files b made
placed-read plan holds files a b made p r same = record {
  numbers = r.numbers ∙ p.numbers;
  handed = subst (HandsAll plan (bare_disks b.disks)) (sym same) (hands-read plan a.disks b.disks a.swap r p.handed);
  sizes = p.sizes ∙ ap finite.from_entries (sym (pairs-read a.disks b.disks r));
  fresh = p.fresh;
  well = p.well;
  have = have-read made a.disks b.disks r p.have;
  some = first-read a.disks b.disks r p.some;
  names = p.names;
  own = p.own;
  kept = p.kept;
  given = comes-sizes plan holds (disk_sizes a.disks) (disk_sizes b.disks) (Ok files) (sym (pairs-read a.disks b.disks r)) p.given;
  written = written-read plan holds (line_files_of p.given.found files) a.disks b.disks a.swap b.swap r same p.written;
  filled = filled-read plan holds (line_files_of p.given.found files) a.disks b.disks r p.filled;
  told = λ told. p.told (told-read a.disks b.disks r told);
  stored = stored-read (infos_of files) (opened_bytes_at files) a.disks b.disks r p.stored;
}

-- ---- the bytes that were read

-- the bytes with which the files are opened
pub own-bytes : (plan : PlanSeen) (holds : Spec → Option (List (List ℕ))) (files : List OpenedFile) (a : AttachedSeen) (made : FilesSeen) → ArePlaced plan holds files a made
    → AreReadBytes files a.disks (opened_bytes_at files)
own-bytes plan holds files a made p = record { lengths = λ k f at. count files p.own k f at; told = λ t k f at. is files k f at }
  where
    is : (fs : List OpenedFile) (k : ℕ) (f : OpenedFile) → slice_get fs k ≡ Some f → opened_bytes_at fs k ≡ f.bytes
    is [] k f at = absurd (none-some f at)
    is (x ∷ fs) zero f at = ap (λ (y : OpenedFile). y.bytes) (same_Some x f at)
    is (x ∷ fs) (suc k) f at = is fs k f at

    count : (fs : List OpenedFile) → All HasItsBytes fs → (k : ℕ) (f : OpenedFile) → slice_get fs k ≡ Some f → length (opened_bytes_at fs k) ≡ f.info.length
    count fs all k f at = ap length (is fs k f at) ∙ (All-slice_get HasItsBytes fs k f all at).count

info-of-file : (files : List OpenedFile) (k : ℕ) (f : OpenedFile) → slice_get files k ≡ Some f
    → (info_at (infos_of files) k ≡ f.info) × (k < length (infos_of files)) × (slice_get (infos_of files) k ≡ Some f.info)
info-of-file [] k f at = absurd (none-some f at)
info-of-file (x ∷ files) zero f at = let e = ap (λ (y : OpenedFile). y.info) (same_Some x f at) in (e, omega arith, ap (λ (y : FileInfo). Some y) e)
info-of-file (x ∷ files) (suc k) f at = let r = info-of-file files k f at in let lt = r.1 in (r.0, omega (arith, lt), r.2)

pub infos-placed : (plan : PlanSeen) (holds : Spec → Option (List (List ℕ))) (files : List OpenedFile) (a : AttachedSeen) (made : FilesSeen) → ArePlaced plan holds files a made
    → infos_made made ≡ infos_of files
infos-placed plan holds files a made p = ap (map (λ (v : VnodeSeen). v.info)) p.fresh ∙ made-infos (infos_of files)

-- the bytes that were shown are those with which the files are opened, where their disks tell
pub read-bytes : (plan : PlanSeen) (holds : Spec → Option (List (List ℕ))) (files : List OpenedFile) (a : AttachedSeen) (made : FilesSeen) → ArePlaced plan holds files a made
    → (bytes : ℕ → List ℕ) → AreFilesBytes (infos_made made) a.disks bytes → AreReadBytes files a.disks bytes
read-bytes plan holds files a made p bytes are = record {
  lengths = λ k f at. are.lengths k f.info (ap (λ (l : List FileInfo). slice_get l k) (infos-placed plan holds files a made p) ∙ (info-of-file files k f at).2);
  told = λ t k f at.
      let own = own-bytes plan holds files a made p in
      let is = info-of-file files k f at in
      let there = disk-of-file k f at is.0 is.1 in
      both there.1.content (bytes k) (opened_bytes_at files k) f.info (t there.0 k (f.info.disk, there.1) there.2 is.1 (ap (λ (i : FileInfo). i.disk) is.0))
      (are.told there.0 k (f.info.disk, there.1) f.info there.2 (ap (λ (l : List FileInfo). slice_get l k) (infos-placed plan holds files a made p) ∙ is.2) refl)
      (subst (λ (i : FileInfo). IfSome there.1.content (λ blocks. stored_bytes blocks i ≡ opened_bytes_at files k)) is.0
      (p.stored there.0 k (f.info.disk, there.1) there.2 is.1 (ap (λ (i : FileInfo). i.disk) is.0)))
      ∙ own.told t k f at;
}
  where
    both : (content : Option (List (List ℕ))) (x y : List ℕ) (info : FileInfo) → IsSome content → IfSome content (λ blocks. stored_bytes blocks info ≡ x)
        → IfSome content (λ blocks. stored_bytes blocks info ≡ y) → x ≡ y
    both None x y info some l r = absurd (false≢true some)
    both (Some blocks) x y info some l r = sym l ∙ r

    vnode-at : (vs : List VnodeSeen) (k : ℕ) (info : FileInfo) → slice_get (map (λ (v : VnodeSeen). v.info) vs) k ≡ Some info → (v : VnodeSeen) × (slice_get vs k ≡ Some v) × (v.info ≡ info)
    vnode-at vs k info at = in-map (λ (v : VnodeSeen). v.info) vs k info at

    disk-of-file : (k : ℕ) (f : OpenedFile) → slice_get files k ≡ Some f → info_at (infos_of files) k ≡ f.info → k < length (infos_of files)
        → (i : ℕ) × (d : DiskSeen) × (slice_get a.disks i ≡ Some (f.info.disk, d))
    disk-of-file k f at is lt =
        let v = vnode-at made.files k f.info (ap (λ (l : List FileInfo). slice_get l k) (infos-placed plan holds files a made p) ∙ (info-of-file files k f at).2) in
        let there = p.have.there k v.0 v.1 in
        (there.0, there.1, there.2 ∙ ap (λ (i : FileInfo). Some (i.disk, there.1)) v.2)

-- ---- the opening part of a trace

-- a list that was written back whole
pub written-back : {X : Type 0} (n : ℕ) (new old : List X) → length new ≡ n → length old ≡ n → new ≡ take n (new ++ drop (length new) old)
written-back n new old is was = sym (ap (λ (l : List _). take n (new ++ l)) (drop_all (length new) old (omega (arith, is, was))) ∙ ap (take n) (append-nil new) ∙ take_all n new (omega (arith, is)))

pub no-trace : (o : Options) (plan : PlanSeen) (sizes : List (ℕ × ℕ)) (infos : List FileInfo) (bytes : ℕ → List ℕ) → o.trace ≡ false → trace_opening o plan sizes infos bytes ≡ []
no-trace o plan sizes infos bytes is = ap (λ (b : Bool). if b then trace_front plan sizes ++ file_sections Trace infos bytes else []) is

module _ (plan : PlanSeen) (holds : Spec → Option (List (List ℕ))) (files : List OpenedFile) (a : AttachedSeen) (made : FilesSeen) (p : ArePlaced plan holds files a made) (o : Options)
    (asked : o.trace ≡ true) (bytes : ℕ → List ℕ) (k0 k1 : SinkSeen) where
  text-read : trace_front plan (disk_sizes a.disks) ++ file_sections Trace (infos_made made) bytes ≡ trace_opening o plan (disk_sizes a.disks) (infos_of files) bytes
  text-read = ap (λ (l : List FileInfo). trace_front plan (disk_sizes a.disks) ++ file_sections Trace l bytes) (infos-placed plan holds files a made p)
      ∙ sym (ap (λ (b : Bool). if b then trace_front plan (disk_sizes a.disks) ++ file_sections Trace (infos_of files) bytes else []) asked)

  pub traced-whole : Wrote k0 k1 (trace_front plan (disk_sizes a.disks) ++ file_sections Trace (infos_made made) bytes)
      → Wrote k0 k1 (trace_opening o plan (disk_sizes a.disks) (infos_of files) bytes)
  traced-whole h = subst (Wrote k0 k1) text-read h

  pub traced-part : (new : List (ℕ × DiskSeen)) (s : ShowStop OpenFaultSeen) → TraceShows plan (infos_made made) bytes k0 k1 a.disks new (Err s)
      → TraceStops o plan files bytes k0 k1 a.disks new (opening_stop s)
  traced-part new show.Memory h = subst (WroteFront k0 k1) text-read h
  traced-part new show.Sink h = (h.0, subst (WrotePart k0 k1) text-read h.1)
  traced-part new (show.Fault f) h =
      let same = infos-placed plan holds files a made p in (
        asked,
        h.0,
        (
          h.1.0,
          h.1.1,
          subst (λ (l : List FileInfo). IsPageUnread l h.1.0 h.1.1 f.disk) same h.1.2,
          subst (λ (l : List FileInfo). Wrote k0 k1 (trace_front plan (disk_sizes a.disks) ++ sections_before Trace l bytes h.1.0 h.1.1)) same h.1.3,
        ),
      )

-- the opening part that was written is that of the disks as they are handed back
pub opening-read : (what : Asked) (files : List OpenedFile) (bytes : ℕ → List ℕ) (a : AttachedSeen) (new : List (ℕ × DiskSeen)) (made : FilesSeen) (holds : Spec → Option (List (List ℕ)))
    → ArePlaced what.plan holds files a made → AreOnlyRead a.disks new
    → trace_opening what.options (numbered_plan files what.plan) (disk_sizes a.disks) (infos_of files) bytes ≡ opening_part what files (bare_disks new) bytes
opening-read what files bytes a new made holds p r =
    let pairs : volumes_of what.plan (bare_disks new) ≡ new = ap (λ (ns : List ℕ). zip ns (bare_disks new)) (sym p.numbers ∙ sym r.numbers) ∙ zip-back new in
    let sizes : sizes_of what.plan (bare_disks new) ≡ disk_sizes a.disks = ap disk_sizes pairs ∙ pairs-read a.disks new r in
    ap (λ (z : List (ℕ × ℕ)). trace_opening what.options what.plan z (infos_of files) bytes) (sym sizes)

-- ---- a trace that stopped

module _ (st : ℕ) (ft : Option RunFault) (g : Given) (o : Outside) (what : Asked) (files : List OpenedFile) (bytes : ℕ → List ℕ) (asked : WasAsked g (Ok what)) (a : AttachedSeen)
    (made : FilesSeen) (p : ArePlaced what.plan g.holds files a made) (read : AreReadBytes files a.disks bytes) (new : List (ℕ × DiskSeen)) (r : AreOnlyRead a.disks new)
    (H : HistorySeen) (entries : H.entries ≡ []) (counts : H.faults ≡ []) (low : (i : ℕ) (d : ℕ × DiskSeen) → slice_get a.disks i ≡ Some d → d.0 < 8) where
  abbrev pub stopped : End
  stopped = record { status = st; fault = ft; history = H; disks = bare_disks new; swap = a.swap }

  tell : HaveTold (bare_disks new) a.swap → All (λ (d : DiskSeen). IsSome d.content) (bare_disks a.disks)
  tell t = told-read a.disks new r t.each

  pairs : volumes_of what.plan (bare_disks new) ≡ new
  pairs = ap (λ (ns : List ℕ). zip ns (bare_disks new)) (sym p.numbers ∙ sym r.numbers) ∙ zip-back new

  sizes : sizes_of what.plan (bare_disks new) ≡ disk_sizes a.disks
  sizes = ap disk_sizes pairs ∙ pairs-read a.disks new r

  pub opened-so : IsOpened g what files stopped
  opened-so = record {
    asked = asked;
    handed = hands-read what.plan a.disks new a.swap r p.handed;
    given = comes-sizes what.plan g.holds (disk_sizes a.disks) (sizes_of what.plan (bare_disks new)) (Ok files) (sym sizes) p.given;
    opened = λ t. p.told (tell t);
  }

  pub bytes-so : AreOpenedBytes g what files stopped bytes
  bytes-so = record { lengths = read.lengths; told = λ t. read.told (files-told (infos_of files) a.disks (tell t)) }

  written-so : AreWrittenAt what.plan g.holds (line_files_of p.given.found files) (bare_disks new) a.swap
  written-so = written-read what.plan g.holds (line_files_of p.given.found files) a.disks new a.swap a.swap r refl p.written

  opening-text : trace_opening what.options (numbered_plan files what.plan) (disk_sizes a.disks) (infos_of files) bytes ≡ opening_part what files (bare_disks new) bytes
  opening-text = opening-read what files bytes a new made g.holds p r

  counted : (f : FaultCounts) → IsCountedSince a.disks new f → IsCountedBy what.plan (bare_disks new) a.swap f.number f.before f.after
  counted f k =
      let n = f.number in
      let is : n ≡ k.is.0 = k.fault.number in
      record {
        risen = k.fault.risen;
        disk = k.is.1;
        back = ap (λ (b : Bool). if b then a.swap else lookup (λ m. m == n) (volumes_of what.plan (bare_disks new))) (other n (subst (λ (m : ℕ). m < 8) (sym (is ∙ k.same)) (low k.i k.was k.there)))
            ∙ ap (lookup (λ m. m == n)) pairs
            ∙ lookup-at n new k.i k.is.1 (have-read made a.disks new r p.have).numbers (k.now ∙ ap (λ (m : ℕ). Some (m, k.is.1)) (sym is));
        last = k.fault.last;
      }
    where
      other : (m : ℕ) → m < 8 → (m == 8) ≡ false
      other m lt = ne_eqb m 8 (λ e. omega (arith, lt, e))

  cause : (f : OpenFaultSeen) → IsCountedSince a.disks new (open_fault_counts f) → HasDiskCause what.plan (bare_disks new) a.swap f
  cause f c = if-counted ⊥ (λ x. IsCountedBy what.plan (bare_disks new) a.swap f.disk x.0 x.1) f.counts c.fault.risen (counted (open_fault_counts f) c)

  pub traced-stop : (how : Ending) → (how ≡ ending.Memory → AreUncounted (bare_disks new) a.swap) → TraceStops what.options (numbered_plan files what.plan) files bytes o.sink_old o.sink_new a.disks new how → CaseOf g o (wrote_before o) stopped how
  unfolding opened-so
  traced-stop ending.Memory none t = inr (inr (inl (record {
    what = what;
    files = files;
    bytes = bytes;
    opened = opened-so;
    written = written-so;
    counted = none refl;
    history = record { entries = entries; counts = counts };
    read = bytes-so;
    wrote = subst (WroteFront o.sink_old o.sink_new) opening-text t;
  })))
  traced-stop ending.OpeningSink none t = record {
    what = what;
    files = files;
    bytes = bytes;
    opened = opened-so;
    written = written-so;
    history = record { entries = entries; counts = counts };
    read = bytes-so;
    cause = t.0;
    wrote = subst (WrotePart o.sink_old o.sink_new) opening-text t.1;
  }
  traced-stop (ending.Opening f) none t = inr (record {
    what = what;
    files = files;
    text = trace_front what.plan (sizes_of what.plan (bare_disks new)) ++ sections_before Trace (infos_of files) bytes t.2.0 t.2.1;
    opened = opened-so;
    written = written-so;
    history = record { entries = entries; counts = counts };
    cause = cause f t.1;
    before = inr (bytes, bytes-so, (t.2.0, t.2.1, t.0, t.2.2, refl));
    wrote = subst (λ (z : List (ℕ × ℕ)). Wrote o.sink_old o.sink_new (trace_front what.plan z ++ sections_before Trace (infos_of files) bytes t.2.0 t.2.1)) (sym sizes) t.2.3;
  })
  traced-stop ending.Whole none t = absurd t
  traced-stop ending.Usage none t = absurd t
  traced-stop (ending.NoScript f) none t = absurd t
  traced-stop (ending.Refused x) none t = absurd t
  traced-stop ending.NotRead none t = absurd t
  traced-stop ending.Sink none t = absurd t
  traced-stop (ending.Closing f) none t = absurd t
  traced-stop (ending.Showing f) none t = absurd t
  traced-stop (ending.Checked x) none t = absurd t
  traced-stop (ending.Informed x) none t = absurd t

  -- memory lacked behind the whole opening part
  pub lacks-behind : (AreUncounted (bare_disks new) a.swap) → Wrote o.sink_old o.sink_new (opening_part what files (bare_disks new) bytes) → CaseOf g o (wrote_before o) stopped ending.Memory
  unfolding opened-so
  lacks-behind none wrote = inr (inr (inl (record {
    what = what;
    files = files;
    bytes = bytes;
    opened = opened-so;
    written = written-so;
    counted = none;
    history = record { entries = entries; counts = counts };
    read = bytes-so;
    wrote = wrote_front o.sink_old o.sink_new (opening_part what files (bare_disks new) bytes) wrote;
  })))

-- the disks that a run which stopped hands back
pub handed-disks : {D : Type 0} (seen : D → DiskSeen) (xs : List (NumberedDisk D)) → map seen (map (λ d. d.disk) xs) ≡ bare_disks (map (numbered_seen seen) xs)
handed-disks seen [] = refl
handed-disks seen (x ∷ xs) = ap (λ (l : List DiskSeen). seen x.disk ∷ l) (handed-disks seen xs)

pub handed-swap : {D : Type 0} (seen : D → DiskSeen) (o : Option (NumberedDisk D)) → option_map seen (option_map (λ d. d.disk) o) ≡ option_map (λ (d : NumberedDisk D). seen d.disk) o
handed-swap seen None = refl
handed-swap seen (Some d) = refl

-- a run whose trace stopped, as it hands back its disks
pub stopped-tracing : (st : ℕ) (ft : Option RunFault) (g : Given) (o : Outside) (what : Asked) (files : List OpenedFile) (bytes : ℕ → List ℕ) → WasAsked g (Ok what) → (a b : AttachedSeen)
    (made : FilesSeen) → ArePlaced what.plan g.holds files a made → AreReadBytes files a.disks bytes → AreOnlyRead a.disks b.disks → b.swap ≡ a.swap → (k0 k1 : SinkSeen) → o.sink_old ≡ k0
    → o.sink_new ≡ k1 → (plan : PlanSeen) → plan ≡ numbered_plan files what.plan → (how : Ending) → TraceStops what.options plan files bytes k0 k1 a.disks b.disks how
    → (how ≡ ending.Memory → AreUncounted (bare_disks b.disks) b.swap) → {D : Type 0}
    (seen : D → DiskSeen) (xs : List (NumberedDisk D)) (w : Option (NumberedDisk D)) → b.disks ≡ map (numbered_seen seen) xs
    → b.swap ≡ option_map (λ (d : NumberedDisk D). seen d.disk) w → (s : Stop D)
    → s.ending ≡ how → s.history.entries ≡ [] → s.history.faults ≡ [] → s.disks.items ≡ map (λ (d : NumberedDisk D). d.disk) xs → s.swap ≡ option_map (λ (d : NumberedDisk D). d.disk) w
    → CaseOf g o (wrote_before o) (record (stop_end seen s) { status = st; fault = ft }) s.ending
stopped-tracing st ft g o what files bytes asked a b made p read r same k0 k1 before after plan numbered how t none seen xs w all last s is entries counts disks swap =
    let low = low-disks what.plan a.disks p.numbers in
    let told : TraceStops what.options (numbered_plan files what.plan) files bytes o.sink_old o.sink_new a.disks b.disks how =
    rw (sym numbered, before, after) t in
    let case = traced-stop st ft g o what files bytes asked a made p read b.disks r s.history entries counts low how (λ m. subst (AreUncounted (bare_disks b.disks)) same (none m)) told in
    let back : map seen s.disks.items ≡ bare_disks b.disks = ap (map seen) disks ∙ handed-disks seen xs ∙ ap bare_disks (sym all) in
    let swapped : option_map seen s.swap ≡ a.swap = ap (option_map seen) swap ∙ handed-swap seen w ∙ sym last ∙ same in
    rw (is, back, swapped) case
