-- What disks have after files were written, disk by disk and file by file.
use Rattle.std.specs.Prelude.{ℕ, ◌≡◌, ◌<◌, ◌≤◌, ◌+◌, List, ◌∷◌, length, drop, Option, Some, None, slice_index_or, slice_set}
use Rattle.std.proofs.Common.{ap, ◌∙◌, sym, subst, refl, arith, inl, inr}
use Rattle.std.proofs.lemmas.Bool.{cases_eq}
use Rattle.std.proofs.lemmas.List.{length-set, get_or-set_same, get_or-set_other, get_or_read, drop_more}
use Rattle.std.proofs.lemmas.List.Elements.{All-head, All-tail}
use Rattle.block_device.specs.DiskSeen.{DiskSeen}
use Rattle.block_device.specs.OpenSeen.{OpenFaultSeen}
use Rattle.block_device.specs.declared.numbered.NumberedDisk.{NumberedDisk}
use Rattle.volume_format.specs.vnode_files.Files.{FilesSeen, vnode_at}
use Rattle.volume_format.specs.vnode_files.declared.vnode.FileInfo.{FileInfo}
use Rattle.vm_report.specs.vm_script.declared.plan.SetupLine.{SetupLine}
use Rattle.volume_files.specs.Handed.{SpareBlock, SparesBlock}
use Rattle.volume_files.specs.Opened.{OpenedFile}
use Rattle.volume_files.specs.Placing.{RemainsThere, RemainThere, IsFaultOne, IsFaultThere, HasPlaceOn, HasPlaces, HavePlaces, WroteOne, with_file}
use Rattle.volume_files.specs.Placing.{with_file_pages, with_given, bytes_given, line_files}

module _ {D : Type 0} (seen : D → DiskSeen) where
  pub remains-same : (d : NumberedDisk D) → RemainsThere seen d d
  remains-same d = record { number = refl; size = refl; kind = refl; later = omega arith; untold = λ none. none }

  pub remains-then : (a b c : NumberedDisk D) → RemainsThere seen a b → RemainsThere seen b c → RemainsThere seen a c
  remains-then a b c p q = record { number = q.number ∙ p.number; size = q.size ∙ p.size; kind = q.kind ∙ p.kind; later = omega (arith, p.later, q.later); untold = λ none. q.untold (p.untold none) }

  pub remain-same : (ds : List (NumberedDisk D)) → RemainThere seen ds ds
  remain-same ds = record { count = refl; each = λ i d h. remains-same (slice_index_or ds i d) }

  pub remain-then : (old mid new : List (NumberedDisk D)) → RemainThere seen old mid → RemainThere seen mid new → RemainThere seen old new
  remain-then old mid new p q = record {
    count = q.count ∙ p.count;
    each = λ i d h. remains-then (slice_index_or old i d) (slice_index_or mid i d) (slice_index_or new i d) (p.each i d h) (q.each i d (omega (arith, h, p.count)));
  }

  pub remain-set : (old mid : List (NumberedDisk D)) (i : ℕ) (x new : NumberedDisk D) → RemainThere seen old mid → i < length mid → x ≡ slice_index_or mid i x
      → RemainsThere seen x new → RemainThere seen old (slice_set mid i new)
  remain-set old mid i x new stay below is one = record {
    count = length-set mid i new ∙ stay.count;
    each = λ j d h. elim (cases_eq j i) [
      | inl e ↦
          let was : slice_index_or mid j d ≡ x = ap (λ k. slice_index_or mid k d) e ∙ sym (get_or_read mid i x below is d) in
          let now : slice_index_or (slice_set mid i new) j d ≡ new = ap (λ k. slice_index_or (slice_set mid i new) k d) e ∙ get_or-set_same mid i new d below in
          subst (λ (y : NumberedDisk D). RemainsThere seen (slice_index_or old j d) y) (sym now)
          (remains-then (slice_index_or old j d) x new (subst (λ (y : NumberedDisk D). RemainsThere seen (slice_index_or old j d) y) was (stay.each j d h)) one)
      | inr ne ↦ subst (λ (y : NumberedDisk D). RemainsThere seen (slice_index_or old j d) y) (sym (get_or-set_other mid i j new d ne)) (stay.each j d h)
    ];
  }

  pub fault-set : (mid : List (NumberedDisk D)) (i : ℕ) (new : NumberedDisk D) (fault : OpenFaultSeen) → i < length mid → IsFaultOne seen new fault → IsFaultThere seen (slice_set mid i new) fault
  fault-set mid i new fault below h = record {
    i = i;
    inside = omega (arith, below, length-set mid i new);
    one = λ d. subst (λ (y : NumberedDisk D). IsFaultOne seen y fault) (sym (get_or-set_same mid i new d below)) h;
  }

  -- the file's pages on the disks up to one, and the disks from it on as they were
  pub record FileOn (info : FileInfo) (bytes : List ℕ) (old mid : List (NumberedDisk D)) (i : ℕ) : Type 0 where
    pub stay : RemainThere seen old mid
    pub done : (j : ℕ) (d : NumberedDisk D) → j < i → j < length old
        → (seen (slice_index_or mid j d).disk).content ≡ with_file (slice_index_or old j d).number (seen (slice_index_or old j d).disk).content info bytes
    pub rest : (j : ℕ) (d : NumberedDisk D) → i ≤ j → slice_index_or mid j d ≡ slice_index_or old j d

  pub file_on-step : (info : FileInfo) (bytes : List ℕ) (old mid : List (NumberedDisk D)) (i : ℕ) (x new : NumberedDisk D) → FileOn info bytes old mid i
      → i < length mid → x ≡ slice_index_or mid i x → RemainsThere seen x new → (seen new.disk).content ≡ with_file x.number (seen x.disk).content info bytes
      → FileOn info bytes old (slice_set mid i new) (i + 1)
  file_on-step info bytes old mid i x new on below is one wrote = record {
    stay = remain-set old mid i x new on.stay below is one;
    done = λ j d less inside. elim (cases_eq j i) [
      | inl e ↦
          let was : x ≡ slice_index_or old j d = get_or_read mid i x below is d ∙ on.rest i d (omega arith) ∙ ap (λ k. slice_index_or old k d) (sym e) in
          let now : slice_index_or (slice_set mid i new) j d ≡ new = ap (λ k. slice_index_or (slice_set mid i new) k d) e ∙ get_or-set_same mid i new d below in
          ap (λ (y : NumberedDisk D). (seen y.disk).content) now ∙ wrote ∙ ap (λ (y : NumberedDisk D). with_file y.number (seen y.disk).content info bytes) was
      | inr ne ↦ ap (λ (y : NumberedDisk D). (seen y.disk).content) (get_or-set_other mid i j new d ne) ∙ on.done j d (omega (arith, less, ne)) inside
    ];
    rest = λ j d past. get_or-set_other mid i j new d (λ e. omega (arith, past, e)) ∙ on.rest j d (omega (arith, past));
  }

  -- places stay where disks do
  pub place-kept : (info : FileInfo) (bytes : List ℕ) (a b : NumberedDisk D) → RemainsThere seen a b → HasPlaceOn seen info bytes a → HasPlaceOn seen info bytes b
  place-kept info bytes a b stay has on =
      let h = has (on ∙ stay.number) in
      (omega (arith, h.0, stay.size), h.1)

  pub places-kept : (old new : List (NumberedDisk D)) → RemainThere seen old new → (files : List OpenedFile) → HavePlaces seen old files → HavePlaces seen new files
  places-kept old new stay files have k f below i d inside =
      let was : i < length old = omega (arith, inside, stay.count) in
      place-kept (slice_index_or files k f).info (slice_index_or files k f).bytes (slice_index_or old i d) (slice_index_or new i d) (stay.each i d was) (have k f below i d was)

  -- what the disks have with the files that are left is what they have with all
  abbrev pub Rests : List (NumberedDisk D) → List (NumberedDisk D) → List OpenedFile → List OpenedFile → Type 0
  Rests old mid left all =
      (j : ℕ) (d : NumberedDisk D) → j < length old
      → with_file_pages (slice_index_or mid j d).number (seen (slice_index_or mid j d).disk).content left
      ≡ with_file_pages (slice_index_or old j d).number (seen (slice_index_or old j d).disk).content all

  pub rests-step : (old mid new : List (NumberedDisk D)) (f : OpenedFile) (left all : List OpenedFile) → length mid ≡ length old → RemainThere seen mid new → WroteOne seen f.info f.bytes mid new
      → Rests old mid (f ∷ left) all → Rests old new left all
  rests-step old mid new f left all count stay wrote rests j d below =
      let was : j < length mid = omega (arith, below, count) in
      let x = slice_index_or mid j d in
      ap (λ n. with_file_pages n (seen (slice_index_or new j d).disk).content left) (stay.each j d was).number
      ∙ ap (λ (o : Option (List (List ℕ))). with_file_pages x.number o left) (wrote j d was)
      ∙ rests j d below

-- the files of the lines from one on: that of the line, if it gives one, and those of the lines behind it
pub line-step : (made : FilesSeen) (k : ℕ) (setup : List SetupLine) (i : ℕ) (l : SetupLine) (o : Option (List ℕ)) → i < length setup → l ≡ slice_index_or setup i l → bytes_given l.act ≡ o
    → line_files made k (drop i setup) ≡ with_given o (vnode_at made k).info (line_files made (k + 1) (drop (i + 1) setup)) (line_files made k (drop (i + 1) setup))
line-step made k setup i l o below is gives =
    ap (line_files made k) (drop_more setup i l below ∙ ap (λ (x : SetupLine). x ∷ drop (i + 1) setup) (sym is))
    ∙ ap (λ (q : Option (List ℕ)). with_given q (vnode_at made k).info (line_files made (k + 1) (drop (i + 1) setup)) (line_files made k (drop (i + 1) setup))) gives

-- what writing the files of lines keeps, from one line to the next
module _ {D : Type 0} (seen : D → DiskSeen) where
  pub record LinesOn (made : FilesSeen) (first : ℕ) (setup : List SetupLine) (old mid : List (NumberedDisk D)) (k i : ℕ) : Type 0 where
    pub stay : RemainThere seen old mid
    pub count : k + length (line_files made k (drop i setup)) ≤ length made.files
    pub places : HavePlaces seen mid (line_files made k (drop i setup))
    pub rest : Rests seen old mid (line_files made k (drop i setup)) (line_files made first setup)
    pub spare : (number block : ℕ) → SpareBlock (line_files made first setup) number block → SpareBlock (line_files made k (drop i setup)) number block

  -- the file of a line, and its place
  pub line_file-place : (made : FilesSeen) (first : ℕ) (setup : List SetupLine) (old mid : List (NumberedDisk D)) (k i : ℕ) (l : SetupLine) (bytes : List ℕ) (info : FileInfo)
      → LinesOn made first setup old mid k i → i < length setup → l ≡ slice_index_or setup i l → bytes_given l.act ≡ Some bytes → info ≡ (vnode_at made k).info → HasPlaces seen mid info bytes
  line_file-place made first setup old mid k i l bytes info on below is gives same =
      let step = line-step made k setup i l (Some bytes) below is gives in
      let f : OpenedFile = record { info = (vnode_at made k).info; bytes = bytes } in
      let places : HavePlaces seen mid (f ∷ line_files made (k + 1) (drop (i + 1) setup)) = subst (λ (fs : List OpenedFile). HavePlaces seen mid fs) step on.places in
      subst (λ (x : FileInfo). HasPlaces seen mid x bytes) (sym same) (All-head (λ (g : OpenedFile). HasPlaces seen mid g.info g.bytes) f (line_files made (k + 1) (drop (i + 1) setup)) places)

  pub line_file-count : (made : FilesSeen) (first : ℕ) (setup : List SetupLine) (old mid : List (NumberedDisk D)) (k i : ℕ) (l : SetupLine) (bytes : List ℕ)
      → LinesOn made first setup old mid k i → i < length setup → l ≡ slice_index_or setup i l → bytes_given l.act ≡ Some bytes → k < length made.files
  line_file-count made first setup old mid k i l bytes on below is gives =
      let more = line_files made (k + 1) (drop (i + 1) setup) in
      let f : OpenedFile = record { info = (vnode_at made k).info; bytes = bytes } in
      let count : length (line_files made k (drop i setup)) ≡ length (f ∷ more) = ap length (line-step made k setup i l (Some bytes) below is gives) in
      omega (arith, count, on.count)

  pub lines_on-file : (made : FilesSeen) (first : ℕ) (setup : List SetupLine) (old mid new : List (NumberedDisk D)) (k i : ℕ) (l : SetupLine) (bytes : List ℕ) (info : FileInfo)
      → LinesOn made first setup old mid k i → i < length setup → l ≡ slice_index_or setup i l → bytes_given l.act ≡ Some bytes → info ≡ (vnode_at made k).info
      → RemainThere seen mid new → WroteOne seen info bytes mid new → LinesOn made first setup old new (k + 1) (i + 1)
  lines_on-file made first setup old mid new k i l bytes info on below is gives same stay wrote =
      let step = line-step made k setup i l (Some bytes) below is gives in
      let f : OpenedFile = record { info = (vnode_at made k).info; bytes = bytes } in
      let more = line_files made (k + 1) (drop (i + 1) setup) in
      let count : length (line_files made k (drop i setup)) ≡ length (f ∷ more) = ap length step in
      let places : HavePlaces seen mid (f ∷ more) = subst (λ (fs : List OpenedFile). HavePlaces seen mid fs) step on.places in
      record {
        stay = remain-then seen old mid new on.stay stay;
        count = omega (arith, count, on.count);
        places = places-kept seen mid new stay more (All-tail (λ (g : OpenedFile). HasPlaces seen mid g.info g.bytes) f more places);
        rest = rests-step seen old mid new f more (line_files made first setup) on.stay.count stay (subst (λ (x : FileInfo). WroteOne seen x bytes mid new) same wrote)
            (subst (λ (fs : List OpenedFile). Rests seen old mid fs (line_files made first setup)) step on.rest);
        spare = λ number block free. All-tail (λ (x : OpenedFile). SparesBlock x.info x.bytes number block) f more
            (subst (λ (fs : List OpenedFile). SpareBlock fs number block) step (on.spare number block free));
      }

  pub lines_on-other : (made : FilesSeen) (first : ℕ) (setup : List SetupLine) (old mid : List (NumberedDisk D)) (k i : ℕ) (l : SetupLine)
      → LinesOn made first setup old mid k i → i < length setup → l ≡ slice_index_or setup i l → bytes_given l.act ≡ None → LinesOn made first setup old mid k (i + 1)
  lines_on-other made first setup old mid k i l on below is gives =
      let step = line-step made k setup i l None below is gives in
      record {
        stay = on.stay;
        count = subst (λ (fs : List OpenedFile). k + length fs ≤ length made.files) step on.count;
        places = subst (λ (fs : List OpenedFile). HavePlaces seen mid fs) step on.places;
        rest = subst (λ (fs : List OpenedFile). Rests seen old mid fs (line_files made first setup)) step on.rest;
        spare = λ number block free. subst (λ (fs : List OpenedFile). SpareBlock fs number block) step (on.spare number block free);
      }
