-- What follows of a run that ended.
use Rattle.std.proofs.Common.{◌≡◌, ◌∙◌, ℕ, zero, suc, ◌+◌, ap, refl, sym, subst, arith, true, false, inl, inr, List, [], ◌∷◌, length, map, Option, Some, None}
use Rattle.std.specs.Prelude.{◌⊎◌, ◌↔◌, Bool, IsSome, is_some, slice_get, option_map, if◌then◌else◌}
use Rattle.std.proofs.lemmas.Bool.{false≢true}
use Rattle.std.proofs.lemmas.List.{append-nil, length-append}
use Rattle.std.proofs.lemmas.List.Sorted.{length_permutation}
use Rattle.std.proofs.lemmas.List.Sums.{sum_by-cons}
use Rattle.std.proofs.lemmas.Option.{same_Some}
use Rattle.volume_files.specs.block_device.DiskSeen.{DiskSeen}
use Rattle.volume_files.specs.joined_disk.JoinedSeen.{IsBoth, IsSeenBy}
use Rattle.volume_files.specs.vm_script.PlanSeen.{PlanSeen}
use Rattle.volume_files.specs.vm_script.Told.{Told, ToldFront, own_lines}
use Rattle.volume_files.specs.vm_types.declared.call.Entry.{Entry}
use Rattle.volume_files.specs.volume_disks.Singles.{as_single}
use Rattle.volume_files.specs.volume_disks.declared.volume_spec.VolumeSpec.{VolumeSpec}
use Rattle.volume_files.specs.volume_disks.declared.volume_spec.VolumeSpec.TheVariants.{Plain, Joined}
use Rattle.volume_files.specs.Handed.{HandsAll, members_of, swap_members}
use Rattle.volume_files.specs.Opened.{disk_kind, spec_kind, volume_specs}
use Rattle.volume_files.proofs.DiskLists.{at-map}
use Rattle.trace_check.specs.declared.verdict.Verdict.TheVariants as verdict
use Rattle.run_endings.specs.Ending.{status_of, fault_of}
use Rattle.run_endings.specs.declared.ending.Ending.{Ending}
use Rattle.run_endings.specs.declared.ending.Ending.TheVariants as ending
use Rattle.run_endings.specs.declared.ending.TraceAnswer.TheVariants as answer
use Rattle.run_endings.specs.declared.ending.TraceEnd.TheVariants as ends
use Rattle.run_endings.specs.declared.inquiry_end.InquiryEnd.TheVariants as told
use Rattle.run_endings.specs.declared.fault.RunFault.{RunFault}
use Rattle.run_input.specs.Asked.{Given}
use Rattle.run_outcome.specs.Ended.{End}
use Rattle.run_outcome.specs.Members.{AreSeenBy, WasRun, all_disks, both_disks}
use Rattle.run_outcome.specs.Run.{CaseOf, Course, EndsTold, Lacks, LacksLine, Outside, RunEnds, RunsThrough, Writing, plan_opened, wrote_all, wrote_before}
use Rattle.run_outcome.specs.RunLaws.{IsAsAsked, RanFronts, WroteAll, disks_back}
use Rattle.run_outcome.proofs.MemberLists.{count-seen}

-- ---- status and fault

module _ (g : Given) (o : Outside) (e : End) where
  -- want of memory for the last line has a status of its own
  by-line : (how : Ending) → e.status ≡ status_of how → e.status ≡ 0 → LacksLine g o e how → ⊥
  by-line how status none l =
      let eight : e.status ≡ 8 = status ∙ ap status_of l.memory in omega (arith, eight, none)

  told-whole : (how : Ending) → e.status ≡ status_of how → e.status ≡ 0 → EndsTold g o e how → WroteAll g o e
  told-whole ending.Whole status none t = inl (t.case, record { source = t.once.source (λ same. let z : ◌≡◌ {A = Ending} ending.Whole ending.NotRead = same in cc); rack = t.once.rack; sink = t.once.sink tt })
  told-whole (ending.Checked (ends.Told (answer.Verdict (verdict.Legal n)))) status none t = inr (inl (n, t.case))
  told-whole (ending.Informed (told.Told q)) status none t = inr (inr (q, t.case))
  told-whole (ending.Informed (told.Sink q)) status none t = absurd (omega (arith, status, none))
  told-whole (ending.Checked (ends.Told (answer.Verdict (verdict.First k)))) status none t = absurd (omega (arith, status, none))
  told-whole (ending.Checked (ends.Told (answer.Fault f))) status none t = absurd (omega (arith, status, none))
  told-whole (ending.Checked (ends.Told answer.Long)) status none t = absurd (omega (arith, status, none))
  told-whole (ending.Checked ends.Sink) status none t = absurd (omega (arith, status, none))
  told-whole ending.Usage status none t = absurd (omega (arith, status, none))
  told-whole (ending.NoScript f) status none t = absurd (omega (arith, status, none))
  told-whole (ending.Refused r) status none t = absurd (omega (arith, status, none))
  told-whole ending.NotRead status none t = absurd (omega (arith, status, none))
  told-whole ending.OpeningSink status none t = absurd (omega (arith, status, none))
  told-whole ending.Sink status none t = absurd (omega (arith, status, none))
  told-whole (ending.Opening f) status none t = absurd (omega (arith, status, none))
  told-whole (ending.Closing f) status none t = absurd (omega (arith, status, none))
  told-whole (ending.Showing f) status none t = absurd (omega (arith, status, none))
  told-whole ending.Memory status none t = absurd (omega (arith, status, none))

  pub whole-so : RunEnds g o e → e.status ≡ 0 → WroteAll g o e
  whole-so r none = elim r.case [
    | inl told ↦ told-whole r.how r.status none told
    | inr line ↦ absurd (by-line r.how r.status none line)
  ]

-- a status that isn't 7, and no fault
none-so : {n : ℕ} {f : Option RunFault} (status : ℕ) (fault : Option RunFault) → status ≡ n → fault ≡ f → (n ≡ 7 → ⊥) → f ≡ None → (status ≡ 7 ↔ IsSome fault)
none-so status fault is so differ none = (
  λ seven. absurd (differ (sym is ∙ seven)),
  λ some. absurd (false≢true (sym (ap is_some (so ∙ none)) ∙ some)),
)

some-so : {f : RunFault} (status : ℕ) (fault : Option RunFault) → status ≡ 7 → fault ≡ Some f → (status ≡ 7 ↔ IsSome fault)
some-so status fault is so = (λ seven. ap is_some so, λ some. is)

by-ending : (how : Ending) (status : ℕ) (fault : Option RunFault) → status ≡ status_of how → fault ≡ fault_of how → (status ≡ 7 ↔ IsSome fault)
by-ending ending.Whole status fault is so = none-so status fault is so (λ z. omega (arith, z)) refl
by-ending ending.Usage status fault is so = none-so status fault is so (λ z. omega (arith, z)) refl
by-ending (ending.NoScript x) status fault is so = none-so status fault is so (λ z. omega (arith, z)) refl
by-ending (ending.Refused x) status fault is so = none-so status fault is so (λ z. omega (arith, z)) refl
by-ending ending.NotRead status fault is so = none-so status fault is so (λ z. omega (arith, z)) refl
by-ending ending.OpeningSink status fault is so = none-so status fault is so (λ z. omega (arith, z)) refl
by-ending ending.Sink status fault is so = none-so status fault is so (λ z. omega (arith, z)) refl
by-ending (ending.Opening x) status fault is so = some-so status fault is so
by-ending (ending.Closing x) status fault is so = some-so status fault is so
by-ending (ending.Showing x) status fault is so = some-so status fault is so
by-ending ending.Memory status fault is so = none-so status fault is so (λ z. omega (arith, z)) refl
by-ending (ending.Checked (ends.Told (answer.Verdict (verdict.Legal n)))) status fault is so = none-so status fault is so (λ z. omega (arith, z)) refl
by-ending (ending.Checked (ends.Told (answer.Verdict (verdict.First k)))) status fault is so = none-so status fault is so (λ z. omega (arith, z)) refl
by-ending (ending.Checked (ends.Told (answer.Fault x))) status fault is so = none-so status fault is so (λ z. omega (arith, z)) refl
by-ending (ending.Checked (ends.Told answer.Long)) status fault is so = none-so status fault is so (λ z. omega (arith, z)) refl
by-ending (ending.Checked ends.Sink) status fault is so = none-so status fault is so (λ z. omega (arith, z)) refl
by-ending (ending.Informed (told.Told q)) status fault is so = none-so status fault is so (λ z. omega (arith, z)) refl
by-ending (ending.Informed (told.Sink q)) status fault is so = none-so status fault is so (λ z. omega (arith, z)) refl

pub fails-so : (g : Given) (o : Outside) (e : End) → RunEnds g o e → (e.status ≡ 7 ↔ IsSome e.fault)
fails-so g o e r = by-ending r.how e.status e.fault r.status r.fault

-- ---- the disks

members-seen : (disks : List (DiskSeen × Option DiskSeen)) (volumes : List DiskSeen) → AreSeenBy disks volumes → members_of volumes ≡ length (all_disks disks)
members-seen [] [] a = refl
members-seen [] (v ∷ vs) a = absurd (let count = a.count in omega (arith, count))
members-seen (p ∷ ps) [] a = absurd (let count = a.count in omega (arith, count))
members-seen (p ∷ ps) (v ∷ vs) a =
    let count = a.count in
    let head = count-seen p.0 p.1 v (a.each 0 p v refl refl) in
    let rest = members-seen ps vs (record { count = omega (arith, count); each = λ i q w at is. a.each (suc i) q w at is }) in
    let more = sum_by-cons (λ (d : DiskSeen). d.kind.members) v vs in
    let long = length-append (both_disks p) (all_disks ps) in
    omega (arith, head, rest, more, long)

swap-one : (swap : Option DiskSeen) → swap_members (option_map as_single swap) ≡ (if is_some swap then 1 else 0)
swap-one None = refl
swap-one (Some d) = refl

pub all-back : (g : Given) (o : Outside) (e : End) → WasRun g o e → o.attached_new ≡ o.attached_old + disks_back e
all-back g o e w =
    let back = w.ends.back in
    let disks = members-seen w.handed.disks w.end.disks w.handed.volumes in
    let same = length_permutation (all_disks w.handed.disks) e.disks w.handed.all in
    let swap = ap swap_members w.handed.swap ∙ swap-one e.swap in
    omega (arith, back, disks, same, swap)

-- one volume, by what its spec says of its kind
is-asked : (s : VolumeSpec) (a : DiskSeen) (o : Option DiskSeen) (v : DiskSeen) → disk_kind v ≡ spec_kind s → IsSeenBy (as_single a) (option_map as_single o) v → IsAsAsked s (a, o) v
is-asked (Plain s) a None v kind is = (refl, is)
is-asked (Plain s) a (Some b) v kind is =
    let two = count-seen a (Some b) v is in let one : v.kind.members ≡ 1 = λ i. (kind i).0 in absurd (omega (arith, two, one))
is-asked (Joined s t mirror) a None v kind is =
    let one = count-seen a None v is in let two : v.kind.members ≡ 2 = λ i. (kind i).0 in absurd (omega (arith, two, one))
is-asked (Joined s t mirror) a (Some b) v kind is =
    let so : v.kind.mirror ≡ mirror = λ i. (kind i).1 in (b, refl, is.0, subst (λ (m : Bool). IsBoth m (as_single a) (as_single b) v) so is.1)

pub as-asked : (plan : PlanSeen) (over : List DiskSeen) (swap : Option DiskSeen) (disks : List (DiskSeen × Option DiskSeen)) (i : ℕ) (s : VolumeSpec) (p : DiskSeen × Option DiskSeen) (v : DiskSeen)
    → HandsAll plan over swap → AreSeenBy disks over → slice_get (volume_specs plan) i ≡ Some s → slice_get disks i ≡ Some p → slice_get over i ≡ Some v → IsAsAsked s p v
as-asked plan over swap disks i s p v h seen spec parts volume =
    let kind = same_Some (disk_kind v) (spec_kind s)
    (sym (at-map disk_kind over i v volume) ∙ ap (λ (ks : List (ℕ × Bool)). slice_get ks i) h.kinds ∙ at-map spec_kind (volume_specs plan) i s spec) in
    is-asked s p.0 p.1 v kind (seen.each i p v parts volume)

-- ---- the lines that were made

told-front : (plan : PlanSeen) (H : List Entry) → Told plan H → ToldFront plan H
told-front plan H told = record { lines_of = own_lines plan; front = λ p born. ([], append-nil (own_lines plan p)); tells = told }

module _ (g : Given) (o : Outside) (W : Writing) (e : End) where
  ran-through : (c : Course) → RunsThrough g c e → RanFronts g e
  ran-through c r = inr (c.what, c.files, r.begun.opened.asked, told-front (plan_opened c.what c.files) e.history.entries r.told)

  ran-lacking : Lacks g o e → RanFronts g e
  ran-lacking (inl bare) = inl bare.history.entries
  ran-lacking (inr (inl opening)) = inl opening.history.entries
  ran-lacking (inr (inr (inl trace))) = inl trace.history.entries
  ran-lacking (inr (inr (inr late))) = inr (late.course.what, late.course.files, late.begun.opened.asked, late.told)

  ran-case : (how : Ending) → CaseOf g o W e how → RanFronts g e
  ran-case ending.Whole c = ran-through c.course c.shown.runs
  ran-case ending.Usage c = inl c.1.history.entries
  ran-case (ending.NoScript f) c = inl c.1.history.entries
  ran-case (ending.Refused r) (inl c) = inl c.1.history.entries
  ran-case (ending.Refused r) (inr c) = inl c.history.entries
  ran-case ending.NotRead c = inl c.1.history.entries
  ran-case ending.OpeningSink c = inl c.history.entries
  ran-case ending.Sink c = ran-through c.course c.shown.runs
  ran-case (ending.Opening f) (inl c) = inl c.history.entries
  ran-case (ending.Opening f) (inr c) = inl c.history.entries
  ran-case (ending.Closing f) c = ran-through c.course c.runs
  ran-case (ending.Showing f) c = ran-through c.course c.shown.runs
  ran-case ending.Memory c = ran-lacking c
  ran-case (ending.Checked (ends.Told a)) c = inl c.history.entries
  ran-case (ending.Checked ends.Sink) c = inl c.1.history.entries
  ran-case (ending.Informed (told.Told q)) c = inl c.history.entries
  ran-case (ending.Informed (told.Sink q)) c = inl c.history.entries

pub ran-so : (g : Given) (o : Outside) (e : End) → RunEnds g o e → RanFronts g e
ran-so g o e r = elim r.case [
  | inl told ↦ ran-case g o (wrote_all o) e r.how told.case
  | inr line ↦ ran-case g o (wrote_before o) e line.stopped line.case
]
