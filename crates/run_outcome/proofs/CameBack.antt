-- What comes back of a run, whichever way it ended: ten volumes at most, of as many disks as were asked for, and a swap disk that is one.
use Rattle.std.proofs.Common.{◌≡◌, ℕ, zero, suc, ◌+◌, ◌<◌, ◌≤◌, ◌⊎◌, Bool, List, [], ◌∷◌, ◌++◌, length, map, Option, Some, None, refl, sym, ap, ◌∙◌, subst, arith, inl, inr}
use Rattle.std.specs.Prelude.{IfSome, MatchOption, Ok, filter_map, nat_le, slice_get, take}
use Rattle.std.specs.List.{cons_option, range_with_len, sum_by}
use Rattle.std.proofs.lemmas.List.{length-append, length-map}
use Rattle.std.proofs.lemmas.List.Concat.{length-flat_map}
use Rattle.std.proofs.lemmas.List.Sums.{sum_by-cons}
use Rattle.volume_files.specs.block_device.DiskSeen.{DiskSeen}
use Rattle.volume_files.specs.block_device.OpenSeen.{OpenFaultSeen}
use Rattle.volume_files.specs.block_device.declared.rack.Spec.{Spec}
use Rattle.volume_files.specs.volume_disks.Volumes.{spec_count}
use Rattle.volume_files.specs.volume_disks.declared.volume_spec.VolumeSpec.{VolumeSpec}
use Rattle.volume_files.specs.volume_disks.declared.volume_spec.VolumeSpec.TheVariants.{Plain, Joined}
use Rattle.volume_files.specs.vm_script.PlanSeen.{PlanSeen}
use Rattle.volume_files.specs.vm_script.Rules.{amounts_of}
use Rattle.volume_files.specs.declared.stops.Refusal.{Refusal}
use Rattle.volume_files.specs.declared.stops.Refusal.TheVariants as refusal
use Rattle.volume_files.specs.Handed.{AreUntouched, BreaksSo, HandsAll, HandsBelow, HandsNone, HandsUnracked, HandsUnread, IsSwapFor, disks_apart, handed_specs, members_of}
use Rattle.volume_files.specs.Numbers.{both_numbers, disk_numbers}
use Rattle.volume_files.specs.Opened.{OpenedFile, disk_kind, spec_kind, volume_numbered, volume_specs}
use Rattle.volume_files.proofs.DiskCounts.{same-maps}
use Rattle.run_endings.specs.declared.ending.Ending.{Ending}
use Rattle.run_endings.specs.declared.ending.Ending.TheVariants as ending
use Rattle.run_endings.specs.declared.ending.TraceEnd.TheVariants as ends
use Rattle.run_endings.specs.declared.inquiry_end.InquiryEnd.TheVariants as inquired
use Rattle.run_outcome.specs.declared.outcome.Outcome.{Outcome}
use Rattle.run_input.specs.Asked.{Given, Asked, WasAsked}
use Rattle.run_outcome.specs.Ended.{End, end_of}
use Rattle.run_outcome.specs.Members.{with_text}
use Rattle.run_outcome.specs.Run.{CaseOf, FailsToOpen, IsOpened, Lacks, Outside, RunEnds, Writing, wrote_all, wrote_before}
use Rattle.run_outcome.proofs.TextsTold.{one-asked-told}

-- ---- specs

most-found : {X Y : Type 0} (f : X → Option Y) (xs : List X) → length (filter_map f xs) ≤ length xs
most-found f [] = omega arith
most-found {X} {Y} f (x ∷ xs) = by (most-found f xs) (f x)
  where
    by : length (filter_map f xs) ≤ length xs → (o : Option Y) → length (cons_option o (filter_map f xs)) ≤ suc (length xs)
    by rest None = omega (arith, rest)
    by rest (Some y) = omega (arith, rest)

few-volumes : (plan : PlanSeen) → length (volume_specs plan) ≤ 8
few-volumes plan = most-found (volume_numbered plan.setup) (range_with_len 0 8)

most-taken : {X : Type 0} (n : ℕ) (xs : List X) → length (take n xs) ≤ length xs
most-taken zero xs = omega arith
most-taken (suc n) [] = omega arith
most-taken (suc n) (x ∷ xs) = let rest = most-taken n xs in omega (arith, rest)

two-apart : (o : Option VolumeSpec) → length (disks_apart o) ≤ 2
two-apart None = omega arith
two-apart (Some (Plain s)) = omega arith
two-apart (Some (Joined first second mirror)) = omega arith

few-specs : (plan : PlanSeen) (whole apart : ℕ) → length (handed_specs plan whole apart) ≤ 10
few-specs plan whole apart =
    let o = slice_get (volume_specs plan) whole in
    let long = length-append (take whole (volume_specs plan)) (take apart (disks_apart o)) in
    let a = most-taken whole (volume_specs plan) in
    let b = few-volumes plan in
    let c = most-taken apart (disks_apart o) in
    let d = two-apart o in
    omega (arith, long, a, b, c, d)

-- how many disks volumes have
abbrev disks_asked : List VolumeSpec → ℕ
disks_asked specs = sum_by spec_count specs

apart-asked : (apart : ℕ) (s : VolumeSpec) → disks_asked (take apart (disks_apart (Some s))) ≤ spec_count s
apart-asked zero s = omega arith
apart-asked (suc n) (Plain s) = omega arith
apart-asked (suc zero) (Joined first second mirror) = omega arith
apart-asked (suc (suc zero)) (Joined first second mirror) = omega arith
apart-asked (suc (suc (suc n))) (Joined first second mirror) = omega arith

none-apart : (apart : ℕ) → disks_asked (take apart (disks_apart None)) ≤ 0
none-apart zero = omega arith
none-apart (suc n) = omega arith

front-asked : (specs : List VolumeSpec) (whole apart : ℕ) → disks_asked (take whole specs ++ take apart (disks_apart (slice_get specs whole))) ≤ disks_asked specs
front-asked [] zero apart = none-apart apart
front-asked [] (suc whole) apart = none-apart apart
front-asked (s ∷ specs) zero apart =
    let a = apart-asked apart s in
    let all = sum_by-cons spec_count s specs in
    omega (arith, a, all)
front-asked (s ∷ specs) (suc whole) apart =
    let rest = front-asked specs whole apart in
    let all = sum_by-cons spec_count s specs in
    let front = sum_by-cons spec_count s (take whole specs ++ take apart (disks_apart (slice_get specs whole))) in
    omega (arith, rest, all, front)

both-count : (v : VolumeSpec) → length (both_numbers v) ≡ spec_count v
both-count (Plain s) = refl
both-count (Joined first second mirror) = refl

sum-same : (specs : List VolumeSpec) → sum_by (λ v. length (both_numbers v)) specs ≡ disks_asked specs
sum-same [] = refl
sum-same (v ∷ specs) =
    let a = sum_by-cons (λ w. length (both_numbers w)) v specs in
    let b = sum_by-cons spec_count v specs in
    let c = both-count v in
    let rest = sum-same specs in
    omega (arith, a, b, c, rest)

numbers-asked : (plan : PlanSeen) → length (disk_numbers plan.setup) ≡ disks_asked (volume_specs plan)
numbers-asked plan = length-flat_map both_numbers (volume_specs plan) ∙ sum-same (volume_specs plan)

kinds-sum : (ds : List DiskSeen) (specs : List VolumeSpec) → map disk_kind ds ≡ map spec_kind specs → members_of ds ≡ disks_asked specs
kinds-sum [] [] same = refl
kinds-sum [] (s ∷ specs) same = absurd (let z : ◌≡◌ {A = List (ℕ × Bool)} [] (spec_kind s ∷ map spec_kind specs) = same in cc)
kinds-sum (d ∷ ds) [] same = absurd (let z : ◌≡◌ {A = List (ℕ × Bool)} (disk_kind d ∷ map disk_kind ds) [] = same in cc)
kinds-sum (d ∷ ds) (s ∷ specs) same =
    let z : ◌≡◌ {A = List (ℕ × Bool)} (disk_kind d ∷ map disk_kind ds) (spec_kind s ∷ map spec_kind specs) = same in
    let one : disk_kind d ≡ spec_kind s = cc in
    let first : d.kind.members ≡ spec_count s = λ i. (one i).0 in
    let behind : map disk_kind ds ≡ map spec_kind specs = cc in
    let rest = kinds-sum ds specs behind in
    let a = sum_by-cons (λ (x : DiskSeen). x.kind.members) d ds in
    let b = sum_by-cons spec_count s specs in
    omega (arith, first, rest, a, b)

-- ---- what is handed back

-- ten volumes at most, of no more disks than were asked for, and one swap disk
record IsHanded (plan : PlanSeen) (disks : List DiskSeen) (swap : Option DiskSeen) : Type 0 where
  few : length disks ≤ 10
  asked : members_of disks ≤ disks_asked (volume_specs plan)
  one : IfSome swap (λ d. d.kind.members ≡ 1)

one-swap : (slots : ℕ) (swap : Option DiskSeen) → IsSwapFor slots swap → IfSome swap (λ d. d.kind.members ≡ 1)
one-swap slots None h = tt
one-swap slots (Some d) h = h.2

module _ (plan : PlanSeen) (holds : Spec → Option (List (List ℕ))) (disks : List DiskSeen) (swap : Option DiskSeen) where
  in-all : HandsAll plan disks swap → IsHanded plan disks swap
  in-all h = record {
    few = let long = h.each.0 in let few = few-volumes plan in omega (arith, long, few);
    asked = let same = kinds-sum disks (volume_specs plan) h.kinds in omega (arith, same);
    one = one-swap (amounts_of plan.setup).slots swap h.first;
  }

  in-front : (whole apart : ℕ) → AreUntouched plan holds whole apart disks swap → IfSome swap (λ d. d.kind.members ≡ 1) → IsHanded plan disks swap
  in-front whole apart h one = record {
    few = let long = h.count in let few = few-specs plan whole apart in omega (arith, long, few);
    asked =
        let kinds : map disk_kind disks ≡ map spec_kind (handed_specs plan whole apart) =
        same-maps disk_kind spec_kind disks (handed_specs plan whole apart) h.count (λ i d s at is. (h.each i s d is at).1) in
        let same = kinds-sum disks (handed_specs plan whole apart) kinds in
        let front = front-asked (volume_specs plan) whole apart in
        omega (arith, same, front);
    one = one;
  }

  in-below : (passes : ℕ → Bool) (apart : ℕ) → HandsBelow plan holds passes apart disks swap → IsHanded plan disks swap
  in-below passes apart h = in-front _ apart h.same (one-swap (amounts_of plan.setup).slots swap h.first)

  in-broken : (r : Refusal) → BreaksSo plan holds disks swap r → IsHanded plan disks swap
  in-broken (refusal.Volume number rule) (inl b) = in-below _ _ b.handed
  in-broken (refusal.Volume number rule) (inr b) = in-below _ _ b.handed.handed
  in-broken (refusal.Rule n) (inl b) = in-all b.handed
  in-broken (refusal.Rule n) (inr b) = in-below _ _ b.handed.handed

  in-none : HandsNone disks swap → IsHanded plan disks swap
  in-none h = subst (λ (ds : List DiskSeen). IsHanded plan ds swap) (sym h.no_disk) (subst (IsHanded plan []) (sym h.no_swap) (record { few = omega arith; asked = omega arith; one = tt }))

  in-unracked : (number : ℕ) → HandsUnracked plan holds disks swap number → IsHanded plan disks swap
  in-unracked number (inl h) = in-none h.2
  in-unracked number (inr (inl h)) = in-below _ _ h.1
  in-unracked number (inr (inr h)) = in-below _ _ h.3.handed

  in-unread : (f : OpenFaultSeen) → HandsUnread plan holds disks swap f → IsHanded plan disks swap
  in-unread f h = by f.counts h
    where
      by : (counts : Option (ℕ × ℕ)) → MatchOption counts (HandsUnracked plan holds disks swap f.disk) (λ c. HandsBelow plan holds (λ n. nat_le n f.disk) 0 disks swap) → IsHanded plan disks swap
      by None h = in-unracked f.disk h
      by (Some c) h = in-below _ _ h

-- ---- by the case of the end

-- nothing came back, or what was asked for
abbrev CameBack : Given → End → Type 0
CameBack g e = HandsNone e.disks e.swap ⊎ ((what : Asked) × WasAsked g (Ok what) × IsHanded what.plan e.disks e.swap)

module _ (g : Given) (o : Outside) (W : Writing) (e : End) where
  opened : (what : Asked) (files : List OpenedFile) → IsOpened g what files e → CameBack g e
  opened what files h = inr (what, h.asked, in-all what.plan g.holds e.disks e.swap h.handed)

  by-opening : (f : OpenFaultSeen) → FailsToOpen g o W f e → CameBack g e
  by-opening f (inl c) = inr (c.what, c.asked, in-unread c.what.plan g.holds e.disks e.swap f c.stopped.handed)
  by-opening f (inr c) = opened c.what c.files c.opened

  by-lacks : Lacks g o e → CameBack g e
  by-lacks (inl c) = inl c.none
  by-lacks (inr (inl c)) = inr (c.what, c.asked, in-front c.what.plan g.holds e.disks e.swap _ _ c.handed.same (first e.swap c.handed.first))
    where
      first : (swap : Option DiskSeen) → IfSome swap (λ d. (0 < (amounts_of c.what.plan.setup).slots) × (d.size ≡ (amounts_of c.what.plan.setup).slots) × (d.kind.members ≡ 1)) → IfSome swap (λ d. d.kind.members ≡ 1)
      first None h = tt
      first (Some d) h = h.2
  by-lacks (inr (inr (inl c))) = opened c.what c.files c.opened
  by-lacks (inr (inr (inr c))) = opened c.course.what c.course.files c.begun.opened

  by-case : (how : Ending) → CaseOf g o W e how → CameBack g e
  by-case ending.Whole c = opened c.course.what c.course.files c.shown.runs.begun.opened
  by-case ending.Usage c = inl c.1.none
  by-case (ending.NoScript f) c = inl c.1.none
  by-case (ending.Refused r) (inl c) = inl c.1.none
  by-case (ending.Refused r) (inr c) = inr (c.what, c.asked, in-broken c.what.plan g.holds e.disks e.swap r c.cause.breaks)
  by-case ending.NotRead c = inl c.1.none
  by-case ending.OpeningSink c = opened c.what c.files c.opened
  by-case ending.Sink c = opened c.course.what c.course.files c.shown.runs.begun.opened
  by-case (ending.Opening f) c = by-opening f c
  by-case (ending.Closing f) c = opened c.course.what c.course.files c.runs.begun.opened
  by-case (ending.Showing f) c = opened c.course.what c.course.files c.shown.runs.begun.opened
  by-case ending.Memory c = by-lacks c
  by-case (ending.Checked (ends.Told a)) c = inl c.none
  by-case (ending.Checked ends.Sink) c = inl c.1.none
  by-case (ending.Informed (inquired.Told q)) c = inl c.none
  by-case (ending.Informed (inquired.Sink q)) c = inl c.none

came-back : (g : Given) (o : Outside) (e : End) → RunEnds g o e → CameBack g e
came-back g o e r = elim r.case [
  | inl told ↦ by-case g o (wrote_all o) e r.how told.case
  | inr lacks ↦ by-case g o (wrote_before o) e lacks.stopped lacks.case
]

-- TEN VOLUMES AT MOST
pub few-outcome : {D : Type 0} (seen : D → DiskSeen) (g : Given) (o : Outside) (outcome : Outcome D) → RunEnds g o (end_of seen outcome) → length outcome.disks.items ≤ 10
few-outcome seen g o outcome r = elim (came-back g o (end_of seen outcome) r) [
  | inl none ↦ let long = length-map outcome.disks.items seen in let zero = ap length none.no_disk in omega (arith, zero, long)
  | inr asked ↦ let long = length-map outcome.disks.items seen in let few = asked.2.few in omega (arith, few, long)
]

-- ONE SWAP DISK
pub one-back : (g : Given) (o : Outside) (e : End) → RunEnds g o e → IfSome e.swap (λ d. d.kind.members ≡ 1)
one-back g o e r = elim (came-back g o e r) [
  | inl none ↦ subst (λ (s : Option DiskSeen). IfSome s (λ d. d.kind.members ≡ 1)) (sym none.no_swap) tt
  | inr asked ↦ asked.2.one
]

-- NO MORE DISKS THAN THE PLAN HAS NUMBERS
pub asked-back : (g : Given) (o : Outside) (text : List ℕ) (e : End) → RunEnds (with_text g text) o e → (what : Asked) → WasAsked (with_text g text) (Ok what) → members_of e.disks ≤ length (disk_numbers what.plan.setup)
asked-back g o text e r what was = elim (came-back (with_text g text) o e r) [
  | inl none ↦ let zero = ap members_of none.no_disk in omega (arith, zero)
  | inr asked ↦
      let same : asked.0 ≡ what = one-asked-told g text asked.0 what asked.1 was in
      let few : members_of e.disks ≤ disks_asked (volume_specs what.plan) = subst (λ (w : Asked). members_of e.disks ≤ disks_asked (volume_specs w.plan)) same asked.2.asked in
      let long = numbers-asked what.plan in
      omega (arith, few, long)
]
