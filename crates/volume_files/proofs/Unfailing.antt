-- Where nothing failed, no count rose.
use Rattle.std.proofs.Common.{◌≡◌, ℕ, Bool, true, false, List, [], ◌∷◌, ◌++◌, map, refl, sym, ap, ◌∙◌, subst}
use Rattle.std.specs.Prelude.{All, IfSome, if◌then◌else◌, Option, None, Some, Result, Ok, Err, option_map}
use Rattle.std.proofs.lemmas.List.Elements.{All-nil, All-cons, All-head, All-tail}
use Rattle.block_device.specs.DiskSeen.{DiskSeen, failures_told}
use Rattle.block_device.specs.OpenSeen.{OpenFaultSeen}
use Rattle.volume_files.specs.declared.stops.OpenStop.{OpenStop}
use Rattle.volume_files.specs.declared.stops.OpenStop.TheVariants as halt
use Rattle.block_device.specs.declared.numbered.NumberedDisk.{NumberedDisk}
use Rattle.volume_files.specs.declared.stops.Refusal.{Refusal}
use Rattle.volume_files.specs.declared.table_files.PlaceStop.{PlaceStop}
use Rattle.volume_files.specs.declared.table_files.PlaceStop.TheVariants as stop
use Rattle.volume_files.specs.Attached.{bare_disks}
use Rattle.stored_files.specs.Written.{numbered_seen}
use Rattle.volume_files.specs.Handed.{AreUncounted}
use Rattle.volume_files.specs.Mounting.{UngivenCause}
use Rattle.volume_files.specs.Opened.{OpenedFile}
use Rattle.volume_files.specs.Placing.{PlaceStopped, open_stop_of}
use Rattle.volume_files.specs.Unfailed.{NoneCounted, UnlessFailed, UnlessRack}
use Rattle.stored_files.specs.Uncut.{counts_of}

-- ---- what is said unless something failed

pub unless-failed : {T P Q : Type 0} (r : Result T OpenStop) → (P → Q) → UnlessFailed r P → UnlessFailed r Q
unless-failed (Ok done) f p = f p
unless-failed (Err halt.Memory) f p = f p
unless-failed (Err (halt.Refused x)) f p = f p
unless-failed (Err (halt.Failed x)) f p = tt

-- whatever was answered
pub said-anyway : {T P : Type 0} (r : Result T OpenStop) → P → UnlessFailed r P
said-anyway (Ok done) p = p
said-anyway (Err halt.Memory) p = p
said-anyway (Err (halt.Refused x)) p = p
said-anyway (Err (halt.Failed x)) p = tt

-- the same stop of another call
pub unless-halted : (S T : Type 0) {P Q : Type 0} (e : OpenStop) → (P → Q) → UnlessFailed {T = S} (Err e) P → UnlessFailed {T = T} (Err e) Q
unless-halted S T halt.Memory f p = f p
unless-halted S T (halt.Refused x) f p = f p
unless-halted S T (halt.Failed x) f p = tt

-- where memory lacked
pub where-lacked : {T P : Type 0} (r : Result T OpenStop) (e : OpenStop) → r ≡ Err e → e ≡ halt.Memory → UnlessFailed r P → P
where-lacked {T} {P} r e is memory p = subst (λ (x : Result T OpenStop). UnlessFailed x P) (is ∙ ap (λ (y : OpenStop). Err y) memory) p

-- whatever stopped it
pub rack-anyway : {P : Type 0} (how : OpenStop) → P → UnlessRack how P
rack-anyway halt.Memory p = p
rack-anyway (halt.Refused r) p = p
rack-anyway {P} (halt.Failed f) p = by f.counts
  where
    by : (c : Option (ℕ × ℕ)) → IfSome c (λ counts. P)
    by None = tt
    by (Some c) = p

pub unless-rack : {P Q : Type 0} (how : OpenStop) → (P → Q) → UnlessRack how P → UnlessRack how Q
unless-rack halt.Memory f p = f p
unless-rack (halt.Refused r) f p = f p
unless-rack {P} {Q} (halt.Failed x) f p = by x.counts p
  where
    by : (c : Option (ℕ × ℕ)) → IfSome c (λ counts. P) → IfSome c (λ counts. Q)
    by None q = tt
    by (Some c) q = f q

-- a fault of the rack has no counts
pub rack-failed : (P : Type 0) (f : OpenFaultSeen) → f.counts ≡ None → UnlessRack (halt.Failed f) P
rack-failed P f none = subst (λ (c : Option (ℕ × ℕ)). IfSome c (λ counts. P)) (sym none) tt

-- the swap disk wasn't given
pub swap-racked : {T : Type 0} (P : Type 0) (number old new : ℕ) (how : OpenStop) (r : Result T OpenStop) → r ≡ Err how → UngivenCause number old new how → UnlessFailed r P → UnlessRack how P
swap-racked {T} P number old new how r is c p = by how c (subst (λ (x : Result T OpenStop). UnlessFailed x P) is p)
  where
    by : (e : OpenStop) → UngivenCause number old new e → UnlessFailed {T = T} (Err e) P → UnlessRack e P
    by halt.Memory c q = q
    by (halt.Refused x) c q = absurd c
    by (halt.Failed f) c q = rack-failed P f c.1

-- ---- counts of lists of disks

abbrev Uncounted : DiskSeen → Type 0
Uncounted d = failures_told d ≡ 0

-- a disk that counted no fault tells no failure
pub none-told : (d : DiskSeen) → d.faults ≡ 0 → failures_told d ≡ 0
none-told d none = at d.kind.exact
  where
    at : (b : Bool) → (if b then d.faults else 0) ≡ 0
    at true = none
    at false = refl

pub swap-told : (o : Option DiskSeen) → IfSome o (λ d. d.faults ≡ 0) → IfSome o (λ d. failures_told d ≡ 0)
swap-told None none = tt
swap-told (Some d) none = none-told d none

-- no disk tells a failure, where each tells as many as before
pub zero-still : (old new : List (ℕ × DiskSeen)) → counts_of new ≡ counts_of old → All Uncounted (bare_disks old) → All Uncounted (bare_disks new)
zero-still [] [] same none = none
zero-still [] (e ∷ new) same none = absurd (let z : ◌≡◌ {A = List ℕ} (failures_told e.1 ∷ counts_of new) [] = same in cc)
zero-still (d ∷ old) [] same none = absurd (let z : ◌≡◌ {A = List ℕ} [] (failures_told d.1 ∷ counts_of old) = same in cc)
zero-still (d ∷ old) (e ∷ new) same none =
    let z : ◌≡◌ {A = List ℕ} (failures_told e.1 ∷ counts_of new) (failures_told d.1 ∷ counts_of old) = same in
    let first : failures_told e.1 ≡ failures_told d.1 = cc in
    let rest : counts_of new ≡ counts_of old = cc in
    All-cons Uncounted e.1 (bare_disks new) (first ∙ All-head Uncounted d.1 (bare_disks old) none) (zero-still old new rest (All-tail Uncounted d.1 (bare_disks old) none))

-- with their numbers or without
pub bare-none : (disks : List (ℕ × DiskSeen)) → NoneCounted disks → All Uncounted (bare_disks disks)
bare-none [] none = All-nil Uncounted
bare-none (d ∷ disks) none =
    All-cons Uncounted d.1 (bare_disks disks) (All-head (λ (x : ℕ × DiskSeen). Uncounted x.1) d disks none) (bare-none disks (All-tail (λ (x : ℕ × DiskSeen). Uncounted x.1) d disks none))

-- one more, which counted none
none-push : {X : Type 0} (f : X → ℕ × DiskSeen) (xs : List X) (x : X) → failures_told (f x).1 ≡ 0 → NoneCounted (map f xs) → NoneCounted (map f (xs ++ x ∷ []))
none-push f [] x fresh none = All-cons (λ (d : ℕ × DiskSeen). Uncounted d.1) (f x) [] fresh none
none-push f (y ∷ ys) x fresh none =
    All-cons (λ (d : ℕ × DiskSeen). Uncounted d.1) (f y) (map f (ys ++ x ∷ [])) (All-head (λ (d : ℕ × DiskSeen). Uncounted d.1) (f y) (map f ys) none)
    (none-push f ys x fresh (All-tail (λ (d : ℕ × DiskSeen). Uncounted d.1) (f y) (map f ys) none))

pub none-pushed : {X : Type 0} (f : X → ℕ × DiskSeen) (xs ys : List X) (x : X) → ys ≡ xs ++ x ∷ [] → failures_told (f x).1 ≡ 0 → NoneCounted (map f xs) → NoneCounted (map f ys)
none-pushed f xs ys x is fresh none = subst (λ (zs : List _). NoneCounted (map f zs)) (sym is) (none-push f xs x fresh none)

-- disks as they are handed back
pub bare-handed : {D : Type 0} (seen : D → DiskSeen) (xs : List (NumberedDisk D)) → map seen (map (λ (d : NumberedDisk D). d.disk) xs) ≡ bare_disks (map (numbered_seen seen) xs)
bare-handed seen [] = refl
bare-handed seen (x ∷ xs) = ap (λ (l : List DiskSeen). seen x.disk ∷ l) (bare-handed seen xs)

pub swap-handed : {D : Type 0} (seen : D → DiskSeen) (w : Option (NumberedDisk D)) → option_map seen (option_map (λ (d : NumberedDisk D). d.disk) w) ≡ option_map (λ (d : NumberedDisk D). seen d.disk) w
swap-handed seen None = refl
swap-handed seen (Some d) = refl

pub handed-none : {D : Type 0} (seen : D → DiskSeen) (xs : List (NumberedDisk D)) (w : Option (NumberedDisk D)) (ys : List D) (v : Option D) → ys ≡ map (λ (d : NumberedDisk D). d.disk) xs
    → v ≡ option_map (λ (d : NumberedDisk D). d.disk) w → AreUncounted (bare_disks (map (numbered_seen seen) xs)) (option_map (λ (d : NumberedDisk D). seen d.disk) w)
    → AreUncounted (map seen ys) (option_map seen v)
handed-none seen xs w ys v disks swap none = rw (ap (map seen) disks ∙ bare-handed seen xs, ap (option_map seen) swap ∙ swap-handed seen w) none

-- memory lacked before a page was written
pub unwritten : {D : Type 0} (seen : D → DiskSeen) (count : ℕ) (read : Result (List OpenedFile) Refusal) (old new : List (NumberedDisk D)) (how : PlaceStop)
    → open_stop_of how ≡ halt.Memory → PlaceStopped seen count read old new how → new ≡ old
unwritten seen count read old new stop.Memory is p = p
unwritten seen count read old new (stop.Rule n) is p = p.1
unwritten seen count read old new (stop.Fault f) is p = absurd (let z : ◌≡◌ {A = OpenStop} (halt.Failed f) halt.Memory = is in cc)
