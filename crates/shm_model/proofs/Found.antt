-- An Attach of a segment that lives is never answered that there is no such object.
use Rattle.std.proofs.Common.{◌≡◌, ℕ, ◌+◌, ◌*◌, Bool, true, false, cond, List, [], ◌∷◌, ◌++◌}
use Rattle.std.proofs.Common.{Option, Some, None, Result, Ok, Err, refl, sym, ap, subst, ◌∙◌}
use Rattle.std.specs.Prelude.{is_some, nat_le, nat_lt, ok_or, IsSome, MatchOption, option_map}
use Rattle.std.specs.FinMap as map
use Rattle.std.specs.List.{AllByRecursion}
use Rattle.flat_model.specs.vm_types.declared.call.Entry.{Entry}
use Rattle.flat_model.specs.vm_types.declared.call.Errno.{Errno}
use Rattle.flat_model.specs.vm_types.declared.call.Errno.TheVariants as errno
use Rattle.flat_model.specs.vm_types.declared.call.Kind.TheVariants.{Shared}
use Rattle.flat_model.specs.vm_types.declared.call.Object.TheVariants as object
use Rattle.flat_model.specs.vm_types.declared.call.Place.{Place}
use Rattle.flat_model.specs.vm_types.declared.call.Reply.{Reply}
use Rattle.flat_model.specs.vm_types.declared.call.Reply.TheVariants as reply
use Rattle.flat_model.specs.vm_types.declared.prot.Prot.{Prot}
use Rattle.flat_model.specs.vm_types.Pages.{pages_in, page_size}
use Rattle.flat_model.specs.vm_types.Prot.{is_within}
use Rattle.flat_model.specs.Flat.{Flat, reserved}
use Rattle.flat_model.specs.History.{replay, Steps}
use Rattle.flat_model.specs.Mapping.{Request, cells_of, is_valid, is_there, max_of}
use Rattle.flat_model.specs.Mapping.{without_replaced, first_page, with_mapping, map_result}
use Rattle.flat_model.specs.Refusals.{◌>>=◌, ◌>>◌, check, or_refused}
use Rattle.flat_model.specs.Step.{IsStep, tails_cleared, is_bit_set}
use Rattle.flat_model.proofs.Histories.{Steps-front}
use Rattle.shm_model.specs.declared.acts.How.{How}
use Rattle.shm_model.specs.declared.acts.How.TheVariants as how
use Rattle.shm_model.specs.declared.acts.ShmAct.{ShmAct}
use Rattle.shm_model.specs.declared.acts.ShmAct.TheVariants as act
use Rattle.shm_model.specs.declared.acts.ShmAnswer.{ShmAnswer}
use Rattle.shm_model.specs.declared.acts.ShmAnswer.TheVariants as answer
use Rattle.shm_model.specs.declared.acts.ShmEntry.{ShmEntry}
use Rattle.shm_model.specs.declared.acts.ShmFault.{ShmFault}
use Rattle.shm_model.specs.declared.acts.ShmFault.TheVariants as fault
use Rattle.shm_model.specs.Keys.{ShmSegment, Keys, keys_after, no_keys, found, refused_new, IsMade}
use Rattle.shm_model.specs.Keys.{IsShmAnswer, AnswersAttach, IsShmLegal}
use Rattle.shm_model.specs.Tied.{Places, ProcessCall, asked_by, attach_call, Answers, Tied}
use Rattle.shm_model.specs.TiedLaws.{MayKeep, IsNoObject, TiedLaws}
use Rattle.shm_model.proofs.KeyLaws.{answered-less}
use Rattle.shm_model.proofs.Tied.{asked_is, same_entry, tied-longer, segments-live}

abbrev Mapping : Type 0
Mapping = Result (ℕ × Flat) Errno

-- a test that isn't refused with this errno
passed : (b : Bool) (e d : Errno) (rest : Mapping) → (e ≡ d → ⊥) → (check b e >> rest) ≡ Err d
    → rest ≡ Err d
passed true e d rest other is = is
passed false e d rest other is = let same : e ≡ d = err_inj e d is in absurd (other same)
  where
    err_inj : (x y : Errno) → ◌≡◌ {A = Mapping} (Err x) (Err y) → x ≡ y
    err_inj x y both = cc

-- a Map of an object that is there isn't refused for want of it
pub not-missing : (G : Flat) (p : ℕ) (r : Request) → is_there G r.object ≡ true → map_result G p r
    ≡ Err errno.NoObject → ⊥
unfolding map_result
not-missing G p r there is =
    let n = pages_in r.len in
    let space = cells_of (without_replaced G p r.place n) p in
    let last : ℕ → Mapping =
    λ x. check (nat_le (reserved (with_mapping G p r x)) G.slots) errno.NoSwap >> Ok
    (x, with_mapping G p r x) in
    let fifth : Mapping = ok_or (first_page space r.place n) errno.NoRoom >>= last in
    let fourth : Mapping = check (nat_le (map.len space + n) 65536) errno.TooLarge >> fifth in
    let third : Mapping = check (is_within r.prot (max_of G r.kind r.object)) errno.Access >>
    fourth in
    let second : Mapping = check (is_there G r.object) errno.NoObject >> third in
    let a = passed (is_valid r) errno.Invalid errno.NoObject second (λ same. absurd cc) is in
    let b : third ≡ Err errno.NoObject =
    subst (λ t. ◌≡◌ {A = Mapping} (check t errno.NoObject >> third) (Err errno.NoObject)) there
    a in
    let c = passed (is_within r.prot (max_of G r.kind r.object)) errno.Access errno.NoObject fourth
    (λ same. absurd cc) b in
    let d = passed (nat_le (map.len space + n) 65536) errno.TooLarge errno.NoObject fifth
    (λ same. absurd cc) c in
    by_room (first_page space r.place n) last
    (λ x. by_slots (nat_le (reserved (with_mapping G p r x)) G.slots) x (with_mapping G p r x))
    d
  where
    by_slots : (b : Bool) (x : ℕ) (K : Flat)
        → ◌≡◌ {A = Mapping} (check b errno.NoSwap >> Ok (x, K)) (Err errno.NoObject) → ⊥
    by_slots true x K same = absurd cc
    by_slots false x K same = absurd cc

    by_room : (o : Option ℕ) (last : ℕ → Mapping) → ((x : ℕ) → last x ≡ Err errno.NoObject → ⊥)
        → ◌≡◌ {A = Mapping} (ok_or o errno.NoRoom >>= last) (Err errno.NoObject) → ⊥
    by_room None last never same = absurd cc
    by_room (Some x) last never same = never x same

some-is : {X : Type 0} (o : Option X) → IsSome o → is_some o ≡ true
some-is None is = absurd cc
some-is (Some x) is = refl

-- an Attach of an object that is there
pub attach-found : (F : Flat) (x : Entry) (place : Place) (prot : Prot) (seg : ShmSegment) → IsStep F x
    → x.call ≡ attach_call place prot seg → IsSome (map.get F.zeros seg.object) → x.reply
    ≡ reply.Refused errno.NoObject → ⊥
attach-found F x place prot seg stepped call there bad =
    let x_is = same_entry x x.process (attach_call place prot seg) (reply.Refused errno.NoObject)
    refl call bad in
    by_result (map_result G x.process r) refl (subst (λ (y : Entry). IsStep F y) x_is stepped).due
  where
    G : Flat
    G = tails_cleared F (is_bit_set x.cleared)

    r : Request
    r = record {
      place = place;
      len = seg.len;
      prot = prot;
      kind = Shared;
      object =
          object.Zero seg.object;
      offset = 0;
    }

    by_result : (m : Mapping) → map_result G x.process r ≡ m
        → (or_refused G (λ n. record { reply = reply.Mapped (page_size * n.0); after = n.1 })
        m).reply ≡ reply.Refused errno.NoObject → ⊥
    by_result (Ok m) is due = absurd cc
    by_result (Err e) is due = let same : e ≡ errno.NoObject = cc in
        not-missing G x.process r (some-is (map.get F.zeros seg.object) there)
        (is ∙ ap (λ y. Err y) same)

-- only a question of a key that has a segment is answered Attached
pub record AttachesKey (T : Keys) (a : ShmAct) : Type 0 where
  pub key : ℕ
  pub place : Place
  pub prot : Prot
  pub seg : ShmSegment
  pub is : a ≡ act.Attach key place prot
  pub has : T key ≡ Some seg

pub attaches-key : (T : Keys) (a : ShmAct) (z : ℕ) (own : Reply)
    → IsShmAnswer T a (answer.Attached z own) → AttachesKey T a
attaches-key T (act.Get key len h) z own is = by_key (T key) is
  where
    by_found : (seg : ShmSegment) (g : How) → answer.Attached z own ≡ found seg len g → ⊥
    by_found seg how.New same = absurd cc
    by_found seg how.Find same = by_test (nat_lt seg.len len) same
      where
        by_test : (b : Bool) → answer.Attached z own
            ≡ cond b (answer.Refused fault.BadLength) (answer.Segment seg.object seg.len) → ⊥
        by_test true one = absurd cc
        by_test false one = absurd cc
    by_found seg how.Create same = by_test (nat_lt seg.len len) same
      where
        by_test : (b : Bool) → answer.Attached z own
            ≡ cond b (answer.Refused fault.BadLength) (answer.Segment seg.object seg.len) → ⊥
        by_test true one = absurd cc
        by_test false one = absurd cc

    by_new : (o : Option ShmFault)
        → MatchOption o (IsMade len (answer.Attached z own))
        (λ why. answer.Attached z own ≡ answer.Refused why) → ⊥
    by_new None made = made
    by_new (Some why) same = absurd cc

    by_key : (o : Option ShmSegment)
        → MatchOption o (MatchOption (refused_new len h) (IsMade len (answer.Attached z own))
        (λ why. answer.Attached z own ≡ answer.Refused why))
        (λ seg. answer.Attached z own ≡ found seg len h) → AttachesKey T (act.Get key len h)
    by_key None new = absurd (by_new (refused_new len h) new)
    by_key (Some seg) same = absurd (by_found seg h same)
attaches-key T (act.Attach key place prot) z own is = by_key (T key) refl is
  where
    by_key : (o : Option ShmSegment) → T key ≡ o
        → MatchOption o (answer.Attached z own ≡ answer.Refused fault.NoKey)
        (λ seg. AnswersAttach seg (answer.Attached z own)) → AttachesKey T (act.Attach key place prot)
    by_key None has same = absurd cc
    by_key (Some seg) has same =
        record { key = key; place = place; prot = prot; seg = seg; is = refl; has = has }
attaches-key T (act.Remove key) z own is = by_key (T key) is
  where
    by_key : (o : Option ShmSegment)
        → MatchOption o (answer.Attached z own ≡ answer.Refused fault.NoKey)
        (λ seg. answer.Attached z own ≡ answer.Removed) → AttachesKey T (act.Remove key)
    by_key None same = absurd cc
    by_key (Some seg) same = absurd cc

abbrev IsFound : ShmEntry → Type 0
IsFound e = IsNoObject e.answer → ⊥

found-push : (S : List ShmEntry) (e : ShmEntry) → AllByRecursion IsFound S → IsFound e
    → AllByRecursion IsFound (S ++ e ∷ [])
found-push [] e all is = (is, tt)
found-push (d ∷ S) e all is = (all.0, found-push S e all.1 is)

-- what the answer of an Attach would have to be
bad-reply : (r : ShmAnswer) → IsNoObject r → (z : ℕ) × (own : Reply) × (r ≡ answer.Attached z own)
    × (own ≡ reply.Refused errno.NoObject)
bad-reply (answer.Attached z own) bad = (z, own, refl, bad)
bad-reply (answer.Segment z l) bad = absurd bad
bad-reply answer.Removed bad = absurd bad
bad-reply (answer.Refused why) bad = absurd bad

pub all-found : (keeper : ℕ) (F : Flat) (S : List ShmEntry) (H : List Entry) (at : Places)
    → MayKeep keeper F → Tied keeper F S H at → IsShmLegal S → Steps F H → AllByRecursion IsFound S
all-found keeper F _ _ _ may (Tied.opened at) legal steps = tt
all-found keeper F _ _ _ may (Tied.beside S H at x tied other) legal steps =
    all-found keeper F S H at may tied legal (Steps-front F H x steps).0
all-found keeper F _ _ _ may (Tied.answered S H at e tied none) legal steps =
    let both = answered-less no_keys S e legal in
    found-push S e (all-found keeper F S H at may tied both.0 steps) (λ bad.
    let b = bad-reply e.answer bad in
    let k = attaches-key (keys_after S) e.act b.0 b.1
    (subst (λ w. IsShmAnswer (keys_after S) e.act w) b.2 both.1) in
    let asks : option_map {U = ProcessCall}
    (λ seg. record { process = e.process; call = attach_call k.place k.prot seg })
    (keys_after S k.key) ≡ None =
    subst (λ a. asked_by keeper (keys_after S) at e.process a e.answer ≡ None) k.is none in
    let asks_too : Some record { process = e.process; call = attach_call k.place k.prot k.seg }
    ≡ None = subst (λ o. option_map {U = ProcessCall}
    (λ seg. record { process = e.process; call = attach_call k.place k.prot seg }) o ≡ None)
    k.has asks in
    absurd cc)
all-found keeper F _ _ _ may (Tied.asked S H at e x tied other is_asked says) legal steps =
    let whole = answered-less no_keys S e legal in
    let both = Steps-front F H x steps in
    found-push S e (all-found keeper F S H at may tied whole.0 both.0) (λ bad.
    let live = segments-live keeper F S H at may tied whole.0 both.0 in
    let b = bad-reply e.answer bad in
    let k = attaches-key (keys_after S) e.act b.0 b.1
    (subst (λ w. IsShmAnswer (keys_after S) e.act w) b.2 whole.1) in
    let asks : option_map {U = ProcessCall}
    (λ seg. record { process = e.process; call = attach_call k.place k.prot seg })
    (keys_after S k.key) ≡ Some record { process = x.process; call = x.call } =
    subst (λ a. asked_by keeper (keys_after S) at e.process a e.answer
    ≡ Some record { process = x.process; call = x.call }) k.is is_asked in
    let one = asked_is record { process = e.process; call = attach_call k.place k.prot k.seg }
    record { process = x.process; call = x.call }
    (subst (λ o. option_map {U = ProcessCall}
    (λ seg. record { process = e.process; call = attach_call k.place k.prot seg }) o
    ≡ Some record { process = x.process; call = x.call }) k.has asks) in
    let says_too : x.reply ≡ b.1 =
    subst (λ w. Answers (replay F H) keeper x w) b.2 says in
    attach-found (replay F H) x k.place k.prot k.seg both.1 (ap (λ (q : ProcessCall). q.call) (sym one))
    (live.kept k.key k.seg k.has).there (says_too ∙ b.3))

pub tied_law : TiedLaws
tied_law = record { longer = tied-longer; live = segments-live; found = all-found }
