-- What follows where answers and history are tied.
use Rattle.std.proofs.Common.{◌≡◌, ℕ, ◌≤◌, ◌||◌, Bool, true, false, cond, List, [], ◌∷◌, ◌++◌}
use Rattle.std.proofs.Common.{Option, Some, None, refl, sym, ap, subst, subst₂, ◌∙◌, append_assoc}
use Rattle.std.proofs.Common.{arith}
use Rattle.std.specs.Prelude.{◌==◌, nat_lt, MatchOption, option_map}
use Rattle.std.proofs.lemmas.Bool.{eq-eqb, eqb-true, eqb-false}
use Rattle.std.proofs.lemmas.List.{append-nil}
use Rattle.flat_model.specs.vm_types.declared.call.Call.{Call}
use Rattle.flat_model.specs.vm_types.declared.call.Call.TheVariants.{Unmap}
use Rattle.flat_model.specs.vm_types.declared.call.Entry.{Entry}
use Rattle.flat_model.specs.vm_types.declared.call.Reply.{Reply}
use Rattle.flat_model.specs.vm_types.declared.call.Reply.TheVariants as reply
use Rattle.flat_model.specs.vm_types.Pages.{page, pages_in}
use Rattle.flat_model.specs.Flat.{Flat}
use Rattle.flat_model.specs.FrameLaws.{StepFrame}
use Rattle.flat_model.specs.History.{replay, Steps}
use Rattle.flat_model.specs.ReachedLaws.{IsReached}
use Rattle.flat_model.specs.Step.{IsStep, step}
use Rattle.flat_model.specs.Told.{entries_of}
use Rattle.flat_model.proofs.Frames.{StepFrame-step}
use Rattle.flat_model.proofs.Histories.{replay-push, Steps-front}
use Rattle.flat_model.proofs.Reached.{IsReached-step, IsReached-replay}
use Rattle.shm_model.specs.declared.acts.How.{How}
use Rattle.shm_model.specs.declared.acts.How.TheVariants as how
use Rattle.shm_model.specs.declared.acts.ShmAct.{ShmAct}
use Rattle.shm_model.specs.declared.acts.ShmAct.TheVariants as act
use Rattle.shm_model.specs.declared.acts.ShmAnswer.{ShmAnswer}
use Rattle.shm_model.specs.declared.acts.ShmAnswer.TheVariants as answer
use Rattle.shm_model.specs.declared.acts.ShmEntry.{ShmEntry}
use Rattle.shm_model.specs.declared.acts.ShmFault.{ShmFault}
use Rattle.shm_model.specs.declared.acts.ShmFault.TheVariants as fault
use Rattle.shm_model.specs.Keys.{ShmSegment, Keys, keys_after, no_keys, with_key, whole_pages}
use Rattle.shm_model.specs.Keys.{most_bytes, found, refused_new, IsMade, IsShmAnswer, keys_after_act}
use Rattle.shm_model.specs.Keys.{keys_after_entry, IsShmLegal}
use Rattle.shm_model.specs.Tied.{Places, ProcessCall, NameObject, make_call, attach_call, is_from_kernel}
use Rattle.shm_model.specs.Tied.{asked_anew, asked_by, Answers, places_after, Tied}
use Rattle.shm_model.specs.TiedLaws.{SegmentsLive, MayKeep}
use Rattle.shm_model.proofs.KeyLaws.{left-from, answered-less}
use Rattle.shm_model.proofs.Segments.{Leaves, live-then, others-leave, make-leaves, unmap-leaves}
use Rattle.shm_model.proofs.Segments.{made_entry, live-made}

none-first : (p : ℕ) (x : Entry) (K : List Entry) → entries_of (x ∷ K) p ≡ []
    → (x.process ≡ p → ⊥) × (entries_of K p ≡ [])
none-first p x K none = by_test (x.process == p) refl none
  where
    by_test : (b : Bool) → (x.process == p) ≡ b → cond b (x ∷ entries_of K p) (entries_of K p) ≡ []
        → (x.process ≡ p → ⊥) × (entries_of K p ≡ [])
    by_test true is empty = absurd cc
    by_test false is empty = (λ same. let yes = eq-eqb x.process p same in absurd cc, empty)

pub tied-longer : (keeper : ℕ) (F : Flat) (S : List ShmEntry) (H K : List Entry) (at : Places)
    → Tied keeper F S H at → entries_of K keeper ≡ [] → Tied keeper F S (H ++ K) at
tied-longer keeper F S H [] at tied none =
    subst (λ L. Tied keeper F S L at) (sym (append-nil H)) tied
tied-longer keeper F S H (x ∷ K) at tied none =
    let first = none-first keeper x K none in
    subst (λ L. Tied keeper F S L at) (append_assoc H (x ∷ []) K)
    (tied-longer keeper F S (H ++ x ∷ []) K at (Tied.beside S H at x tied first.0) first.1)

-- what is said where a key has a segment, and where it has none
pub at-none : {X : Type 0} (o : Option X) (A : Type 0) (B : X → Type 0) → o ≡ None
    → MatchOption o A B → A
at-none o A B is m = subst (λ p. MatchOption p A B) is m

pub at-some : {X : Type 0} (o : Option X) (x : X) (A : Type 0) (B : X → Type 0) → o ≡ Some x
    → MatchOption o A B → B x
at-some o x A B is m = subst (λ p. MatchOption p A B) is m

-- where keys alone answer, no key's segment changes
pub same-keys : (T : Keys) (key : ℕ) (seg : ShmSegment) → T key ≡ Some seg → (k : ℕ)
    → with_key T key (Some record { object = seg.object; len = seg.len }) k ≡ T k
same-keys T key seg is k = by_test (k == key) refl
  where
    by_test : (b : Bool) → (k == key) ≡ b
        → cond b (Some record { object = seg.object; len = seg.len }) (T k) ≡ T k
    by_test true same = let one : k ≡ key = eqb-true k key same in sym (ap T one ∙ is)
    by_test false other = refl

pub found-leaves : (T : Keys) (key len : ℕ) (how : How) (seg : ShmSegment) (r : ShmAnswer) → T key
    ≡ Some seg → r ≡ found seg len how → (k : ℕ) → keys_after_act T (act.Get key len how) r k ≡ T k
found-leaves T key len asked seg r has is k =
    subst (λ a. keys_after_act T (act.Get key len asked) a k ≡ T k) (sym is) (by_how asked)
  where
    by_length : (h : How) (b : Bool)
        → keys_after_act T (act.Get key len h)
        (cond b (answer.Refused fault.BadLength) (answer.Segment seg.object seg.len)) k ≡ T k
    by_length h true = refl
    by_length h false = same-keys T key seg has k

    by_how : (h : How) → keys_after_act T (act.Get key len h) (found seg len h) k ≡ T k
    by_how how.New = refl
    by_how how.Find = by_length how.Find (nat_lt seg.len len)
    by_how how.Create = by_length how.Create (nat_lt seg.len len)

pub answered-leaves : (keeper : ℕ) (T : Keys) (at : Places) (p : ℕ) (a : ShmAct) (r : ShmAnswer)
    → asked_by keeper T at p a r ≡ None → IsShmAnswer T a r → (k : ℕ) → keys_after_act T a r k ≡ T k
answered-leaves keeper T at p (act.Get key len how) r none is k = by_key (T key) refl
  where
    refused : (w : ShmAnswer)
        → cond {A = Option ProcessCall} (is_from_kernel w)
        (Some record { process = keeper; call = make_call len }) None ≡ None
        → keys_after_act T (act.Get key len how) w k ≡ T k
    refused (answer.Segment z l) nope = absurd cc
    refused (answer.Attached z reply) nope = refl
    refused answer.Removed nope = refl
    refused (answer.Refused why) nope = refl

    by_key : (o : Option ShmSegment) → T key ≡ o → keys_after_act T (act.Get key len how) r k ≡ T k
    by_key None has = refused r (subst (λ o. asked_anew keeper o len r ≡ None) has none)
    by_key (Some seg) has = found-leaves T key len how seg r has
        (at-some (T key) seg _ (λ s. r ≡ found s len how) has is) k
answered-leaves keeper T at p (act.Attach key place prot) r none is k = refl
answered-leaves keeper T at p (act.Remove key) r none is k = by_key (T key) refl
  where
    by_key : (o : Option ShmSegment) → T key ≡ o → keys_after_act T (act.Remove key) r k ≡ T k
    by_key None has = subst (λ w. keys_after_act T (act.Remove key) w k ≡ T k)
        (sym (at-none (T key) (r ≡ answer.Refused fault.NoKey) (λ s. r ≡ answer.Removed) has is))
        refl
    by_key (Some seg) has = let asked =
        subst (λ o. option_map {U = ProcessCall}
        (λ (s : ShmSegment). record { process = keeper; call = Unmap (at key) s.len }) o ≡ None) has
        none in absurd cc

-- what is asked of the kernel
pub asked_is : (q x : ProcessCall) → Some q ≡ Some x → q ≡ x
asked_is q x is = cc

-- an entry with these parts
pub same_entry : (x : Entry) (p : ℕ) (call : Call) (r : Reply) → x.process ≡ p → x.call ≡ call
    → x.reply ≡ r → x ≡ record { process = p; call = call; reply = r; cleared = x.cleared }
same_entry x p call r a b c =
    ap (λ (n : ℕ). record { process = n; call = x.call; reply = x.reply; cleared = x.cleared }) a
    ∙ ap (λ (k : Call). record { process = p; call = k; reply = x.reply; cleared = x.cleared }) b
    ∙ ap (λ (y : Reply). record { process = p; call = call; reply = y; cleared = x.cleared }) c

-- the length of a segment that the kernel is asked for
pub not-empty : (len : ℕ) (h : How) → refused_new len h ≡ None → 1 ≤ len
not-empty len how.Find none = absurd cc
not-empty len how.Create none = by_test (len == 0) refl none
  where
    by_test : (b : Bool) → (len == 0) ≡ b
        → cond {A = Option ShmFault} (b || nat_lt most_bytes len) (Some fault.BadLength) None ≡ None
        → 1 ≤ len
    by_test true is nope = absurd cc
    by_test false is nope = omega (arith, eqb-false len 0 is)
not-empty len how.New none = by_test (len == 0) refl none
  where
    by_test : (b : Bool) → (len == 0) ≡ b
        → cond {A = Option ShmFault} (b || nat_lt most_bytes len) (Some fault.BadLength) None ≡ None
        → 1 ≤ len
    by_test true is nope = absurd cc
    by_test false is nope = omega (arith, eqb-false len 0 is)

module _ (keeper : ℕ) (F : Flat) (T : Keys) (at : Places) (x : Entry) (reached : IsReached F)
    (is_step : IsStep F x) (live : SegmentsLive keeper F T at) where
  after : IsReached (step F x)
  after = IsReached-step F x reached is_step

  frame : StepFrame F x (step F x)
  frame = StepFrame-step F x reached.born is_step

  -- the kernel made a segment
  made-live : (key len z l : ℕ) (h : How) → T key ≡ None → x.process ≡ keeper → x.call
      ≡ make_call len → Answers F keeper x (answer.Segment z l)
      → MatchOption (refused_new len h) (IsMade len (answer.Segment z l))
      (λ why. answer.Segment z l ≡ answer.Refused why)
      → SegmentsLive keeper (step F x) (with_key T key (Some record { object = z; len = l }))
      (places_after at (act.Get key len h) x.reply)
  made-live key len z l h none mine call (a, replied, named) made =
      by_length (refused_new len h) refl made
    where
      whole : Entry → ℕ → Type 0
      whole y n = IsStep F y → NameObject (step F y) keeper (page a) (pages_in n) z
          → SegmentsLive keeper (step F y) (with_key T key (Some record { object = z; len = n }))
          (places_after at (act.Get key len h) y.reply)

      is_made : 1 ≤ len → whole (made_entry keeper len a x.cleared) (whole_pages len)
      is_made some stepped names =
          live-made keeper F T at key len a x.cleared z reached
          (StepFrame-step F (made_entry keeper len a x.cleared) reached.born stepped)
          (IsReached-step F (made_entry keeper len a x.cleared) reached stepped) stepped some
          none names live

      by_length : (o : Option ShmFault) → refused_new len h ≡ o
          → MatchOption o (IsMade len (answer.Segment z l))
          (λ why. answer.Segment z l ≡ answer.Refused why)
          → SegmentsLive keeper (step F x) (with_key T key (Some record { object = z; len = l }))
          (places_after at (act.Get key len h) x.reply)
      by_length (Some why) refused is = absurd cc
      by_length None refused is =
          let x_is = same_entry x keeper (make_call len) (reply.Mapped a) mine call replied in
          subst (λ (y : Entry). whole y l) (sym x_is)
          (subst (λ n. whole (made_entry keeper len a x.cleared) n) (sym is)
          (is_made (not-empty len h refused))) is_step named

  pub asked-live : (p : ℕ) (a : ShmAct) (r : ShmAnswer) → (p ≡ keeper → ⊥)
      → asked_by keeper T at p a r ≡ Some record { process = x.process; call = x.call }
      → Answers F keeper x r → IsShmAnswer T a r
      → SegmentsLive keeper (step F x) (keys_after_act T a r) (places_after at a x.reply)
  asked-live p (act.Get key len h) r other asked says is = by_key (T key) refl
    where
      Here : ShmAnswer → Type 0
      Here w = SegmentsLive keeper (step F x) (keys_after_act T (act.Get key len h) w)
          (places_after at (act.Get key len h) x.reply)

      by_answer : (w : ShmAnswer) → T key ≡ None
          → cond {A = Option ProcessCall} (is_from_kernel w)
          (Some record { process = keeper; call = make_call len }) None
          ≡ Some record { process = x.process; call = x.call }
          → Answers F keeper x w
          → MatchOption (refused_new len h) (IsMade len w) (λ why. w ≡ answer.Refused why)
          → Here w
      by_answer (answer.Segment z l) none is_asked answers made =
          let same = asked_is record { process = keeper; call = make_call len }
          record { process = x.process; call = x.call } is_asked in
          made-live key len z l h none (ap (λ (q : ProcessCall). q.process) (sym same))
          (ap (λ (q : ProcessCall). q.call) (sym same)) answers made
      by_answer (answer.Refused (fault.Kernel errno)) none is_asked answers made =
          let same = asked_is record { process = keeper; call = make_call len }
          record { process = x.process; call = x.call } is_asked in
          live-then keeper F (step F x) x T T at (places_after at (act.Get key len h) x.reply) frame
          after
          (λ k s s_is. (
            s_is,
            subst (λ (y : Reply). places_after at (act.Get key len h) y k ≡ at k)
                (sym answers) refl,
            make-leaves keeper x len (page (at k)) (pages_in s.len)
                (ap (λ (q : ProcessCall). q.call) (sym same)),
          )) live
      by_answer (answer.Refused fault.NoKey) none is_asked answers made = absurd cc
      by_answer (answer.Refused fault.Exists) none is_asked answers made = absurd cc
      by_answer (answer.Refused fault.BadLength) none is_asked answers made = absurd cc
      by_answer (answer.Refused fault.NotAttached) none is_asked answers made = absurd cc
      by_answer (answer.Attached z own) none is_asked answers made = absurd cc
      by_answer answer.Removed none is_asked answers made = absurd cc

      by_key : (o : Option ShmSegment) → T key ≡ o
          → SegmentsLive keeper (step F x) (keys_after_act T (act.Get key len h) r)
          (places_after at (act.Get key len h) x.reply)
      by_key None has = by_answer r has
          (subst (λ o. asked_anew keeper o len r
          ≡ Some record { process = x.process; call = x.call }) has asked) says
          (at-none (T key) _ (λ seg. r ≡ found seg len h) has is)
      by_key (Some seg) has = let none =
          subst (λ o. asked_anew keeper o len r
          ≡ Some record { process = x.process; call = x.call }) has asked in absurd cc
  asked-live p (act.Attach key place prot) r other asked says is = by_key (T key) refl
    where
      by_key : (o : Option ShmSegment) → T key ≡ o
          → SegmentsLive keeper (step F x) (keys_after_act T (act.Attach key place prot) r)
          (places_after at (act.Attach key place prot) x.reply)
      by_key None has = let none =
          subst (λ o. option_map {U = ProcessCall}
          (λ (s : ShmSegment). record { process = p; call = attach_call place prot s }) o
          ≡ Some record { process = x.process; call = x.call }) has asked in absurd cc
      by_key (Some seg) has =
          let same = asked_is record { process = p; call = attach_call place prot seg }
          record { process = x.process; call = x.call }
          (subst (λ o. option_map {U = ProcessCall}
          (λ (s : ShmSegment). record { process = p; call = attach_call place prot s }) o
          ≡ Some record { process = x.process; call = x.call }) has asked) in
          let whose : p ≡ x.process = ap (λ (q : ProcessCall). q.process) same in
          live-then keeper F (step F x) x T T at
          (places_after at (act.Attach key place prot) x.reply) frame after
          (λ k s s_is. (
            s_is,
            refl,
            others-leave keeper x (page (at k)) (pages_in s.len)
                (λ own. other (whose ∙ own)),
          )) live
  asked-live p (act.Remove key) r other asked says is = by_key (T key) refl
    where
      by_key : (o : Option ShmSegment) → T key ≡ o
          → SegmentsLive keeper (step F x) (keys_after_act T (act.Remove key) r)
          (places_after at (act.Remove key) x.reply)
      by_key None has = let none =
          subst (λ o. option_map {U = ProcessCall}
          (λ (s : ShmSegment). record { process = keeper; call = Unmap (at key) s.len }) o
          ≡ Some record { process = x.process; call = x.call }) has asked in absurd cc
      by_key (Some seg) has =
          let same = asked_is record { process = keeper; call = Unmap (at key) seg.len }
          record { process = x.process; call = x.call }
          (subst (λ o. option_map {U = ProcessCall}
          (λ (s : ShmSegment). record { process = keeper; call = Unmap (at key) s.len }) o
          ≡ Some record { process = x.process; call = x.call }) has asked) in
          let call : x.call ≡ Unmap (at key) seg.len = ap (λ (q : ProcessCall). q.call) (sym same) in
          let removed : r ≡ answer.Removed =
          at-some (T key) seg (r ≡ answer.Refused fault.NoKey) (λ s. r ≡ answer.Removed) has
          is in
          subst (λ w. SegmentsLive keeper (step F x) (keys_after_act T (act.Remove key) w)
          (places_after at (act.Remove key) x.reply)) (sym removed)
          (live-then keeper F (step F x) x T (with_key T key None) at
          (places_after at (act.Remove key) x.reply) frame after
          (λ k s s_is. left k s (k == key) refl call s_is) live)
        where
          left : (k : ℕ) (s : ShmSegment) (b : Bool) → (k == key) ≡ b → x.call ≡ Unmap (at key) seg.len
              → cond b None (T k) ≡ Some s → (T k ≡ Some s) × (at k ≡ at k)
              × Leaves keeper x (page (at k)) (pages_in s.len)
          left k s true same_key call s_is = absurd cc
          left k s false other_key call s_is = (
            s_is,
            refl,
            unmap-leaves keeper F x T at key k seg s live has s_is
                (λ one. eqb-false k key other_key one) call,
          )

-- all keys have the same segments
pub same-live : (keeper : ℕ) (G : Flat) (T U : Keys) (at : Places) → ((k : ℕ) → U k ≡ T k)
    → SegmentsLive keeper G T at → SegmentsLive keeper G U at
same-live keeper G T U at same live = record {
  kept = λ k seg is. live.kept k seg (sym (same k) ∙ is);
  apart = λ k l s t s_is t_is one. live.apart k l s t (sym (same k) ∙ s_is) (sym (same l) ∙ t_is)
      one;
}

pub segments-live : (keeper : ℕ) (F : Flat) (S : List ShmEntry) (H : List Entry) (at : Places)
    → MayKeep keeper F → Tied keeper F S H at → IsShmLegal S → Steps F H
    → SegmentsLive keeper (replay F H) (keys_after S) at
segments-live keeper F _ _ _ may (Tied.opened at) legal steps =
    record { kept = λ key seg is. absurd cc; apart = λ k l s t s_is t_is same. absurd cc }
segments-live keeper F _ _ _ may (Tied.beside S H at x tied other) legal steps =
    let both = Steps-front F H x steps in
    let reached = IsReached-replay F H may.reached both.0 in
    let was = segments-live keeper F S H at may tied legal both.0 in
    subst (λ G. SegmentsLive keeper G (keys_after S) at) (sym (replay-push F H x))
    (live-then keeper (replay F H) (step (replay F H) x) x (keys_after S) (keys_after S) at at
    (StepFrame-step (replay F H) x reached.born both.1)
    (IsReached-step (replay F H) x reached both.1)
    (λ k s s_is. (s_is, refl, others-leave keeper x (page (at k)) (pages_in s.len) other)) was)
segments-live keeper F _ _ _ may (Tied.answered S H at e tied none) legal steps =
    let both = answered-less no_keys S e legal in
    let was = segments-live keeper F S H at may tied both.0 steps in
    subst (λ T. SegmentsLive keeper (replay F H) T at) (sym (left-from no_keys S e))
    (same-live keeper (replay F H) (keys_after S) (keys_after_entry (keys_after S) e) at
    (answered-leaves keeper (keys_after S) at e.process e.act e.answer none both.1) was)
segments-live keeper F _ _ _ may (Tied.asked S H at e x tied other is_asked says) legal steps =
    let whole = answered-less no_keys S e legal in
    let both = Steps-front F H x steps in
    let reached = IsReached-replay F H may.reached both.0 in
    let was = segments-live keeper F S H at may tied whole.0 both.0 in
    subst₂ (λ (G : Flat) (T : Keys). SegmentsLive keeper G T (places_after at e.act x.reply))
    (sym (replay-push F H x)) (sym (left-from no_keys S e))
    (asked-live keeper (replay F H) (keys_after S) at x reached both.1 was e.process e.act e.answer
    other is_asked says whole.1)
