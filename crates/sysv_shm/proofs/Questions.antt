-- What a question leaves.
use Rattle.std.proofs.Common.{◌≡◌, ℕ, ◌+◌, ◌<◌, ◌≤◌, Bool, true, false, cond, List, [], ◌∷◌, ◌++◌}
use Rattle.std.proofs.Common.{length, Option, Some, None, refl, sym, ap, ap₂, subst, subst₂, ◌∙◌}
use Rattle.std.proofs.Common.{◌||◌, arith}
use Rattle.std.specs.Prelude.{◌==◌, nat_lt, MatchOption, option_map}
use Rattle.shm_model.specs.flat_model.vm_types.declared.call.Call.{Call}
use Rattle.shm_model.specs.flat_model.vm_types.declared.call.Call.TheVariants.{Unmap}
use Rattle.shm_model.specs.flat_model.vm_types.declared.call.Place.{Place}
use Rattle.shm_model.specs.flat_model.vm_types.declared.prot.Prot.{Prot}
use Rattle.shm_model.specs.flat_model.vm_types.declared.call.Entry.{Entry}
use Rattle.shm_model.specs.flat_model.vm_types.declared.call.Reply.{Reply}
use Rattle.shm_model.specs.flat_model.Flat.{Flat}
use Rattle.shm_model.specs.flat_model.History.{replay}
use Rattle.shm_model.specs.flat_model.Step.{step}
use Rattle.shm_model.specs.flat_model.Told.{entries_of}
use Rattle.shm_model.specs.flat_model.vm_types.Pages.{page, pages_in}
use Rattle.shm_model.specs.declared.acts.How.{How}
use Rattle.shm_model.specs.declared.acts.How.TheVariants as how
use Rattle.shm_model.specs.declared.acts.ShmAct.{ShmAct}
use Rattle.shm_model.specs.declared.acts.ShmAct.TheVariants as act
use Rattle.shm_model.specs.declared.acts.ShmAnswer.{ShmAnswer}
use Rattle.shm_model.specs.declared.acts.ShmAnswer.TheVariants as answer
use Rattle.shm_model.specs.declared.acts.ShmEntry.{ShmEntry}
use Rattle.shm_model.specs.declared.acts.ShmFault.{ShmFault}
use Rattle.shm_model.specs.declared.acts.ShmFault.TheVariants as fault
use Rattle.shm_model.specs.Keys.{ShmSegment, Keys, keys_after, no_keys, keys_after_act, most_bytes}
use Rattle.shm_model.specs.Keys.{found, refused_new, IsMade, AnswersAttach, IsShmAnswer}
use Rattle.shm_model.specs.Tied.{Places, ProcessCall, NameObject, make_call, attach_call}
use Rattle.shm_model.specs.Tied.{asked_anew, asked_by, Answers, places_after, Tied}
use Rattle.shm_model.proofs.KeyLaws.{left-from, answered-more}
use Rattle.shm_model.proofs.Tied.{tied-longer, answered-leaves}
use Rattle.sysv_shm.specs.declared.maker.Made.{Made}
use Rattle.sysv_shm.specs.Makers.{SameStarts, MakerSeen, UserSeen, SeesOthers, SeesEntry}
use Rattle.sysv_shm.specs.Makers.{UnmakesSegment, AttachesSegment, segment_of}
use Rattle.sysv_shm.specs.Slots.{SlotsSeen, kept_at, with_slot}
use Rattle.sysv_shm.specs.Shm.{is_spent, spent_by, line_room, questions_left, AreAt, IsShm, Unasked}
use Rattle.sysv_shm.specs.Shm.{AskedNew, Gets, Removes, AttachesKey}
use Rattle.sysv_shm.proofs.Lines.{left-no_more, one-left, asker-low}

asked-same : (keeper : ℕ) (call : Call) (x : Entry) → x.process ≡ keeper → x.call ≡ call
    → ◌≡◌ {A = Option ProcessCall} (Some record { process = keeper; call = call })
    (Some record { process = x.process; call = x.call })
asked-same keeper call x process is =
    ap₂ (λ (n : ℕ) (c : Call). Some record { process = n; call = c }) (sym process) (sym is)

-- what isn't asked for was not refused by the kernel
unasked-refusal : (keeper len : ℕ) (h : How) (why : ShmFault) → refused_new len h ≡ Some why
    → asked_anew keeper None len (answer.Refused why) ≡ None
unasked-refusal keeper len how.Find why is = let same : fault.NoKey ≡ why = cc in
    subst (λ w. asked_anew keeper None len (answer.Refused w) ≡ None) same refl
unasked-refusal keeper len how.Create why is = by_test ((len == 0) || nat_lt most_bytes len) is
  where
    by_test : (b : Bool) → cond {A = Option ShmFault} b (Some fault.BadLength) None ≡ Some why
        → asked_anew keeper None len (answer.Refused why) ≡ None
    by_test true here = let same : fault.BadLength ≡ why = cc in
        subst (λ w. asked_anew keeper None len (answer.Refused w) ≡ None) same refl
    by_test false here = absurd cc
unasked-refusal keeper len how.New why is = by_test ((len == 0) || nat_lt most_bytes len) is
  where
    by_test : (b : Bool) → cond {A = Option ShmFault} b (Some fault.BadLength) None ≡ Some why
        → asked_anew keeper None len (answer.Refused why) ≡ None
    by_test true here = let same : fault.BadLength ≡ why = cc in
        subst (λ w. asked_anew keeper None len (answer.Refused w) ≡ None) same refl
    by_test false here = absurd cc

module _ {M : Type 0} (look : M → MakerSeen) (starts : M → Flat → Type 0) where
  -- entries of others were seen, and nothing else changed
  pub others-keep : (old new : M) (slots then : SlotsSeen) (S : List ShmEntry) (lines : List ℕ)
      → IsShm look starts old slots S lines → SameStarts (starts old) (starts new)
      → SeesOthers (look old) (look new)
      → ((k : ℕ) → kept_at then k ≡ kept_at slots k) → IsShm look starts new then S lines
  others-keep old new slots then S lines was same others kept = record {
    legal = was.legal;
    table = λ k. ap (option_map segment_of) (kept k) ∙ was.table k;
    tied = λ F start.
        let t = was.tied F ((same F).1 start) in (
          t.0,
          subst (λ keeper. Tied keeper F S (look new).seen t.0) (sym others.keeper)
              (subst (λ H. Tied (look old).keeper F S H t.0) (sym others.seen)
              (tied-longer (look old).keeper F S (look old).seen others.more t.0 t.1
              others.none)),
          λ k made is. t.2 k made (sym (kept k) ∙ is),
        );
    room = subst (λ n. questions_left lines S ≤ n) (sym others.room) was.room;
    apart = subst (λ n. length lines < n) (sym others.keeper) was.apart;
  }

  -- a question that the keys alone answer
  pub unasked-keep : (old : M) (slots : SlotsSeen) (S : List ShmEntry) (lines : List ℕ) (p : ℕ)
      (a : ShmAct) (r : ShmAnswer) → IsShm look starts old slots S lines
      → IsShmAnswer (keys_after S) a r
      → ((at : Places) → asked_by (look old).keeper (keys_after S) at p a r ≡ None)
      → IsShm look starts old slots (S ++ record { process = p; act = a; answer = r } ∷ [])
      lines
  unasked-keep old slots S lines p a r was due none =
      let e : ShmEntry = record { process = p; act = a; answer = r } in
      record {
        legal = answered-more no_keys S e was.legal due;
        table = λ k. was.table k
            ∙ sym (answered-leaves (look old).keeper (keys_after S) (λ key. 0) p a r
            (none (λ key. 0)) due k) ∙ ap (λ (T : Keys). T k) (sym (left-from no_keys S e));
        tied = λ F start. let t = was.tied F start in
            (t.0, Tied.answered S (look old).seen t.0 e t.1 (none t.0), t.2);
        room = let less = left-no_more 1 lines S e in let room = was.room in
            omega (arith, less, room);
        apart = was.apart;
      }

  -- a question that is asked of the kernel
  pub asked-keep : (old new : M) (slots then : SlotsSeen) (S : List ShmEntry) (lines : List ℕ)
      (p spent : ℕ) (a : ShmAct) (r : ShmAnswer) (x : Entry) → IsShm look starts old slots S lines
      → SameStarts (starts old) (starts new) → (one : SeesEntry (look old) (look new) spent x)
      → (p ≡ (look old).keeper → ⊥) → IsShmAnswer (keys_after S) a r
      → ((at : Places) → AreAt slots at → asked_by (look old).keeper (keys_after S) at p a r
      ≡ Some record { process = x.process; call = x.call })
      → ((F : Flat) → starts old F
      → Answers (replay F ((look old).seen ++ one.before)) (look old).keeper x r)
      → ((k : ℕ) → option_map segment_of (kept_at then k) ≡ keys_after_act (keys_after S) a r k)
      → ((at : Places) → AreAt slots at → AreAt then (places_after at a x.reply))
      → questions_left lines (S ++ record { process = p; act = a; answer = r } ∷ []) + spent ≤
      questions_left lines S
      → IsShm look starts new then (S ++ record { process = p; act = a; answer = r } ∷ []) lines
  asked-keep old new slots then S lines p spent a r x was same one other due is_asked answers table
      places room_left =
      let e : ShmEntry = record { process = p; act = a; answer = r } in
      let keeper = (look old).keeper in
      record {
        legal = answered-more no_keys S e was.legal due;
        table = λ k. table k ∙ ap (λ (T : Keys). T k) (sym (left-from no_keys S e));
        tied = λ F start.
            let begun = (same F).1 start in
            let t = was.tied F begun in
            let before = tied-longer keeper F S (look old).seen one.before t.0 t.1
            one.none_before in
            let here = Tied.asked S ((look old).seen ++ one.before) t.0 e x before other
            (is_asked t.0 t.2) (answers F begun) in
            let at = places_after t.0 a x.reply in
            let after = tied-longer keeper F (S ++ e ∷ [])
            (((look old).seen ++ one.before) ++ x ∷ []) one.after at here one.none_after in (
              at,
              subst (λ k. Tied k F (S ++ e ∷ []) (look new).seen at) (sym one.keeper)
                  (subst (λ H. Tied keeper F (S ++ e ∷ []) H at) (sym one.seen) after),
              places t.0 t.2,
            );
        room = let had = was.room in let spends = one.room in let left = room_left in
            omega (arith, had, spends, left);
        apart = subst (λ n. length lines < n) (sym one.keeper) was.apart;
      }

  module _ (old new : M) (slots then : SlotsSeen) (S : List ShmEntry) (lines : List ℕ) (p : ℕ)
      (was : IsShm look starts old slots S lines) (same : SameStarts (starts old) (starts new))
    where
      has-key : (key : ℕ) (o : Option Made) → kept_at slots key ≡ o → keys_after S key
          ≡ option_map segment_of o
      has-key key o is = sym (was.table key) ∙ ap (option_map segment_of) is

      -- what is due where it is known which segment the key has
      due-at : (key : ℕ) (o : Option ShmSegment) (A : Type 0) (B : ShmSegment → Type 0)
          → keys_after S key ≡ o → MatchOption o A B → MatchOption (keys_after S key) A B
      due-at key o A B is m = subst (λ q. MatchOption q A B) (sym is) m

      -- nothing was asked of the kernel
      pub unasked-then : (a : ShmAct) (r : ShmAnswer) → Unasked look starts old new slots then
          → IsShmAnswer (keys_after S) a r
          → ((at : Places) → asked_by (look old).keeper (keys_after S) at p a r ≡ None)
          → IsShm look starts new then (S ++ record { process = p; act = a; answer = r } ∷ []) lines
      unasked-then a r un due none =
          subst (λ m. IsShm look starts m then (S ++ record { process = p; act = a; answer = r } ∷ [])
          lines) (sym un.maker)
          (subst (λ s. IsShm look starts old s (S ++ record { process = p; act = a; answer = r } ∷ [])
          lines) (sym un.slots_same) (unasked-keep old slots S lines p a r was due none))

      pub got-keeps : (key len : ℕ) (h : How) (r : ShmAnswer) → (p ≡ (look old).keeper → ⊥)
          → questions_left lines (S
          ++ record { process = p; act = act.Get key len h; answer = r } ∷ []) + 1 ≤ questions_left
          lines S
          → Gets look starts old new slots then key len h r
          → IsShm look starts new then
          (S ++ record { process = p; act = act.Get key len h; answer = r } ∷ []) lines
          × IsShmAnswer (keys_after S) (act.Get key len h) r
      got-keeps key len h r other left gets = by_slot (kept_at slots key) refl gets
        where
          Due : ShmAnswer → Option ShmSegment → Type 0
          Due w o = MatchOption o (MatchOption (refused_new len h) (IsMade len w)
              (λ why. w ≡ answer.Refused why)) (λ seg. w ≡ found seg len h)

          Kept : ShmAnswer → Type 0
          Kept w = IsShm look starts new then
              (S ++ record { process = p; act = act.Get key len h; answer = w } ∷ []) lines
              × Due w (keys_after S key)

          by_slot : (o : Option Made) → kept_at slots key ≡ o
              → MatchOption o (MatchOption (refused_new len h)
              (AskedNew look starts old new slots then key len r)
              (λ why. (r ≡ answer.Refused why) × Unasked look starts old new slots then))
              (λ made. (r ≡ found (segment_of made) len h)
              × Unasked look starts old new slots then)
              → Kept r
          by_slot (Some made) is got =
              let has = has-key key (Some made) is in
              let due : IsShmAnswer (keys_after S) (act.Get key len h) r =
              due-at key (Some (segment_of made))
              (MatchOption (refused_new len h) (IsMade len r) (λ why. r ≡ answer.Refused why))
              (λ seg. r ≡ found seg len h) has got.0 in (
                unasked-then (act.Get key len h) r got.1 due
                    (λ at. subst (λ o. asked_anew (look old).keeper o len r ≡ None) (sym has) refl),
                due,
              )
          by_slot None is got = by_why (refused_new len h) refl got
            where
              has : keys_after S key ≡ None
              has = has-key key None is

              -- a new segment
              made-one : (w : ShmAnswer) → w ≡ r → refused_new len h ≡ None
                  → AskedNew look starts old new slots then key len w → Kept w
              made-one (answer.Segment z l) w_is none (made, makes, z_is, l_is, kept) =
                  let due : IsShmAnswer (keys_after S) (act.Get key len h) (answer.Segment z l) =
                  due-at key None (MatchOption (refused_new len h) (IsMade len (answer.Segment z l))
                  (λ why. answer.Segment z l ≡ answer.Refused why))
                  (λ seg. answer.Segment z l ≡ found seg len h) has
                  (subst (λ o. MatchOption o (IsMade len (answer.Segment z l))
                  (λ why. answer.Segment z l ≡ answer.Refused why)) (sym none)
                  (l_is ∙ makes.answers.1)) in (
                    asked-keep old new slots then S lines p 1 (act.Get key len h) (answer.Segment z l)
                        makes.x was same makes.one other due
                        (λ at are. subst (λ o. asked_anew (look old).keeper o len (answer.Segment z l)
                        ≡ Some record { process = makes.x.process; call = makes.x.call })
                        (sym has) (asked-same (look old).keeper (make_call len) makes.x
                        makes.process makes.call))
                        (λ F start.
                        let H = (look old).seen ++ makes.one.before in (
                          made.addr,
                          makes.answers.0,
                          subst₂
                              (λ n y. NameObject (step (replay F H) makes.x) (look old).keeper
                              (page made.addr) (pages_in n) y)
                              (sym l_is) (sym z_is) (makes.answers.2 F start),
                        ))
                        (λ k. ap (option_map segment_of) (kept k) ∙ by_test k (k == key) refl)
                        (λ at are k found_made found_is. subst
                        (λ y. places_after at (act.Get key len h) y k ≡ found_made.addr)
                        (sym makes.answers.0) (placed at are k found_made (k == key) refl
                        (sym (kept k) ∙ found_is)))
                        (subst (λ v. questions_left lines
                        (S ++ record { process = p; act = act.Get key len h; answer = v } ∷ []) +
                        1 ≤ questions_left lines S) (sym w_is) left),
                    due,
                  )
                where
                  by_test : (k : ℕ) (b : Bool) → (k == key) ≡ b
                      → option_map segment_of (cond b (Some made) (kept_at slots k))
                      ≡ cond b (Some record { object = z; len = l }) (keys_after S k)
                  by_test k true is_key = ap₂ (λ y n. Some record { object = y; len = n }) (sym z_is)
                      (sym l_is)
                  by_test k false is_key = was.table k

                  placed : (at : Places) → AreAt slots at → (k : ℕ) (found_made : Made) (b : Bool)
                      → (k == key) ≡ b → cond b (Some made) (kept_at slots k) ≡ Some found_made
                      → cond b made.addr (at k) ≡ found_made.addr
                  placed at are k found_made true is_key found_is = let one : made ≡ found_made =
                      cc in ap (λ (m : Made). m.addr) one
                  placed at are k found_made false is_key found_is = are k found_made found_is
              made-one (answer.Refused (fault.Kernel errno)) w_is none (makes, same_slots) =
                  let due : IsShmAnswer (keys_after S) (act.Get key len h)
                  (answer.Refused (fault.Kernel errno)) =
                  due-at key None (MatchOption (refused_new len h)
                  (IsMade len (answer.Refused (fault.Kernel errno)))
                  (λ why. answer.Refused (fault.Kernel errno) ≡ answer.Refused why))
                  (λ seg. answer.Refused (fault.Kernel errno) ≡ found seg len h) has
                  (subst (λ o. MatchOption o (IsMade len (answer.Refused (fault.Kernel errno)))
                  (λ why. answer.Refused (fault.Kernel errno) ≡ answer.Refused why)) (sym none)
                  tt) in (
                    asked-keep old new slots then S lines p 1 (act.Get key len h)
                        (answer.Refused (fault.Kernel errno)) makes.x was same makes.one other due
                        (λ at are. subst (λ o. asked_anew (look old).keeper o len
                        (answer.Refused (fault.Kernel errno))
                        ≡ Some record { process = makes.x.process; call = makes.x.call })
                        (sym has) (asked-same (look old).keeper (make_call len) makes.x
                        makes.process makes.call))
                        (λ F start. makes.answers)
                        (λ k. ap (λ s. option_map segment_of (kept_at s k)) same_slots ∙ was.table k)
                        (λ at are k found_made found_is. subst
                        (λ y. places_after at (act.Get key len h) y k ≡ found_made.addr)
                        (sym makes.answers) (are k found_made
                        (ap (λ s. kept_at s k) (sym same_slots) ∙ found_is)))
                        (subst (λ v. questions_left lines
                        (S ++ record { process = p; act = act.Get key len h; answer = v } ∷ []) +
                        1 ≤ questions_left lines S) (sym w_is) left),
                    due,
                  )
              made-one (answer.Refused fault.NoKey) w_is none never = absurd never
              made-one (answer.Refused fault.Exists) w_is none never = absurd never
              made-one (answer.Refused fault.BadLength) w_is none never = absurd never
              made-one (answer.Refused fault.NotAttached) w_is none never = absurd never
              made-one (answer.Attached z own) w_is none never = absurd never
              made-one answer.Removed w_is none never = absurd never

              by_why : (o : Option ShmFault) → refused_new len h ≡ o
                  → MatchOption o (AskedNew look starts old new slots then key len r)
                  (λ why. (r ≡ answer.Refused why) × Unasked look starts old new slots then) → Kept r
              by_why (Some why) why_is no_new =
                  let due : IsShmAnswer (keys_after S) (act.Get key len h) r =
                  due-at key None (MatchOption (refused_new len h) (IsMade len r)
                  (λ w. r ≡ answer.Refused w)) (λ seg. r ≡ found seg len h) has
                  (subst (λ o. MatchOption o (IsMade len r) (λ w. r ≡ answer.Refused w))
                  (sym why_is) no_new.0) in (
                    unasked-then (act.Get key len h) r no_new.1 due
                        (λ at. subst₂ (λ o w. asked_anew (look old).keeper o len w ≡ None) (sym has)
                        (sym no_new.0) (unasked-refusal (look old).keeper len h why why_is)),
                    due,
                  )
              by_why None why_is new_one = made-one r refl why_is new_one

      pub removed-keeps : (key : ℕ) (r : ShmAnswer) → (p ≡ (look old).keeper → ⊥)
          → questions_left lines (S ++ record { process = p; act = act.Remove key; answer = r } ∷ [])
          + 1 ≤ questions_left lines S
          → Removes look starts old new slots then key r
          → IsShm look starts new then
          (S ++ record { process = p; act = act.Remove key; answer = r } ∷ []) lines
          × IsShmAnswer (keys_after S) (act.Remove key) r
      removed-keeps key r other left removes = by_slot (kept_at slots key) refl removes
        where
          by_slot : (o : Option Made) → kept_at slots key ≡ o
              → MatchOption o ((r ≡ answer.Refused fault.NoKey)
              × Unasked look starts old new slots then)
              (λ made. (r ≡ answer.Removed) × UnmakesSegment (look old) (look new) made
              × ((k : ℕ) → kept_at then k ≡ with_slot slots key None k))
              → IsShm look starts new then
              (S ++ record { process = p; act = act.Remove key; answer = r } ∷ []) lines
              × IsShmAnswer (keys_after S) (act.Remove key) r
          by_slot None is gone =
              let has = has-key key None is in
              let due : IsShmAnswer (keys_after S) (act.Remove key) r =
              due-at key None (r ≡ answer.Refused fault.NoKey) (λ seg. r ≡ answer.Removed) has
              gone.0 in (
                unasked-then (act.Remove key) r gone.1 due
                    (λ at. subst (λ o. option_map {U = ProcessCall}
                    (λ (seg : ShmSegment). record {
                      process = (look old).keeper;
                      call =
                          Unmap (at key) seg.len;
                    }) o ≡ None) (sym has) refl),
                due,
              )
          by_slot (Some made) is (r_is, unmakes, kept) =
              let has = has-key key (Some made) is in
              let due : IsShmAnswer (keys_after S) (act.Remove key) r =
              due-at key (Some (segment_of made)) (r ≡ answer.Refused fault.NoKey)
              (λ seg. r ≡ answer.Removed) has r_is in (
                asked-keep old new slots then S lines p 1 (act.Remove key) r unmakes.x was same
                    unmakes.one other due
                    (λ at are. subst (λ o. option_map {U = ProcessCall}
                    (λ (seg : ShmSegment). record {
                      process = (look old).keeper;
                      call =
                          Unmap (at key) seg.len;
                    }) o
                    ≡ Some record { process = unmakes.x.process; call = unmakes.x.call })
                    (sym has)
                    (asked-same (look old).keeper (Unmap (at key) made.length) unmakes.x
                    unmakes.process (unmakes.call
                    ∙ ap (λ a. Unmap a made.length) (sym (are key made is)))))
                    (λ F start. subst
                    (λ w. Answers (replay F ((look old).seen ++ unmakes.one.before))
                    (look old).keeper unmakes.x w)
                    (sym r_is) tt)
                    (λ k. subst (λ w. option_map segment_of (kept_at then k)
                    ≡ keys_after_act (keys_after S) (act.Remove key) w k) (sym r_is)
                    (ap (option_map segment_of) (kept k) ∙ by_test k (k == key) refl))
                    (λ at are k found_made found_is. placed at are k found_made (k == key) refl
                    (sym (kept k) ∙ found_is))
                    left,
                due,
              )
            where
              by_test : (k : ℕ) (b : Bool) → (k == key) ≡ b
                  → option_map segment_of (cond b None (kept_at slots k))
                  ≡ cond b None (keys_after S k)
              by_test k true is_key = refl
              by_test k false is_key = was.table k

              placed : (at : Places) → AreAt slots at → (k : ℕ) (found_made : Made) (b : Bool)
                  → (k == key) ≡ b → cond b None (kept_at slots k) ≡ Some found_made → at k
                  ≡ found_made.addr
              placed at are k found_made true is_key found_is = absurd cc
              placed at are k found_made false is_key found_is = are k found_made found_is

  module _ (old new : M) (slots : SlotsSeen) (S : List ShmEntry) (lines : List ℕ) (p : ℕ)
      (was : IsShm look starts old slots S lines) (same : SameStarts (starts old) (starts new))
    where
      pub attached-keeps : (user later : UserSeen) (key : ℕ) (place : Place) (prot : Prot)
          (r : ShmAnswer) → (p ≡ (look old).keeper → ⊥) → user.process ≡ p
          → AttachesKey look starts old new user later slots key place prot r
          → IsShm look starts new slots
          (S ++ record { process = p; act = act.Attach key place prot; answer = r } ∷ []) lines
          × IsShmAnswer (keys_after S) (act.Attach key place prot) r
      attached-keeps user later key place prot r other whose attaches =
          by_slot (kept_at slots key) refl attaches
        where
          by_slot : (o : Option Made) → kept_at slots key ≡ o
              → MatchOption o ((r ≡ answer.Refused fault.NoKey) × (new ≡ old) × (later ≡ user))
              (λ made. (reply : Reply) × (r ≡ answer.Attached made.object reply)
              × AttachesSegment (look old) (look new) user later made place prot reply)
              → IsShm look starts new slots
              (S ++ record { process = p; act = act.Attach key place prot; answer = r } ∷ [])
              lines × IsShmAnswer (keys_after S) (act.Attach key place prot) r
          by_slot None is (r_is, new_is, user_is) =
              let has = has-key old new slots slots S lines p was same key None is in
              let due : IsShmAnswer (keys_after S) (act.Attach key place prot) r =
              due-at old new slots slots S lines p was same key None
              (r ≡ answer.Refused fault.NoKey) (λ seg. AnswersAttach seg r) has r_is in (
                unasked-then old new slots slots S lines p was same (act.Attach key place prot) r
                    record { maker = new_is; slots_same = refl } due
                    (λ at. subst (λ o. option_map {U = ProcessCall}
                    (λ (seg : ShmSegment). record {
                      process = p;
                      call =
                          attach_call place prot seg;
                    }) o ≡ None) (sym has) refl),
                due,
              )
          by_slot (Some made) is (reply, r_is, one) =
              let has = has-key old new slots slots S lines p was same key (Some made) is in
              let due : IsShmAnswer (keys_after S) (act.Attach key place prot) r =
              due-at old new slots slots S lines p was same key (Some (segment_of made))
              (r ≡ answer.Refused fault.NoKey) (λ seg. AnswersAttach seg r) has
              (subst (λ w. AnswersAttach (segment_of made) w) (sym r_is) refl) in (
                asked-keep old new slots slots S lines p 0 (act.Attach key place prot) r one.x was
                    same one.one other due
                    (λ at are. subst (λ o. option_map {U = ProcessCall}
                    (λ (seg : ShmSegment). record {
                      process = p;
                      call =
                          attach_call place prot seg;
                    }) o
                    ≡ Some record { process = one.x.process; call = one.x.call }) (sym has)
                    (asked-same p (attach_call place prot (segment_of made)) one.x
                    (one.process ∙ whose) one.call))
                    (λ F start. subst
                    (λ w. Answers (replay F ((look old).seen ++ one.one.before))
                    (look old).keeper one.x w)
                    (sym r_is) one.is_reply)
                    was.table
                    (λ at are. are)
                    (let less = left-no_more 1 lines S
                    record { process = p; act = act.Attach key place prot; answer = r } in
                    omega (arith, less)),
                due,
              )

  -- as nothing was asked yet
  pub nothing-asked : (maker : M) (lines : List ℕ)
      → entries_of (look maker).seen (look maker).keeper ≡ []
      → questions_left lines [] ≤ (look maker).room → length lines < (look maker).keeper
      → IsShm look starts maker [] [] lines
  nothing-asked maker lines none room apart = record {
    legal = tt;
    table = λ key. refl;
    tied = λ F start. (
      λ key. 0,
      tied-longer (look maker).keeper F [] [] (look maker).seen
          (λ key. 0) (Tied.opened (λ key. 0)) none,
      λ key made is. absurd (cc (is)),
    );
    room = room;
    apart = apart;
  }

  -- the same is kept for each key
  pub kept-same : (maker : M) (slots then : SlotsSeen) (S : List ShmEntry) (lines : List ℕ)
      → IsShm look starts maker slots S lines → ((k : ℕ) → kept_at then k ≡ kept_at slots k)
      → IsShm look starts maker then S lines
  kept-same maker slots then S lines was kept = record {
    legal = was.legal;
    table = λ k. ap (option_map segment_of) (kept k) ∙ was.table k;
    tied = λ F start. let t = was.tied F start in
        (t.0, t.1, λ k made is. t.2 k made (sym (kept k) ∙ is));
    room = was.room;
    apart = was.apart;
  }

  -- who may ask isn't the keeper, and leaves the keeper an entry to make
  pub asker-other : (maker : M) (slots : SlotsSeen) (S : List ShmEntry) (lines : List ℕ) (p : ℕ)
      → IsShm look starts maker slots S lines → spent_by p S < line_room lines p → p
      ≡ (look maker).keeper → ⊥
  asker-other maker slots S lines p was may same = let low = asker-low lines p (spent_by p S) may in
      let apart = was.apart in omega (arith, low, apart, same)

  pub asker-room : (maker : M) (slots : SlotsSeen) (S : List ShmEntry) (lines : List ℕ)
      (e : ShmEntry) → IsShm look starts maker slots S lines → is_spent e.act ≡ true
      → spent_by e.process S < line_room lines e.process → 1 ≤ (look maker).room
  asker-room maker slots S lines e was spent may = let falls = one-left lines S e spent may in
      let room = was.room in omega (arith, falls, room)

  -- a key without a segment is told so
  pub no-key-removed : (maker : M) (slots : SlotsSeen) (S : List ShmEntry) (lines : List ℕ)
      (p key : ℕ) → IsShm look starts maker slots S lines → kept_at slots key ≡ None
      → questions_left lines (S
      ++ record { process = p; act = act.Remove key; answer = answer.Refused fault.NoKey } ∷ [])
      + 1 ≤ questions_left lines S → (p ≡ (look maker).keeper → ⊥)
      → IsShm look starts maker slots
      (S ++ record { process = p; act = act.Remove key; answer = answer.Refused fault.NoKey } ∷
      []) lines × IsShmAnswer (keys_after S) (act.Remove key) (answer.Refused fault.NoKey)
  no-key-removed maker slots S lines p key was none left other =
      removed-keeps maker maker slots slots S lines p was (λ F. (λ one. one, λ one. one)) key
      (answer.Refused fault.NoKey) other left
      (subst (λ o. MatchOption o
      ((answer.Refused fault.NoKey ≡ answer.Refused fault.NoKey)
      × Unasked look starts maker maker slots slots)
      (λ made. (answer.Refused fault.NoKey ≡ answer.Removed)
      × UnmakesSegment (look maker) (look maker) made
      × ((k : ℕ) → kept_at slots k ≡ with_slot slots key None k))) (sym none)
      (refl, record { maker = refl; slots_same = refl }))

  pub removed-one : (old new : M) (slots then : SlotsSeen) (S : List ShmEntry) (lines : List ℕ)
      (p key : ℕ) (made : Made) → IsShm look starts old slots S lines
      → SameStarts (starts old) (starts new) → kept_at slots key ≡ Some made
      → questions_left lines (S
      ++ record { process = p; act = act.Remove key; answer = answer.Removed } ∷ []) + 1 ≤
      questions_left lines S → (p ≡ (look old).keeper → ⊥)
      → UnmakesSegment (look old) (look new) made
      → ((k : ℕ) → kept_at then k ≡ with_slot slots key None k)
      → IsShm look starts new then
      (S ++ record { process = p; act = act.Remove key; answer = answer.Removed } ∷ []) lines
      × IsShmAnswer (keys_after S) (act.Remove key) answer.Removed
  removed-one old new slots then S lines p key made was same some left other unmakes kept =
      removed-keeps old new slots then S lines p was same key answer.Removed other left
      (subst (λ o. MatchOption o
      ((answer.Removed ≡ answer.Refused fault.NoKey) × Unasked look starts old new slots then)
      (λ m. (answer.Removed ≡ answer.Removed) × UnmakesSegment (look old) (look new) m
      × ((k : ℕ) → kept_at then k ≡ with_slot slots key None k))) (sym some)
      (refl, unmakes, kept))

  pub no-key-attached : (maker : M) (slots : SlotsSeen) (S : List ShmEntry) (lines : List ℕ)
      (p key : ℕ) (place : Place) (prot : Prot) (user : UserSeen)
      → IsShm look starts maker slots S lines → kept_at slots key ≡ None
      → (p ≡ (look maker).keeper → ⊥) → user.process ≡ p
      → IsShm look starts maker slots
      (S ++ record {
        process = p;
        act = act.Attach key place prot;
        answer =
            answer.Refused fault.NoKey;
      } ∷ []) lines
      × IsShmAnswer (keys_after S) (act.Attach key place prot) (answer.Refused fault.NoKey)
  no-key-attached maker slots S lines p key place prot user was none other whose =
      attached-keeps maker maker slots S lines p was (λ F. (λ one. one, λ one. one)) user user key
      place prot (answer.Refused fault.NoKey) other whose
      (subst (λ o. MatchOption o
      ((answer.Refused fault.NoKey ≡ answer.Refused fault.NoKey) × (maker ≡ maker)
      × (user ≡ user)) (λ made. (reply : Reply)
      × (answer.Refused fault.NoKey ≡ answer.Attached made.object reply)
      × AttachesSegment (look maker) (look maker) user user made place prot reply)) (sym none)
      (refl, refl, refl))

  pub attached-one : (old new : M) (slots : SlotsSeen) (S : List ShmEntry) (lines : List ℕ)
      (p key : ℕ) (place : Place) (prot : Prot) (user later : UserSeen) (made : Made) (r : Reply)
      → IsShm look starts old slots S lines → SameStarts (starts old) (starts new)
      → kept_at slots key ≡ Some made → (p ≡ (look old).keeper → ⊥) → user.process ≡ p
      → AttachesSegment (look old) (look new) user later made place prot r
      → IsShm look starts new slots
      (S ++ record {
        process = p;
        act = act.Attach key place prot;
        answer =
            answer.Attached made.object r;
      } ∷ []) lines
      × IsShmAnswer (keys_after S) (act.Attach key place prot) (answer.Attached made.object r)
  attached-one old new slots S lines p key place prot user later made r was same some other whose
      attaches =
      attached-keeps old new slots S lines p was same user later key place prot
      (answer.Attached made.object r) other whose
      (subst (λ o. MatchOption o
      ((answer.Attached made.object r ≡ answer.Refused fault.NoKey) × (new ≡ old)
      × (later ≡ user)) (λ m. (reply : Reply)
      × (answer.Attached made.object r ≡ answer.Attached m.object reply)
      × AttachesSegment (look old) (look new) user later m place prot reply)) (sym some)
      (r, refl, attaches))
