-- A wait by a cut of the history, and by the positions of entries.
use Rattle.std.proofs.Common.{◌≡◌, ℕ, zero, suc, ◌≤◌, ◌<◌, true, ◌==◌, List, [], ◌∷◌, ◌++◌, length, take, Some, None, refl, sym, ap, ap₂, ◌∙◌, subst}
use Rattle.std.proofs.Common.{append_assoc, arith, cond, ◌⊎◌, ⊎_elim, inl, inr, eq-eqb}
use Rattle.std.specs.Prelude.{slice_get}
use Rattle.std.specs.List.{flat_map}
use Rattle.std.proofs.lemmas.Bool.{false≢true, cases_Bool, eqb-true}
use Rattle.std.proofs.lemmas.Option.{same_Some}
use Rattle.flat_model.specs.vm_types.declared.call.Entry.{Entry}
use Rattle.flat_model.specs.Told.{SpelledLine, entries_of, SpellsAll}
use Rattle.vm_script.specs.declared.plan.PlanLine.{PlanLine}
use Rattle.vm_script.specs.PlanSeen.{PlanSeen}
use Rattle.vm_script.specs.Told.{Spell, calls_of, HasWaited, HasWaitedByPlace}
use Rattle.flat_model.proofs.Replays.{entries_of-append}
use Rattle.flat_model.proofs.Spellings.{SpellsAll-unique}
use Rattle.vm_script.proofs.Tellings.{behind_first}
use Rattle.vm_script.proofs.Runs.{flat_map_append}

heads : {A : Type 0} (x y : A) (xs ys : List A) → x ∷ xs ≡ y ∷ ys → x ≡ y
heads x y xs ys e = cc e

tails : {A : Type 0} (x y : A) (xs ys : List A) → x ∷ xs ≡ y ∷ ys → xs ≡ ys
tails x y xs ys e = cc e

pub some_none : {A : Type 0} (x : A) → None ≡ Some x → ⊥
some_none x e = cc e

-- the spelling of lines one behind the other begins with that of the first ones
split_all : (ls ms : List SpelledLine) (es : List Entry) → SpellsAll (ls ++ ms) es → (front : List Entry) × (back : List Entry) × (es ≡ front ++ back) × SpellsAll ls front
split_all [] ms es h = ([], es, refl, refl)
split_all (l ∷ ls) ms es (f, r, is, one, more) =
    let rest = split_all ls ms r more in
    (f ++ rest.0, rest.1, is ∙ (ap (λ z. f ++ z) rest.2 ∙ sym (append_assoc f rest.0 rest.1)), (f, rest.0, refl, one, rest.3))

-- where q has no entry, no entry is q's
none_at : (H : List Entry) (i : ℕ) (d : Entry) (q : ℕ) → slice_get H i ≡ Some d → d.process ≡ q → entries_of H q ≡ [] → ⊥
none_at [] i d q at is none = some_none d at
none_at (h ∷ H) zero d q at is none =
    let first = behind_first h H q none in
    false≢true (sym first.0 ∙ eq-eqb h.process q (ap (λ (x : Entry). x.process) (same_Some h d at) ∙ is))
none_at (h ∷ H) (suc i) d q at is none = none_at H i d q at is (behind_first h H q none).1

-- an entry of q stands in the cut, where none stands behind it
before_cut : (cut rest : List Entry) (i : ℕ) (d : Entry) (q : ℕ) → slice_get (cut ++ rest) i ≡ Some d → d.process ≡ q → entries_of rest q ≡ [] → i < length cut
before_cut [] rest i d q at is none = absurd (none_at rest i d q at is none)
before_cut (c ∷ cut) rest zero d q at is none = omega arith
before_cut (c ∷ cut) rest (suc i) d q at is none = let ih = before_cut cut rest i d q at is none in omega (arith, ih)

-- an entry of p with so many before it stands behind the cut
behind_cut : (cut rest : List Entry) (j : ℕ) (e : Entry) (p : ℕ) → slice_get (cut ++ rest) j ≡ Some e → e.process ≡ p
    → length (entries_of cut p) ≤ length (entries_of (take j (cut ++ rest)) p) → length cut ≤ j
behind_cut [] rest j e p at is le = omega arith
behind_cut (c ∷ cut) rest zero e p at is le =
    let mine : (c.process == p) ≡ true = eq-eqb c.process p (ap (λ (x : Entry). x.process) (same_Some c e at) ∙ is) in
    let long : length (c ∷ entries_of cut p) ≤ 0 = subst (λ b. length (cond b (c ∷ entries_of cut p) (entries_of cut p)) ≤ 0) mine le in
    absurd (omega (arith, long))
behind_cut (c ∷ cut) rest (suc j) e p at is le =
    let less : length (entries_of cut p) ≤ length (entries_of (take j (cut ++ rest)) p) =
    ⊎_elim
    (λ yes. let le' : length (c ∷ entries_of cut p) ≤ length (c ∷ entries_of (take j (cut ++ rest)) p) = subst
    (λ b. length (cond b (c ∷ entries_of cut p) (entries_of cut p)) ≤ length
    (cond b (c ∷ entries_of (take j (cut ++ rest)) p) (entries_of (take j (cut ++ rest)) p)))
    yes le in
    omega (arith, le'))
    (λ non. subst (λ b. length (cond b (c ∷ entries_of cut p) (entries_of cut p)) ≤ length (cond b (c ∷ entries_of (take j (cut ++ rest)) p) (entries_of (take j (cut ++ rest)) p))) non le)
    (cases_Bool (c.process == p)) in
    let ih = behind_cut cut rest j e p at is less in
    omega (arith, ih)

pub by_place : (plan : PlanSeen) (H : List Entry) (p : ℕ) (before : List PlanLine) → HasWaited plan H p before → HasWaitedByPlace plan H p before
by_place plan H p before w front back split spelled c q i j d e forks under at_i is_q at_j is_p enough =
    let same : entries_of w.cut p ≡ front = SpellsAll-unique (flat_map (λ l. calls_of l.act) before) (entries_of w.cut p) front (entries_of w.rest p) back w.own spelled
    (sym (entries_of-append w.cut w.rest p) ∙ (ap (λ h. entries_of h p) w.is ∙ split)) in
    let low : i < length w.cut = before_cut w.cut w.rest i d q (ap (λ h. slice_get h i) w.is ∙ at_i) is_q (w.ended c q forks under) in
    let count : length (entries_of w.cut p) ≤ length (entries_of (take j (w.cut ++ w.rest)) p) =
    omega (arith, enough, ap length same, ap (λ h. length (entries_of (take j h) p)) w.is) in
    let high : length w.cut ≤ j = behind_cut w.cut w.rest j e p (ap (λ h. slice_get h j) w.is ∙ at_j) is_p count in
    omega (arith, low, high)

-- a history is cut where p has made just these entries, before its next one
record CutAt (H : List Entry) (p : ℕ) (front : List Entry) : Type 0 where
  cut : List Entry
  rest : List Entry
  is : cut ++ rest ≡ H
  own : entries_of cut p ≡ front
  next : (rest ≡ []) ⊎ ((e : Entry) × (more : List Entry) × (rest ≡ e ∷ more) × (e.process ≡ p))

none_front : {A : Type 0} (xs ys : List A) → [] ≡ xs ++ ys → xs ≡ []
none_front [] ys e = refl
none_front (x ∷ xs) ys e = absurd (cc e)

cut_at : (H : List Entry) (p : ℕ) (front back : List Entry) → entries_of H p ≡ front ++ back → CutAt H p front
cut_at [] p front back e = record { cut = []; rest = []; is = refl; own = sym (none_front front back e); next = inl refl }
cut_at (h ∷ H) p front back e =
    ⊎_elim
    (λ yes.
    let mine : h ∷ entries_of H p ≡ front ++ back = ap (λ b. cond b (h ∷ entries_of H p) (entries_of H p)) (sym yes) ∙ e in
    at_own (λ f split. cut_at H p f back split) front yes mine)
    (λ non.
    let others : entries_of H p ≡ front ++ back = ap (λ b. cond b (h ∷ entries_of H p) (entries_of H p)) (sym non) ∙ e in
    let more = cut_at H p front back others in
    record { cut = h ∷ more.cut; rest = more.rest; is = ap (λ z. h ∷ z) more.is; own = ap (λ b. cond b (h ∷ entries_of more.cut p) (entries_of more.cut p)) non ∙ more.own; next = more.next })
    (cases_Bool (h.process == p))
  where
    at_own : ((f : List Entry) → entries_of H p ≡ f ++ back → CutAt H p f) → (front : List Entry) → (h.process == p) ≡ true → h ∷ entries_of H p ≡ front ++ back → CutAt (h ∷ H) p front
    at_own again [] first mine = record { cut = []; rest = h ∷ H; is = refl; own = refl; next = inr (h, H, refl, eqb-true h.process p first) }
    at_own again (f ∷ front) first mine =
        let more = again front (tails h f (entries_of H p) (front ++ back) mine) in
        record {
          cut = h ∷ more.cut;
          rest = more.rest;
          is = ap (λ z. h ∷ z) more.is;
          own = ap (λ b. cond b (h ∷ entries_of more.cut p) (entries_of more.cut p)) first
              ∙ ap₂ (λ (a : Entry) (z : List Entry). a ∷ z) (heads h f (entries_of H p) (front ++ back) mine) more.own;
          next = more.next;
        }

-- where each entry of q stands in the cut, none stands behind it
none_from : (cut rest : List Entry) (q : ℕ) → ((i : ℕ) (d : Entry) → slice_get (cut ++ rest) i ≡ Some d → d.process ≡ q → i < length cut) → entries_of rest q ≡ []
none_from (c ∷ cut) rest q all = none_from cut rest q (λ i d at is. let h = all (suc i) d at is in omega (arith, h))
none_from [] [] q all = refl
none_from [] (r ∷ rest) q all =
    ⊎_elim
    (λ yes. let h = all zero r refl (eqb-true r.process q yes) in absurd (omega (arith, h)))
    (λ non. ap (λ b. cond b (r ∷ entries_of rest q) (entries_of rest q)) non ∙ none_from [] rest q (λ i d at is. let h = all (suc i) d at is in absurd (omega (arith, h))))
    (cases_Bool (r.process == q))

at_end : (cut more : List Entry) (e : Entry) → slice_get (cut ++ e ∷ more) (length cut) ≡ Some e
at_end [] more e = refl
at_end (c ∷ cut) more e = at_end cut more e

take_all : (cut rest : List Entry) → take (length cut) (cut ++ rest) ≡ cut
take_all [] rest = refl
take_all (c ∷ cut) rest = ap (λ z. c ∷ z) (take_all cut rest)

pub by_cut : (plan : PlanSeen) (H : List Entry) (p : ℕ) (before after : List PlanLine) → Spell (before ++ after) (entries_of H p) → HasWaitedByPlace plan H p before → HasWaited plan H p before
by_cut plan H p before after spelled places =
    let parts = split_all (flat_map (λ l. calls_of l.act) before) (flat_map (λ l. calls_of l.act) after) (entries_of H p)
    (subst (λ ls. SpellsAll ls (entries_of H p)) (flat_map_append before after) spelled) in
    let k = cut_at H p parts.0 parts.1 parts.2 in
    record {
      cut = k.cut;
      rest = k.rest;
      is = k.is;
      own = subst (Spell before) (sym k.own) parts.3;
      ended = λ c q forks under. ⊎_elim
          (λ none. ap (λ h. entries_of h q) none)
          (λ (e, more, is, mine). none_from k.cut k.rest q (λ i d at is_q.
          let whole : k.cut ++ e ∷ more ≡ H = ap (λ z. k.cut ++ z) (sym is) ∙ k.is in
          places parts.0 parts.1 parts.2 parts.3 c q i (length k.cut) d e forks under
          (ap (λ h. slice_get h i) (sym k.is) ∙ at) is_q
          (ap (λ h. slice_get h (length k.cut)) (sym whole) ∙ at_end k.cut more e) mine
          (omega (arith, ap length k.own, ap (λ h. length (entries_of (take (length k.cut) h) p)) (sym k.is), ap (λ h. length (entries_of h p)) (take_all k.cut k.rest)))))
          k.next;
    }
