-- Each step keeps the rule of the lock.
use Rattle.std.proofs.Common.{◌≡◌, ◌≢◌, ℕ, ◌+◌, ◌<◌, ◌≤◌, true, false, eqb, List, [], ◌∷◌, ◌++◌, length, get_or, set, refl, ap, sym, ◌∙◌, subst, arith, length-set}
use Rattle.std.proofs.Common.{get_or-set_other, get_or-set_same, Option, Some, None}
use Rattle.std.specs.List.{All}
use mathlib.Core.Logic.{dite}
use mathlib.Core.Option.{none, some, some-injective}
use mathlib.Core.List.{IsPrefix}
use native.Mathlib.Decide.{ℕ_discrete}
use lib.ListN.{get_elem?}
use lib.Seq.{set-get_or}
use prog.Atomic.{either}
use Rattle.atomic_table.specs.Table.{State, keeps, takes, gives, rest, step, stepped, Allows}
use Rattle.atomic_table.proofs.Lists.{set_else}
use Rattle.std.proofs.Common.{eq-eqb, ne_eqb}
use Rattle.kernel_lock.specs.declared.board.View.{View}
use Rattle.kernel_lock.specs.declared.board.SeatPart.{SeatPart}
use Rattle.kernel_lock.specs.Laws.{Keeps, Grows}
use Rattle.kernel_lock.specs.Rule.{Lock, Knows, HasPart, Each, view_inside, with_refused_try, view_made_known, view_outside, known_of, TakesTurn, MakesKnown, ReleasesTurn, RingsBell, view_rung}
use Rattle.kernel_lock.specs.Seats.{IsEntered, entries_by}
use Rattle.kernel_lock.proofs.Begun.{prefix_self, prefix_more, each_imp, unchanged_by, set_at, each_set, set_only, at_below}

module _ {S E N : Type 0} (seat_of : E → ℕ) (history : S → List E) (fits : S → S → List (Option N) → Type 0) (opening : S) (seats : ℕ) where
  abbrev V : Type 0
  V = View S E N

  abbrev St : Type 0
  St = State (Option S) V

  abbrev Rule : St → Type 0
  Rule = Lock seat_of history fits opening seats

  abbrev turn : St → ℕ
  turn s = get_or s.words 0 0

  -- the taker holds the turn, and its view names the state
  taken : (s : St) (r : Rule s) (id : ℕ) (v : V) → get_elem? s.views id ≡ some v → v.seated ≡ true → turn s ≡ 0
      → Rule (stepped s 0 (v.number + 1) id [] (view_inside v r.core) (takes 0 (Some r.core)))
  taken s r id v at seated free =
      let k = r.each id v at in
      let five = r.five in
      let now : get_or (set s.words 0 (v.number + 1)) 0 0 ≡ v.number + 1 = get_or-set_same s.words 0 (v.number + 1) 0 (omega (arith, five)) in
      record {
        core = r.core;
        notes = r.notes;
        owner = r.owner;
        holder = id;
        five = length-set s.words 0 (v.number + 1) ∙ five;
        one = length-set s.homes 0 none ∙ r.one;
        fitting = r.fitting;
        sized = r.sized;
        counted = get_or-set_other s.words 0 1 (v.number + 1) 0 (λ e. omega (arith, e)) ∙ r.counted;
        home = λ z. absurd (omega (arith, z, now));
        held = λ _. (view_inside v r.core, set_at s.views id v (view_inside v r.core) at, refl);
        each = each_set (Knows seat_of history opening seats r.core r.notes r.owner (get_or (set s.words 0 (v.number + 1)) 0 0) id) s.views id (view_inside v r.core)
            record { opened = k.opened; begun = k.begun; begun_olds = k.begun_olds; mine = k.mine; told = k.told; theirs = k.theirs; fresh = k.fresh; within = λ _. (seated, now, refl, refl) }
            (λ j u ne e. let o = r.each j u e in record {
              opened = o.opened;
              begun = o.begun;
              begun_olds = o.begun_olds;
              mine = o.mine;
              told = o.told;
              theirs = o.theirs;
              fresh = o.fresh;
              within = λ inside. let t = (o.within inside).1 in absurd (omega (arith, t, free));
            });
      }

  -- another seat has the turn: its number is in the turn word
  another : (s : St) (r : Rule s) (id : ℕ) (v : V) → get_elem? s.views id ≡ some v → v.inside ≡ false → v.seated ≡ true → turn s ≢ 0
      → (k : ℕ) × (turn s ≡ k + 1) × (k ≢ v.number) × ((o : S) → v.opening ≡ Some o → k < v.seats)
  another s r id v at out seated busy =
      let (u, is, inside) = r.held busy in
      let q = r.each r.holder u is in
      let within = q.within inside in
      let theirs = q.mine within.0 in
      let k = r.each id v at in
      let mine = k.mine seated in
      let sized = r.sized in
      let below = at_below r.notes u.number u.note theirs.0 in (
        u.number,
        within.1,
        (λ same.
            let here : r.holder ≡ id = sym theirs.2 ∙ (ap r.owner same ∙ mine.2) in
            let whole : v ≡ u = some-injective v u (sym at ∙ (sym (ap (get_elem? s.views) here) ∙ is)) in absurd (cc (out, inside, whole))),
        (λ o e. let many = (k.opened o e).1 in omega (arith, below, sized, many)),
      )

  -- a step that changes no word, and of this seat's view only its refused tries
  refuses : (s : St) (r : Rule s) (id : ℕ) (v : V) (by : ℕ) → get_elem? s.views id ≡ some v → v.inside ≡ false → Rule (stepped s 0 (turn s) id [] (with_refused_try v by) keeps)
  refuses s r id v by at out = subst (λ (ws : List ℕ). Rule record { words = ws; homes = s.homes; views = set s.views id (with_refused_try v by) }) (sym (set-get_or s.words 0 0))
      (let k = r.each id v at in record {
        core = r.core;
        notes = r.notes;
        owner = r.owner;
        holder = r.holder;
        five = r.five;
        one = r.one;
        fitting = r.fitting;
        sized = r.sized;
        counted = r.counted;
        home = r.home;
        held = λ z. let (u, is, inside) = r.held z in (
          u,
          set_else s.views id r.holder (with_refused_try v by) (λ e. let same : v ≡ u = some-injective v u (sym at ∙ (sym (ap (get_elem? s.views) e) ∙ is)) in absurd (cc (out, inside, same))) ∙ is,
          inside,
        );
        each = each_set (Knows seat_of history opening seats r.core r.notes r.owner (turn s) r.holder) s.views id (with_refused_try v by)
            record { opened = k.opened; begun = k.begun; begun_olds = k.begun_olds; mine = k.mine; told = k.told; theirs = k.theirs; fresh = k.fresh; within = k.within }
            (λ j u ne e. r.each j u e);
      })

  promised : (s : St) (r : Rule s) (id : ℕ) (v : V) → get_elem? s.views id ≡ some v → v.seated ≡ true → (o : S) → v.opening ≡ Some o → IsEntered seat_of history fits o v.seats (known_of v) r.core
  promised s r id v at seated o e =
      let k = r.each id v at in
      let p = k.mine seated in
      let same = k.opened o e in
      record { notes = r.notes; fitting = subst (λ z. fits z r.core r.notes) (sym same.0) r.fitting; whole = r.sized ∙ sym same.1; holds = (p.0, k.begun, p.1) }

  pub takes_turn : (slots id n : ℕ) (v : V) (cs : List (ℕ × Option S)) → v.inside ≡ false → v.seated ≡ true → v.number ≡ n → cs ≡ []
      → Allows Rule slots id (v, cs) 0 (λ r. either (eqb r 0) (n + 1) r) (TakesTurn seat_of history fits (step slots 0 0 (n + 1) none) (v, cs))
  takes_turn slots id n v cs out seated named empty = subst (λ c. Allows Rule slots id (v, c) 0 (λ r. either (eqb r 0) (n + 1) r)
      (TakesTurn seat_of history fits (step slots 0 0 (n + 1) none) (v, c))) (sym empty) go
    where
      go : Allows Rule slots id (v, []) 0 (λ r. either (eqb r 0) (n + 1) r) (TakesTurn seat_of history fits (step slots 0 0 (n + 1) none) (v, []))
      go s r wide at bound = dite (ℕ_discrete (turn s) 0)
          (λ free. let new : either (eqb (turn s) 0) (n + 1) (turn s) ≡ v.number + 1 = rw (eq-eqb (turn s) 0 free) (ap (λ z. z + 1) (sym named)) in (
            view_inside v r.core,
            takes 0 (Some r.core),
            ap (λ hs. get_elem? hs 0) (r.home free),
            subst (λ z. Rule (stepped s 0 z id [] (view_inside v r.core) (takes 0 (Some r.core)))) (sym new) (taken s r id v at seated free),
            ((λ _. (r.core, refl, promised s r id v at seated)), (λ ne. absurd (ne free))),
          ))
          (λ busy. let same : either (eqb (turn s) 0) (n + 1) (turn s) ≡ turn s = rw (ne_eqb (turn s) 0 busy) refl in (
            with_refused_try v (another s r id v at out seated busy).0,
            keeps,
            tt,
            subst (λ z. Rule (stepped s 0 z id [] (with_refused_try v (another s r id v at out seated busy).0) keeps)) (sym same) (refuses s r id v (another s r id v at out seated busy).0 at out),
            ((λ e. absurd (busy e)), (λ _. let by = another s r id v at out seated busy in (by.0, by.1, by.2, by.3, refl))),
          ))

module _ {S E N : Type 0} (seat_of : E → ℕ) (history : S → List E) (fits : S → S → List (Option N) → Type 0) (moves : ℕ → S → Option N → S → Option N → Type 0)
    (law : Keeps seat_of history fits moves) (more : Grows seat_of history fits moves) (opening : S) (seats : ℕ) where
  abbrev V2 : Type 0
  V2 = View S E N

  -- what the rule says of another seat's number outlasts a move
  part_stays : (core t : S) (notes : List (Option N)) (owner : ℕ → ℕ) (k : ℕ) (m : Option N) (added : List E) → history t ≡ history core ++ added → All (λ e. seat_of e ≡ k) added
      → (j i : ℕ) (n : Option N) (own : List E) → i ≢ k → HasPart seat_of history core notes owner j i n own → HasPart seat_of history t (set notes k m) owner j i n own
  part_stays core t notes owner k m added longer all j i n own ne p = (
    set_else notes k i m ne ∙ p.0,
    ap (entries_by seat_of i) longer ∙ (unchanged_by seat_of k i (history core) added all ne ∙ p.1),
    p.2,
  )

  -- the holder makes its move known: from here on the state is t
  moved : (s : State (Option S) V2) (r : Lock seat_of history fits opening seats s) (id n : ℕ) (v : V2) (cs : List (ℕ × Option S)) (t : S) (m : Option N)
      → get_elem? s.views id ≡ some v → v.inside ≡ true
      → v.others ≡ [] → v.deals ≡ false → ((b : S) × (v.state ≡ Some b) × moves v.number b v.note t m) → n ≡ length (history t)
      → Lock seat_of history fits opening seats (stepped s 1 n id cs (view_made_known seat_of history v t m) keeps)
  moved s r id n v cs t m at inside alone dealt move long =
      let k = r.each id v at in
      let within = k.within inside in
      let mine = k.mine within.0 in
      let same : move.0 ≡ r.core = cc (move.1, within.3) in
      let went : moves v.number r.core v.note t m = subst (λ b. moves v.number b v.note t m) same move.2 in
      let grown = more opening r.core t r.notes v.number v.note m r.fitting mine.0 went in
      let five = r.five in
      let w : V2 = view_made_known seat_of history v t m in
      let first : get_or (set s.words 1 n) 0 0 ≡ get_or s.words 0 0 = get_or-set_other s.words 1 0 n 0 (λ e. omega (arith, e)) in
      let begin : (xs : List E) → IsPrefix xs (history r.core) → IsPrefix xs (history t) = λ xs p. subst (IsPrefix xs) (sym grown.1) (prefix_more xs (history r.core) grown.0 p) in
      let stays = part_stays r.core t r.notes r.owner v.number m grown.0 grown.1 grown.2 in
      record {
        core = t;
        notes = set r.notes v.number m;
        owner = r.owner;
        holder = r.holder;
        five = length-set s.words 1 n ∙ five;
        one = r.one;
        fitting = law opening r.core t r.notes v.number v.note m r.fitting mine.0 went;
        sized = length-set r.notes v.number m ∙ r.sized;
        counted = get_or-set_same s.words 1 n 0 (omega (arith, five)) ∙ long;
        home = λ z. let busy = within.1 in absurd (omega (arith, z, first, busy));
        held = λ _. (w, subst (λ h. get_elem? (set s.views id w) h ≡ some w) (sym within.2) (set_at s.views id v w at), inside);
        each = subst (λ z. (j : ℕ) (u : V2) → get_elem? (set s.views id w) j ≡ some u → Knows seat_of history opening seats t (set r.notes v.number m) r.owner z r.holder j u) (sym first)
            (each_set (Knows seat_of history opening seats t (set r.notes v.number m) r.owner (get_or s.words 0 0) r.holder) s.views id w
            record {
              opened = k.opened;
              begun = prefix_self (history t);
              begun_olds = each_imp _ _ begin v.olds k.begun_olds;
              mine = λ _. (set_at r.notes v.number v.note m mine.0, refl, mine.2);
              told = λ _. refl;
              theirs = subst (Each (λ (p : SeatPart E N). HasPart seat_of history t (set r.notes v.number m) r.owner id p.number p.note p.own × IsPrefix p.seen (history t))) (sym alone) tt;
              fresh = λ d. absurd (cc (d, dealt));
              within = λ _. (within.0, within.1, within.2, refl);
            }
            (λ j u ne e. let o = r.each j u e in
            let other : (i : ℕ) (n : Option N) (own : List E) → HasPart seat_of history r.core r.notes r.owner j i n own → HasPart seat_of history t (set r.notes v.number m) r.owner j i n own =
            λ i n own p. stays j i n own (λ z. ne (sym p.2 ∙ (ap r.owner z ∙ mine.2))) p in
            record {
              opened = o.opened;
              begun = begin u.seen o.begun;
              begun_olds = each_imp _ _ begin u.olds o.begun_olds;
              mine = λ z. other u.number u.note u.own (o.mine z);
              told = o.told;
              theirs = each_imp _ _ (λ (p : SeatPart E N) z. (other p.number p.note p.own z.0, begin p.seen z.1)) u.others o.theirs;
              fresh = λ d i lo hi. other i None [] (o.fresh d i lo (subst (λ z. i < z) (length-set r.notes v.number m) hi));
              within = λ z. let in' = o.within z in absurd (ne (sym in'.2 ∙ within.2));
            }));
      }

  pub writes_down : (slots id n : ℕ) (v : V2) (cs : List (ℕ × Option S)) (said : Option S) (note : Option N) (t : S) (m : Option N) → v.inside ≡ true → v.others ≡ [] → v.deals ≡ false
      → ((b : S) × (v.state ≡ Some b) × moves v.number b v.note t m) → n ≡ length (history t) → said ≡ Some t → note ≡ m
      → Allows (Lock seat_of history fits opening seats) slots id (v, cs) 1 (λ _. n) (λ _. MakesKnown seat_of history said note (step slots 1 n 0 none) (v, cs) n)
  writes_down slots id n v cs said told t m inside alone dealt move long is noted s r wide at bound = (
    view_made_known seat_of history v t m,
    keeps,
    tt,
    moved s r id n v cs t m at inside alone dealt move long,
    λ u e. let same : u ≡ t = cc (e, is) in λ i. (view_made_known seat_of history v (sym same i) (sym noted i), cs),
  )

module _ {S E N : Type 0} (seat_of : E → ℕ) (history : S → List E) (fits : S → S → List (Option N) → Type 0) (opening : S) (seats : ℕ) where
  abbrev V3 : Type 0
  V3 = View S E N

  -- the holder gives the state back
  gave : (s : State (Option S) V3) (r : Lock seat_of history fits opening seats s) (id : ℕ) (v : V3) (t : S) → get_elem? s.views id ≡ some v → v.inside ≡ true → v.state ≡ Some t
      → Lock seat_of history fits opening seats (stepped s 0 0 id ((0, Some t) ∷ []) (view_outside v) gives)
  gave s r id v t at inside kept =
      let k = r.each id v at in
      let within = k.within inside in
      let five = r.five in
      let same : t ≡ r.core = cc (kept, within.3) in
      let now : get_or (set s.words 0 0) 0 0 ≡ 0 = get_or-set_same s.words 0 0 0 (omega (arith, five)) in
      record {
        core = r.core;
        notes = r.notes;
        owner = r.owner;
        holder = r.holder;
        five = length-set s.words 0 0 ∙ five;
        one = length-set s.homes 0 (some (Some t)) ∙ r.one;
        fitting = r.fitting;
        sized = r.sized;
        counted = get_or-set_other s.words 0 1 0 0 (λ e. omega (arith, e)) ∙ r.counted;
        home = λ _. set_only s.homes (some (Some t)) r.one ∙ ap (λ z. some (Some z) ∷ []) same;
        held = λ ne. absurd (ne now);
        each = each_set (Knows seat_of history opening seats r.core r.notes r.owner (get_or (set s.words 0 0) 0 0) r.holder) s.views id (view_outside v)
            record { opened = k.opened; begun = k.begun; begun_olds = k.begun_olds; mine = k.mine; told = k.told; theirs = k.theirs; fresh = k.fresh; within = λ e. absurd (cc e) }
            (λ j u ne e. let o = r.each j u e in record {
              opened = o.opened;
              begun = o.begun;
              begun_olds = o.begun_olds;
              mine = o.mine;
              told = o.told;
              theirs = o.theirs;
              fresh = o.fresh;
              within = λ z. let in' = o.within z in absurd (ne (sym in'.2 ∙ within.2));
            });
      }

  pub gives_back : (slots id : ℕ) (v : V3) (cs : List (ℕ × Option S)) (t : S) → v.inside ≡ true → v.state ≡ Some t → cs ≡ (0, Some t) ∷ []
      → Allows (Lock seat_of history fits opening seats) slots id (v, cs) 0 (λ _. 0) (λ _. ReleasesTurn (step slots 0 0 0 none) (v, cs) 0)
  gives_back slots id v cs t inside kept has = subst (λ c. Allows (Lock seat_of history fits opening seats) slots id (v, c) 0 (λ _. 0) (λ _. ReleasesTurn (step slots 0 0 0 none) (v, c) 0)) (sym has)
      (λ s r wide at bound. (view_outside v, gives, tt, gave s r id v t at inside kept, refl))

  -- a seat rings a bell, whose number is in none of the rule's words
  rung : (s : State (Option S) V3) (r : Lock seat_of history fits opening seats s) (id : ℕ) (v : V3) (word n : ℕ) → get_elem? s.views id ≡ some v → 2 ≤ word
      → Lock seat_of history fits opening seats (stepped s word n id [] (view_rung word v) keeps)
  rung s r id v word n at high =
      let k = r.each id v at in
      let w : V3 = view_rung word v in
      let first : get_or (set s.words word n) 0 0 ≡ get_or s.words 0 0 = get_or-set_other s.words word 0 n 0 (λ e. omega (arith, e, high)) in
      record {
        core = r.core;
        notes = r.notes;
        owner = r.owner;
        holder = r.holder;
        five = length-set s.words word n ∙ r.five;
        one = r.one;
        fitting = r.fitting;
        sized = r.sized;
        counted = get_or-set_other s.words word 1 n 0 (λ e. omega (arith, e, high)) ∙ r.counted;
        home = λ z. r.home (sym first ∙ z);
        held = λ busy. let (u, is, inside) = r.held (λ z. busy (first ∙ z)) in dite (ℕ_discrete r.holder id)
            (λ e. let same : v ≡ u = some-injective v u (sym at ∙ (sym (ap (get_elem? s.views) e) ∙ is)) in
            (w, subst (λ h. get_elem? (set s.views id w) h ≡ some w) (sym e) (set_at s.views id v w at), cc (same, inside)))
            (λ ne. (u, set_else s.views id r.holder w ne ∙ is, inside));
        each = subst (λ z. (j : ℕ) (u : V3) → get_elem? (set s.views id w) j ≡ some u → Knows seat_of history opening seats r.core r.notes r.owner z r.holder j u) (sym first)
            (each_set (Knows seat_of history opening seats r.core r.notes r.owner (get_or s.words 0 0) r.holder) s.views id w
            record { opened = k.opened; begun = k.begun; begun_olds = k.begun_olds; mine = k.mine; told = k.told; theirs = k.theirs; fresh = k.fresh; within = k.within }
            (λ j u ne e. r.each j u e));
      }

  pub rings : (slots id : ℕ) (v : V3) (cs : List (ℕ × Option S)) (word : ℕ) (f : ℕ → ℕ) → 2 ≤ word
      → Allows (Lock seat_of history fits opening seats) slots id (v, cs) word f (RingsBell (step slots word 1 0 none) (v, cs))
  rings slots id v cs word f high s r wide at bound = (view_rung word v, keeps, tt, rung s r id v word (f (get_or s.words word 0)) at high, refl)

-- the one slot that is held
pub one_hand : {A : Type 0} (l : List (ℕ × A)) (x : ℕ × A) → l ≡ x ∷ [] → l ≡ x ∷ rest l
one_hand l x e = e ∙ ap (λ z. x ∷ rest z) (sym e)
