-- Loads, splits and joins keep the rule of the lock.
use Rattle.std.proofs.Common.{◌≡◌, ◌≢◌, ℕ, zero, suc, ◌+◌, ◌<◌, true, false, eqb, List, [], ◌∷◌, ◌++◌, length, get_or, set, refl, ap, sym, ◌∙◌, subst, arith}
use Rattle.std.proofs.Common.{length-set, ⊎_elim, Option, Some, None, le_refl, if◌then◌else◌, eq-eqb, ne_eqb, replicate}
use Rattle.std.proofs.lemmas.List.{length-replicate}
use mathlib.Core.Logic.{dite}
use mathlib.Core.Option.{none, some, some-injective, some-ne-none}
use mathlib.Core.List.{IsPrefix}
use native.Mathlib.Decide.{ℕ_discrete}
use lib.ListN.{get_elem?}
use lib.Seq.{set-get_or}
use Rattle.atomic_table.specs.Table.{State, keeps, step, Allows, Enters, Splits, Joins, Final, Seen, opening as table_opening}
use Rattle.atomic_table.proofs.Lists.{at_set, set_again, set_else, at_longer}
use Rattle.kernel_lock.specs.declared.board.View.{View}
use Rattle.kernel_lock.specs.declared.board.SeatPart.{SeatPart}
use Rattle.kernel_lock.specs.Rule.{Lock, Knows, HasPart, Each, courier, blank_view, dealer_at, dealt_seat, longer_list, longer_seen, with_known_seat, gatherer_of, SitsDown, LooksAtLength}
use Rattle.kernel_lock.specs.Seats.{entries_by, HasAll, IsClosed}
use Rattle.kernel_lock.proofs.Begun.{each_imp, each_at, set_at, each_set, longer_is, longer_begun, at_append, at_below, own_between}

module _ {S E N : Type 0} (seat_of : E → ℕ) (history : S → List E) (fits : S → S → List (Option N) → Type 0) (opening : S) (seats : ℕ) where
  abbrev V : Type 0
  V = View S E N

  abbrev St : Type 0
  St = State (Option S) V

  abbrev Rule : St → Type 0
  Rule = Lock seat_of history fits opening seats

  abbrev turn : St → ℕ
  turn s = get_or s.words 0 0

  abbrev Held : St → ℕ → List V → Type 0
  Held s holder vs = turn s ≢ 0 → (v : V) × (get_elem? vs holder ≡ some v) × (v.inside ≡ true)

  -- other views, of the same words and homes
  revised : (s : St) (r : Rule s) (vs : List V) (owner : ℕ → ℕ) → Held s r.holder vs
      → ((j : ℕ) (u : V) → get_elem? vs j ≡ some u → Knows seat_of history opening seats r.core r.notes owner (turn s) r.holder j u) → Rule record { words = s.words; homes = s.homes; views = vs }
  revised s r vs owner held each = record {
    core = r.core;
    notes = r.notes;
    owner = owner;
    holder = r.holder;
    five = r.five;
    one = r.one;
    fitting = r.fitting;
    sized = r.sized;
    counted = r.counted;
    home = r.home;
    held = held;
    each = each;
  }

  -- the holder is inside still, where a view that changes stays as much inside as it was
  held_set : (s : St) (holder : ℕ) (vs : List V) (id : ℕ) (v w : V) → get_elem? vs id ≡ some v → w.inside ≡ v.inside → Held s holder vs → Held s holder (set vs id w)
  held_set s holder vs id v w at same held busy = let (u, is, inside) = held busy in dite (ℕ_discrete holder id)
      (λ e. let vu : v ≡ u = some-injective v u (sym at ∙ (sym (ap (get_elem? vs) e) ∙ is)) in
      (w, subst (λ h. get_elem? (set vs id w) h ≡ some w) (sym e) (set_at vs id v w at), cc (same, inside, vu)))
      (λ ne. (u, set_else vs id holder w ne ∙ is, inside))

  pub looks : (slots id : ℕ) (v : V) (cs : List (ℕ × Option S)) → Allows Rule slots id (v, cs) 1 (λ n. n) (LooksAtLength seat_of (step slots 1 0 0 none) (v, cs))
  looks slots id v cs s r wide at bound =
      let k = r.each id v at in
      let w : V = record v { olds = [] } in (
        w,
        keeps,
        tt,
        subst (λ (ws : List ℕ). Rule record { words = ws; homes = s.homes; views = set s.views id w }) (sym (set-get_or s.words 1 0))
            (revised s r (set s.views id w) r.owner (held_set s r.holder s.views id v w at refl r.held)
            (each_set (Knows seat_of history opening seats r.core r.notes r.owner (turn s) r.holder) s.views id w
            record { opened = k.opened; begun = k.begun; begun_olds = tt; mine = k.mine; told = k.told; theirs = k.theirs; fresh = k.fresh; within = k.within }
            (λ j u ne e. r.each j u e))),
        (history r.core, sym r.counted, k.begun, k.begun_olds, refl, k.told),
      )

  pub splits_off : (id : ℕ) (v : V) → Splits Rule id v v (courier v)
  splits_off id v s r at =
      let k = r.each id v at in
      subst (λ (vs : List V). Rule record { words = s.words; homes = s.homes; views = vs ++ courier v ∷ [] }) (sym (set_again s.views id v at))
      (revised s r (s.views ++ courier v ∷ []) r.owner
      (λ busy. let (u, is, inside) = r.held busy in (u, at_longer s.views (courier v ∷ []) r.holder u is, inside))
      (λ j u e. ⊎_elim (r.each j u)
      (λ (t : (j ≡ length s.views) × (courier v ≡ u)). subst (Knows seat_of history opening seats r.core r.notes r.owner (turn s) r.holder j) t.1
      record { opened = k.opened; begun = k.begun; begun_olds = tt; mine = λ z. absurd (cc z); told = λ z. absurd (cc z); theirs = tt; fresh = λ z. absurd (cc z); within = λ z. absurd (cc z) })
      (at_append s.views (courier v) u j e)))

  pub joins_seen : (id : ℕ) (v : V) (other : ℕ) (w : V) → w.inside ≡ false → Joins Rule id v other w (longer_seen v w) blank_view
  joins_seen id v other w out s r at apart there =
      let k = r.each id v at in
      let b : V = longer_seen v w in
      let old : get_elem? s.views other ≡ some w = sym (set_else s.views id other b apart) ∙ there in
      let o = r.each other w old in
      let begins : List E → Type 0 = λ h. IsPrefix h (history r.core) in
      let whole : begins (longer_list v.seen w.seen) = longer_is begins v.seen w.seen k.begun o.begun in
      let K : ℕ → V → Type 0 = Knows seat_of history opening seats r.core r.notes r.owner (turn s) r.holder in
      revised s r (set (set s.views id b) other blank_view) r.owner
      (held_set s r.holder (set s.views id b) other w blank_view there (sym out) (held_set s r.holder s.views id v b at refl r.held))
      (each_set K (set s.views id b) other blank_view
      record {
        opened = λ x e. absurd (cc e);
        begun = (history r.core, refl);
        begun_olds = tt;
        mine = λ z. absurd (cc z);
        told = λ z. absurd
            (cc z);
        theirs = tt;
        fresh = λ z. absurd (cc z);
        within = λ z. absurd (cc z);
      }
      (λ j u ne e. each_set K s.views id b
      record {
        opened = k.opened;
        begun = whole;
        begun_olds = (k.begun, (o.begun, k.begun_olds));
        mine = k.mine;
        told = λ z. own_between seat_of v.number v.seen (longer_list v.seen w.seen) (history r.core) v.own
            (longer_begun v.seen w.seen (history r.core) k.begun o.begun).0 whole (k.told z) (k.mine z).1;
        theirs = k.theirs;
        fresh = k.fresh;
        within = k.within;
      }
      (λ i x _ f. r.each i x f) j u e))

  pub deals_out : (id : ℕ) (o : S) (n : ℕ) → n < seats → Splits Rule id (dealer_at o seats n) (dealer_at o seats (n + 1)) (dealt_seat (dealer_at o seats n))
  deals_out id o n room s r at =
      let v : V = dealer_at o seats n in
      let d : V = dealt_seat v in
      let w : V = dealer_at o seats (n + 1) in
      let k = r.each id v at in
      let free = k.fresh refl n (le_refl n) (subst (λ z. n < z) (sym r.sized) room) in
      let owner : ℕ → ℕ = λ i. if eqb i n then length s.views else r.owner i in
      let other : (i : ℕ) → i ≢ n → owner i ≡ r.owner i = λ i ne. rw (ne_eqb i n ne) refl in
      let new : owner n ≡ length s.views = rw (eq-eqb n n refl) refl in
      let K : ℕ → V → Type 0 = Knows seat_of history opening seats r.core r.notes owner (turn s) r.holder in
      revised s r (set s.views id w ++ d ∷ []) owner
      (λ busy. let (u, is, inside) = held_set s r.holder s.views id v w at refl r.held busy in (u, at_longer (set s.views id w) (d ∷ []) r.holder u is, inside))
      (λ j u e. ⊎_elim
      (each_set K s.views id w
      record {
        opened = k.opened;
        begun = k.begun;
        begun_olds = tt;
        mine = λ z. absurd (cc z);
        told = λ z. absurd (cc z);
        theirs = tt;
        fresh = λ _ i lo hi. let p = k.fresh refl i (omega (arith, lo)) hi in (p.0, p.1, other i (λ z. omega (arith, z, lo)) ∙ p.2);
        within = λ z. absurd (cc z);
      }
      (λ j u ne e. let q = r.each j u e in
      let stays : (i : ℕ) (m : Option N) (own : List E) → HasPart seat_of history r.core r.notes r.owner j i m own → HasPart seat_of history r.core r.notes owner j i m own =
      λ i m own p. (p.0, p.1, other i (λ z. ne (sym p.2 ∙ (ap r.owner z ∙ free.2))) ∙ p.2) in
      record {
        opened = q.opened;
        begun = q.begun;
        begun_olds = q.begun_olds;
        mine = λ z. stays u.number u.note u.own (q.mine z);
        told = q.told;
        theirs = each_imp _ _ (λ (p : SeatPart E N) z. (stays p.number p.note p.own z.0, z.1)) u.others q.theirs;
        fresh = λ e i lo hi. stays i None [] (q.fresh e i lo hi);
        within = q.within;
      })
      j u)
      (λ (t : (j ≡ length (set s.views id w)) × (d ≡ u)). subst (K j) t.1
      record {
        opened = k.opened;
        begun = k.begun;
        begun_olds = tt;
        mine = λ _. (free.0, free.1, new ∙ (sym (length-set s.views id w) ∙ sym t.0));
        told = λ _. refl;
        theirs = tt;
        fresh = λ z. absurd (cc z);
        within = λ z. absurd (cc z);
      })
      (at_append (set s.views id w) (d) u j e))

  -- whoever closes takes in a seat with its number
  pub joins_part : (id : ℕ) (v : V) (other : ℕ) (w : V) → v.inside ≡ false → v.seated ≡ false → v.deals ≡ false → w.inside ≡ false → w.seated ≡ true
      → Joins Rule id v other w (with_known_seat v w) blank_view
  joins_part id v other w out unseated dealt out' seated s r at apart there =
      let k = r.each id v at in
      let b : V = with_known_seat v w in
      let old : get_elem? s.views other ≡ some w = sym (set_else s.views id other b apart) ∙ there in
      let o = r.each other w old in
      let part = o.mine seated in
      let owner : ℕ → ℕ = λ i. if eqb i w.number then id else r.owner i in
      let else' : (i : ℕ) → i ≢ w.number → owner i ≡ r.owner i = λ i ne. rw (ne_eqb i w.number ne) refl in
      let here : (i : ℕ) → i ≡ w.number → owner i ≡ id = λ i e. rw (eq-eqb i w.number e) refl in
      let K : ℕ → V → Type 0 = Knows seat_of history opening seats r.core r.notes owner (turn s) r.holder in
      let Part' : ℕ → (ℕ → ℕ) → ℕ → Option N → List E → Type 0 = λ j f i m own. HasPart seat_of history r.core r.notes f j i m own in
      let mine : (i : ℕ) (m : Option N) (own : List E) → Part' id r.owner i m own → Part' id owner i m own =
      λ i m own p. (p.0, p.1, dite (ℕ_discrete i w.number) (here i) (λ ne. else' i ne ∙ p.2)) in
      revised s r (set (set s.views id b) other blank_view) owner
      (held_set s r.holder (set s.views id b) other w blank_view there (sym out') (held_set s r.holder s.views id v b at refl r.held))
      (each_set K (set s.views id b) other blank_view
      record {
        opened = λ x e. absurd (cc e);
        begun = (history r.core, refl);
        begun_olds = tt;
        mine = λ z. absurd (cc z);
        told = λ z. absurd
            (cc z);
        theirs = tt;
        fresh = λ z. absurd (cc z);
        within = λ z. absurd (cc z);
      }
      (λ j u ne e. ⊎_elim
      (λ (t : (j ≡ id) × (b ≡ u)). subst (λ (x : ℕ × V). K x.0 x.1) (λ i. (sym t.0 i, t.1 i)) record {
        opened = k.opened;
        begun = k.begun;
        begun_olds = k.begun_olds;
        mine = λ z. absurd (cc (z, unseated));
        told = λ z. absurd (cc (z, unseated));
        theirs = (((part.0, part.1, here w.number refl), o.begun), each_imp _ _ (λ (p : SeatPart E N) z. (mine p.number p.note p.own z.0, z.1)) v.others k.theirs);
        fresh = λ z. absurd (cc (z, dealt));
        within = λ z. absurd (cc (z, out));
      })
      (λ (t : (j ≢ id) × (get_elem? s.views j ≡ some u)).
      let q = r.each j u t.1 in
      let stays : (i : ℕ) (m : Option N) (own : List E) → Part' j r.owner i m own → Part' j owner i m own =
      λ i m own p. (p.0, p.1, else' i (λ z. ne (sym p.2 ∙ (ap r.owner z ∙ part.2))) ∙ p.2) in
      record {
        opened = q.opened;
        begun = q.begun;
        begun_olds = q.begun_olds;
        mine = λ z. stays u.number u.note u.own (q.mine z);
        told = q.told;
        theirs = each_imp _ _ (λ (p : SeatPart E N) z. (stays p.number p.note p.own z.0, z.1)) u.others q.theirs;
        fresh = λ e i lo hi. stays i None [] (q.fresh e i lo hi);
        within = q.within;
      })
      (at_set s.views id j b u e)))

  -- a seat that knows nothing may come at any time
  pub sits : (slots i : ℕ) → Enters Rule slots i (λ n w. SitsDown (step slots i 0 0 none) (dealer_at opening seats 0, []) n (w, []))
  sits slots i s r wide bound = (
    blank_view,
    revised s r (s.views ++ blank_view ∷ []) r.owner
        (λ busy. let (u, is, inside) = r.held busy in (u, at_longer s.views (blank_view ∷ []) r.holder u is, inside))
        (λ j u e. ⊎_elim (r.each j u)
        (λ (t : (j ≡ length s.views) × (blank_view ≡ u)). subst (Knows seat_of history opening seats r.core r.notes r.owner (turn s) r.holder j) t.1
        record {
          opened = λ x e. absurd (cc e);
          begun = (history r.core, refl);
          begun_olds = tt;
          mine = λ z. absurd (cc z);
          told = λ z. absurd
              (cc z);
          theirs = tt;
          fresh = λ z. absurd (cc z);
          within = λ z. absurd (cc z);
        })
        (at_append s.views blank_view u j e)),
    refl,
  )

  -- with all seats gathered nobody is inside, and the state that lies in the slot fits all notes
  pub closes : (id : ℕ) (ps : List (SeatPart E N)) (ws : List ℕ) (xs : List (Option S)) → Final (Seen Rule id (gatherer_of ps)) ws xs → HasAll seats ps
      → (t : S) × (get_elem? xs 0 ≡ some (Some t)) × IsClosed seat_of history fits opening seats ps t
  closes id ps ws xs (s, (r, at), words, wide, lies) all =
      let k = r.each id (gatherer_of ps) at in
      let P : SeatPart E N → Type 0 = λ p. HasPart seat_of history r.core r.notes r.owner id p.number p.note p.own × IsPrefix p.seen (history r.core) in
      let free : turn s ≡ 0 = dite (ℕ_discrete (turn s) 0) (λ e. e) (λ busy.
      let (u, is, inside) = r.held busy in
      let q = r.each r.holder u is in
      let part = q.mine (q.within inside).0 in
      let below = at_below r.notes u.number u.note part.0 in
      let sized = r.sized in
      let there = all u.number (omega (arith, below, sized)) in
      let mine = (each_at P ps k.theirs there.0 there.1 there.2).0 in
      let same : r.holder ≡ id = sym part.2 ∙ (ap r.owner (sym there.3) ∙ mine.2) in
      let whole : gatherer_of ps ≡ u = some-injective (gatherer_of ps) u (sym at ∙ (sym (ap (get_elem? s.views) same) ∙ is)) in
      absurd (cc (inside, ap (λ (z : V). z.inside) whole))) in (
        r.core,
        lies 0 (Some r.core) (ap (λ hs. get_elem? hs 0) (r.home free)),
        record {
          notes = r.notes;
          fitting = r.fitting;
          whole = r.sized;
          holds = λ i p e. let h = each_at P ps k.theirs i p e in (h.0.0, h.1, h.0.1);
        },
      )

replicate_at : {A : Type 0} (n k : ℕ) (a : A) → k < n → get_elem? (replicate n a) k ≡ some a
replicate_at zero k a lt = absurd (omega (arith, lt))
replicate_at (suc n) zero a lt = refl
replicate_at (suc n) (suc k) a lt = replicate_at n k a (omega (arith, lt))

-- the rule as the lock is started
pub starts : {S E N : Type 0} (seat_of : E → ℕ) (history : S → List E) (fits : S → S → List (Option N) → Type 0) (o : S) (seats : ℕ) → history o ≡ [] → fits o o (replicate seats None)
    → Lock seat_of history fits o seats (table_opening (0 ∷ 0 ∷ 0 ∷ 0 ∷ 0 ∷ []) (Some o ∷ []) (dealer_at o seats 0))
starts {S} {E} {N} seat_of history fits o seats none_yet fit = record {
  core = o;
  notes = replicate seats None;
  owner = λ _. 0;
  holder = 0;
  five = refl;
  one = refl;
  fitting = fit;
  sized = length-replicate seats None;
  counted = sym (ap length none_yet);
  home = λ _. refl;
  held = λ ne. absurd (ne refl);
  each = known;
}
  where
    known : (j : ℕ) (u : View S E N) → get_elem? (dealer_at o seats 0 ∷ []) j ≡ some u → Knows seat_of history o seats o (replicate seats None) (λ _. 0) 0 0 j u
    known zero u e = subst (Knows seat_of history o seats o (replicate seats None) (λ _. 0) 0 0 0) (some-injective (dealer_at o seats 0) u e) record {
      opened = λ x e. (cc e, refl);
      begun = (history o, refl);
      begun_olds = tt;
      mine = λ z. absurd (cc z);
      told = λ z. absurd (cc z);
      theirs = tt;
      fresh = λ _ i lo hi. (replicate_at seats i None (subst (λ z. i < z) (length-replicate seats None) hi), ap (entries_by seat_of i) none_yet, refl);
      within = λ z. absurd (cc z);
    }
    known (suc j) u e = absurd (some-ne-none u (sym e))

-- after a join and a look, what the seat has seen begins with what both had seen
pub meets : {S E N : Type 0} (v w m n : View S E N) (f h : List E) → m ≡ longer_seen v w → w.seen ≡ f → Each (λ o. IsPrefix o h) m.olds → n.seen ≡ m.seen → IsPrefix v.seen n.seen × IsPrefix f n.seen
meets {S} {E} {N} v w m n f h joined from begun looked =
    let all : Each (λ (o : List E). IsPrefix o h) (v.seen ∷ w.seen ∷ v.olds) = subst (λ (z : View S E N). Each (λ (o : List E). IsPrefix o h) z.olds) joined begun in
    let both = longer_begun v.seen w.seen h all.0 all.1.0 in
    let same : n.seen ≡ longer_list v.seen w.seen = looked ∙ ap (λ (z : View S E N). z.seen) joined in
    (subst (IsPrefix v.seen) (sym same) both.0, subst (λ z. IsPrefix z n.seen) from (subst (IsPrefix w.seen) (sym same) both.1))
