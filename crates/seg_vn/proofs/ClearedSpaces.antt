-- A space whose last part goes.
use Rattle.std.proofs.Common.{◌≡◌, ℕ, ◌+◌, ◌-◌, ◌<◌, ◌≤◌, Bool, true, false, cond, List, Option, Some, None, refl, sym, ap, ◌∙◌, inl, inr, subst, arith}
use Rattle.std.specs.Prelude.{option_map, is_some, IsSome, nat_le, nat_lt}
use Rattle.std.specs.Ordering.{nat_cmp}
use Rattle.std.specs.FinMap as finite
use Rattle.std.specs.FinSet as set
use Rattle.std.proofs.lemmas.Bool.{cases_lt, and_left, and_right, lt-leb, le-ltb}
use Rattle.seg_ops.specs.addr_space.Space.{Part, piece_at, begins, without_part, IsInOrder, FindsLast}
use Rattle.seg_ops.proofs.addr_space.PartLemmas.{at-without_part}
use Rattle.seg_ops.proofs.addr_space.PartLists.{begins-first, pages-step}
use Rattle.seg_ops.specs.page_store.Notes.{Notes}
use Rattle.seg_ops.specs.flat_model.Access.{with_space}
use Rattle.seg_ops.specs.flat_model.Flat.{Cell, Flat, Space, without_unnamed}
use Rattle.seg_ops.specs.flat_model.Mapping.{cells_of, without_pages}
use Rattle.seg_ops.specs.flat_model.Space.{is_in_range, without_range}
use Rattle.seg_ops.specs.flat_model.Words.{Page}
use Rattle.seg_ops.proofs.flat_model.Ranges.{same_space, get-insert_here, get-without_range, insert_same}
use Rattle.seg_ops.proofs.flat_model.Reserve.{put_back}
use Rattle.seg_ops.specs.vm_world.FlatMemory.{Memory, flat_memory, cell_of}
use Rattle.seg_ops.specs.vm_world.MemoryFits.{MemoryFits}
use Rattle.seg_ops.specs.vm_world.Pages.{contents_of, place_contents, page_value}
use Rattle.seg_ops.specs.vm_world.Segments.{Spaces, Spot}
use Rattle.seg_ops.specs.vm_world.World.{World}
use Rattle.seg_ops.specs.vm_world.declared.segment.Segment.{Segment}
use Rattle.seg_ops.proofs.vm_world.ComingParts.{zero-pages-of}
use Rattle.seg_ops.proofs.vm_world.Maps.{insert-twice}
use Rattle.seg_ops.proofs.vm_world.SegmentSteps.{segment_rule}
use Rattle.seg_ops.proofs.vm_world.ShownZeros.{zeros-are}
use Rattle.seg_ops.proofs.vm_world.SweptFlat.{space-is, cell-is}
use Rattle.seg_ops.proofs.vm_world.Unnamed.{pages-joined}
use Rattle.seg_ops.proofs.vm_world.Shapes.{pages-respects}
use Rattle.seg_ops.proofs.Composed.{keeps-same}
use Rattle.seg_vn.specs.Clears.{ChangesSpace, SpaceFits, StartsAt}
use Rattle.seg_vn.specs.Cuts.{IsPartAt}

-- The part that was taken out, and its piece.
pub record Goes (parts : List (Part Segment)) (k : ℕ) (s : Segment) : Type 0 where
  pub part : Part Segment
  pub is : begins parts k ≡ Some part
  pub piece : part.piece ≡ s

pub none-goes : (o : Option (Part Segment)) (r : Option Segment) → IsSome o → r ≡ option_map (λ (p : Part Segment). p.piece) o → r ≡ None → ⊥
none-goes None r some e is = let z : false ≡ true = some in cc
none-goes (Some p) r some e is = let z : None ≡ Some p.piece = sym is ∙ e in cc

pub goes : (parts : List (Part Segment)) (k : ℕ) (r : Option Segment) (s : Segment) → r ≡ option_map (λ (p : Part Segment). p.piece) (begins parts k) → r ≡ Some s → Goes parts k s
goes parts k r s e is = by_part (begins parts k) refl (sym e ∙ is)
  where
    by_part : (o : Option (Part Segment)) → begins parts k ≡ o → option_map (λ (p : Part Segment). p.piece) o ≡ Some s → Goes parts k s
    by_part None e is = absurd (let z : None ≡ Some s = is in cc)
    by_part (Some p) e is = record { part = p; is = e; piece = let z : Some p.piece ≡ Some s = is in cc }

-- it is the part that begins with its page
abbrev pub part-leaves : (w : World) (spaces : Spaces) (p : ℕ) (parts : List (Part Segment)) (k : ℕ) (s : Segment) → Goes parts k s → MemoryFits (record { world = w; spaces = finite.insert spaces p parts }) → IsPartAt w (finite.insert spaces p parts) p k s
part-leaves w spaces p parts k s g fits = record { parts = parts; part = g.part; memory = fits; here = get-insert_here spaces p parts; starts = g.is; piece = g.piece }

-- no page is in an empty range
pub none-out : (k q : ℕ) → is_in_range k (k - k) q ≡ false
none-out k q = elim (cases_lt q k) [
  | inl before ↦ and_left (nat_le k q) (nat_lt q (k + (k - k))) (lt-leb k q before)
  | inr past ↦ and_right (nat_le k q) (nat_lt q (k + (k - k))) (le-ltb q (k + (k - k)) (omega (arith, past)))
]

pub cut-map : {X Y : Type 0} (f : X → Y) (b : Bool) (o : Option X) → option_map f (cond b None o) ≡ cond b None (option_map f o)
cut-map f true o = refl
cut-map f false o = refl

-- ONE PART AFTER ANOTHER goes, from the back.
module _ (w : World) (zeros : List (Option ℕ)) (spaces : Spaces) (p : ℕ) (old : List (Part Segment)) (fits : SpaceFits w zeros spaces p old) where
  abbrev m : Memory
  m = record { world = w; spaces = spaces }

  module _ (born : set.FinSet nat_cmp) (notes : Notes) where
    abbrev F : Flat
    F = flat_memory m born notes

    abbrev C : Space
    C = cells_of F p

    abbrev cell : Spot → Cell
    cell x = cell_of (place_contents (page_value w notes) w.maps) x

    -- the cells outside a range are those of the pieces there
    cut : (a n q : ℕ) → cond (is_in_range a n q) None (finite.get C q) ≡ option_map cell (cond (is_in_range a n q) None (piece_at old q))
    cut a n q = ap (cond (is_in_range a n q) None) (cell-is m p old born notes q fits.here) ∙ sym (cut-map cell (is_in_range a n q) (piece_at old q))

    none-flat : (k : ℕ) → F ≡ without_pages F p k (k - k)
    none-flat k =
        let same : without_range C k (k - k) ≡ C = same_space _ _ (λ q. get-without_range C k (k - k) q ∙ ap (λ (b : Bool). cond b None (finite.get C q)) (none-out k q)) in
        let back : with_space F p C ≡ F = ap (λ (t : finite.FinMap nat_cmp Space). record F { spaces = t }) (put_back F p (ap is_some (space-is m p old born notes fits.here))) in
        let named : without_unnamed F ≡ F = ap (λ (t : finite.FinMap nat_cmp (List Page)). record F { zeros = t })
        (sym (zeros-are m born (contents_of w notes) fits.memory.segments F.zeros (λ z n there. zero-pages-of m fits.memory born notes z n there))) in
        sym (ap (λ (S : Space). without_unnamed (with_space F p S)) same ∙ ap without_unnamed back ∙ named)

    range-flat : (a n b k : ℕ) → ((q : ℕ) → cond (is_in_range a n q) None (piece_at old q) ≡ cond (is_in_range b k q) None (piece_at old q)) → without_pages F p a n ≡ without_pages F p b k
    range-flat a n b k same = ap (λ (S : Space). without_unnamed (with_space F p S))
        (same_space _ _ (λ q. get-without_range C a n q ∙ cut a n q ∙ ap (option_map cell) (same q) ∙ sym (cut b k q) ∙ sym (get-without_range C b k q)))

    both-flat : (a n b k c l : ℕ) → ((q : ℕ) → cond (is_in_range b k q) None (cond (is_in_range a n q) None (piece_at old q)) ≡ cond (is_in_range c l q) None (piece_at old q))
        → without_pages (without_pages F p a n) p b k ≡ without_pages F p c l
    both-flat a n b k c l same = pages-joined F p a n b k c l (λ q.
        ap (cond (is_in_range b k q) None) (cut a n q) ∙ sym (cut-map cell (is_in_range b k q) (cond (is_in_range a n q) None (piece_at old q))) ∙ ap (option_map cell) (same q) ∙ sym (cut c l q))

  pub none-left : (k : ℕ) → ChangesSpace p m (record { world = w; spaces = finite.insert spaces p old }) zeros (λ F. without_pages F p k (k - k))
  none-left k = subst (λ (s : Spaces). ChangesSpace p m (record { world = w; spaces = s }) zeros (λ F. without_pages F p k (k - k))) (sym (insert_same spaces p old fits.here)) (record {
    changes = segment_rule.same p m m (λ F. F) (λ F. without_pages F p k (k - k)) (λ born notes. none-flat born notes k) (segment_rule.keeps p w w spaces fits.memory (keeps-same w spaces fits.memory));
    known = fits.known;
  })

  pub range-left : (new : Memory) (list : List (Option ℕ)) (a n b k : ℕ) → ((q : ℕ) → cond (is_in_range a n q) None (piece_at old q) ≡ cond (is_in_range b k q) None (piece_at old q)) → ChangesSpace p m new list (λ F. without_pages F p a n)
      → ChangesSpace p m new list (λ F. without_pages F p b k)
  range-left new list a n b k same done = record {
    changes = segment_rule.same p m new (λ F. without_pages F p a n) (λ F. without_pages F p b k) (λ born notes. range-flat born notes a n b k same) done.changes;
    known = done.known;
  }

  pub part-left : (mid new : World) (one two : List (Option ℕ)) (now next : List (Part Segment)) (a n b k c l : ℕ) → ((q : ℕ) → cond (is_in_range b k q) None (cond (is_in_range a n q) None (piece_at old q)) ≡ cond (is_in_range c l q) None (piece_at old q)) → next ≡ without_part b now
      → ChangesSpace p m (record { world = mid; spaces = finite.insert spaces p now }) one (λ F. without_pages F p a n)
      → ChangesSpace p (record { world = mid; spaces = finite.insert spaces p now }) (record { world = new; spaces = finite.insert (finite.insert spaces p now) p (without_part b now) }) two (λ F. without_pages F p b k)
      → ChangesSpace p m (record { world = new; spaces = finite.insert spaces p next }) two (λ F. without_pages F p c l)
  part-left mid new one two now next a n b k c l same is done goes =
      let before : Memory = record { world = mid; spaces = finite.insert spaces p now } in
      let after : Memory = record { world = new; spaces = finite.insert (finite.insert spaces p now) p (without_part b now) } in
      subst (λ (s : Spaces). ChangesSpace p m (record { world = new; spaces = s }) two (λ F. without_pages F p c l)) (insert-twice spaces p now (without_part b now) ∙ ap (finite.insert spaces p) (sym is)) (record {
        changes = segment_rule.same p m after (λ F. without_pages (without_pages F p a n) p b k) (λ F. without_pages F p c l) (λ born notes. both-flat born notes a n b k c l same)
            (segment_rule.joined p m before after (λ F. without_pages F p a n) (λ F. without_pages F p b k) (pages-respects p b k) done.changes goes.changes);
        known = goes.known;
      })

-- THE LAST PART of a range goes, behind which the range has no piece any more.
module _ (old now : List (Part Segment)) (top end k : ℕ) (x : Part Segment) (order : IsInOrder 1 now) (le : top ≤ end) (lt : k < top) (pages : (q : ℕ) → piece_at now q ≡ cond (is_in_range top (end - top) q) None (piece_at old q))
    (edge : StartsAt old end) (last : FindsLast now top (Some k)) (is : begins now k ≡ Some x) where
  first : x.first ≡ k
  first = begins-first now k x is

  pub next-pages : (q : ℕ) → piece_at (without_part k now) q ≡ cond (is_in_range k (end - k) q) None (piece_at old q)
  next-pages q = pages-step old now top end k x order le lt pages edge last is q

  pub next-ranges : (n : ℕ) → x.pages ≡ n → (q : ℕ) → cond (is_in_range k n q) None (cond (is_in_range top (end - top) q) None (piece_at old q)) ≡ cond (is_in_range k (end - k) q) None (piece_at old q)
  next-ranges n size q = ap (cond (is_in_range k n q) None) (sym (pages q)) ∙ (λ i. cond (is_in_range (sym first i) (sym size i) q) None (piece_at now q)) ∙ sym (at-without_part 1 k now x order is q) ∙ next-pages q
