-- IN FLAT MEMORY a cell of a process that comes and goes again keeps a zero object, while the cells that named it go and others come.
use Rattle.std.proofs.Common.{◌≡◌, ◌≢◌, ℕ, ◌-◌, true, Option, Some, None, sym, ap, ◌∙◌, inl, inr}
use Rattle.std.specs.Prelude.{option_and_then, is_some, unwrap_or, IsSome}
use Rattle.std.specs.Ordering.{nat_cmp}
use Rattle.std.specs.Cmp.{nat_cmp_total}
use Rattle.std.specs.FinMap as finite
use Rattle.std.proofs.lemmas.Bool.{cases_eq}
use Rattle.flat_model.specs.Access.{with_space}
use Rattle.flat_model.specs.Flat.{Cell, Flat, Space, space_of, zero_of, is_named, without_unnamed}
use Rattle.flat_model.specs.Mapping.{cells_of, without_pages}
use Rattle.flat_model.specs.Processes.{without_process}
use Rattle.flat_model.specs.Space.{without_range, with_cells}
use Rattle.flat_model.proofs.Mappings.{cells_of-with_space}
use Rattle.flat_model.proofs.Named.{named_zeros-from_cell}
use Rattle.flat_model.proofs.Ranges.{get-insert_here, get-insert_apart, get-remove_here, get-remove_apart, get-with_cells}
use Rattle.flat_model.proofs.Reserve.{names_from, names_before, names_before_exit}
use Rattle.vm_world.specs.SegmentSteps.{with_new_cells}
use Rattle.vm_world.proofs.Unnamed.{swept-spaces, process-after-pages}

module _ (F : Flat) (p g z first n : ℕ) (hold cell : ℕ → Cell) (apart : g ≢ p) (alive : IsSome (space_of F p)) (none : space_of F g ≡ None)
    (holds : (i : ℕ) → zero_of (hold i) ≡ Some z) (each : (i y : ℕ) → zero_of (cell i) ≡ Some y → y ≡ z) where
  abbrev before : Flat
  before = with_space F g finite.empty

  abbrev C : Space
  C = with_cells (cells_of before g) 1 1 hold

  abbrev held : Flat
  held = with_space before g C

  abbrev A : Space
  A = without_range (cells_of held p) first n

  abbrev cleared : Flat
  cleared = with_space held p A

  abbrev B : Space
  B = with_cells (cells_of cleared p) first n cell

  abbrev put : Flat
  put = with_space cleared p B

  -- the process has its cells in between
  held-at : (q : ℕ) → q ≢ g → space_of held q ≡ space_of F q
  held-at q ne = get-insert_apart before.spaces g C q ne ∙ get-insert_apart F.spaces g finite.empty q ne

  ours : p ≢ g
  ours e = apart (sym e)

  held-alive : IsSome (space_of held p)
  held-alive = ap is_some (held-at p ours) ∙ alive

  cells-were : cells_of held p ≡ cells_of F p
  cells-were = ap (λ (o : Option Space). unwrap_or o finite.empty) (held-at p ours)

  -- the object is named all the while
  named : is_named cleared z ≡ true
  named =
      let here : space_of cleared g ≡ Some C = get-insert_apart held.spaces p A g apart ∙ get-insert_here before.spaces g C in
      let at : finite.get C 1 ≡ Some (hold (1 - 1)) = get-with_cells (cells_of before g) 1 1 hold 1 in
      named_zeros-from_cell cleared g 1 z (hold (1 - 1)) (ap (option_and_then (λ (s : Space). finite.get s 1)) here ∙ at) (holds (1 - 1))

  swept-cleared : without_pages (without_unnamed held) p first n ≡ without_unnamed cleared
  swept-cleared = swept-spaces held cleared.spaces (λ y. names_before held p first n y held-alive)

  swept-put : with_new_cells (without_unnamed cleared) p first n cell ≡ without_unnamed put
  swept-put = swept-spaces cleared put.spaces (λ y is. names_from cleared p first n y (cells_of cleared p) cell (is_named cleared y ≡ true) is
      (λ i names. ap (is_named cleared) (each i y names) ∙ named)
      (names_before cleared p first n y (ap is_some (get-insert_here held.spaces p A))))

  swept-left : without_process (without_pages (without_unnamed put) g 1 1) g ≡ without_process put g
  swept-left = process-after-pages (without_unnamed put) g 1 1 ∙ swept-spaces put (finite.remove put.spaces g) (names_before_exit put g)

  -- and what is left are the others' cells, and the new ones
  abbrev U : Flat
  U = with_space F p (without_range (cells_of F p) first n)

  abbrev new : Space
  new = with_cells (cells_of U p) first n cell

  same-cells : B ≡ new
  same-cells = ap (λ (s : Space). with_cells s first n cell) (cells_of-with_space held p A ∙ ap (λ (s : Space). without_range s first n) cells-were ∙ sym (cells_of-with_space F p (without_range (cells_of F p) first n)))

  same-spaces : finite.remove put.spaces g ≡ finite.insert U.spaces p new
  same-spaces = finite.same_map nat_cmp_total finite.nat_cmp-IsAntisymmetric (finite.remove put.spaces g) (finite.insert U.spaces p new) (λ q. elim (cases_eq q g) [
    | inl e ↦
        ap (finite.get (finite.remove put.spaces g)) e ∙ get-remove_here put.spaces g ∙ sym none ∙ sym (get-insert_apart F.spaces p (without_range (cells_of F p) first n) g apart) ∙ sym (get-insert_apart U.spaces p new g apart)
        ∙ ap (finite.get (finite.insert U.spaces p new)) (sym e)
    | inr ne ↦ get-remove_apart put.spaces g q ne ∙ elim (cases_eq q p) [
      | inl e ↦ ap (finite.get put.spaces) e ∙ get-insert_here cleared.spaces p B ∙ ap (λ (s : Space). Some s) same-cells ∙ sym (get-insert_here U.spaces p new) ∙ ap (finite.get (finite.insert U.spaces p new)) (sym e)
      | inr far ↦
          get-insert_apart cleared.spaces p B q far ∙ get-insert_apart held.spaces p A q far ∙ held-at q ne ∙ sym (get-insert_apart F.spaces p (without_range (cells_of F p) first n) q far) ∙ sym (get-insert_apart U.spaces p new q far)
    ]
  ])

  pub held-flat : without_process (without_pages (with_new_cells (without_pages (with_new_cells (with_space F g finite.empty) g 1 1 hold) p first n) p first n cell) g 1 1) g
      ≡ with_new_cells (with_space F p (without_range (cells_of F p) first n)) p first n cell
  held-flat =
      ap (λ (G : Flat). without_process (without_pages (with_new_cells G p first n cell) g 1 1) g) swept-cleared
      ∙ ap (λ (G : Flat). without_process (without_pages G g 1 1) g) swept-put
      ∙ swept-left
      ∙ ap (λ (t : finite.FinMap nat_cmp Space). without_unnamed (record F { spaces = t })) same-spaces
