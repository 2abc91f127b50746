-- What the walks of the region cite, and steps that they share. Assumes `Logic`.
use lib.Dec.{T}
use mir.Syntax.{given as dict_at, Width, int_big, Args, Dict, a_type, dcons, dnil}
use mir.Val.{vstruct, vcons, vnil, has_ty, WT, Fits}
use base.Logic.{via, guard_i}
use prog.Wp.{Env}
use types.Run.{Opd}
use types.Kit.{Goal, Seq, Step, step, Item}
use denote.RattleType.{Valss}
use denote.Param.{bounded}
use denote.Param.Laws.{Laws, param_laws, of_field}
use denote.Param.Shared.{copy_shared}
use denote.Struct.Field.{u8-field}
use denote.Struct.Laws.{u8-laws, u8-copy}
use denote.Struct.Struct.{Struct, within}
use Rattle.std_alloc.specs.contracts.vec.Vec as V
use Rattle.std_alloc.proofs.vec.Vec.TheLaws as vec_laws
use Rattle.std.proofs.alloc.Calls.{handle_tells}
pub use Rattle.std.proofs.Common.{◌≡◌, ℕ, ◌+◌, ◌*◌, ◌^◌, ◌<◌, ◌≤◌, List, [], ◌∷◌, ◌++◌, length, take, drop as drop_l}
pub use Rattle.std.proofs.Common.{arith, lit<, refl, sym, ap, subst, ◌∙◌, Option, Some, None, MutBor, Vec}
pub use Rattle.std.proofs.alloc.Calls.{Goes-blank}
pub use Rattle.std.proofs.lemmas.List.{with_items_is}
pub use Rattle.std.proofs.raw_atomic.Walks.{proved, proved_at}
pub use Rattle.std.specs.Vec.{with_items}
pub use Rattle.std.specs.declared.alloc.Allocator.{Ghosts}
pub use base.Fml.{Fml, Lft, ftrue, flft, fsep, feq, fall, fwand}
pub use base.Fraction.{full_share}
pub use base.Logic.{ent, sep, emp, never, id⊢}
pub use contract.BorrowLft.{◌⊑◌}
pub use contract.Monad.{fact}
pub use contract.Running.{tables}
pub use denote.Array.{Array}
pub use denote.Builtin.{u8, usize, RawPtr}
pub use denote.Exit.{yes, no}
pub use denote.Laws.{Typed}
pub use denote.Memory.{mem, part_at, cell_at, shared_of}
pub use denote.Opens.{unhide, hide}
pub use denote.Param.{layout, param}
pub use denote.Plain.{uint_vals, uint_Tells}
pub use denote.RattleType.{RattleType}
pub use denote.RawPtr.{Ptr, block_ptr, null_ptr, block_of, count_of, InBlock, at_block, in_a_block, in_block, lies_at}
pub use denote.RawPtr.{◌+ₚ◌, rawptr_vals, rawptr_Tells}
pub use denote.RawPtr.Bytes.{bytes, bytes_cut, bytes_glue, bytes_apart, bytes_whole}
pub use denote.Signature.{plain}
pub use denote.Slice.{slice_val, elements_shared}
pub use denote.Steps.{nothing, heard, opens}
pub use denote.Struct.Struct.{as_fields}
pub use denote.Triple.Walked.{Stays, says, stay_dropped, walk_of, ends_at, Goes-dropped, Goes-spent_ref}
pub use mir.MapTy.{inst_fn}
pub use mir.Syntax.{w64, named, seq, assign, place, rv_opd, copy, return}
pub use mir.Val.{Val, vptr, vint}
pub use prog.Wp.{WpFn}
pub use seplogic.Ra.Ura.{Ura}
pub use types.ByLocal.{alloc_all, pass_all, free_all, look_at, get, get_in, sets, sets_last, env}
pub use types.Kit.{‵, raw, ◌⊛◌, some, later, await, pick, prop, ◌$◌, ◌∵◌, !, qed, move, keep, drop, use1, use2, split, split3}
pub use types.Kit.{join, group, fsplit, fsplit3, fjoin, fpick, fpack, feq_i, feq_l, flt_i, regoal, rewrite, suffices}
pub use types.Kit.{frame, each, assume, show, done, at_ret}
pub use types.Logic.{Logic, sem}
pub use types.Part.{agg, sub, whole}
pub use types.Run.{enter, returns, of_opd, and_then, no_more, fld, stop, first, blocks, exec}
pub use types.SemTy.{cells}
pub use Rattle.core_arena.specs.Ownership.{vec_owns_bytes, stretch_owns, stretch_lent}
pub use Rattle.core_arena.specs.contracts.region.Stretch.{the_row as Stretch}
pub use Rattle.core_arena.proofs.region.Stretch.TheLaws.{lowers}

abbrev pub Good : RattleType → Val → Type 0
Good R v = T (has_ty (layout R) v) × WT v

-- a struct by its fields alone: what it owns does not read its name
abbrev pub plainly : List RattleType → RattleType
plainly Rs = Struct (record { name = []; args = []; types = []; fields = Rs })

-- the laws of a vector of bytes, under an allocator's
pub byte_vec_laws : (A : RattleType) → Laws A → (g : Ghosts A.Denot) → Laws (V.the_row u8 (param 0 A) g)
byte_vec_laws A L g = vec_laws.the_row_laws u8 (param 0 A) g (of_field u8-field u8-laws refl (copy_shared u8-field u8-copy)) (param_laws 0 A L)

abbrev pub of_one : RattleType → Dict → Dict → Args
of_one A d dd = bounded (a_type ∷ []) (A, tt) (dcons d (dcons dd dnil))

abbrev pub none : Val
none = vstruct vnil

abbrev pub one : Val → Val
one u = vstruct (vcons u vnil)

abbrev pub two : Val → Val → Val
two u v = vstruct (vcons u (vcons v vnil))

module _ {M : Type 1} {𝓤 : Ura M} {𝓛 : Logic 𝓤} {K : Type 0} {Γ : List (Item 𝓤)} {G : Goal 𝓤 𝓛.H} where
  -- what is owned is one machine value, of its type
  pub tells : K → (R : RattleType) → Laws R → (x : R.Denot) (vs : List Val) → ((v : Val) → vs ≡ v ∷ [] → Good R v → Seq K 𝓛 (‵ (R.own_val x (v ∷ [])) ∷ Γ) G) → Seq K 𝓛 (‵ (R.own_val x vs) ∷ Γ) G
  tells t R L = handle_tells (record { row = R; laws = L; g = record { dealloc_token = λ a τ p. ftrue }; d = dict_at 0; drops = dict_at 0 }) t

  pub none_made : K → Step K 𝓛 (‵ ((plainly []).own_val tt (none ∷ [])) ∷ Γ) G Γ G
  none_made t = step (λ s.
      nothing t $ feq_i t (List Val) (none ∷ []) (none ∷ []) refl $ fjoin t $
      fpack t (Valss []) (within (record { name = []; args = []; types = []; fields = [] }) tt (none ∷ [])) tt $ s)

  pub one_made : K → (R : RattleType) (x : R.Denot) (u : Val) → Step K 𝓛 (‵ ((plainly (R ∷ [])).own_val (x, tt) (one u ∷ [])) ∷ Γ) G (‵ (R.own_val x (u ∷ [])) ∷ Γ) G
  one_made t R x u = step (λ s.
      nothing t $ move t (1 ∷ 0 ∷ []) $ fjoin t $ feq_i t (List Val) (one u ∷ []) (one u ∷ []) refl $ fjoin t $
      fpack t (Valss (R ∷ [])) (within (record { name = []; args = []; types = []; fields = R ∷ [] }) (x, tt) (one u ∷ [])) (u ∷ [], tt) $ s)

  pub two_made : K → (R S : RattleType) (x : R.Denot) (y : S.Denot) (u v : Val)
      → Step K 𝓛 (‵ ((plainly (R ∷ S ∷ [])).own_val (x, (y, tt)) (two u v ∷ [])) ∷ Γ) G (‵ (R.own_val x (u ∷ [])) ∷ ‵ (S.own_val y (v ∷ [])) ∷ Γ) G
  two_made t R S x y u v = step (λ s.
      nothing t $ move t (2 ∷ 0 ∷ []) $ fjoin t $ move t (1 ∷ 0 ∷ []) $ fjoin t $ feq_i t (List Val) (two u v ∷ []) (two u v ∷ []) refl $ fjoin t $
      fpack t (Valss (R ∷ S ∷ [])) (within (record { name = []; args = []; types = []; fields = R ∷ S ∷ [] }) (x, (y, tt)) (two u v ∷ [])) (u ∷ [], (v ∷ [], tt)) $ s)

  -- a struct of one field, taken apart
  pub one_had : K → (R : RattleType) → Laws R → (x : R.Denot) (vs : List Val) → ((u : Val) → vs ≡ one u ∷ [] → Good R u → Seq K 𝓛 (‵ (R.own_val x (u ∷ [])) ∷ Γ) G)
      → Seq K 𝓛 (‵ ((plainly (R ∷ [])).own_val (x, tt) vs) ∷ Γ) G
  one_had t R L x vs k =
      fpick t (λ vss. fsplit t $ feq_l t (λ e. fsplit t $ move t (1 ∷ []) $ drop t $ tells t R L x vss.0 (λ u is good.
      k u (rw is at e) good)))

  pub none_had : K → (vs : List Val) → (vs ≡ none ∷ [] → Seq K 𝓛 Γ G) → Seq K 𝓛 (‵ ((plainly []).own_val tt vs) ∷ Γ) G
  none_had t vs k = fpick t (λ vss. fsplit t $ feq_l t (λ e. drop t $ k e))

module _ {M : Type 1} {𝓤 : Ura M} {𝓛 : Logic 𝓤} {K : Type 0} {Γ : List (Item 𝓤)} {E : Env 𝓤 𝓛.H} where
  -- a literal of several bytes
  pub big_lit : K → {w : Width} {n : ℕ} → Fits w n → Opd K 𝓛 Γ E (int_big w n) (vint w n)
  big_lit t {w} {n} z = record { go = λ Kt h. via 𝓤 (Kt (vint w n)) h (guard_i 𝓤 (Fits w n) (Kt (vint w n)) z) }
