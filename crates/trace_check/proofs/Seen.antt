-- A judge that takes the next entry has seen one more, or has found the first entry with which the history isn't legal.
use Rattle.std.proofs.Common.{◌≡◌, ℕ, suc, ◌≤◌, ◌<◌, ◌+◌, List, [], ◌∷◌, ◌++◌, length, take, drop, Option, Some, None, refl, sym, subst, ap, ap₂, ◌∙◌, arith}
use Rattle.std.specs.Prelude.{fold, unwrap_or, if◌then◌else◌}
use Rattle.std.specs.BTreeMap.{get}
use Rattle.std.specs.Ordering.{nat_cmp}
use Rattle.std.proofs.lemmas.List.{take_all, take-append-le, take-append-drop, length_push}
use Rattle.std.proofs.lemmas.List.Sums.{fold_push}
use Rattle.flat_model.specs.vm_types.declared.call.Entry.{Entry}
use Rattle.flat_model.specs.Flat.{Flat}
use Rattle.flat_model.specs.History.{Legal}
use Rattle.flat_model.specs.HistoryLaws.{IsNext, open_after, open_call, open_from}
use Rattle.flat_model.specs.Step.{step}
use Rattle.flat_model.specs.SyncLaws.{is_in_life}
use Rattle.flat_model.proofs.Histories.{one_more_law}
use Rattle.flat_model.proofs.Replays.{joined_histories_law}
use Rattle.flat_model.proofs.Starts.{sync_starts_law}
use Rattle.trace_check.specs.declared.judge.Judge.{Judge}
use Rattle.trace_check.specs.Judging.{HasTaken}
use Rattle.trace_check.specs.Verdicts.{IsFirstIllegal}

-- the holder of a file is a fold over the history
open_folds : (f : ℕ) (holder : Option ℕ) (H : List Entry) → open_from f holder H ≡ fold (open_after f) holder H
open_folds f holder [] = refl
open_folds f holder (e ∷ H) = open_folds f (open_after f holder e) H

-- and so it is one step more after an entry more
open_more : (f : ℕ) (H : List Entry) (e : Entry) → open_call f (H ++ e ∷ []) ≡ open_after f (open_call f H) e
open_more f H e = open_folds f None (H ++ e ∷ []) ∙ fold_push (open_after f) None H e ∙ ap (λ o. open_after f o e) (sym (open_folds f None H))

pub seen_more : (F : Flat) (H : List Entry) (e : Entry) (old new : Judge) → HasTaken F H old → IsNext F H e → new.flat ≡ step old.flat e → new.count ≡ old.count + 1
    → ((f : ℕ) → get nat_cmp new.holders f ≡ open_after f (get nat_cmp old.holders f) e)
    → ((p : ℕ) → unwrap_or (get nat_cmp new.starts p) 0 ≡ (if is_in_life p e then old.count + 1 else unwrap_or (get nat_cmp old.starts p) 0))
    → HasTaken F (H ++ e ∷ []) new
seen_more F H e old new h next flat count holders starts = record {
  legal = (one_more_law.legal F H e).1 (h.legal, next);
  flat = flat ∙ (ap (λ (G : Flat). step G e) h.flat ∙ sym (one_more_law.replayed F H e));
  count = count ∙ (ap (λ n. n + 1) h.count ∙ sym (length_push H e));
  holders = λ f. holders f ∙ (ap (λ o. open_after f o e) (h.holders f) ∙ sym (open_more f H e));
  starts = λ p. starts p ∙ (ap₂ (λ (n b : ℕ). if is_in_life p e then n + 1 else b) h.count (h.starts p) ∙ sym (sync_starts_law.pushed H e p));
}

-- fronts of a history that is legal so far
pub legal_front : (F : Flat) (H : List Entry) (n : ℕ) → Legal F H → Legal F (take n H)
legal_front F H n legal =
    joined_histories_law.front F (take n H) (drop n H) (subst (λ (G : List Entry). Legal F G) (sym (take-append-drop n H)) legal)

pub first_found : (F : Flat) (H : List Entry) (e : Entry) → Legal F H → ¬ IsNext F H e → IsFirstIllegal F (H ++ e ∷ []) (length H)
first_found F H e legal not =
    let size = length_push H e in
    let whole : take (length H + 1) (H ++ e ∷ []) ≡ H ++ e ∷ [] = take_all (length H + 1) (H ++ e ∷ []) (omega (arith, size)) in
    let bad : ¬ Legal F (take (length H + 1) (H ++ e ∷ [])) = λ all.
    let pushed : Legal F (H ++ e ∷ []) = subst (λ (G : List Entry). Legal F G) whole all in
    not ((one_more_law.legal F H e).0 pushed).1 in
    record {
      inside = omega (arith, size);
      illegal = bad;
      first = λ j less. subst (λ (G : List Entry). Legal F G) (sym (take-append-le (j + 1) H (e ∷ []) (omega (arith, less)))) (legal_front F H (j + 1) legal);
    }
