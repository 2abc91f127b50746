-- One entry more.
use Rattle.std.proofs.Common.{◌≡◌, List, [], ◌∷◌, ◌++◌, refl}
use Rattle.shm_model.specs.declared.acts.ShmEntry.{ShmEntry}
use Rattle.shm_model.specs.Keys.{Keys, no_keys, IsShmAnswer, keys_after_entry, keys_from, AreAnswered}
use Rattle.shm_model.specs.Keys.{KeyLaws}

pub left-from : (T : Keys) (S : List ShmEntry) (e : ShmEntry) → keys_from T (S ++ e ∷ [])
    ≡ keys_after_entry (keys_from T S) e
left-from T [] e = refl
left-from T (d ∷ S) e = left-from (keys_after_entry T d) S e

pub answered-more : (T : Keys) (S : List ShmEntry) (e : ShmEntry) → AreAnswered T S
    → IsShmAnswer (keys_from T S) e.act e.answer → AreAnswered T (S ++ e ∷ [])
answered-more T [] e all is = (is, tt)
answered-more T (d ∷ S) e all is = (all.0, answered-more (keys_after_entry T d) S e all.1 is)

pub answered-less : (T : Keys) (S : List ShmEntry) (e : ShmEntry) → AreAnswered T (S ++ e ∷ [])
    → AreAnswered T S × IsShmAnswer (keys_from T S) e.act e.answer
answered-less T [] e all = (tt, all.0)
answered-less T (d ∷ S) e all = let r = answered-less (keys_after_entry T d) S e all.1 in
    ((all.0, r.0), r.1)

pub keys_law : KeyLaws
keys_law = record {
  left = left-from no_keys;
  more =
      λ S e. (answered-less no_keys S e, λ both. answered-more no_keys S e both.0 both.1);
}
