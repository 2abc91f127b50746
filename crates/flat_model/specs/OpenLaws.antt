-- Whose call of a file is between two parts, by each process's last entry. Public clauses cite this.
use Rattle.std.specs.Prelude.{ℕ, ◌≡◌, ◌==◌, ◌↔◌, ◌⊎◌, ◌++◌, List, [], ◌∷◌, fold, Option, Some, None, MatchOption, IsSomeAnd, IsTrue, IsFalse, if◌then◌else◌}
use Rattle.vm_types.specs.declared.call.Entry.{Entry}
use Rattle.vm_types.specs.Parts.{next_part, part_file, ends_call}
use Rattle.flat_model.specs.History.{KeepsParts}
use Rattle.flat_model.specs.HistoryLaws.{open_call}

-- The last entry of a process, if it has one.
abbrev pub last_entry : ℕ → List Entry → Option Entry
last_entry p H = fold (λ last e. if e.process == p then Some e else last) None H

-- The entry is a part of the file that doesn't end its call.
abbrev pub IsOpenPart : ℕ → Entry → Type 0
IsOpenPart f e = (part_file e.call ≡ Some f) × IsFalse (ends_call e.call e.reply)

-- The second entry may be its process's next one behind the first: that ended its call, or the second is its next part, for some bytes.
abbrev pub FollowsOn : Entry → Entry → Type 0
FollowsOn d e = IsTrue (ends_call d.call d.reply) ⊎ ((bytes : List ℕ) × (next_part d.call d.reply bytes ≡ Some e.call))

-- The entry may come behind the history as its process's next one.
abbrev pub MayFollow : List Entry → Entry → Type 0
MayFollow H e = MatchOption (last_entry e.process H) (Unit {0}) (λ d. FollowsOn d e)

-- Each process does each call to its end: its entry behind a part that doesn't end its call is the next part.
abbrev pub EndsCalls : List Entry → Type 0
EndsCalls H = (front rest : List Entry) (e : Entry) → H ≡ front ++ e ∷ rest → MayFollow front e

-- Where parts stay together and each process does each call to its end, a process's call of a file is open exactly where its last entry is a part of that file that doesn't end its call. The premise holds of a history with an entry more exactly where it holds of the history and the entry may follow.
pub record OpenCalls : Type 0 where
  pub by_last : (H : List Entry) (f p : ℕ) → KeepsParts H → EndsCalls H → (open_call f H ≡ Some p) ↔ IsSomeAnd (last_entry p H) (IsOpenPart f)
  pub one_more : (H : List Entry) (e : Entry) → EndsCalls (H ++ e ∷ []) ↔ (EndsCalls H × MayFollow H e)
  pub last : (H : List Entry) (e : Entry) (p : ℕ) → last_entry p (H ++ e ∷ []) ≡ (if e.process == p then Some e else last_entry p H)
