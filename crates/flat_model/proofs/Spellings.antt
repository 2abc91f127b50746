-- Spellings are found in one way.
use Rattle.std.proofs.Common.{◌≡◌, ℕ, List, [], ◌∷◌, ◌++◌, length, drop, Option, Some, None, refl, sym, ap, subst, ◌∙◌, append_assoc}
use Rattle.std.specs.Prelude.{MatchOption}
use Rattle.std.proofs.lemmas.List.{append_cancel_left}
use Rattle.vm_types.specs.declared.call.Call.{Call}
use Rattle.vm_types.specs.declared.call.Entry.{Entry}
use Rattle.vm_types.specs.Parts.{next_part, part_bytes}
use Rattle.flat_model.specs.Told.{SpelledLine, Spells, SpellsAll}
use Rattle.flat_model.specs.SpellingLaws.{SpellsBoth, Spellings}

-- what follows the first entry of a spelling
abbrev Follows : Option Call → List ℕ → List Entry → Type 0
Follows o bytes es = MatchOption o (es ≡ []) (λ next. Spells next (drop (length (part_bytes next)) bytes) es)

tails : {A : Type 0} (x y : A) (xs ys : List A) → x ∷ xs ≡ y ∷ ys → (x ≡ y) × (xs ≡ ys)
tails x y xs ys same = (cc, cc)

-- alike spellings end together: by the next part, if there is one
by_next : (o : Option Call) (bytes : List ℕ) (es ds rest rest' : List Entry) → ((next : Call) → Spells next (drop (length (part_bytes next)) bytes) es → Spells next (drop (length (part_bytes next)) bytes) ds → es ++ rest ≡ ds ++ rest' → es ≡ ds) → Follows o bytes es → Follows o bytes ds → es ++ rest ≡ ds ++ rest' → es ≡ ds
by_next None bytes es ds rest rest' more left right alike = left ∙ sym right
by_next (Some next) bytes es ds rest rest' more left right alike = more next left right alike

pub Spells-unique : (call : Call) (bytes : List ℕ) (front other rest rest' : List Entry) → Spells call bytes front → Spells call bytes other → front ++ rest ≡ other ++ rest' → front ≡ other
Spells-unique call bytes [] other rest rest' a b same = absurd a
Spells-unique call bytes (e ∷ es) [] rest rest' a b same = absurd b
Spells-unique call bytes (e ∷ es) (d ∷ ds) rest rest' a b same =
    let both = tails e d (es ++ rest) (ds ++ rest') same in
    let more = by_next (next_part call e.reply bytes) bytes es ds rest rest' (λ next. Spells-unique next (drop (length (part_bytes next)) bytes) es ds rest rest') a.1 (subst (λ (x : Entry). Follows (next_part call x.reply bytes) bytes ds) (sym both.0) b.1) both.1 in
    λ i. both.0 i ∷ more i

pub SpellsAll-unique : (lines : List SpelledLine) (front other rest rest' : List Entry) → SpellsAll lines front → SpellsAll lines other → front ++ rest ≡ other ++ rest' → front ≡ other
SpellsAll-unique [] front other rest rest' a b same = a ∙ sym b
SpellsAll-unique (line ∷ lines) front other rest rest' a b same =
    let whole : a.0 ++ (a.1 ++ rest) ≡ b.0 ++ (b.1 ++ rest') = sym (append_assoc a.0 a.1 rest) ∙ ap (λ (es : List Entry). es ++ rest) (sym a.2) ∙ same ∙ ap (λ (es : List Entry). es ++ rest') b.2 ∙ append_assoc b.0 b.1 rest' in
    let first = Spells-unique line.call line.bytes a.0 b.0 (a.1 ++ rest) (b.1 ++ rest') a.3 b.3 whole in
    let left : a.1 ++ rest ≡ b.1 ++ rest' = append_cancel_left a.0 (a.1 ++ rest) (b.1 ++ rest') (whole ∙ ap (λ (es : List Entry). es ++ (b.1 ++ rest')) (sym first)) in
    let second = SpellsAll-unique lines a.1 b.1 rest rest' a.4 b.4 left in
    a.2 ∙ (λ i. first i ++ second i) ∙ sym b.2

pub SpellsAll-split : (before after : List SpelledLine) (es : List Entry) → SpellsAll (before ++ after) es → SpellsBoth before after es
SpellsAll-split [] after es all = record { front = []; rest = es; joined = refl; first = refl; second = all }
SpellsAll-split (line ∷ before) after es all =
    let r = SpellsAll-split before after all.1 all.4 in
    record {
      front = all.0 ++ r.front;
      rest = r.rest;
      joined = all.2 ∙ ap (λ (xs : List Entry). all.0 ++ xs) r.joined ∙ sym (append_assoc all.0 r.front r.rest);
      first = (all.0, r.front, refl, all.3, r.first);
      second = r.second;
    }

pub SpellsAll-join : (before after : List SpelledLine) (front rest : List Entry) → SpellsAll before front → SpellsAll after rest → SpellsAll (before ++ after) (front ++ rest)
SpellsAll-join [] after front rest first second = subst (λ (es : List Entry). SpellsAll after (es ++ rest)) (sym first) second
SpellsAll-join (line ∷ before) after front rest first second = (first.0, first.1 ++ rest, ap (λ (es : List Entry). es ++ rest) first.2 ∙ append_assoc first.0 first.1 rest, first.3, SpellsAll-join before after first.1 rest first.4 second)

pub spellings_law : Spellings
spellings_law = record {
  unique = Spells-unique;
  all_unique = SpellsAll-unique;
  joined = λ before after es. (SpellsAll-split before after es, λ both. subst (SpellsAll (before ++ after)) (sym both.joined) (SpellsAll-join before after both.front both.rest both.first both.second));
}
