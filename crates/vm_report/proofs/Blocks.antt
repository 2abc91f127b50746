-- What the lines of a block print, and the sections of all blocks.
use Rattle.std.proofs.Common.{◌≡◌, ℕ, zero, suc, ◌≤◌, ◌<◌, ◌+◌, ◌==◌, Bool, true, false, List, [], ◌∷◌, ◌++◌, length, map, take, drop, Option, Some}
use Rattle.std.proofs.Common.{None, refl, sym, ap, ap₂, ◌∙◌, cond, get_or, append_assoc, arith, ⊎_elim}
use Rattle.std.specs.Prelude.{All, codes, decimal, filter}
use Rattle.std.specs.List.{list_any}
use Rattle.std.proofs.lemmas.Bool.{cases_Bool}
use Rattle.std.proofs.lemmas.List.{drop_more, get_or_read, get_or-map}
use Rattle.std.proofs.lemmas.List.Elements.{All-filter}
use Rattle.vm_script.specs.vm_types.declared.call.Call.TheVariants as call
use Rattle.vm_script.specs.vm_types.declared.call.Entry.{Entry}
use Rattle.vm_script.specs.vm_types.declared.call.Reply.TheVariants as reply
use Rattle.vm_script.specs.vm_types.Parts.{ends_call, next_part}
use Rattle.vm_script.specs.vm_types.WellFormed.{IsWellFormed}
use Rattle.vm_script.specs.flat_model.Told.{entries_of}
use Rattle.vm_script.specs.declared.plan.PlanLine.{PlanLine}
use Rattle.vm_script.specs.PlanSeen.{PlanSeen}
use Rattle.vm_script.specs.Told.{is_born, is_born_of, is_birth, parent_of}
use Rattle.vm_report.specs.Groups.{is_born_by, is_born_option}
use Rattle.vm_report.specs.Results.{call_result}
use Rattle.vm_report.specs.Texts.{word_text}
use Rattle.vm_report.specs.Report.{act_word, call_length, is_wait, entries_made, line_text, own_text, lines_text}

-- the element that a loop is at, as a list of borrowed elements shows it
pub seen_at : {X Y : Type 0} (f : X → Y) (xs : List X) (i : ℕ) (x : X) → i < length xs → x ≡ get_or xs i x → f x ≡ get_or (map f xs) i (f x)
seen_at f xs i x lt is = ap f is ∙ sym (get_or-map f xs i x (f x) lt)

-- the same with entries behind
pub call_behind : (es : List Entry) (i : ℕ) (e : Entry) (b : Bool) (behind : List Entry) → i < length es → e ≡ get_or es i e → ends_call e.call e.reply ≡ b
    → call_length (drop i es ++ behind) ≡ cond b 1 (suc (call_length (drop (i + 1) es ++ behind)))
call_behind es i e b behind lt is ends =
    ap (λ (xs : List Entry). call_length (xs ++ behind)) (drop_more es i e lt ∙ ap (λ (x : Entry). x ∷ drop (i + 1) es) (sym is))
    ∙ ap (λ t. cond t 1 (suc (call_length (drop (i + 1) es ++ behind)))) ends

-- a line that is no wait, over an entry that ends its call, made that one
one_made : (l : PlanLine) (e : Entry) (more : List Entry) → is_wait l.act ≡ false → ends_call e.call e.reply ≡ true → entries_made l (e ∷ more) ≡ 1
one_made l e more calls ends = ap (λ b. cond b 0 (call_length (e ∷ more))) calls ∙ ap (λ t. cond t 1 (suc (call_length more))) ends

pub made_one : (l : PlanLine) (all : List Entry) (e : Entry) (more : List Entry) → all ≡ e ∷ more → entries_made l (e ∷ more) ≡ 1 → (take (entries_made l all) all ≡ e ∷ []) × (drop 1 all ≡ drop (entries_made l all) all)
made_one l all e more is one = (
  ap (λ (xs : List Entry). take (entries_made l xs) xs) is ∙ ap (λ k. take k (e ∷ more)) one,
  ap (λ k. drop k all) (sym (ap (entries_made l) is ∙ one)),
)

load_ends : (a n v : ℕ) → ends_call (call.Load a n) (reply.Word v) ≡ true
unfolding next_part
load_ends a n v = refl

pub load_made : (l : PlanLine) (e : Entry) (more : List Entry) (a n v : ℕ) → is_wait l.act ≡ false → e.call ≡ call.Load a n → e.reply ≡ reply.Word v → entries_made l (e ∷ more) ≡ 1
load_made l e more a n v calls load word = one_made l e more calls (ap₂ ends_call load word ∙ load_ends a n v)

store_ends : (a n v : ℕ) → ends_call (call.Store a n v) reply.Done ≡ true
unfolding next_part
store_ends a n v = refl

pub store_made : (l : PlanLine) (e : Entry) (more : List Entry) (a n v : ℕ) → is_wait l.act ≡ false → e.call ≡ call.Store a n v → e.reply ≡ reply.Done → entries_made l (e ∷ more) ≡ 1
store_made l e more a n v calls store done = one_made l e more calls (ap₂ ends_call store done ∙ store_ends a n v)

-- one line more
pub lines_more : (ls : List PlanLine) (i : ℕ) (l : PlanLine) (es own behind : List Entry) (out next all : List ℕ) → i < length ls → l ≡ get_or ls i l
    → own ≡ take (entries_made l es) es → behind ≡ drop (entries_made l es) es → next ≡ out ++ own_text l own
    → out ++ lines_text (drop i ls) es ≡ all → next ++ lines_text (drop (i + 1) ls) behind ≡ all
lines_more ls i l es own behind out next all lt is own_is behind_is more before =
    let opened : lines_text (drop i ls) es ≡ own_text l (take (entries_made l es) es) ++ lines_text (drop (i + 1) ls) (drop (entries_made l es) es) =
    ap (λ xs. lines_text xs es) (drop_more ls i l lt ∙ ap (λ x. x ∷ drop (i + 1) ls) (sym is)) in
    ap (λ t. t ++ lines_text (drop (i + 1) ls) behind) (more ∙ ap (λ es'. out ++ own_text l es') own_is)
    ∙ (ap (λ es'. (out ++ own_text l (take (entries_made l es) es)) ++ lines_text (drop (i + 1) ls) es') behind_is
    ∙ (append_assoc out (own_text l (take (entries_made l es) es)) (lines_text (drop (i + 1) ls) (drop (entries_made l es) es))
    ∙ (ap (λ t. out ++ t) (sym opened) ∙ before)))

-- what is borrowed of a process's group is what the group has
pub group_is : {X Y : Type 0} (f : X → Y) (gs : List (List Y)) (p : ℕ) (xs : List X) (g own : List Y) → map f xs ≡ g → g ≡ get_or gs p g → p < length gs → get_or gs p [] ≡ own → map f xs ≡ own
group_is f gs p xs g own is at lt each = is ∙ (get_or_read gs p g lt at [] ∙ each)

filter_le : {X : Type 0} (p : X → Bool) (xs : List X) → length (filter p xs) ≤ length xs
filter_le p [] = omega arith
filter_le p (x ∷ xs) =
    let rest = filter_le p xs in
    ⊎_elim (λ yes. rw yes (omega arith)) (λ non. rw non (omega arith)) (cases_Bool (p x))

-- a process's entries
pub own_few : (H : List Entry) (p : ℕ) → length (entries_of H p) ≤ length H
own_few H p = filter_le (λ e. e.process == p) H

pub own_well_formed : (H : List Entry) (p : ℕ) → All (λ e. IsWellFormed e.call) H → All (λ e. IsWellFormed e.call) (entries_of H p)
own_well_formed H p all = All-filter (λ e. e.process == p) (λ e. IsWellFormed e.call) H all

born_option : (o : Option ℕ) (p : ℕ) (H : List Entry) → is_born_option o (list_any (is_birth p) H) ≡ is_born_of o p H
born_option None p H = refl
born_option (Some zero) p H = refl
born_option (Some (suc parent)) p H = refl

pub born_is : (plan : PlanSeen) (p : ℕ) (H : List Entry) (forked : Bool) → forked ≡ list_any (is_birth p) H → is_born_by plan.parents p forked ≡ is_born plan H p
born_is plan p H forked is = ap (is_born_option (parent_of plan.parents p)) is ∙ born_option (parent_of plan.parents p) p H

-- what the line of a load prints that gave a word, and that of a store that was done
line_joins : (out number word shown end : List ℕ) → out ++ number ++ (word ++ shown) ++ end ≡ out ++ (number ++ word ++ shown ++ end)
line_joins out number word shown end =
    ap (λ (t : List ℕ). t ++ end)
    (sym (append_assoc (out ++ number) word shown) ∙ (ap (λ (t : List ℕ). t ++ shown) (append_assoc out number word) ∙ append_assoc out (number ++ word) shown))
    ∙ append_assoc out (number ++ word ++ shown) end

word_joins : (out number word space shown end : List ℕ) → out ++ number ++ (word ++ space) ++ shown ++ end ≡ out ++ (number ++ word ++ (space ++ shown) ++ end)
word_joins out number word space shown end =
    ap (λ (t : List ℕ). t ++ end) (append_assoc (out ++ number) (word ++ space) shown ∙ ap (λ (t : List ℕ). out ++ number ++ t) (append_assoc word space shown))
    ∙ line_joins out number word (space ++ shown) end

pub load_text : (l : PlanLine) (e : Entry) (a n v : ℕ) (out next : List ℕ) → is_wait l.act ≡ false → act_word l.act ≡ codes "load" → e.call ≡ call.Load a n → e.reply ≡ reply.Word v
    → next ≡ out ++ decimal l.line ++ codes " load " ++ word_text n v ++ 10 ∷ [] → next ≡ out ++ own_text l (e ∷ [])
load_text l e a n v out next calls named load word is =
    let own : own_text l (e ∷ []) ≡ decimal l.line ++ 32 ∷ codes "load" ++ 32 ∷ word_text n v ++ 10 ∷ [] =
    ap (λ b. cond b [] (line_text l (e ∷ []))) calls
    ∙ (ap₂ (λ c r. decimal l.line ++ 32 ∷ act_word l.act ++ 32 ∷ call_result c r (e ∷ []) ++ 10 ∷ []) load word
    ∙ ap (λ (w : List ℕ). decimal l.line ++ 32 ∷ w ++ 32 ∷ word_text n v ++ 10 ∷ []) named) in
    is ∙ (word_joins out (decimal l.line) (32 ∷ codes "load") (32 ∷ []) (word_text n v) (10 ∷ []) ∙ ap (λ (t : List ℕ). out ++ t) (sym own))

pub store_text : (l : PlanLine) (e : Entry) (a n v : ℕ) (out next : List ℕ) → is_wait l.act ≡ false → act_word l.act ≡ codes "store" → e.call ≡ call.Store a n v → e.reply ≡ reply.Done
    → next ≡ out ++ decimal l.line ++ codes " store ok" ++ 10 ∷ [] → next ≡ out ++ own_text l (e ∷ [])
store_text l e a n v out next calls named store done is =
    let own : own_text l (e ∷ []) ≡ decimal l.line ++ 32 ∷ codes "store" ++ 32 ∷ codes "ok" ++ 10 ∷ [] =
    ap (λ b. cond b [] (line_text l (e ∷ []))) calls
    ∙ (ap₂ (λ c r. decimal l.line ++ 32 ∷ act_word l.act ++ 32 ∷ call_result c r (e ∷ []) ++ 10 ∷ []) store done
    ∙ ap (λ (w : List ℕ). decimal l.line ++ 32 ∷ w ++ 32 ∷ codes "ok" ++ 10 ∷ []) named) in
    is ∙ (line_joins out (decimal l.line) (32 ∷ codes "store") (32 ∷ codes "ok") (10 ∷ []) ∙ ap (λ (t : List ℕ). out ++ t) (sym own))
