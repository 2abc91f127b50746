-- Each set-up line of a plan that a script spells is one that a line may say.
use Rattle.flat_model.proofs.Histories.{io_aside as and_left}
use Rattle.std.proofs.Common.{◌≡◌, ℕ, ◌≤◌, ◌+◌, ◌==◌, Bool, true, false, ◌&&◌, List, [], ◌∷◌, length, Result, Ok, Err, refl, sym, subst, arith, rules, tests, cond}
use Rattle.std.specs.Prelude.{All, IfOk, IsTrue, codes, not, nat_lt, nat_le, filter, if◌then◌else◌}
use Rattle.std.specs.List.{list_all, slice_split, onto_first}
use Rattle.std.proofs.lemmas.Bool.{false≢true, and_from as both}
use Rattle.std.proofs.lemmas.Bool.Decides.{nat_tests}
use Rattle.std.proofs.lemmas.List.Elements.{All-nil, All-push}
use Rattle.flat_model.specs.vm_types.WellFormed.{IsNumber}
use Rattle.flat_model.specs.vm_types.Words.{IsByte}
use Rattle.vm_script.specs.declared.fault.ScriptKind.{ScriptKind}
use Rattle.vm_script.specs.declared.fault.ScriptKind.TheVariants as fault
use Rattle.vm_script.specs.declared.fault.ScriptFault.{ScriptFault}
use Rattle.vm_script.specs.declared.plan.SetupAct.TheVariants as given
use Rattle.vm_script.specs.declared.plan.SetupLine.{SetupLine}
use Rattle.vm_script.specs.declared.plan.PlanAct.{PlanAct}
use Rattle.vm_script.specs.declared.plan.PlanAct.TheVariants as act
use Rattle.vm_script.specs.declared.statement.Statement.{Statement}
use Rattle.vm_script.specs.declared.statement.Statement.TheVariants as says
use Rattle.vm_script.specs.declared.statement.LineSpot.{LineSpot}
use Rattle.vm_script.specs.Fields.{is_word}
use Rattle.vm_script.specs.Lines.{is_plain, is_graphic, is_space, isnt_empty, fields, lines}
use Rattle.vm_script.specs.PlanSeen.{PlanSeen}
use Rattle.vm_script.specs.Plans.{OpenPlan, empty_plan, plan_seen, with_statement, spot_of, plan_from, plan_of}
use Rattle.vm_script.specs.Printed.{IsSetupAct, AreBytes}
use Rattle.vm_script.specs.Quick.{AreWords, none, more}
use Rattle.vm_script.specs.Reading.{◌>>◌, need}
use Rattle.vm_script.specs.Sound.{IsSoundSetup}
use Rattle.vm_script.specs.Statements.{number, name, bytes, amount, path, disk_setup, disk, join_form, join_setup, join, content, mode, file_setup, file, own_statement, lone_word}
use Rattle.vm_script.specs.Statements.{load_line, store_line, map_line, unmap_line, protect_line, sync_line, read_call_line, write_line}
use Rattle.vm_script.specs.Statements.{truncate_line, disk_statement, setup_statement, block_statement, file_statement, mapping_statement, word_statement, statement}
use Rattle.vm_script.specs.Statements.{is_comment}
use Rattle.vm_script.proofs.Placed.{and_right, bind, choice, needed, number_is, name_is, bytes_is, if_ok, alone_is}

-- A plain line's fields are words.
abbrev are_graphic : List (List ℕ) → Bool
are_graphic parts = list_all (list_all is_graphic) parts

graphic : (b : ℕ) → is_plain b ≡ true → is_space b ≡ false → is_graphic b ≡ true
graphic b plain space = grind (rules, tests, arith, nat_tests, plain, space)

onto_graphic : (b : ℕ) (parts : List (List ℕ)) → is_graphic b ≡ true → are_graphic parts ≡ true → are_graphic (onto_first b parts) ≡ true
onto_graphic b [] is all = both (is_graphic b && true) true (both (is_graphic b) true is refl) refl
onto_graphic b (part ∷ parts) is all =
    both (is_graphic b && list_all is_graphic part) (are_graphic parts)
    (both (is_graphic b) (list_all is_graphic part) is (and_left (list_all is_graphic part) (are_graphic parts) all))
    (and_right (list_all is_graphic part) (are_graphic parts) all)

split_graphic : (line : List ℕ) → list_all is_plain line ≡ true → are_graphic (slice_split is_space line) ≡ true
split_graphic [] all = refl
split_graphic (b ∷ line) all = at (split_graphic line (and_right (is_plain b) (list_all is_plain line) all)) (is_space b) refl
  where
    at : are_graphic (slice_split is_space line) ≡ true → (t : Bool) → is_space b ≡ t → are_graphic (cond t ([] ∷ slice_split is_space line) (onto_first b (slice_split is_space line))) ≡ true
    at rest true is = rest
    at rest false is = onto_graphic b (slice_split is_space line) (graphic b (and_left (is_plain b) (list_all is_plain line) all) is) rest

words_of : (parts : List (List ℕ)) → are_graphic parts ≡ true → AreWords (filter isnt_empty parts)
words_of [] all = none
words_of ([] ∷ parts) all = words_of parts all
words_of ((b ∷ part) ∷ parts) all =
    more (and_left (list_all is_graphic (b ∷ part)) (are_graphic parts) all) refl (words_of parts (and_right (list_all is_graphic (b ∷ part)) (are_graphic parts) all))

field_words : (line : List ℕ) → list_all is_plain line ≡ true → AreWords (fields line)
field_words line all = words_of (slice_split is_space line) (split_graphic line all)

record IsField (f : List ℕ) : Type 0 where
  graphic : list_all is_graphic f ≡ true
  some : 1 ≤ length f

first_field : {f : List ℕ} {fs : List (List ℕ)} → AreWords (f ∷ fs) → IsField f
first_field {f} (more gr some h) = record { graphic = gr; some = long f some }
  where
    long : (f : List ℕ) → isnt_empty f ≡ true → 1 ≤ length f
    long [] e = absurd (false≢true e)
    long (b ∷ f) e = omega arith

later_fields : {f : List ℕ} {fs : List (List ℕ)} → AreWords (f ∷ fs) → AreWords fs
later_fields (more gr some h) = h

-- What a line says is a set-up line's act where it is one.
abbrev SetupIs : Statement → Type 0
SetupIs (says.Setup a) = IsSetupAct a
SetupIs s = Unit {0}

path_is : (f p : List ℕ) → IsField f → path f ≡ Ok p → (1 ≤ length p) × (length p ≤ 255) × IsTrue (list_all is_graphic p)
unfolding path
path_is f p h e = from (nat_le (length f) 255) refl e
  where
    from : (b : Bool) → nat_le (length f) 255 ≡ b → (need fault.Value b >> Ok f) ≡ Ok p → (1 ≤ length p) × (length p ≤ 255) × IsTrue (list_all is_graphic p)
    from true is k =
        let same : f ≡ p = cc k in
        let le : length f ≤ 255 = grind (arith, nat_tests, is) in
        subst (λ q. (1 ≤ length q) × (length q ≤ 255) × IsTrue (list_all is_graphic q)) same (h.some, le, subst IsTrue (sym h.graphic) refl)
    from false is k = absurd (cc k)

disk_is : (args : List (List ℕ)) → AreWords args → IfOk (disk args) IsSetupAct
unfolding disk disk_setup
disk_is [] w = tt
disk_is (d ∷ []) w = tt
disk_is (d ∷ f ∷ []) w = tt
disk_is (d ∷ f ∷ x ∷ []) w =
    let last = first_field (later_fields (later_fields w)) in
    bind (number d) _ IsSetupAct (λ n e.
    choice (is_word f (codes "blank")) _ _ IsSetupAct (λ _. bind (number x) _ IsSetupAct (λ m k. (number_is d n e, number_is x m k)))
    (λ _. choice (is_word f (codes "path")) _ _ IsSetupAct (λ _. bind (path x) _ IsSetupAct (λ m k. let p = path_is x m last k in (number_is d n e, p.0, p.1, p.2))) (λ _. tt)))
disk_is (d ∷ f ∷ x ∷ b ∷ args) w = tt

join_is : (args : List (List ℕ)) → IfOk (join args) IsSetupAct
unfolding join join_setup
join_is [] = tt
join_is (d ∷ []) = tt
join_is (d ∷ f ∷ []) = tt
join_is (d ∷ f ∷ e ∷ []) = bind (number d) _ IsSetupAct (λ n en. bind (join_form f) _ IsSetupAct (λ m em. bind (number e) _ IsSetupAct (λ k ek. (number_is d n en, number_is e k ek))))
join_is (d ∷ f ∷ e ∷ b ∷ args) = tt

content_is : (field t : List ℕ) → content field ≡ Ok t → (length t ≤ 65536) × AreBytes t
unfolding content
content_is field t e = from (is_word field (codes "-")) e
  where
    from : (b : Bool) → (if b then Ok [] else bytes field) ≡ Ok t → (length t ≤ 65536) × AreBytes t
    from true k = let same : [] ≡ t = cc k in subst (λ s. (length s ≤ 65536) × AreBytes s) same (omega arith, All-nil IsByte)
    from false k = let h = bytes_is field t k in (h.1, h.2)

file_is : (args : List (List ℕ)) → IfOk (file args) IsSetupAct
unfolding file file_setup
file_is [] = tt
file_is (n ∷ []) = tt
file_is (n ∷ m ∷ []) = tt
file_is (n ∷ m ∷ d ∷ []) = tt
file_is (n ∷ m ∷ d ∷ p ∷ []) = tt
file_is (n ∷ m ∷ d ∷ p ∷ x ∷ []) =
    bind (name n) _ IsSetupAct (λ a ea. bind (mode m) _ IsSetupAct (λ b eb. bind (number d) _ IsSetupAct (λ c ec. bind (number p) _ IsSetupAct (λ k ek. bind (content x) _ IsSetupAct (λ t et.
    let h = content_is x t et in (name_is n a ea, number_is d c ec, number_is p k ek, h.0, h.1))))))
file_is (n ∷ m ∷ d ∷ p ∷ x ∷ b ∷ args) = tt

amount_is : (args : List (List ℕ)) (n : ℕ) → amount args ≡ Ok n → IsNumber n
amount_is [] n e = absurd (cc e)
amount_is (a ∷ []) n e = number_is a n e
amount_is (a ∷ b ∷ args) n e = absurd (cc e)

disk_statement_is : (spot : LineSpot) (word : List ℕ) (args : List (List ℕ)) → AreWords args → IfOk (disk_statement spot word args) SetupIs
unfolding disk_statement
disk_statement_is spot word args w =
    choice (is_word word (codes "disk")) _ _ SetupIs (λ _. needed fault.Place spot.opening _ SetupIs (λ _. bind (disk args) _ SetupIs (λ a e. if_ok (disk args) IsSetupAct a (disk_is args w) e)))
    (λ _. choice (is_word word (codes "join")) _ _ SetupIs
    (λ _. needed fault.Place spot.opening _ SetupIs
    (λ _. bind (join args) _ SetupIs (λ a e. if_ok (join args) IsSetupAct a (join_is args) e)))
    (λ _. choice (is_word word (codes "file")) _ _ SetupIs
    (λ _. needed fault.Place spot.opening _ SetupIs
    (λ _. bind (file args) _ SetupIs (λ a e. if_ok (file args) IsSetupAct a (file_is args) e)))
    (λ _. tt)))

setup_is : (spot : LineSpot) (word : List ℕ) (args : List (List ℕ)) → AreWords args → IfOk (setup_statement spot word args) SetupIs
unfolding setup_statement
setup_is spot word args w =
    choice (is_word word (codes "frames")) _ _ SetupIs (λ _. needed fault.Place (spot.opening && not spot.frames) _ SetupIs (λ _. bind (amount args) _ SetupIs (λ n e. amount_is args n e)))
    (λ _. choice (is_word word (codes "swap")) _ _ SetupIs (λ _. needed fault.Place (spot.opening && not spot.swap) _ SetupIs (λ _. bind (amount args) _ SetupIs (λ n e. amount_is args n e)))
    (λ _. choice (is_word word (codes "translations")) _ _ SetupIs
    (λ _. needed fault.Place (spot.opening && not spot.translations) _ SetupIs
    (λ _. bind (amount args) _ SetupIs (λ n e. amount_is args n e)))
    (λ _. disk_statement_is spot word args w)))

block_is : (spot : LineSpot) (word : List ℕ) (args : List (List ℕ)) → AreWords args → IfOk (block_statement spot word args) SetupIs
unfolding block_statement
block_is spot word args w =
    choice (is_word word (codes "wait")) _ _ SetupIs (λ _. needed fault.Place spot.inside _ SetupIs (λ _. bind (lone_word act.Wait args) _ SetupIs (λ a e. tt)))
    (λ _. choice (is_word word (codes "process")) _ _ SetupIs (λ _. needed fault.Place (not spot.inside) _ SetupIs (λ _. alone_is says.Process args SetupIs tt))
    (λ _. choice (is_word word (codes "fork")) _ _ SetupIs (λ _. needed fault.Place spot.inside _ SetupIs (λ _. alone_is says.Fork args SetupIs tt))
    (λ _. choice (is_word word (codes "end")) _ _ SetupIs (λ _. needed fault.Place spot.inside _ SetupIs (λ _. alone_is says.End args SetupIs tt))
    (λ _. setup_is spot word args w))))

own_is : (spot : LineSpot) (r : Result PlanAct ScriptKind) → IfOk (need fault.Place spot.inside >> own_statement r) SetupIs
own_is spot r = needed fault.Place spot.inside (own_statement r) SetupIs (λ _. bind r (λ a. Ok (says.Own a)) SetupIs (λ a e. tt))

file_call_is : (spot : LineSpot) (word : List ℕ) (args : List (List ℕ)) → AreWords args → IfOk (file_statement spot word args) SetupIs
unfolding file_statement
file_call_is spot word args w =
    choice (is_word word (codes "read")) _ _ SetupIs (λ _. own_is spot (read_call_line args))
    (λ _. choice (is_word word (codes "write")) _ _ SetupIs (λ _. own_is spot (write_line args))
    (λ _. choice (is_word word (codes "truncate")) _ _ SetupIs (λ _. own_is spot (truncate_line args))
    (λ _. block_is spot word args w)))

mapping_is : (spot : LineSpot) (word : List ℕ) (args : List (List ℕ)) → AreWords args → IfOk (mapping_statement spot word args) SetupIs
unfolding mapping_statement
mapping_is spot word args w =
    choice (is_word word (codes "map")) _ _ SetupIs (λ _. own_is spot (map_line args))
    (λ _. choice (is_word word (codes "unmap")) _ _ SetupIs (λ _. own_is spot (unmap_line args))
    (λ _. choice (is_word word (codes "protect")) _ _ SetupIs (λ _. own_is spot (protect_line args))
    (λ _. choice (is_word word (codes "sync")) _ _ SetupIs (λ _. own_is spot (sync_line args))
    (λ _. file_call_is spot word args w))))

word_is : (spot : LineSpot) (word : List ℕ) (args : List (List ℕ)) → AreWords args → IfOk (word_statement spot word args) SetupIs
unfolding word_statement
word_is spot word args w =
    choice (is_word word (codes "load")) _ _ SetupIs (λ _. own_is spot (load_line args))
    (λ _. choice (is_word word (codes "store")) _ _ SetupIs (λ _. own_is spot (store_line args))
    (λ _. mapping_is spot word args w))

statement_is : (spot : LineSpot) (plain : Bool) (fs : List (List ℕ)) → (plain ≡ true → AreWords fs) → IfOk (statement spot plain fs) SetupIs
unfolding statement
statement_is spot plain [] w = tt
statement_is spot plain (word ∷ args) w =
    choice (is_comment word) _ _ SetupIs (λ _. tt) (λ _. needed fault.Byte plain _ SetupIs (λ is. word_is spot word args (later_fields (w is))))

said : (spot : LineSpot) (line : List ℕ) (s : Statement) → statement spot (list_all is_plain line) (fields line) ≡ Ok s → SetupIs s
said spot line s e = if_ok (statement spot (list_all is_plain line) (fields line)) SetupIs s (statement_is spot (list_all is_plain line) (fields line) (field_words line)) e

-- The set-up lines of a plan that grows.
with_sound : (g : OpenPlan) (n : ℕ) (s : Statement) → SetupIs s → IsSoundSetup g.setup → IsSoundSetup (with_statement g n s).setup
with_sound g n says.Nothing is h = h
with_sound g n (says.Setup a) is h = All-push (λ (l : SetupLine). IsSetupAct l.act) g.setup (record { line = n; act = a }) h is
with_sound g n says.Process is h = h
with_sound g n says.Fork is h = h
with_sound g n says.End is h = h
with_sound g n (says.Own a) is h = h

abbrev whole_plan : Bool → OpenPlan → ℕ → Result PlanSeen ScriptFault
whole_plan b g n = if b then Ok (plan_seen g) else Err (record { line = n + 1; kind = fault.Place })

abbrev next_plan : Result Statement ScriptKind → OpenPlan → ℕ → List (List ℕ) → Result PlanSeen ScriptFault
next_plan r g n ls = elim r [ Ok s ↦ plan_from (n + 1) (with_statement g (n + 1) s) ls | Err kind ↦ Err (record { line = n + 1; kind = kind }) ]

abbrev short_plan : Bool → List ℕ → Result PlanSeen ScriptFault
short_plan b text = if b then Err (record { line = 0; kind = fault.Long }) else plan_from 0 empty_plan (lines text)

sound_from : (ls : List (List ℕ)) (n : ℕ) (g : OpenPlan) (plan : PlanSeen) → IsSoundSetup g.setup → plan_from n g ls ≡ Ok plan → IsSoundSetup plan.setup
sound_from [] n g plan h e = at (g.inside == 0) e
  where
    at : (b : Bool) → whole_plan b g n ≡ Ok plan → IsSoundSetup plan.setup
    at true e = let same : plan_seen g ≡ plan = cc e in subst (λ (p : PlanSeen). IsSoundSetup p.setup) same h
    at false e = absurd (cc e)
sound_from (l ∷ ls) n g plan h e =
    at (λ s is. sound_from ls (n + 1) (with_statement g (n + 1) s) plan (with_sound g (n + 1) s (said (spot_of g) l s is) h)) (statement (spot_of g) (list_all is_plain l) (fields l)) refl e
  where
    at : ((s : Statement) → statement (spot_of g) (list_all is_plain l) (fields l) ≡ Ok s → plan_from (n + 1) (with_statement g (n + 1) s) ls ≡ Ok plan → IsSoundSetup plan.setup)
        → (r : Result Statement ScriptKind) → statement (spot_of g) (list_all is_plain l) (fields l) ≡ r → next_plan r g n ls ≡ Ok plan → IsSoundSetup plan.setup
    at again (Ok s) is e = again s is e
    at again (Err kind) is e = absurd (cc e)

pub sound_setup : (text : List ℕ) (plan : PlanSeen) → plan_of text ≡ Ok plan → IsSoundSetup plan.setup
sound_setup text plan e = at (nat_lt 1048576 (length text)) e
  where
    at : (b : Bool) → short_plan b text ≡ Ok plan → IsSoundSetup plan.setup
    at true e = absurd (cc e)
    at false e = sound_from (lines text) 0 empty_plan plan (All-nil (λ (l : SetupLine). IsSetupAct l.act)) e
