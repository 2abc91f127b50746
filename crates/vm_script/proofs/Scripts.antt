-- A printed script is read as what was printed.
use Rattle.vm_script.proofs.Placed.{and_right}
use Rattle.std.proofs.Common.{◌≡◌, ℕ, zero, suc, ◌≤◌, ◌<◌, ◌^◌, ◌+◌, ◌*◌, Bool, true, false, not, List, [], ◌∷◌, length, Ok, refl, sym, ap, ap₂, ◌∙◌, subst, append_assoc, arith, ⊎_elim, lit<}
use Rattle.std.specs.Prelude.{All, codes, decimal, nat_lt, nat_le, if◌then◌else◌}
use Rattle.std.specs.List.{list_all}
use Rattle.std.proofs.lemmas.Bool.{false≢true}
use Rattle.std.proofs.lemmas.Bool.Decides.{nat_tests}
use Rattle.std.proofs.lemmas.List.Elements.{All-head, All-tail}
use Rattle.flat_model.specs.vm_types.declared.call.Call.{Call}
use Rattle.flat_model.specs.vm_types.declared.call.Call.TheVariants as call
use Rattle.flat_model.specs.vm_types.declared.call.Kind.{Kind}
use Rattle.flat_model.specs.vm_types.declared.call.Kind.TheVariants as kinds
use Rattle.flat_model.specs.vm_types.declared.call.Object.TheVariants as object
use Rattle.flat_model.specs.vm_types.declared.call.Place.{Place}
use Rattle.flat_model.specs.vm_types.declared.call.Place.TheVariants.{At, Any}
use Rattle.flat_model.specs.vm_types.declared.prot.Prot.{Prot}
use Rattle.flat_model.specs.vm_types.Prot.{IsProt}
use Rattle.flat_model.specs.vm_types.WellFormed.{IsNumber, IsPlace}
use Rattle.flat_model.specs.vm_types.Words.{IsByte, IsWordSize, FitsWord}
use Rattle.vm_script.specs.declared.plan.SetupAct.{SetupAct}
use Rattle.vm_script.specs.declared.plan.SetupAct.TheVariants as given
use Rattle.vm_script.specs.declared.plan.PlanAct.TheVariants as act
use Rattle.vm_script.specs.declared.statement.Statement.{Statement}
use Rattle.vm_script.specs.declared.statement.Statement.TheVariants as says
use Rattle.vm_script.specs.declared.statement.LineSpot.{LineSpot}
use Rattle.vm_script.specs.Fields.{is_word, is_file_name}
use Rattle.vm_script.specs.Lines.{is_plain, fields, lines}
use Rattle.vm_script.specs.Plans.{OpenPlan, empty_plan, plan_seen, with_statement, spot_of, plan_from, plan_of}
use Rattle.vm_script.specs.Statements.{name, bytes, size, prot, kind, place, mode, content, path, load_line, store_line, map_object, map_of, map_line}
use Rattle.vm_script.specs.Statements.{unmap_line, protect_of, protect_line, sync_line, read_of, read_call_line, write_of, write_line, truncate_line}
use Rattle.vm_script.specs.Statements.{disk_setup, disk, join_form, join_setup, join, file_setup, file, disk_statement, setup_statement, block_statement, file_statement}
use Rattle.vm_script.specs.Statements.{mapping_statement, word_statement, statement, unknown_file}
use Rattle.vm_script.specs.Quick.{AreWords, none, more}
use Rattle.vm_script.specs.Texts.{hex_text, prot_text, kind_text}
use Rattle.vm_script.specs.Printed.{place_text, content_text, call_fields, setup_fields, statement_fields, line_of_fields, script_text, IsContent}
use Rattle.vm_script.specs.Printed.{IsPlainCall, IsNamedCall, IsSetupAct, IsStatement, setup_may_stand, may_stand, with_statements, StandRight}
use Rattle.vm_script.specs.Printed.{IsScript}
use Rattle.vm_script.proofs.Printing.{number_text, not_any, digits_of_decimal, bytes_text_back, not_dash, hex_all, fields_joined, plain_joined}
use Rattle.vm_script.proofs.Printing.{lines_joined, words_number, words_bytes, words_name, some_isnt_empty}

size_text : (n : ℕ) → IsWordSize n → size (decimal n) ≡ Ok n
unfolding size
size_text n is = ⊎_elim (λ e. at n 1 e (rw (number_text 1 (lit< tt)) refl)) (λ h. ⊎_elim (λ e. at n 2 e (rw (number_text 2 (lit< tt)) refl)) (λ e. at n 4 e (rw (number_text 4 (lit< tt)) refl)) h) is
  where
    at : (n k : ℕ) → n ≡ k → size (decimal k) ≡ Ok k → size (decimal n) ≡ Ok n
    at n k e h = subst (λ m. size (decimal m) ≡ Ok m) (sym e) h

prot_back : (n : ℕ) → n < 4 → prot (prot_text (record { 0 = n })) ≡ Ok (record { 0 = n })
unfolding prot
prot_back zero lt = refl
prot_back (suc zero) lt = refl
prot_back (suc (suc zero)) lt = refl
prot_back (suc (suc (suc zero))) lt = refl
prot_back (suc (suc (suc (suc n)))) lt = absurd (omega (arith, lt))

kind_back : (k : Kind) → kind (kind_text k) ≡ Ok k
unfolding kind
kind_back kinds.Shared = refl
kind_back kinds.Private = refl

place_back : (p : Place) → IsPlace p → place (place_text p) ≡ Ok p
unfolding place
place_back (At a) is = rw (not_any (decimal a) (digits_of_decimal a (omega (arith, is))), number_text a is) refl
place_back Any is = refl

name_back : (n : List ℕ) → is_file_name n ≡ true → name n ≡ Ok n
name_back n is = rw is refl

pub not_true : (b : Bool) → not b ≡ true → b ≡ false
not_true true e = absurd (false≢true e)
not_true false e = refl

isnt_zero : (n : List ℕ) → is_file_name n ≡ true → is_word n (codes "zero") ≡ false
isnt_zero n is = not_true (is_word n (codes "zero")) (and_right _ (not (is_word n (codes "zero"))) is)

bytes_back : (text : List ℕ) → IsContent text → bytes (hex_text text) ≡ Ok text
bytes_back text is = rw (bytes_text_back text is.2 is.0 is.1) refl

-- each statement's own fields are read as that statement
load_back : (a n : ℕ) → IsNumber a → IsWordSize n → load_line (decimal a ∷ decimal n ∷ []) ≡ Ok (act.Call (call.Load a n))
unfolding load_line
load_back a n h k = rw (number_text a h, size_text n k) refl

store_back : (a n v : ℕ) → IsNumber a → IsWordSize n → IsNumber v → FitsWord n v → store_line (decimal a ∷ decimal n ∷ decimal v ∷ []) ≡ Ok (act.Call (call.Store a n v))
unfolding store_line
store_back a n v h k l fits = let t : nat_lt v (2 ^ (8 * n)) ≡ true = grind (arith, nat_tests, fits) in rw (number_text a h, size_text n k, number_text v l, t) refl

plain_map_back : (at : Place) (len : ℕ) (p : Prot) (k : Kind) (o : ℕ) → IsPlace at → IsNumber len → IsProt p → IsNumber o
    → map_line (place_text at ∷ decimal len ∷ prot_text p ∷ kind_text k ∷ codes "zero" ∷ decimal o ∷ []) ≡ Ok (act.Call (call.Map at len p k object.NewZero o))
unfolding map_line map_of map_object
plain_map_back at len p k o h i j l = rw (place_back at h, number_text len i, prot_back p.0 j, kind_back k, number_text o l) refl

named_map_back : (name : List ℕ) (at : Place) (len : ℕ) (p : Prot) (k : Kind) (o : ℕ) → is_file_name name ≡ true → IsPlace at → IsNumber len → IsProt p → IsNumber o
    → map_line (place_text at ∷ decimal len ∷ prot_text p ∷ kind_text k ∷ name ∷ decimal o ∷ []) ≡ Ok (act.Named name (call.Map at len p k (object.File unknown_file) o))
unfolding map_line map_of map_object
named_map_back n at len p k o is h i j l = rw (place_back at h, number_text len i, prot_back p.0 j, kind_back k, name_back n is, isnt_zero n is, number_text o l) refl

unmap_back : (a len : ℕ) → IsNumber a → IsNumber len → unmap_line (decimal a ∷ decimal len ∷ []) ≡ Ok (act.Call (call.Unmap a len))
unfolding unmap_line
unmap_back a len h k = rw (number_text a h, number_text len k) refl

sync_back : (a len : ℕ) → IsNumber a → IsNumber len → sync_line (decimal a ∷ decimal len ∷ []) ≡ Ok (act.Call (call.Sync a len))
unfolding sync_line
sync_back a len h k = rw (number_text a h, number_text len k) refl

protect_back : (a len : ℕ) (p : Prot) → IsNumber a → IsNumber len → IsProt p → protect_line (decimal a ∷ decimal len ∷ prot_text p ∷ []) ≡ Ok (act.Call (call.Protect a len p))
unfolding protect_line protect_of
protect_back a len p h k l = rw (number_text a h, number_text len k, prot_back p.0 l) refl

read_back : (name : List ℕ) (o len : ℕ) → is_file_name name ≡ true → IsNumber o → 1 ≤ len → len ≤ 65536
    → read_call_line (name ∷ decimal o ∷ decimal len ∷ []) ≡ Ok (act.Named name (call.Read unknown_file o len))
unfolding read_call_line read_of
read_back n o len is h low high =
    let t : nat_le 1 len ≡ true = grind (arith, nat_tests, low) in
    let u : nat_le len 65536 ≡ true = grind (arith, nat_tests, high) in
    rw (name_back n is, number_text o h, number_text len (omega (arith, high)), t, u) refl

write_back : (name : List ℕ) (o : ℕ) (text : List ℕ) → is_file_name name ≡ true → IsNumber o → IsContent text
    → write_line (name ∷ decimal o ∷ hex_text text ∷ []) ≡ Ok (act.Write name unknown_file o text)
unfolding write_line write_of
write_back n o text is h k = rw (name_back n is, number_text o h, bytes_back text k) refl

truncate_back : (name : List ℕ) (len : ℕ) → is_file_name name ≡ true → IsNumber len → truncate_line (name ∷ decimal len ∷ []) ≡ Ok (act.Named name (call.Truncate unknown_file len))
unfolding truncate_line
truncate_back n len is h = rw (name_back n is, number_text len h) refl

blank_back : (d n : ℕ) → IsNumber d → IsNumber n → disk (decimal d ∷ codes "blank" ∷ decimal n ∷ []) ≡ Ok (given.Blank d n)
unfolding disk disk_setup
blank_back d n h k = rw (number_text d h, number_text n k) refl

path_back : (d : ℕ) (p : List ℕ) → IsNumber d → length p ≤ 255 → disk (decimal d ∷ codes "path" ∷ p ∷ []) ≡ Ok (given.Path d p)
unfolding disk disk_setup path
path_back d p h short = let t : nat_le (length p) 255 ≡ true = grind (arith, nat_tests, short) in rw (number_text d h, t) refl

join_form_back : (m : Bool) → join_form (if m then codes "mirror" else codes "stripe") ≡ Ok m
unfolding join_form
join_form_back true = refl
join_form_back false = refl

join_back : (d e : ℕ) (m : Bool) → IsNumber d → IsNumber e → join (decimal d ∷ (if m then codes "mirror" else codes "stripe") ∷ decimal e ∷ []) ≡ Ok (given.Join d e m)
unfolding join join_setup
join_back d e m h k = rw (number_text d h, join_form_back m, number_text e k) refl

mode_back : (w : Bool) → mode (if w then codes "rw" else codes "ro") ≡ Ok w
unfolding mode
mode_back true = refl
mode_back false = refl

content_back : (text : List ℕ) → length text ≤ 65536 → All IsByte text → content (content_text text) ≡ Ok text
unfolding content
content_back [] short all = refl
content_back (b ∷ text) short all = rw (not_dash (hex_text (b ∷ text)) (hex_all (b ∷ text) all), bytes_text_back (b ∷ text) all (omega arith) short) refl

file_back : (n : List ℕ) (w : Bool) (d p : ℕ) (text : List ℕ) → is_file_name n ≡ true → IsNumber d → IsNumber p → length text ≤ 65536 → All IsByte text
    → file (n ∷ (if w then codes "rw" else codes "ro") ∷ decimal d ∷ decimal p ∷ content_text text ∷ []) ≡ Ok (given.File n w d p text)
unfolding file file_setup
file_back n w d p text is h k short all = rw (name_back n is, mode_back w, number_text d h, number_text p k, content_back text short all) refl

-- the words of the lines
call_back : (spot : LineSpot) (c : Call) → spot.inside ≡ true → IsPlainCall c → statement spot true (call_fields (codes "zero") c) ≡ Ok (says.Own (act.Call c))
unfolding statement word_statement mapping_statement
call_back spot (call.Load a n) inside h = rw (inside, load_back a n h.0 h.1) refl
call_back spot (call.Store a n v) inside h = rw (inside, store_back a n v h.0 h.1 h.2 h.3) refl
call_back spot (call.Map at len p k object.NewZero o) inside h = rw (inside, plain_map_back at len p k o h.0 h.1 h.2 h.3) refl
call_back spot (call.Map at len p k (object.File file) o) inside h = absurd h
call_back spot (call.Map at len p k (object.Zero z) o) inside h = absurd h
call_back spot (call.Unmap a len) inside h = rw (inside, unmap_back a len h.0 h.1) refl
call_back spot (call.Protect a len p) inside h = rw (inside, protect_back a len p h.0 h.1 h.2) refl
call_back spot (call.Sync a len) inside h = rw (inside, sync_back a len h.0 h.1) refl
call_back spot (call.Read file o len) inside h = absurd h
call_back spot (call.Write file o line rest) inside h = absurd h
call_back spot (call.Truncate file len) inside h = absurd h
call_back spot (call.Fork c) inside h = absurd h
call_back spot call.Exit inside h = absurd h

named_back : (spot : LineSpot) (n : List ℕ) (c : Call) → spot.inside ≡ true → is_file_name n ≡ true → IsNamedCall c → statement spot true (call_fields n c) ≡ Ok (says.Own (act.Named n c))
unfolding statement word_statement mapping_statement file_statement
named_back spot n (call.Load a k) inside is h = absurd h
named_back spot n (call.Store a k v) inside is h = absurd h
named_back spot n (call.Map at len p k object.NewZero o) inside is h = absurd h
named_back spot n (call.Map at len p k (object.File file) o) inside is h =
    rw (inside, named_map_back n at len p k o is h.0 h.1 h.2 h.4) (ap (λ f. Ok (says.Own (act.Named n (call.Map at len p k (object.File f) o)))) (sym h.3))
named_back spot n (call.Map at len p k (object.Zero z) o) inside is h = absurd h
named_back spot n (call.Unmap a len) inside is h = absurd h
named_back spot n (call.Protect a len p) inside is h = absurd h
named_back spot n (call.Sync a len) inside is h = absurd h
named_back spot n (call.Read file o len) inside is h = rw (inside, read_back n o len is h.1 h.2 h.3) (ap (λ f. Ok (says.Own (act.Named n (call.Read f o len)))) (sym h.0))
named_back spot n (call.Write file o line rest) inside is h = absurd h
named_back spot n (call.Truncate file len) inside is h = rw (inside, truncate_back n len is h.1) (ap (λ f. Ok (says.Own (act.Named n (call.Truncate f len)))) (sym h.0))
named_back spot n (call.Fork c) inside is h = absurd h
named_back spot n call.Exit inside is h = absurd h

setup_back : (spot : LineSpot) (a : SetupAct) → setup_may_stand spot a ≡ true → IsSetupAct a → statement spot true (setup_fields a) ≡ Ok (says.Setup a)
unfolding statement word_statement mapping_statement file_statement block_statement setup_statement disk_statement
setup_back spot (given.Frames n) may h = rw (may, number_text n h) refl
setup_back spot (given.Swap n) may h = rw (may, number_text n h) refl
setup_back spot (given.Translations n) may h = rw (may, number_text n h) refl
setup_back spot (given.Blank d n) may h = rw (may, blank_back d n h.0 h.1) refl
setup_back spot (given.Path d p) may h = rw (may, path_back d p h.0 h.2) refl
setup_back spot (given.Join d e m) may h = rw (may, join_back d e m h.0 h.1) refl
setup_back spot (given.File n w d p text) may h = rw (may, file_back n w d p text h.0 h.1 h.2 h.3 h.4) refl

statement_back : (spot : LineSpot) (s : Statement) → may_stand spot s ≡ true → IsStatement s → statement spot true (statement_fields s) ≡ Ok s
unfolding statement word_statement mapping_statement file_statement block_statement
statement_back spot says.Nothing may h = refl
statement_back spot (says.Setup a) may h = setup_back spot a may h
statement_back spot says.Process may h = rw may refl
statement_back spot says.Fork may h = rw may refl
statement_back spot says.End may h = rw may refl
statement_back spot (says.Own (act.Call c)) may h = call_back spot c may h
statement_back spot (says.Own (act.Named n c)) may h = named_back spot n c may h.0 h.1
statement_back spot (says.Own (act.Write n file o text)) may h = rw (may, write_back n o text h.0 h.2 h.3) (ap (λ f. Ok (says.Own (act.Write n f o text))) (sym h.1))
statement_back spot (says.Own act.Wait) may h = rw may refl

-- the fields of a statement stand in a line as words
prot_words : (n : ℕ) {fs : List (List ℕ)} → n < 4 → AreWords fs → AreWords (prot_text (record { 0 = n }) ∷ fs)
prot_words zero lt h = more refl refl h
prot_words (suc zero) lt h = more refl refl h
prot_words (suc (suc zero)) lt h = more refl refl h
prot_words (suc (suc (suc zero))) lt h = more refl refl h
prot_words (suc (suc (suc (suc n)))) lt h = absurd (omega (arith, lt))

kind_words : (k : Kind) {fs : List (List ℕ)} → AreWords fs → AreWords (kind_text k ∷ fs)
kind_words kinds.Shared h = more refl refl h
kind_words kinds.Private h = more refl refl h

place_words : (p : Place) {fs : List (List ℕ)} → IsPlace p → AreWords fs → AreWords (place_text p ∷ fs)
place_words (At a) is h = words_number a is h
place_words Any is h = more refl refl h

join_form_is_word : (m : Bool) {fs : List (List ℕ)} → AreWords fs → AreWords ((if m then codes "mirror" else codes "stripe") ∷ fs)
join_form_is_word true h = more refl refl h
join_form_is_word false h = more refl refl h

mode_is_word : (w : Bool) {fs : List (List ℕ)} → AreWords fs → AreWords ((if w then codes "rw" else codes "ro") ∷ fs)
mode_is_word true h = more refl refl h
mode_is_word false h = more refl refl h

content_words : (text : List ℕ) → All IsByte text → AreWords (content_text text ∷ [])
content_words [] all = more refl refl none
content_words (b ∷ text) all = words_bytes (b ∷ text) all (omega arith) none

pub size_number : (n : ℕ) → IsWordSize n → IsNumber n
size_number n is = ⊎_elim (λ e. omega (arith, e)) (λ h. ⊎_elim (λ e. omega (arith, e)) (λ e. omega (arith, e)) h) is

call_words : (c : Call) → IsPlainCall c → AreWords (call_fields (codes "zero") c)
call_words (call.Load a n) h = more refl refl (words_number a h.0 (words_number n (size_number n h.1) none))
call_words (call.Store a n v) h = more refl refl (words_number a h.0 (words_number n (size_number n h.1) (words_number v h.2 none)))
call_words (call.Map at len p k object.NewZero o) h = more refl refl (place_words at h.0 (words_number len h.1 (prot_words p.0 h.2 (kind_words k (more refl refl (words_number o h.3 none))))))
call_words (call.Map at len p k (object.File file) o) h = absurd h
call_words (call.Map at len p k (object.Zero z) o) h = absurd h
call_words (call.Unmap a len) h = more refl refl (words_number a h.0 (words_number len h.1 none))
call_words (call.Protect a len p) h = more refl refl (words_number a h.0 (words_number len h.1 (prot_words p.0 h.2 none)))
call_words (call.Sync a len) h = more refl refl (words_number a h.0 (words_number len h.1 none))
call_words (call.Read file o len) h = absurd h
call_words (call.Write file o line rest) h = absurd h
call_words (call.Truncate file len) h = absurd h
call_words (call.Fork c) h = absurd h
call_words call.Exit h = absurd h

named_words : (n : List ℕ) (c : Call) → is_file_name n ≡ true → IsNamedCall c → AreWords (call_fields n c)
named_words n (call.Load a k) is h = absurd h
named_words n (call.Store a k v) is h = absurd h
named_words n (call.Map at len p k object.NewZero o) is h = absurd h
named_words n (call.Map at len p k (object.File file) o) is h =
    more refl refl (place_words at h.0 (words_number len h.1 (prot_words p.0 h.2 (kind_words k (words_name n is (words_number o h.4 none))))))
named_words n (call.Map at len p k (object.Zero z) o) is h = absurd h
named_words n (call.Unmap a len) is h = absurd h
named_words n (call.Protect a len p) is h = absurd h
named_words n (call.Sync a len) is h = absurd h
named_words n (call.Read file o len) is h = more refl refl (words_name n is (words_number o h.1 (words_number len (let le = h.3 in omega (arith, le)) none)))
named_words n (call.Write file o line rest) is h = absurd h
named_words n (call.Truncate file len) is h = more refl refl (words_name n is (words_number len h.1 none))
named_words n (call.Fork c) is h = absurd h
named_words n call.Exit is h = absurd h

setup_words : (a : SetupAct) → IsSetupAct a → AreWords (setup_fields a)
setup_words (given.Frames n) h = more refl refl (words_number n h none)
setup_words (given.Swap n) h = more refl refl (words_number n h none)
setup_words (given.Translations n) h = more refl refl (words_number n h none)
setup_words (given.Blank d n) h = more refl refl (words_number d h.0 (more refl refl (words_number n h.1 none)))
setup_words (given.Path d p) h = more refl refl (words_number d h.0 (more refl refl (more h.3 (some_isnt_empty p h.1) none)))
setup_words (given.Join d e m) h = more refl refl (words_number d h.0 (join_form_is_word m (words_number e h.1 none)))
setup_words (given.File n w d p text) h = more refl refl (words_name n h.0 (mode_is_word w (words_number d h.1 (words_number p h.2 (content_words text h.4)))))

statement_words : (s : Statement) → IsStatement s → AreWords (statement_fields s)
statement_words says.Nothing h = none
statement_words (says.Setup a) h = setup_words a h
statement_words says.Process h = more refl refl none
statement_words says.Fork h = more refl refl none
statement_words says.End h = more refl refl none
statement_words (says.Own (act.Call c)) h = call_words c h
statement_words (says.Own (act.Named n c)) h = named_words n c h.0 h.1
statement_words (says.Own (act.Write n file o text)) h = more refl refl (words_name n h.0 (words_number o h.2 (words_bytes text h.3.2 h.3.0 none)))
statement_words (says.Own act.Wait) h = more refl refl none

-- the lines of a printed script make its plan
read_from : (ss : List Statement) (n : ℕ) (g : OpenPlan) → All IsStatement ss → StandRight g n ss → (with_statements g n ss).inside ≡ 0
    → plan_from n g (lines (script_text ss)) ≡ Ok (plan_seen (with_statements g n ss))
read_from [] n g all stand whole = rw whole refl
read_from (s ∷ ss) n g all stand whole =
    let line = line_of_fields (statement_fields s) in
    let words = statement_words s (All-head IsStatement s ss all) in
    let first : lines (script_text (s ∷ ss)) ≡ line ∷ lines (script_text ss) =
    ap lines (append_assoc line (10 ∷ []) (script_text ss)) ∙ lines_joined line (script_text ss) (plain_joined (statement_fields s) words) in
    let said : statement (spot_of g) (list_all is_plain line) (fields line) ≡ Ok s =
    ap₂ (λ b fs. statement (spot_of g) b fs) (plain_joined (statement_fields s) words) (fields_joined (statement_fields s) words)
    ∙ statement_back (spot_of g) s stand.0 (All-head IsStatement s ss all) in
    ap (plan_from n g) first
    ∙ (step line (lines (script_text ss)) said
    ∙ read_from ss (n + 1) (with_statement g (n + 1) s) (All-tail IsStatement s ss all) stand.1 whole)
  where
    step : (line : List ℕ) (rest : List (List ℕ)) → statement (spot_of g) (list_all is_plain line) (fields line) ≡ Ok s
        → plan_from n g (line ∷ rest) ≡ plan_from (n + 1) (with_statement g (n + 1) s) rest
    step line rest said = rw (said, plan_from) refl

pub parsed : (ss : List Statement) → IsScript ss empty_plan → plan_of (script_text ss) ≡ Ok (plan_seen (with_statements empty_plan 0 ss))
parsed ss is =
    let le = is.short in
    let t : nat_lt 1048576 (length (script_text ss)) ≡ false = grind (arith, nat_tests, le) in
    rw t (read_from ss 0 empty_plan is.is is.stand is.whole)
