-- A line that is read says what a line may say, and stands where it may.
use Rattle.flat_model.proofs.Histories.{io_aside as and_left}
use Rattle.std.proofs.Common.{◌≡◌, ℕ, ◌≤◌, ◌<◌, ◌^◌, ◌+◌, ◌*◌, ◌%◌, ◌==◌, Bool, true, false, not, ◌&&◌, ◌||◌, List, [], ◌∷◌, length, Option, Some}
use Rattle.std.proofs.Common.{None, Result, Ok, Err, refl, sym, ap, ◌∙◌, subst, arith, rules, tests, cond, ⊎_elim, inl, inr, lit<}
use Rattle.std.specs.Prelude.{IfOk, IsTrue, codes, nat_lt, nat_le, if◌then◌else◌}
use Rattle.std.specs.List.{list_all}
use Rattle.std.proofs.lemmas.Bool.{false≢true, cases_Bool, eqb-true}
use Rattle.std.proofs.lemmas.Bool.Decides.{nat_tests}
use Rattle.std.proofs.lemmas.List.Elements.{All-nil, All-cons}
use Rattle.flat_model.specs.vm_types.declared.call.Kind.{Kind}
use Rattle.flat_model.specs.vm_types.declared.call.Place.{Place}
use Rattle.flat_model.specs.vm_types.declared.prot.Prot.{Prot}
use Rattle.flat_model.specs.vm_types.Prot.{IsProt}
use Rattle.flat_model.specs.vm_types.WellFormed.{IsNumber, IsPlace}
use Rattle.flat_model.specs.vm_types.Words.{IsByte, IsWordSize}
use Rattle.vm_script.specs.declared.fault.ScriptKind.{ScriptKind}
use Rattle.vm_script.specs.declared.fault.ScriptKind.TheVariants as fault
use Rattle.vm_script.specs.declared.plan.SetupAct.{SetupAct}
use Rattle.vm_script.specs.declared.plan.PlanAct.{PlanAct}
use Rattle.vm_script.specs.declared.plan.PlanAct.TheVariants as act
use Rattle.vm_script.specs.declared.statement.Statement.{Statement}
use Rattle.vm_script.specs.declared.statement.Statement.TheVariants as says
use Rattle.vm_script.specs.declared.statement.LineSpot.{LineSpot}
use Rattle.vm_script.specs.Fields.{is_word, digits_at, number_of_field, is_file_name, is_hex_digit, is_digit, digit_value, value_of_digits, hex_bytes, bytes_of_field}
use Rattle.vm_script.specs.Reading.{◌>>=◌, ◌>>◌, or_fault, need}
use Rattle.vm_script.specs.Statements.{number, name, bytes, size, prot, kind, place, load_line, store_line, map_object, map_of, map_line, unmap_line}
use Rattle.vm_script.specs.Statements.{protect_of, protect_line, sync_line, read_of, read_call_line, write_of, write_line, truncate_line, lone_word}
use Rattle.vm_script.specs.Statements.{own_statement, amount, path, disk_setup, disk, join_form, join_setup, join, content, mode, file_setup, file, disk_statement}
use Rattle.vm_script.specs.Statements.{setup_statement}
use Rattle.vm_script.specs.Statements.{block_statement, file_statement, mapping_statement, word_statement, statement, is_comment}
use Rattle.vm_script.specs.Printed.{IsPlanAct, IsContent, AreBytes, may_stand, setup_may_stand}

pub bind : {A B : Type 0} (r : Result A ScriptKind) (f : A → Result B ScriptKind) (P : B → Type 0) → ((x : A) → r ≡ Ok x → IfOk (f x) P) → IfOk (r >>= f) P
bind (Ok x) f P h = h x refl
bind (Err e) f P h = tt

pub choice : {B : Type 0} (b : Bool) (r s : Result B ScriptKind) (P : B → Type 0) → (b ≡ true → IfOk r P) → (b ≡ false → IfOk s P) → IfOk (if b then r else s) P
choice true r s P h k = h refl
choice false r s P h k = k refl

pub needed : {B : Type 0} (kind : ScriptKind) (b : Bool) (r : Result B ScriptKind) (P : B → Type 0) → (b ≡ true → IfOk r P) → IfOk (need kind b >> r) P
needed kind true r P h = h refl
needed kind false r P h = tt

or_fault_is : {A : Type 0} (k : ScriptKind) (o : Option A) (x : A) → or_fault k o ≡ Ok x → o ≡ Some x
or_fault_is k None x e = absurd (cc e)
or_fault_is k (Some y) x e = cc e

digits_number : (base most : ℕ) (right : ℕ → Bool) (digits : List ℕ) (n : ℕ) → digits_at base most right digits ≡ Some n → n < 2 ^ 32
unfolding digits_at
digits_number base most right digits n is =
    small (nat_le 1 (length digits)) (nat_le (length digits) most) (list_all right digits) (value_of_digits base digits) is
  where
    small : (a b c : Bool) (v : ℕ) → (if a && b && c && nat_lt v (2 ^ 32) then Some v else None) ≡ Some n → n < 2 ^ 32
    small true true true v e = ⊎_elim
        (λ yes. let same : v ≡ n = cc (sym (ap (λ t. cond t (Some v) None) yes) ∙ e) in let lt : v < 2 ^ 32 = grind (arith, nat_tests, yes) in subst (λ z. z < 2 ^ 32) same lt)
        (λ non. absurd (cc (sym (ap (λ t. cond t (Some v) None) non) ∙ e)))
        (cases_Bool (nat_lt v (2 ^ 32)))
    small false b c v e = absurd (cc e)
    small true false c v e = absurd (cc e)
    small true true false v e = absurd (cc e)

pub number_is : (field : List ℕ) (n : ℕ) → number field ≡ Ok n → IsNumber n
unfolding number_of_field
number_is field n is = either (or_fault_is fault.Number (number_of_field field) n is)
  where
    either : number_of_field field ≡ Some n → IsNumber n
    either e = grind (rules, tests, arith, digits_number 16 8 is_hex_digit, digits_number 10 10 is_digit, e)

size_is : (field : List ℕ) (n : ℕ) → size field ≡ Ok n → IsWordSize n
unfolding size
size_is field n is = from (number field) is
  where
    from : (r : Result ℕ ScriptKind) → (r >>= λ m. (need fault.Value ((m == 1) || (m == 2) || (m == 4)) >>= λ _. Ok m)) ≡ Ok n → IsWordSize n
    from (Ok m) e = one_of m (m == 1) (m == 2) (m == 4) refl refl refl e
      where
        one_of : (m : ℕ) (a b c : Bool) → (m == 1) ≡ a → (m == 2) ≡ b → (m == 4) ≡ c → (need fault.Value (a || b || c) >>= λ _. Ok m) ≡ Ok n → IsWordSize n
        one_of m true b c ea eb ec e = inl (sym (cc e) ∙ eqb-true m 1 ea)
        one_of m false true c ea eb ec e = inr (inl (sym (cc e) ∙ eqb-true m 2 eb))
        one_of m false false true ea eb ec e = inr (inr (sym (cc e) ∙ eqb-true m 4 ec))
        one_of m false false false ea eb ec e = absurd (cc e)
    from (Err k) e = absurd (cc e)

prot_is : (field : List ℕ) → IfOk (prot field) IsProt
unfolding prot
prot_is field =
    choice (is_word field (codes "none")) _ _ IsProt (λ _. lit< tt)
    (λ _. choice (is_word field (codes "r")) _ _ IsProt (λ _. lit< tt)
    (λ _. choice (is_word field (codes "w")) _ _ IsProt (λ _. lit< tt)
    (λ _. choice (is_word field (codes "rw")) _ _ IsProt (λ _. lit< tt) (λ _. tt))))

pub if_ok : {A : Type 0} (r : Result A ScriptKind) (P : A → Type 0) (x : A) → IfOk r P → r ≡ Ok x → P x
if_ok r P x h e = subst (λ s. IfOk s P) e h

place_is : (field : List ℕ) → IfOk (place field) IsPlace
unfolding place
place_is field = choice (is_word field (codes "any")) _ _ IsPlace (λ _. tt) (λ _. bind (number field) _ IsPlace (λ n is. number_is field n is))

pub name_is : (field t : List ℕ) → name field ≡ Ok t → IsTrue (is_file_name t)
name_is field t is = from (is_file_name field) refl is
  where
    from : (b : Bool) → is_file_name field ≡ b → (if b then Ok field else Err fault.Name) ≡ Ok t → IsTrue (is_file_name t)
    from true e k = let same : field ≡ t = cc k in subst (λ f. IsTrue (is_file_name f)) same (subst IsTrue (sym e) refl)
    from false e k = absurd (cc k)

digit_small : (b : ℕ) → is_hex_digit b ≡ true → digit_value b < 16
digit_small b is = grind (rules, tests, arith, nat_tests, is)

pub and_right : (a b : Bool) → (a && b) ≡ true → b ≡ true
and_right true b e = e
and_right false b e = absurd (false≢true e)

hex_small : (digits : List ℕ) → list_all is_hex_digit digits ≡ true → AreBytes (hex_bytes digits)
hex_small [] all = All-nil IsByte
hex_small (a ∷ []) all = All-nil IsByte
hex_small (a ∷ b ∷ more) all =
    let rest = and_right (is_hex_digit a) (is_hex_digit b && list_all is_hex_digit more) all in
    let high = digit_small a (and_left (is_hex_digit a) (is_hex_digit b && list_all is_hex_digit more) all) in
    let low = digit_small b (and_left (is_hex_digit b) (list_all is_hex_digit more) rest) in
    let small : 16 * digit_value a + digit_value b < 256 = omega (arith, high, low) in
    All-cons IsByte _ _ small (hex_small more (and_right (is_hex_digit b) (list_all is_hex_digit more) rest))

hex_length : (digits : List ℕ) → length digits % 2 ≡ 0 → 2 * length (hex_bytes digits) ≡ length digits
hex_length [] even = refl
hex_length (a ∷ []) even = absurd (omega (arith, even))
hex_length (a ∷ b ∷ more) even = let ih = hex_length more (omega (arith, even)) in omega (arith, ih)

pub bytes_is : (field t : List ℕ) → bytes field ≡ Ok t → IsContent t
unfolding bytes_of_field
bytes_is field t is =
    from ((length field % 2) == 0) (nat_le 2 (length field)) (nat_le (length field) 131072) (list_all is_hex_digit field) refl refl refl refl (or_fault_is fault.Bytes (bytes_of_field field) t is)
  where
    from : (a b c d : Bool) → ((length field % 2) == 0) ≡ a → nat_le 2 (length field) ≡ b → nat_le (length field) 131072 ≡ c → list_all is_hex_digit field ≡ d
        → (if a && b && c && d then Some (hex_bytes field) else None) ≡ Some t → IsContent t
    from true true true true ea eb ec ed e =
        let same : hex_bytes field ≡ t = cc e in
        let count = hex_length field (eqb-true (length field % 2) 0 ea) in
        let low : 2 ≤ length field = grind (arith, nat_tests, eb) in
        let high : length field ≤ 131072 = grind (arith, nat_tests, ec) in
        subst IsContent same (omega (arith, count, low), omega (arith, count, high), hex_small field ed)
    from false b c d ea eb ec ed e = absurd (cc e)
    from true false c d ea eb ec ed e = absurd (cc e)
    from true true false d ea eb ec ed e = absurd (cc e)
    from true true true false ea eb ec ed e = absurd (cc e)

fits_is : (v n : ℕ) → nat_lt v (2 ^ (8 * n)) ≡ true → v < 2 ^ (8 * n)
fits_is v n is = grind (arith, nat_tests, is)

load_is : (args : List (List ℕ)) → IfOk (load_line args) IsPlanAct
unfolding load_line
load_is [] = tt
load_is (a ∷ []) = tt
load_is (a ∷ s ∷ []) = bind (number a) _ IsPlanAct (λ addr is. bind (size s) _ IsPlanAct (λ n js. (number_is a addr is, size_is s n js)))
load_is (a ∷ s ∷ b ∷ more) = tt

store_is : (args : List (List ℕ)) → IfOk (store_line args) IsPlanAct
unfolding store_line
store_is [] = tt
store_is (a ∷ []) = tt
store_is (a ∷ s ∷ []) = tt
store_is (a ∷ s ∷ v ∷ []) = bind (number a) _ IsPlanAct (λ addr is. bind (size s) _ IsPlanAct (λ n js. bind (number v) _ IsPlanAct (λ w ks.
    needed fault.Value (nat_lt w (2 ^ (8 * n))) _ IsPlanAct (λ fits. (number_is a addr is, size_is s n js, number_is v w ks, fits_is w n fits)))))
store_is (a ∷ s ∷ v ∷ b ∷ more) = tt

map_object_is : (at : Place) (len : ℕ) (rights : Prot) (k : Kind) (shown o : List ℕ) → IsPlace at → IsNumber len → IsProt rights → IfOk (map_object at len rights k shown o) IsPlanAct
unfolding map_object
map_object_is at len rights k shown o is_at is_len is_prot =
    choice (is_word shown (codes "zero")) _ _ IsPlanAct
    (λ _. bind (number o) _ IsPlanAct (λ offset is. (is_at, is_len, is_prot, number_is o offset is)))
    (λ _. bind (name shown) _ IsPlanAct (λ file is. bind (number o) _ IsPlanAct (λ offset js. (name_is shown file is, (is_at, is_len, is_prot, refl, number_is o offset js)))))

map_of_is : (a l p k shown o : List ℕ) → IfOk (map_of a l p k shown o) IsPlanAct
unfolding map_of
map_of_is a l p k shown o = bind (place a) _ IsPlanAct (λ at is. bind (number l) _ IsPlanAct (λ len js. bind (prot p) _ IsPlanAct (λ rights ks. bind (kind k) _ IsPlanAct (λ shares ls.
    map_object_is at len rights shares shown o (if_ok (place a) IsPlace at (place_is a) is) (number_is l len js) (if_ok (prot p) IsProt rights (prot_is p) ks)))))

map_is : (args : List (List ℕ)) → IfOk (map_line args) IsPlanAct
unfolding map_line
map_is [] = tt
map_is (a ∷ []) = tt
map_is (a ∷ l ∷ []) = tt
map_is (a ∷ l ∷ p ∷ []) = tt
map_is (a ∷ l ∷ p ∷ k ∷ []) = tt
map_is (a ∷ l ∷ p ∷ k ∷ s ∷ []) = tt
map_is (a ∷ l ∷ p ∷ k ∷ s ∷ o ∷ []) = map_of_is a l p k s o
map_is (a ∷ l ∷ p ∷ k ∷ s ∷ o ∷ b ∷ more) = tt

unmap_is : (args : List (List ℕ)) → IfOk (unmap_line args) IsPlanAct
unfolding unmap_line
unmap_is [] = tt
unmap_is (a ∷ []) = tt
unmap_is (a ∷ l ∷ []) = bind (number a) _ IsPlanAct (λ addr is. bind (number l) _ IsPlanAct (λ len js. (number_is a addr is, number_is l len js)))
unmap_is (a ∷ l ∷ b ∷ more) = tt

sync_is : (args : List (List ℕ)) → IfOk (sync_line args) IsPlanAct
unfolding sync_line
sync_is [] = tt
sync_is (a ∷ []) = tt
sync_is (a ∷ l ∷ []) = bind (number a) _ IsPlanAct (λ addr is. bind (number l) _ IsPlanAct (λ len js. (number_is a addr is, number_is l len js)))
sync_is (a ∷ l ∷ b ∷ more) = tt

protect_is : (args : List (List ℕ)) → IfOk (protect_line args) IsPlanAct
unfolding protect_line protect_of
protect_is [] = tt
protect_is (a ∷ []) = tt
protect_is (a ∷ l ∷ []) = tt
protect_is (a ∷ l ∷ p ∷ []) =
    bind (number a) _ IsPlanAct
    (λ addr is. bind (number l) _ IsPlanAct
    (λ len js. bind (prot p) _ IsPlanAct
    (λ rights ks. (number_is a addr is, number_is l len js, if_ok (prot p) IsProt rights (prot_is p) ks))))
protect_is (a ∷ l ∷ p ∷ b ∷ more) = tt

from_to : (n : ℕ) → (nat_le 1 n && nat_le n 65536) ≡ true → (1 ≤ n) × (n ≤ 65536)
from_to n is = (grind (arith, nat_tests, and_left (nat_le 1 n) (nat_le n 65536) is), grind (arith, nat_tests, and_right (nat_le 1 n) (nat_le n 65536) is))

read_is : (args : List (List ℕ)) → IfOk (read_call_line args) IsPlanAct
unfolding read_call_line read_of
read_is [] = tt
read_is (n ∷ []) = tt
read_is (n ∷ o ∷ []) = tt
read_is (n ∷ o ∷ l ∷ []) = bind (name n) _ IsPlanAct (λ file is. bind (number o) _ IsPlanAct (λ offset js. bind (number l) _ IsPlanAct (λ len ks.
    needed fault.Value (nat_le 1 len && nat_le len 65536) _ IsPlanAct (λ fits. let range = from_to len fits in (name_is n file is, (refl, number_is o offset js, range.0, range.1))))))
read_is (n ∷ o ∷ l ∷ b ∷ more) = tt

write_is : (args : List (List ℕ)) → IfOk (write_line args) IsPlanAct
unfolding write_line write_of
write_is [] = tt
write_is (n ∷ []) = tt
write_is (n ∷ o ∷ []) = tt
write_is (n ∷ o ∷ t ∷ []) =
    bind (name n) _ IsPlanAct (λ file is. bind (number o) _ IsPlanAct (λ offset js. bind (bytes t) _ IsPlanAct (λ text ks. (name_is n file is, refl, number_is o offset js, bytes_is t text ks))))
write_is (n ∷ o ∷ t ∷ b ∷ more) = tt

truncate_is : (args : List (List ℕ)) → IfOk (truncate_line args) IsPlanAct
unfolding truncate_line
truncate_is [] = tt
truncate_is (n ∷ []) = tt
truncate_is (n ∷ l ∷ []) = bind (name n) _ IsPlanAct (λ file is. bind (number l) _ IsPlanAct (λ len js. (name_is n file is, (refl, number_is l len js))))
truncate_is (n ∷ l ∷ b ∷ more) = tt

-- What a line says that stands at this spot: it may stand there, and its act is one of a line.
abbrev pub OwnIs : Statement → Type 0
OwnIs (says.Own a) = IsPlanAct a
OwnIs s = Unit {0}

abbrev pub IsPlaced : LineSpot → Statement → Type 0
IsPlaced spot s = (may_stand spot s ≡ true) × OwnIs s

own_is : (spot : LineSpot) (r : Result PlanAct ScriptKind) → spot.inside ≡ true → IfOk r IsPlanAct → IfOk (own_statement r) (IsPlaced spot)
own_is spot r inside is = bind r _ (IsPlaced spot) (λ a e. (inside, if_ok r IsPlanAct a is e))

pub alone_is : {A : Type 0} (x : A) (args : List (List ℕ)) (P : A → Type 0) → P x → IfOk (lone_word x args) P
alone_is x [] P h = h
alone_is x (a ∷ more) P h = tt

disk_stands : (spot : LineSpot) (args : List (List ℕ)) → spot.opening ≡ true → IfOk (disk args) (λ a. setup_may_stand spot a ≡ true)
unfolding disk disk_setup
disk_stands spot [] ok = tt
disk_stands spot (d ∷ []) ok = tt
disk_stands spot (d ∷ f ∷ []) ok = tt
disk_stands spot (d ∷ f ∷ x ∷ []) ok =
    let P : SetupAct → Type 0 = λ a. setup_may_stand spot a ≡ true in
    bind (number d) _ P
    (λ n e. choice (is_word f (codes "blank")) _ _ P (λ _. bind (number x) _ P (λ m k. ok))
    (λ _. choice (is_word f (codes "path")) _ _ P (λ _. bind (path x) _ P (λ m k. ok)) (λ _. tt)))
disk_stands spot (d ∷ f ∷ x ∷ b ∷ more) ok = tt

join_stands : (spot : LineSpot) (args : List (List ℕ)) → spot.opening ≡ true → IfOk (join args) (λ a. setup_may_stand spot a ≡ true)
unfolding join join_setup
join_stands spot [] ok = tt
join_stands spot (d ∷ []) ok = tt
join_stands spot (d ∷ f ∷ []) ok = tt
join_stands spot (d ∷ f ∷ x ∷ []) ok =
    let P : SetupAct → Type 0 = λ a. setup_may_stand spot a ≡ true in
    bind (number d) _ P (λ n e. bind (join_form f) _ P (λ m k. bind (number x) _ P (λ o h. ok)))
join_stands spot (d ∷ f ∷ x ∷ b ∷ more) ok = tt

file_stands : (spot : LineSpot) (args : List (List ℕ)) → spot.opening ≡ true → IfOk (file args) (λ a. setup_may_stand spot a ≡ true)
unfolding file file_setup
file_stands spot [] ok = tt
file_stands spot (n ∷ []) ok = tt
file_stands spot (n ∷ m ∷ []) ok = tt
file_stands spot (n ∷ m ∷ d ∷ []) ok = tt
file_stands spot (n ∷ m ∷ d ∷ p ∷ []) ok = tt
file_stands spot (n ∷ m ∷ d ∷ p ∷ x ∷ []) ok =
    let P : SetupAct → Type 0 = λ a. setup_may_stand spot a ≡ true in
    bind (name n) _ P (λ a ea. bind (mode m) _ P (λ b eb. bind (number d) _ P (λ c ec. bind (number p) _ P (λ e ee. bind (content x) _ P (λ f ef. ok)))))
file_stands spot (n ∷ m ∷ d ∷ p ∷ x ∷ b ∷ more) ok = tt

disk_statement_is : (spot : LineSpot) (word : List ℕ) (args : List (List ℕ)) → IfOk (disk_statement spot word args) (IsPlaced spot)
unfolding disk_statement
disk_statement_is spot word args =
    choice (is_word word (codes "disk")) _ _ (IsPlaced spot)
    (λ _. needed fault.Place spot.opening _ (IsPlaced spot)
    (λ ok. bind (disk args) _ (IsPlaced spot) (λ a e. (disk_may spot a args ok e, tt))))
    (λ _. choice (is_word word (codes "join")) _ _ (IsPlaced spot)
    (λ _. needed fault.Place spot.opening _ (IsPlaced spot)
    (λ ok. bind (join args) _ (IsPlaced spot) (λ a e. (join_may spot a args ok e, tt))))
    (λ _. choice (is_word word (codes "file")) _ _ (IsPlaced spot)
    (λ _. needed fault.Place spot.opening _ (IsPlaced spot)
    (λ ok. bind (file args) _ (IsPlaced spot) (λ a e. (file_may spot a args ok e, tt))))
    (λ _. tt)))
  where
    disk_may : (spot : LineSpot) (a : SetupAct) (args : List (List ℕ)) → spot.opening ≡ true → disk args ≡ Ok a → setup_may_stand spot a ≡ true
    disk_may spot a args ok e = if_ok (disk args) (λ a. setup_may_stand spot a ≡ true) a (disk_stands spot args ok) e

    join_may : (spot : LineSpot) (a : SetupAct) (args : List (List ℕ)) → spot.opening ≡ true → join args ≡ Ok a → setup_may_stand spot a ≡ true
    join_may spot a args ok e = if_ok (join args) (λ a. setup_may_stand spot a ≡ true) a (join_stands spot args ok) e

    file_may : (spot : LineSpot) (a : SetupAct) (args : List (List ℕ)) → spot.opening ≡ true → file args ≡ Ok a → setup_may_stand spot a ≡ true
    file_may spot a args ok e = if_ok (file args) (λ a. setup_may_stand spot a ≡ true) a (file_stands spot args ok) e

setup_is : (spot : LineSpot) (word : List ℕ) (args : List (List ℕ)) → IfOk (setup_statement spot word args) (IsPlaced spot)
unfolding setup_statement
setup_is spot word args =
    choice (is_word word (codes "frames")) _ _ (IsPlaced spot)
    (λ _. needed fault.Place (spot.opening && not spot.frames) _ (IsPlaced spot)
    (λ ok. bind (amount args) _ (IsPlaced spot) (λ n e. (ok, tt))))
    (λ _. choice (is_word word (codes "swap")) _ _ (IsPlaced spot)
    (λ _. needed fault.Place (spot.opening && not spot.swap) _ (IsPlaced spot)
    (λ ok. bind (amount args) _ (IsPlaced spot) (λ n e. (ok, tt))))
    (λ _. choice (is_word word (codes "translations")) _ _ (IsPlaced spot)
    (λ _. needed fault.Place (spot.opening && not spot.translations) _ (IsPlaced spot)
    (λ ok. bind (amount args) _ (IsPlaced spot) (λ n e. (ok, tt))))
    (λ _. disk_statement_is spot word args)))

block_is : (spot : LineSpot) (word : List ℕ) (args : List (List ℕ)) → IfOk (block_statement spot word args) (IsPlaced spot)
unfolding block_statement
block_is spot word args =
    choice (is_word word (codes "wait")) _ _ (IsPlaced spot)
    (λ _. needed fault.Place spot.inside _ (IsPlaced spot)
    (λ ok. own_is spot (lone_word act.Wait args) ok (alone_is act.Wait args IsPlanAct tt)))
    (λ _. choice (is_word word (codes "process")) _ _ (IsPlaced spot) (λ _. needed fault.Place (not spot.inside) _ (IsPlaced spot) (λ ok. alone_is says.Process args (IsPlaced spot) (ok, tt)))
    (λ _. choice (is_word word (codes "fork")) _ _ (IsPlaced spot) (λ _. needed fault.Place spot.inside _ (IsPlaced spot) (λ ok. alone_is says.Fork args (IsPlaced spot) (ok, tt)))
    (λ _. choice (is_word word (codes "end")) _ _ (IsPlaced spot) (λ _. needed fault.Place spot.inside _ (IsPlaced spot) (λ ok. alone_is says.End args (IsPlaced spot) (ok, tt)))
    (λ _. setup_is spot word args))))

file_call_is : (spot : LineSpot) (word : List ℕ) (args : List (List ℕ)) → IfOk (file_statement spot word args) (IsPlaced spot)
unfolding file_statement
file_call_is spot word args =
    choice (is_word word (codes "read")) _ _ (IsPlaced spot) (λ _. needed fault.Place spot.inside _ (IsPlaced spot) (λ ok. own_is spot (read_call_line args) ok (read_is args)))
    (λ _. choice (is_word word (codes "write")) _ _ (IsPlaced spot) (λ _. needed fault.Place spot.inside _ (IsPlaced spot) (λ ok. own_is spot (write_line args) ok (write_is args)))
    (λ _. choice (is_word word (codes "truncate")) _ _ (IsPlaced spot) (λ _. needed fault.Place spot.inside _ (IsPlaced spot) (λ ok. own_is spot (truncate_line args) ok (truncate_is args)))
    (λ _. block_is spot word args)))

mapping_is : (spot : LineSpot) (word : List ℕ) (args : List (List ℕ)) → IfOk (mapping_statement spot word args) (IsPlaced spot)
unfolding mapping_statement
mapping_is spot word args =
    choice (is_word word (codes "map")) _ _ (IsPlaced spot) (λ _. needed fault.Place spot.inside _ (IsPlaced spot) (λ ok. own_is spot (map_line args) ok (map_is args)))
    (λ _. choice (is_word word (codes "unmap")) _ _ (IsPlaced spot) (λ _. needed fault.Place spot.inside _ (IsPlaced spot) (λ ok. own_is spot (unmap_line args) ok (unmap_is args)))
    (λ _. choice (is_word word (codes "protect")) _ _ (IsPlaced spot) (λ _. needed fault.Place spot.inside _ (IsPlaced spot) (λ ok. own_is spot (protect_line args) ok (protect_is args)))
    (λ _. choice (is_word word (codes "sync")) _ _ (IsPlaced spot) (λ _. needed fault.Place spot.inside _ (IsPlaced spot) (λ ok. own_is spot (sync_line args) ok (sync_is args)))
    (λ _. file_call_is spot word args))))

word_is : (spot : LineSpot) (word : List ℕ) (args : List (List ℕ)) → IfOk (word_statement spot word args) (IsPlaced spot)
unfolding word_statement
word_is spot word args =
    choice (is_word word (codes "load")) _ _ (IsPlaced spot) (λ _. needed fault.Place spot.inside _ (IsPlaced spot) (λ ok. own_is spot (load_line args) ok (load_is args)))
    (λ _. choice (is_word word (codes "store")) _ _ (IsPlaced spot) (λ _. needed fault.Place spot.inside _ (IsPlaced spot) (λ ok. own_is spot (store_line args) ok (store_is args)))
    (λ _. mapping_is spot word args))

pub statement_is : (spot : LineSpot) (plain : Bool) (fs : List (List ℕ)) → IfOk (statement spot plain fs) (IsPlaced spot)
unfolding statement
statement_is spot plain [] = (refl, tt)
statement_is spot plain (word ∷ args) = choice (is_comment word) _ _ (IsPlaced spot) (λ _. (refl, tt)) (λ _. needed fault.Byte plain _ (IsPlaced spot) (λ _. word_is spot word args))

pub placed : (spot : LineSpot) (plain : Bool) (fs : List (List ℕ)) (s : Statement) → statement spot plain fs ≡ Ok s → IsPlaced spot s
placed spot plain fs s e = if_ok (statement spot plain fs) (IsPlaced spot) s (statement_is spot plain fs) e
