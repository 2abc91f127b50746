-- What clap's calls say of the command, and its getters of the words.
use Rattle.std.proofs.Common.{◌≡◌, ◌∙◌, ◌&&◌, ◌⊎◌, inl, inr, ℕ, Bool, true, false, refl, sym, subst, ap, List, [], ◌∷◌, codes, length, Option, Some, None, Result, Ok, Err, nat_lt, lt-ltb, ltb-true, true≢false}
use Rattle.std.specs.List.{list_all}
use Rattle.std.specs.Char.{digit_value}
use Rattle.std.specs.Option.{option_map_or, unwrap_or}
use Rattle.std.specs.Prelude.{option_and_then}
use Rattle.std.specs.Str.{bytes_eq}
use Rattle.std.specs.Str.Parse.{AllDigits, ParsesBool, ParsesUnsigned, digits_value, without_leading_plus}
use Rattle.std.proofs.lemmas.Slice.Eq.{bytes_eq-Decides}
use Rattle.clap.specs.Faults.{fault_of, is_simple_and_free}
use Rattle.clap.specs.Kinds.{IsAmong, Kinds}
use Rattle.clap.specs.Matches.{ReadsOne, one_text}
use Rattle.clap.specs.Simple.{App, is_simple, matches_of}
use Rattle.clap.specs.Takes.{takes}
use Rattle.clap.specs.Walk.{Row, Text, rows_of}
use Rattle.clap.specs.declared.error.kind.ErrorKind.{ErrorKind}
use Rattle.clap.specs.declared.parser.matches.Found.{Found}
use Rattle.clap.proofs.WalkLemmas.{one_text-rows}
use Rattle.command_line.specs.declared.options.Options.{Options}
use Rattle.command_line.specs.declared.inquiry.Inquiry.TheVariants.{Help, Version}
use Rattle.command_line.specs.declared.saying.Saying.{Saying}
use Rattle.command_line.specs.declared.saying.Saying.TheVariants as says
use Rattle.command_line.specs.Options.{flag_of_word, number_in_text, number_of_word, options_in, sunvm_command}
use Rattle.command_line.specs.Sayings.{saying_in, saying_of, unless_faulty}

-- ---- the command

-- clap tells all of the command
pub is_told : is_simple_and_free sunvm_command ≡ true
unfolding sunvm_command
is_told = refl

pub is_walked : is_simple sunvm_command ≡ true
unfolding sunvm_command
is_walked = refl

-- ---- the values

digits_pass : (ds : List ℕ) → AllDigits 10 ds → list_all (λ d. nat_lt (digit_value d) 10) ds ≡ true
digits_pass [] h = refl
digits_pass (d ∷ ds) h = rw (lt-ltb (digit_value d) 10 h.0) (digits_pass ds h.1)

both : (a b : Bool) → (a && b) ≡ true → (a ≡ true) × (b ≡ true)
both true b e = (refl, e)
both false b e = absurd (true≢false (sym e))

digits_from : (ds : List ℕ) → list_all (λ d. nat_lt (digit_value d) 10) ds ≡ true → AllDigits 10 ds
digits_from [] e = tt
digits_from (d ∷ ds) e =
    let parts = both _ _ e in
    (ltb-true _ _ parts.0, digits_from ds parts.1)

abbrev is_number : List ℕ → Bool
is_number ds = nat_lt 0 (length ds) && list_all (λ d. nat_lt (digit_value d) 10) ds && nat_lt (digits_value 10 ds) 4294967296

number_at_ok : (E : Type 0) (text : List ℕ) (n : ℕ) → ParsesUnsigned {E = E} 32 10 text (Ok n) → Some n ≡ number_in_text text
unfolding number_in_text
number_at_ok E text n h =
    let ds = without_leading_plus text in
    rw (lt-ltb 0 (length ds) h.0.0.0, digits_pass ds h.0.0.1, lt-ltb (digits_value 10 ds) 4294967296 h.0.1) (ap Some h.1)

number_at_err : (E : Type 0) (text : List ℕ) (e : E) → ParsesUnsigned {E = E} 32 10 text (Err e) → None ≡ number_in_text text
unfolding number_in_text
number_at_err E text e h = go (is_number (without_leading_plus text)) refl
  where
    go : (b : Bool) → is_number (without_leading_plus text) ≡ b → None ≡ number_in_text text
    go false t = rw t refl
    go true t =
        let outer = both _ _ t in
        let inner = both _ _ outer.0 in
        absurd (h ((ltb-true _ _ inner.0, digits_from (without_leading_plus text) inner.1), ltb-true _ _ outer.1))

number_read : (E : Type 0) (G : List ℕ → Result ℕ E → Type 0) (o : Option (List ℕ)) (r : Option ℕ)
    → ((u : List ℕ) (x : Result ℕ E) → G u x → ParsesUnsigned {E = E} 32 10 u x)
    → (o ≡ None → r ≡ None) → ((t : List ℕ) → o ≡ Some t → ReadsOne G t r) → r ≡ option_and_then number_in_text o
number_read E G None r only none value = none refl
number_read E G (Some t) (Some n) only none value = number_at_ok E t n (only t (Ok n) (value t refl))
number_read E G (Some t) None only none value =
    let h = value t refl in
    number_at_err E t h.0 (only t (Err h.0) h.1)

-- `get_one` at a number of 32 bits
pub number_found : (E : Type 0) (G : List ℕ → Result ℕ E → Type 0) (f : Found) (id : Text) (r : Option ℕ)
    → ((u : List ℕ) (x : Result ℕ E) → G u x → ParsesUnsigned {E = E} 32 10 u x)
    → (one_text f id ≡ None → r ≡ None) → ((t : List ℕ) → one_text f id ≡ Some t → ReadsOne G t r) → r ≡ number_of_word id (rows_of f)
number_found E G f id r only none value = number_read E G (one_text f id) r only none value ∙ ap (option_and_then number_in_text) (one_text-rows f id)

abbrev is_true_text : List ℕ → Bool
is_true_text text = bytes_eq text (codes "true")

bool_read : (E : Type 0) (t : List ℕ) (r : Option Bool) → ReadsOne (ParsesBool {E = E}) t r → unwrap_or r false ≡ is_true_text t
bool_read E t (Some true) h = rw h refl
bool_read E t (Some false) h = rw h refl
bool_read E t None h = go (is_true_text t) refl
  where
    go : (b : Bool) → is_true_text t ≡ b → false ≡ is_true_text t
    go false e = sym e
    go true e = absurd (h.1.0 ((bytes_eq-Decides t (codes "true")).0 e))

flag_read : (E : Type 0) (o : Option (List ℕ)) (r : Option Bool)
    → (o ≡ None → r ≡ None) → ((t : List ℕ) → o ≡ Some t → ReadsOne (ParsesBool {E = E}) t r)
    → unwrap_or r false ≡ option_map_or is_true_text o false
flag_read E None r none value = ap (λ o. unwrap_or o false) (none refl)
flag_read E (Some t) r none value = bool_read E t r (value t refl)

-- `get_one` at a flag
pub flag_found : (E : Type 0) (f : Found) (id : Text) (r : Option Bool)
    → (one_text f id ≡ None → r ≡ None) → ((t : List ℕ) → one_text f id ≡ Some t → ReadsOne (ParsesBool {E = E}) t r)
    → unwrap_or r false ≡ flag_of_word id (rows_of f)
flag_found E f id r none value = flag_read E (one_text f id) r none value ∙ ap (λ o. option_map_or is_true_text o false) (one_text-rows f id)

pub same_options : (t u : Bool) (p q : ℕ) (m n : Option ℕ) (k l v w : Bool) → t ≡ u → p ≡ q → m ≡ n → k ≡ l → v ≡ w
    → ◌≡◌ {A = Options} (record { trace = t; pageout = p; make = m; check = k; quiet = v }) (record { trace = u; pageout = q; make = n; check = l; quiet = w })
same_options t u p q m n k l v w a b c d e = rw (a, b, c, d, e) refl

-- ---- what they say

pub said_help : (rows : List Row) → flag_of_word (codes "help") rows ≡ true → saying_in rows ≡ says.Inquiry Help
said_help rows h = rw h refl

pub said_version : (rows : List Row) → flag_of_word (codes "help") rows ≡ false → flag_of_word (codes "version") rows ≡ true → saying_in rows ≡ says.Inquiry Version
said_version rows h v = rw (h, v) refl

pub said_options : (rows : List Row) → flag_of_word (codes "help") rows ≡ false → flag_of_word (codes "version") rows ≡ false → saying_in rows ≡ says.Options (options_in rows)
said_options rows h v = rw (h, v) refl

-- ---- the parse

unfaulty : (kinds : Kinds) (said : Saying) → kinds ≡ [] → Some said ≡ unless_faulty kinds said
unfaulty kinds said e = rw e refl

faulty : (k m : ErrorKind) (kinds : Kinds) (said : Saying) → (k ≡ m → ⊥) → (k ≡ m) ⊎ IsAmong k kinds → None ≡ unless_faulty kinds said
faulty k m [] said other h = elim h [ inl e ↦ absurd (other e) | inr e ↦ absurd e ]
faulty k m (x ∷ xs) said other h = refl

-- an `Ok`
pub words_taken : (a : App) (words : List Text) (rows : List Row) (said : Saying) → a ≡ sunvm_command → (is_simple a ≡ true → rows ≡ matches_of a words)
    → (is_simple_and_free a ≡ true → fault_of a words ≡ []) → said ≡ saying_in rows → Some said ≡ saying_of words
unfolding saying_of
words_taken a words rows said e found none is =
    let found_here : rows ≡ matches_of sunvm_command words = (subst (λ (x : App). is_simple x ≡ true → rows ≡ matches_of x words) e found) is_walked in
    let none_here : fault_of sunvm_command words ≡ [] = (subst (λ (x : App). is_simple_and_free x ≡ true → fault_of x words ≡ []) e none) is_told in
    ap Some (is ∙ ap saying_in found_here) ∙ unfaulty (fault_of sunvm_command words) (saying_in (matches_of sunvm_command words)) none_here

-- an `Err` that isn't want of memory
pub words_refused : (a : App) (words : List Text) (k m : ErrorKind) → a ≡ sunvm_command → (k ≡ m → ⊥)
    → (is_simple_and_free a ≡ true → (k ≡ m) ⊎ IsAmong k (fault_of a words)) → None ≡ saying_of words
unfolding saying_of
words_refused a words k m e other among =
    faulty k m (fault_of sunvm_command words) (saying_in (matches_of sunvm_command words)) other
    ((subst (λ (x : App). is_simple_and_free x ≡ true → (k ≡ m) ⊎ IsAmong k (fault_of x words)) e among) is_told)

pub words_not_taken : (a : App) (words : List Text) (k m : ErrorKind) → a ≡ sunvm_command → (k ≡ m → ⊥) → (takes a words ≡ true → k ≡ m)
    → takes sunvm_command words ≡ false
words_not_taken a words k m e other passes = go (takes sunvm_command words) refl
  where
    go : (b : Bool) → takes sunvm_command words ≡ b → takes sunvm_command words ≡ false
    go false t = t
    go true t = absurd (other (passes (ap (λ (x : App). takes x words) e ∙ t)))
