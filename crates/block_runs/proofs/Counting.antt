-- How many entries the parts of a call may make.
use Rattle.std.proofs.Common.{◌≡◌, ℕ, suc, ◌+◌, ◌-◌, ◌==◌, ◌≤◌, ◌<◌, ◌^◌, Bool, true, false, List, [], ◌∷◌, length, Option, Some, None, refl, sym, ap, subst, cond, arith, length-drop}
use Rattle.std.specs.Prelude.{min, MatchOption, take, drop, nat_lt, nat_le}
use Rattle.std.proofs.lemmas.Bool.Decides.{nat_tests}
use Rattle.std.proofs.lemmas.List.{length-take}
use Rattle.vm_script.specs.vm_types.declared.call.Call.{Call}
use Rattle.vm_script.specs.vm_types.declared.call.Call.TheVariants as call
use Rattle.vm_script.specs.vm_types.declared.call.Reply.{Reply}
use Rattle.vm_script.specs.vm_types.declared.call.Reply.TheVariants as reply
use Rattle.vm_script.specs.vm_types.declared.call.Entry.{Entry}
use Rattle.vm_script.specs.vm_types.Pages.{line_rest}
use Rattle.vm_script.specs.vm_types.Parts.{next_part, part_bytes, first_write, is_short, is_past_numbers}
use Rattle.vm_script.specs.flat_model.Told.{Spells}
use Rattle.vm_script.specs.Counts.{line_count}
pub use Rattle.vm_script.proofs.Places.{some_none as none_some}

pub count_one : (offset n : ℕ) → offset < 2 ^ 32 → 1 ≤ n → 1 ≤ line_count offset n
count_one offset n low some = omega arith

-- a part that reaches the end of its aligned line leaves one line fewer
pub count_step : (offset n k : ℕ) → offset + k < 2 ^ 32 → line_rest offset ≤ k → k < n → 1 + line_count (offset + k) (n - k) ≤ line_count offset n
count_step offset n k low reach less = omega arith

record Picked {A : Type 0} (x y z : Bool) (n next : A) : Type 0 where
  first : x ≡ false
  second : y ≡ false
  third : z ≡ false
  is : n ≡ next

same_some : {A : Type 0} (n m : A) → Some n ≡ Some m → n ≡ m
same_some n m is = cc is

pick : {A : Type 0} (x y z : Bool) (n next : A) → cond x None (cond y None (cond z None (Some n))) ≡ Some next → Picked x y z n next
pick true y z n next is = absurd (none_some next is)
pick false true z n next is = absurd (none_some next is)
pick false false true n next is = absurd (none_some next is)
pick false false false n next is = record { first = refl; second = refl; third = refl; is = same_some n next is }

-- The next part of a read begins k bytes further on, in another aligned line.
pub record ReadNext (file offset len : ℕ) (next : Call) : Type 0 where
  pub k : ℕ
  pub is : next ≡ call.Read file (offset + k) (len - k)
  pub reach : line_rest offset ≤ k
  pub less : k < len
  pub low : offset + k < 2 ^ 32

past : (n m : ℕ) → nat_le n m ≡ false → m < n
past n m is = grind (arith, nat_tests, is)

not_below : (n m : ℕ) → nat_lt n m ≡ false → m ≤ n
not_below n m is = grind (arith, nat_tests, is)

not_zero : (n : ℕ) → (n == 0) ≡ false → 1 ≤ n
not_zero n is = grind (arith, nat_tests, is)

read_picked : (file offset len k : ℕ) (next : Call) → Picked (is_short offset len k) (len - k == 0) (is_past_numbers (offset + k)) (call.Read file (offset + k) (len - k)) next → ReadNext file offset len next
read_picked file offset len k next p =
    let more = not_zero (len - k) p.second in
    let reach = not_below k (min len (line_rest offset)) p.first in
    record { k = k; is = sym p.is; reach = omega (arith, more, reach); less = omega (arith, more); low = past (2 ^ 32) (offset + k) p.third }

pub read_next : (file offset len : ℕ) (r : Reply) (b : List ℕ) (next : Call) → next_part (call.Read file offset len) r b ≡ Some next → ReadNext file offset len next
unfolding next_part
read_next file offset len (reply.Bytes line) b next is =
    read_picked file offset len (length line) next (pick (is_short offset len (length line)) (len - length line == 0) (is_past_numbers (offset + length line)) (call.Read file (offset + length line) (len - length line)) next is)
read_next file offset len reply.Done b next is = absurd (none_some next is)
read_next file offset len (reply.Word n) b next is = absurd (none_some next is)
read_next file offset len (reply.Mapped n) b next is = absurd (none_some next is)
read_next file offset len (reply.Synced n) b next is = absurd (none_some next is)
read_next file offset len (reply.Signal s) b next is = absurd (none_some next is)
read_next file offset len (reply.Refused e) b next is = absurd (none_some next is)
read_next file offset len (reply.Io d before after) b next is = absurd (none_some next is)

-- a read's parts are no more than the aligned lines that it touches
pub few_reads : (file offset len : ℕ) (b : List ℕ) (es : List Entry) → offset < 2 ^ 32 → 1 ≤ len → Spells (call.Read file offset len) b es → length es ≤ line_count offset len
few_reads file offset len b [] low some spells = absurd spells
few_reads file offset len b (e ∷ es) low some spells = by_next (λ o n low' some' s. few_reads file o n b es low' some' s) (next_part (call.Read file offset len) e.reply b) refl spells.1
  where
    by_next : ((o n : ℕ) → o < 2 ^ 32 → 1 ≤ n → Spells (call.Read file o n) b es → length es ≤ line_count o n)
        → (o : Option Call) → next_part (call.Read file offset len) e.reply b ≡ o → MatchOption o (es ≡ []) (λ next. Spells next (drop (length (part_bytes next)) b) es) → suc (length es) ≤ line_count offset len
    by_next again None is none = let one = count_one offset len low some in let z : length es ≡ 0 = ap length none in omega (arith, one, z)
    by_next again (Some next) is more =
        let n = read_next file offset len e.reply b next is in
        let k : ℕ = n.k in
        let less = n.less in
        let at : Spells (call.Read file (offset + k) (len - k)) b es = subst (λ c. Spells c (drop (length (part_bytes c)) b) es) n.is more in
        let ih = again (offset + k) (len - k) n.low (omega (arith, less)) at in
        let step = count_step offset len k n.low n.reach n.less in
        omega (arith, ih, step)

-- The next part of a write is the first part of a write of the bytes behind.
pub record WriteNext (file offset : ℕ) (line : List ℕ) (rest : ℕ) (b : List ℕ) (next : Call) : Type 0 where
  pub is : next ≡ first_write file (offset + length line) b
  pub some : 1 ≤ rest
  pub low : offset + length line < 2 ^ 32

record PickedTwo {A : Type 0} (x y : Bool) (n next : A) : Type 0 where
  first : x ≡ false
  second : y ≡ false
  is : n ≡ next

pick_two : {A : Type 0} (x y : Bool) (n next : A) → cond x None (cond y None (Some n)) ≡ Some next → PickedTwo x y n next
pick_two true y n next is = absurd (none_some next is)
pick_two false true n next is = absurd (none_some next is)
pick_two false false n next is = record { first = refl; second = refl; is = same_some n next is }

write_picked : (file offset : ℕ) (line : List ℕ) (rest : ℕ) (b : List ℕ) (next : Call) → PickedTwo (rest == 0) (is_past_numbers (offset + length line)) (first_write file (offset + length line) b) next → WriteNext file offset line rest b next
write_picked file offset line rest b next p = record { is = sym p.is; some = not_zero rest p.first; low = past (2 ^ 32) (offset + length line) p.second }

pub write_next : (file offset : ℕ) (line : List ℕ) (rest : ℕ) (r : Reply) (b : List ℕ) (next : Call) → next_part (call.Write file offset line rest) r b ≡ Some next → WriteNext file offset line rest b next
unfolding next_part
write_next file offset line rest reply.Done b next is =
    write_picked file offset line rest b next (pick_two (rest == 0) (is_past_numbers (offset + length line)) (first_write file (offset + length line) b) next is)
write_next file offset line rest (reply.Bytes l) b next is = absurd (none_some next is)
write_next file offset line rest (reply.Word n) b next is = absurd (none_some next is)
write_next file offset line rest (reply.Mapped n) b next is = absurd (none_some next is)
write_next file offset line rest (reply.Synced n) b next is = absurd (none_some next is)
write_next file offset line rest (reply.Signal s) b next is = absurd (none_some next is)
write_next file offset line rest (reply.Refused e) b next is = absurd (none_some next is)
write_next file offset line rest (reply.Io d before after) b next is = absurd (none_some next is)

-- a write's parts are no more than the aligned lines that it touches
pub few_writes : (file offset : ℕ) (bytes : List ℕ) (es : List Entry) → offset < 2 ^ 32 → 1 ≤ length bytes → Spells (first_write file offset bytes) (drop (length (part_bytes (first_write file offset bytes))) bytes) es → length es ≤ line_count offset (length bytes)
few_writes file offset bytes [] low some spells = absurd spells
few_writes file offset bytes (e ∷ es) low some spells =
    by_next (λ o bs low' some' s. few_writes file o bs es low' some' s) (next_part (first_write file offset bytes) e.reply (drop (length (take (line_rest offset) bytes)) bytes)) refl spells.1
  where
    by_next : ((o : ℕ) (bs : List ℕ) → o < 2 ^ 32 → 1 ≤ length bs → Spells (first_write file o bs) (drop (length (part_bytes (first_write file o bs))) bs) es → length es ≤ line_count o (length bs))
        → (o : Option Call) → next_part (first_write file offset bytes) e.reply (drop (length (take (line_rest offset) bytes)) bytes) ≡ o
        → MatchOption o (es ≡ []) (λ next. Spells next (drop (length (part_bytes next)) (drop (length (take (line_rest offset) bytes)) bytes)) es) → suc (length es) ≤ line_count offset (length bytes)
    by_next again None is none = let one = count_one offset (length bytes) low some in let z : length es ≡ 0 = ap length none in omega (arith, one, z)
    by_next again (Some next) is more =
        let line : List ℕ = take (line_rest offset) bytes in
        let b : List ℕ = drop (length line) bytes in
        let n = write_next file offset line (length bytes - length line) e.reply b next is in
        let left = n.some in
        let taken : length line ≡ min (line_rest offset) (length bytes) = length-take (line_rest offset) bytes in
        let size : length b ≡ length bytes - length line = length-drop (length line) bytes in
        let at : Spells (first_write file (offset + length line) b) (drop (length (part_bytes (first_write file (offset + length line) b))) b) es = subst (λ c. Spells c (drop (length (part_bytes c)) b) es) n.is more in
        let ih : length es ≤ line_count (offset + length line) (length b) = again (offset + length line) b n.low (omega (arith, size, left)) at in
        let ih' : length es ≤ line_count (offset + length line) (length bytes - length line) = subst (λ m. length es ≤ line_count (offset + length line) m) size ih in
        let step = count_step offset (length bytes) (length line) n.low (omega (arith, taken, left)) (omega (arith, left)) in
        omega (arith, ih', step)
