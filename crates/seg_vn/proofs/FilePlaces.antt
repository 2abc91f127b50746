-- What an access that is allowed says of its place's protection.
use Rattle.std.proofs.Common.{◌≡◌, Bool, true, false, cond, refl}
use Rattle.std.specs.Prelude.{IsTrue, ◌||◌}

pub either-allowed : (write a b : Bool) → IsTrue (cond write b a) → IsTrue (a || b)
either-allowed true true b h = refl
either-allowed true false b h = h
either-allowed false true b h = refl
either-allowed false false b h = absurd (let z : false ≡ true = h in cc)

pub write-allowed : (write a b : Bool) → IsTrue (cond write b a) → write ≡ true → b ≡ true
write-allowed true a b h is = h
write-allowed false a b h is = absurd (let z : false ≡ true = is in cc)
