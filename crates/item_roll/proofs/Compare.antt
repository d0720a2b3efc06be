-- Which way two numbers compare.
use Rattle.std.proofs.Common.{◌≡◌, ℕ, Bool, true, false, cond, ltb, refl}
use Rattle.std.specs.Ordering.{nat_cmp, is_lt}
use Rattle.std.specs.declared.cmp.Ordering.TheVariants.{Less, Equal, Greater}

test_of : (b e : Bool) → is_lt (cond b Less (cond e Equal Greater)) ≡ b
test_of true e = refl
test_of false true = refl
test_of false false = refl

pub cmp_test : (a b : ℕ) → is_lt (nat_cmp a b) ≡ ltb a b
cmp_test a b = test_of (ltb a b) _
