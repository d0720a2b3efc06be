-- What is known of results.
use Rattle.std.proofs.Common.{Result, Ok, Err, OnOk}

-- what holds of a result given A
pub on_ok_given : {T E A : Type 0} (B : Type 0) (r : Result T E) → (A → OnOk r B) → OnOk r (A → B)
on_ok_given B (Ok x) f = f
on_ok_given B (Err e) f = tt
