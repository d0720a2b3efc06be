-- What is so where a call fails.
use Rattle.std.proofs.Common.{Result, Ok, Err, OnErr}

-- what is so in any case is so behind a fault
pub on_err_also : {T E P : Type 0} (r : Result T E) → P → OnErr r P
on_err_also (Ok x) p = tt
on_err_also (Err e) p = p
