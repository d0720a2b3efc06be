-- One more call in a log, and bytes that are all or none.
use Rattle.std.proofs.Common.{◌≡◌, ℕ, List, [], ◌∷◌, ◌++◌, length, take, take_all, le_refl, Option, None, Some, sym, ap, ◌∙◌, append_assoc, append-nil, Vec}
use Rattle.std.specs.Io.KnownBytes.{Keeps, Consumes}
use Rattle.std.specs.declared.alloc.Global.{Global}
use Rattle.wire.specs.Passed.{Calls, passed}

pub passed_more : (calls : Calls) (buffer : Vec ℕ Global) (n : ℕ) → passed (calls ++ (buffer, n) ∷ []) ≡ passed calls ++ take n buffer.items
passed_more [] buffer n = append-nil (take n buffer.items)
passed_more (call ∷ calls) buffer n =
    ap (λ bytes. take call.1 call.0.items ++ bytes) (passed_more calls buffer n) ∙ sym (append_assoc (take call.1 call.0.items) (passed calls) (take n buffer.items))

pub all_passed : (bytes : List ℕ) → take (length bytes) bytes ≡ bytes
all_passed bytes = take_all (length bytes) bytes (le_refl (length bytes))

pub kept_by_none : (old new : Option (List ℕ)) → Consumes old new [] → Keeps old new
kept_by_none None new h = tt
kept_by_none (Some xs) None h = absurd h
kept_by_none (Some xs) (Some ys) h = sym h
