-- What is written piece by piece.
use Rattle.std.proofs.Common.{◌++◌, [], ◌∙◌, ℕ, List, Option, Some, None, sym, ap}
use Rattle.std.proofs.lemmas.List.{append_assoc, append-nil}
use Rattle.std.specs.Io.KnownBytes.{Appends}

pub append_nothing : (old : Option (List ℕ)) → Appends old old []
append_nothing None = tt
append_nothing (Some xs) = sym (append-nil xs)

pub append_both : (old mid new : Option (List ℕ)) (front back : List ℕ) → Appends old mid front → Appends mid new back → Appends old new (front ++ back)
append_both None mid new front back a b = tt
append_both (Some xs) None new front back a b = absurd a
append_both (Some xs) (Some ys) None front back a b = absurd b
append_both (Some xs) (Some ys) (Some zs) front back a b = b ∙ ap (λ l. l ++ back) a ∙ append_assoc xs front back
