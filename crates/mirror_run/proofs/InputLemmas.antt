-- All that is read, where no more than one byte above the limit is asked for.
use Rattle.std.proofs.Common.{◌≡◌, ℕ, ◌<◌, ◌≤◌, List, [], ◌++◌, length, take, Option, None, Some, ap, ◌∙◌, subst, arith, take_all}
use Rattle.std.specs.Option.{IfSome, option_map}
use Rattle.std.proofs.lemmas.List.{length-take}
use Rattle.mirror_run.specs.declared.refusal.Refusal.{Refusal}
use Rattle.mirror_run.specs.declared.refusal.Refusal.TheVariants.{Read, Write, InputTooLong, NotUtf8, Line, Session, Plan, TableFull, Memory}
use Rattle.mirror_run.specs.Refused.{IsTextRefusal}

-- fewer bytes than were asked for are all
taken_whole : (n : ℕ) (xs : List ℕ) → length (take n xs) < n → take n xs ≡ xs
taken_whole n xs few = take_all n xs (omega (arith, length-take n xs))

front_of : (n : ℕ) (bytes : List ℕ) (known : Option (List ℕ)) → IfSome (option_map (take n) known) (λ xs. bytes ≡ [] ++ xs) → IfSome known (λ input. bytes ≡ take n input)
front_of n bytes None h = tt
front_of n bytes (Some xs) h = h

pub known_front : (n limit : ℕ) (bytes start : List ℕ) (known inner : Option (List ℕ)) → limit ≡ n → start ≡ [] → inner ≡ known
    → IfSome (option_map (take limit) inner) (λ xs. bytes ≡ start ++ xs) → IfSome known (λ input. bytes ≡ take n input)
known_front n limit bytes start known inner same none is h = front_of n bytes known (rw (same, none, is) at h)

pub known_whole : (bytes whole : List ℕ) (known : Option (List ℕ)) → whole ≡ bytes → length whole ≤ 67108864 → IfSome known (λ input. bytes ≡ take 67108865 input) → IfSome known (λ input. whole ≡ input)
known_whole bytes whole None same few h = tt
known_whole bytes whole (Some input) same few h =
    let front = same ∙ h in
    front ∙ taken_whole 67108865 input (omega (arith, ap length front))

refused_whole : (input : List ℕ) (e : Refusal) → IsTextRefusal (take 67108865 input) e → IsTextRefusal input e
refused_whole input Read h = tt
refused_whole input Write h = h
refused_whole input InputTooLong h = omega (arith, length-take 67108865 input, h)
refused_whole input NotUtf8 h =
    let P : List ℕ → Type 0 = λ t. IsTextRefusal t NotUtf8 in
    subst P (taken_whole 67108865 input (omega (arith, h.0))) h
refused_whole input (Line n f) h = h
refused_whole input (Session k) h = h
refused_whole input (Plan k) h = h
refused_whole input TableFull h = h
refused_whole input Memory h = tt

pub known_refusal : (bytes : List ℕ) (e : Refusal) (known : Option (List ℕ)) → IsTextRefusal bytes e → IfSome known (λ input. bytes ≡ take 67108865 input) → IfSome known (λ input. IsTextRefusal input e)
known_refusal bytes e None refused h = tt
known_refusal bytes e (Some input) refused h =
    let P : List ℕ → Type 0 = λ t. IsTextRefusal t e in refused_whole input e (subst P h refused)
