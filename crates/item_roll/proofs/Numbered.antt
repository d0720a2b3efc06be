-- Parts by their numbers.
use Rattle.std.proofs.Common.{◌≡◌, ℕ, zero, suc, ◌+◌, ◌*◌, ◌<◌, ◌≤◌, List, [], ◌∷◌, ◌++◌, length, get_or, take, sym, ap, ◌∙◌, arith, length-append, append_assoc}
use Rattle.std.specs.Prelude.{All}
use Rattle.std.proofs.lemmas.List.Elements.{All-head, All-tail}
use Rattle.item_key.specs.declared.Item.{Item}
use Rattle.item_roll.specs.declared.entries.Entry.{Entry}
use Rattle.item_roll.specs.Halves.{IsPart, IsNumbered}
use Rattle.item_roll.specs.Chunks.{items_at, joined, starts}

-- there are no more parts than items, and no more than so many items in each
pub parts_many : {V : Type 0} → (its : V → List Item) (top : ℕ) (es : List (Entry V)) → All (λ e. IsPart top (items_at its e)) es → (length es ≤ length (joined its es)) × (length (joined its es) ≤ length es * top)
parts_many {V} its top [] all = (omega arith, omega arith)
parts_many {V} its top (e ∷ es) all =
    let part = All-head (λ e. IsPart top (items_at its e)) e es all in
    let rest = parts_many its top es (All-tail (λ e. IsPart top (items_at its e)) e es all) in
    let len = length-append (items_at its e) (joined its es) in (
      omega (arith, rest.0, len, part.some),
      omega (arith, rest.1, len, part.few),
    )

pub numbered : {V : Type 0} → (its : V → List Item) (top : ℕ) (es : List (Entry V)) (i : ℕ) (e : Entry V) → All (λ e. IsPart top (items_at its e)) es → i < length es → e ≡ get_or es i e → IsNumbered top (joined its es) i (items_at its e)
numbered {V} its top [] i e all lt is = absurd (omega arith)
numbered {V} its top (x ∷ xs) zero e all lt is = record { front = []; back = joined its xs; list = ap (λ (y : Entry V). items_at its y ++ joined its xs) is; least = omega arith; few = omega arith }
numbered {V} its top (x ∷ xs) (suc i) e all lt is =
    let part = All-head (λ e. IsPart top (items_at its e)) x xs all in
    let rest = numbered its top xs i e (All-tail (λ e. IsPart top (items_at its e)) x xs all) (omega arith) is in
    let len = length-append (items_at its x) rest.front in
    record {
      front = items_at its x ++ rest.front;
      back = rest.back;
      list = append_assoc (items_at its x) rest.front (items_at its e ++ rest.back) ∙ ap (λ (w : List Item). items_at its x ++ w) rest.list;
      least = omega (arith, len, rest.least, part.some);
      few = omega (arith, len, rest.few, part.few);
    }

-- the items before and behind a part
around : {V : Type 0} → (its : V → List Item) (es : List (Entry V)) (i : ℕ) (e : Entry V) → i < length es → e ≡ get_or es i e → (back : List Item) × (joined its es ≡ joined its (take i es) ++ (items_at its e ++ back))
around {V} its [] i e lt is = absurd (omega arith)
around {V} its (x ∷ xs) zero e lt is = (joined its xs, ap (λ (y : Entry V). items_at its y ++ joined its xs) (sym is))
around {V} its (x ∷ xs) (suc i) e lt is =
    let rest = around its xs i e (omega arith) is in
    (rest.0, ap (λ (w : List Item). items_at its x ++ w) rest.1 ∙ sym (append_assoc (items_at its x) (joined its (take i xs)) (items_at its e ++ rest.0)))

-- a part of a part, where as many parts stand before that as the numbers say
pub numbered_in : {V : Type 0} → (its : V → List Item) (top : ℕ) (es : List (Entry V)) (at : ℕ) (e : Entry V) (i left : ℕ) (part : List Item) → at < length es → e ≡ get_or es at e
    → i ≤ left + starts its es at → starts its es at + left * top ≤ i * top → IsNumbered top (items_at its e) left part → IsNumbered top (joined its es) i part
numbered_in {V} its top es at e i left part lt is least few inner =
    let all = around its es at e lt is in
    let front = joined its (take at es) in
    let len = length-append front inner.front in
    record {
      front = front ++ inner.front;
      back = inner.back ++ all.0;
      list = append_assoc front inner.front (part ++ (inner.back ++ all.0))
          ∙ ap (λ (w : List Item). front ++ w)
          (sym (append_assoc inner.front (part ++ inner.back) all.0 ∙ ap (λ (w : List Item). inner.front ++ w) (append_assoc part inner.back all.0)) ∙ ap (λ (w : List Item). w ++ all.0) inner.list)
          ∙ sym all.1;
      least = omega (arith, len, least, inner.least);
      few = omega (arith, len, few, inner.few);
    }
