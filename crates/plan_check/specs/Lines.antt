-- The lines of a plan file after its first, numbered from 0: the bases, the offers, the gives, then the group.
use Rattle.std.specs.Prelude.{ℕ, ◌+◌, ◌-◌, ◌^◌, ◌&&◌, ◌||◌, not, Bool, true, false, List, [], ◌∷◌, length, Option, Some, None, min, nat_lt, option_map, if◌then◌else◌}
use Rattle.std.specs.declared.cmp.Ordering.{Ordering}
use Rattle.std.specs.Ordering.{nat_cmp, is_lt}
use Rattle.std.specs.List.{list_all}
use Rattle.sharing.specs.declared.TheConstants.{RELAYS, MOST_BASE}
use Rattle.sharing.specs.Offers.{id_cmp}
use Rattle.plan_check.specs.declared.faults.PlanFault.{PlanFault}
use Rattle.plan_check.specs.declared.faults.PlanFault.TheVariants.{Line, Order}
use Rattle.plan_check.specs.File.{File}

-- the first that passes, where they are numbered from n on
abbrev pub first_at : {X : Type 0} → (X → Bool) → ℕ → List X → Option ℕ
first_at p n [] = None
first_at p n (x ∷ xs) = if p x then Some n else first_at p (n + 1) xs

-- whether x comes behind what stands before it
abbrev pub is_behind : {K : Type 0} → (K → K → Ordering) → Option K → K → Bool
is_behind c None x = true
is_behind c (Some b) x = is_lt (c b x)

-- whether each comes behind the one before
abbrev pub rises_from : Option ℕ → List ℕ → Bool
rises_from before [] = true
rises_from before (x ∷ xs) = is_behind nat_cmp before x && rises_from (Some x) xs

abbrev pub rises : List ℕ → Bool
rises relays = rises_from None relays

-- The first whose key does not come behind the key of the line before, or that isn't fine in itself.
abbrev pub first_out : {X K : Type 0} → (K → K → Ordering) → (X → K) → (X → Bool) → Option K → ℕ → List X → Option ℕ
first_out c key is_fine before n [] = None
first_out c key is_fine before n (x ∷ xs) =
    if is_behind c before (key x) && is_fine x then first_out c key is_fine (Some (key x)) (n + 1) xs else Some n

abbrev pub or_else : Option ℕ → Option ℕ → Option ℕ
or_else None other = other
or_else (Some n) other = Some n

-- a relay, and a load that it may begin with
abbrev pub is_base : ℕ × ℕ → Bool
is_base b = nat_lt b.0 RELAYS && (nat_lt 0 b.1 && nat_lt b.1 (MOST_BASE + 1))

abbrev pub are_relays : List ℕ → Bool
are_relays relays = list_all (λ r. nat_lt r RELAYS) relays

abbrev pub is_empty : List ℕ → Bool
is_empty [] = true
is_empty (r ∷ rs) = false

-- The first place in the whole, where places in the bases, the offers and the gives were found, and the group is
-- fine or isn't.
abbrev pub first_place : ℕ → ℕ → ℕ → Option ℕ → Option ℕ → Option ℕ → Bool → Option ℕ
first_place bases offers gives base offer give fine =
    or_else base
    (or_else (option_map (λ k. bases + k) offer)
    (or_else (option_map (λ k. bases + offers + k) give)
    (if fine then None else Some (bases + offers + gives))))

abbrev pub place_in : File → Option ℕ → Option ℕ → Option ℕ → Bool → Option ℕ
place_in file base offer give fine = first_place (length file.bases) (length file.offers) (length file.gives) base offer give fine

-- a base or a relay that is none, or an offer without a relay
abbrev pub malformed_at : File → Option ℕ
malformed_at file =
    place_in file
    (first_at (λ b. not (is_base b)) 0 file.bases)
    (first_at (λ o. is_empty o.1 || not (are_relays o.1)) 0 file.offers)
    (first_at (λ g. not (nat_lt g.1 RELAYS)) 0 file.gives)
    (are_relays file.group)

-- a line out of order
abbrev pub misplaced_at : File → Option ℕ
misplaced_at file =
    place_in file
    (first_out nat_cmp (λ b. b.0) (λ _. true) None 0 file.bases)
    (first_out id_cmp (λ o. o.0) (λ o. rises o.1) None 0 file.offers)
    (first_out id_cmp (λ g. g.0) (λ _. true) None 0 file.gives)
    (rises file.group)

-- The header is line 1. No number is above 2^64-1.
abbrev pub number_of : ℕ → ℕ
number_of n = min (n + 2) (2 ^ 64 - 1)

-- why lists are no plan file
abbrev pub misplaced_fault : Option ℕ → Option PlanFault
misplaced_fault (Some n) = Some (Order (number_of n))
misplaced_fault None = None

abbrev pub file_fault : Option ℕ → Option ℕ → Option PlanFault
file_fault (Some n) misplaced = Some (Line (number_of n))
file_fault None misplaced = misplaced_fault misplaced
