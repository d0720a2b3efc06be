-- A message's array: its name, its elements, and the table's row.
use Rattle.std.proofs.Common.{◌≡◌, ◌≢◌, ℕ, ◌≤◌, ◌-◌, List, [], ◌∷◌, length, map, take, drop, get_or, Bool, true, false, Result, Ok, Err, IfOk, None, Some, bytes_eq, refl, sym, ap, inl, inr, arith}
use Rattle.std.specs.Prelude.{⊤}
use Rattle.std.proofs.lemmas.List.{take_all}
use Rattle.std.proofs.lemmas.Slice.Eq.{bytes_eq-Decides}
use Rattle.serde_json.specs.Data.{Data}
use Rattle.serde_json.specs.Find.{as_str, as_array}
use Rattle.serde_json.specs.View.{view, items_of, items_view}
use Rattle.serde_json.specs.declared.value.Value.{Value}
use Rattle.nostr_wire.specs.declared.fault.WireFault.{WireFault}
use Rattle.nostr_wire.specs.Elements.{Part, Said, part_of, has_type, Says, SaysNo, IsFaultOf, data_of}
use Rattle.nostr_wire.specs.Forms.{Form, Table}
use Rattle.nostr_wire.specs.Reading.{list_of, name_in, behind_name, row_of, SayEach, IsMessage, AreRefused}
use Rattle.nostr_wire.specs.Writing.{array_of}

pub list_back : (ds : List Data) → list_of (items_of ds) ≡ ds
list_back [] = refl
list_back (d ∷ ds) = ap (λ l. d ∷ l) (list_back ds)

-- ---- what is read

name_first : (d : Data) (w : Value) (ws : List Value) (s : List ℕ) → as_array d ≡ Some (items_view (w ∷ ws)) → as_str (view w) ≡ Some s → (name_in d ≡ Some s) × (behind_name d ≡ map view ws)
name_first d w ws s h text = (rw h text, rw h (list_back (map view ws)))

-- a first element and those behind it
pub found_at : (d : Data) (vs : List Value) (v : Value) (s : List ℕ) → as_array d ≡ Some (items_view vs) → 1 ≤ length vs → v ≡ get_or vs 0 v → as_str (view v) ≡ Some s
    → (name_in d ≡ Some s) × (behind_name d ≡ map view (take (length vs - 1) (drop 1 vs)))
found_at d [] v s h long at text = absurd (omega arith)
found_at d (w ∷ ws) v s h long at text =
    let found = name_first d w ws s h (rw (← at) text) in
    let whole : take (length (w ∷ ws) - 1) ws ≡ ws = take_all _ ws (omega arith) in
    (found.0, rw whole found.1)

tested : (b : Bool) (P : Type 0) → (b ≡ true → P) → ¬ P → b ≡ false
tested true P h not_p = absurd (not_p (h refl))
tested false P h not_p = refl

differs : (xs ys : List ℕ) → xs ≢ ys → bytes_eq xs ys ≡ false
differs xs ys apart = tested (bytes_eq xs ys) (xs ≡ ys) (bytes_eq-Decides xs ys).0 apart

-- the table has no row of that name
abbrev pub IsMissing : List ℕ → Table → Type 0
IsMissing name [] = ⊤
IsMissing name (r ∷ rs) = (name ≢ r.0) × IsMissing name rs

pub no_row : (name : List ℕ) (table : Table) → IsMissing name table → row_of name table ≡ None
no_row name [] h = refl
no_row name (r ∷ rs) h = rw (differs r.0 name (λ e. h.0 (sym e))) (no_row name rs h.1)

-- the third of three elements is refused
pub third_refused : (vs : List Value) (a b c : Value) (p q r : Part) (x y : Said) (f : WireFault) → 3 ≤ length vs → a ≡ get_or vs 0 a → b ≡ get_or vs 1 b → c ≡ get_or vs 2 c
    → has_type p (view a) ≡ true → has_type q (view b) ≡ true → has_type r (view c) ≡ true → (part_of x ≡ p) × Says (view a) x → (part_of y ≡ q) × Says (view b) y
    → SaysNo r (view c) × IsFaultOf r (view c) f → AreRefused (p ∷ q ∷ r ∷ []) (map view vs) f
third_refused [] a b c p q r x y f long ea eb ec ta tb tc sx sy none = absurd (omega arith)
third_refused (u ∷ []) a b c p q r x y f long ea eb ec ta tb tc sx sy none = absurd (omega arith)
third_refused (u ∷ v ∷ []) a b c p q r x y f long ea eb ec ta tb tc sx sy none = absurd (omega arith)
third_refused (u ∷ v ∷ w ∷ vs) a b c p q r x y f long ea eb ec ta tb tc sx sy none =
    rw (← ea, ← eb, ← ec) (inr (rw (ta, tb, tc) refl, inr ((x, sx.0, sx.1), inr ((y, sy.0, sy.1), inl none))))

-- ---- what is written

pub both : {X E : Type 0} (r : Result X E) (P Q : X → Type 0) → IfOk r P → IfOk r Q → IfOk r (λ x. P x × Q x)
both (Ok x) P Q p q = (p, q)
both (Err e) P Q p q = tt

pub is_message : (table : List Data → Table) (m : Form) (d : Data) → row_of m.name (table (map data_of m.said)) ≡ Some (map part_of m.said) → SayEach m.said (map data_of m.said) → d ≡ array_of m → IsMessage table d m
is_message table m d row said same =
    let behind : behind_name d ≡ map data_of m.said = rw same (list_back (map data_of m.said)) in
    let named : name_in d ≡ Some m.name = rw same refl in
    record { name = named; parts = rw (named, behind) row; said = rw behind said }
