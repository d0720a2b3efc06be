-- A text is at most one message, and what refuses it leaves none.
use Rattle.std.proofs.Common.{◌≡◌, ◌≢◌, ℕ, List, [], ◌∷◌, map, Bool, true, Some, Ok, inl, inr, refl, sym, ◌∙◌, ap, ap₂, subst, codes}
use Rattle.hex.specs.Hex.{decode_of}
use Rattle.serde_json.specs.Data.{Data, boolean, string}
use Rattle.item_key.specs.declared.Id.{Id}
use Rattle.item_key.specs.Keys.{id_of_bytes}
use Rattle.nostr_event.specs.EventView.{EventView}
use Rattle.nostr_event.proofs.Bytes.{bytes_of_id}
use Rattle.nostr_event.proofs.FieldTests.{object_from_get}
use Rattle.nostr_event.proofs.Injective.{encode_lower-injective}
use Rattle.nostr_event.proofs.Laws.{one_event}
use Rattle.nostr_filter.specs.declared.filter.Filter.{Filter}
use Rattle.nostr_filter.proofs.Laws.{one_filter}
use Rattle.nostr_wire.specs.declared.fault.WireFault.{WireFault}
use Rattle.nostr_wire.specs.declared.fault.WireFault.TheVariants.{Memory}
use Rattle.nostr_wire.specs.Elements.{Part, a_sub, a_text, a_flag, an_id, some_hex, an_event, a_filter, Said, sub, text, flag, id, hex, event, filter, part_of, has_type, Says, SaysNo}
use Rattle.nostr_wire.specs.Forms.{Form, Table}
use Rattle.nostr_wire.specs.Reading.{SayEach, IsMessage, Reads, fits, IsFirstFault, AreRefused, IsRefused, Refuses, behind_name}

-- ---- what a value says is of its JSON type

typed : (x : Said) (d : Data) → Says d x → has_type (part_of x) d ≡ true
typed (sub s) d h = rw h.0 refl
typed (text s) d h = rw h refl
typed (flag b) d h = rw h refl
typed (id i) d h = rw h.0 refl
typed (hex bytes) d h = rw h.1 refl
typed (event e) d h = object_from_get (codes "id") d _ h.0.id
typed (filter f) d h = h.object

fits_each : (xs : List Said) (ds : List Data) → SayEach xs ds → fits (map part_of xs) ds ≡ true
fits_each [] ds h = refl
fits_each (x ∷ xs) [] h = absurd h
fits_each (x ∷ xs) (d ∷ ds) h = rw (typed x d h.0) (fits_each xs ds h.1)

-- ---- what refuses leaves none

says_no : (x : Said) (d : Data) → SaysNo (part_of x) d → ¬ Says d x
says_no (sub s) d none = none s
says_no (text s) d none = none s
says_no (flag b) d none = none b
says_no (id i) d none = none i
says_no (hex bytes) d none = none bytes
says_no (event e) d none = none e
says_no (filter f) d none = none f

not_first : (xs : List Said) (ds : List Data) (f : WireFault) → SayEach xs ds → ¬ IsFirstFault (map part_of xs) ds f
not_first [] ds f h = λ bad. bad
not_first (x ∷ xs) [] f h = λ bad. bad
not_first (x ∷ xs) (d ∷ ds) f h = λ bad. elim bad [
  | inl none ↦ says_no x d none.0 h.0
  | inr more ↦ not_first xs ds f h.1 more.1
]

not_refused : (xs : List Said) (ds : List Data) (f : WireFault) → SayEach xs ds → ¬ AreRefused (map part_of xs) ds f
not_refused xs ds f h = λ bad. elim bad [
  | inl arity ↦ absurd (let fit = fits_each xs ds h in let other = arity.1 in cc)
  | inr first ↦ not_first xs ds f h first.1
]

none_of_value : (table : List Data → Table) (d : Data) (f : WireFault) → IsRefused table d f → (m : Form) → ¬ IsMessage table d m
none_of_value table d f bad m = λ h. elim bad [
  | inl kind ↦ absurd (let some = h.parts in let none = kind.1 in cc)
  | inr row ↦
      let both : Some row.0 ≡ Some (map part_of m.said) = sym row.1 ∙ h.parts in
      let same : row.0 ≡ map part_of m.said = cc in
      not_refused m.said (behind_name d) f h.said (subst (λ ps. AreRefused ps (behind_name d) f) same row.2)
]

pub refused_none : (table : List Data → Table) (s : List ℕ) (f : WireFault) → Refuses table s f → f ≢ Memory → (m : Form) → ¬ Reads table s m
refused_none table s f bad other m = λ h. elim bad [
  | inl memory ↦ other memory
  | inr more ↦ elim more [
    | inl json ↦ absurd (let some = h.1 in let none = json.1 in cc)
    | inr value ↦
        let both : Some value.0 ≡ Some h.0 = sym value.1 ∙ h.1 in
        let same : value.0 ≡ h.0 = cc in
        none_of_value table h.0 f (subst (λ d. IsRefused table d f) same value.2) m h.2
  ]
]

-- ---- a value says one thing of a part

abbrev SaysOnly : Part → Data → Said → Type 0
SaysOnly a_sub d x = (s : List ℕ) → Says d (sub s) → sub s ≡ x
SaysOnly a_text d x = (s : List ℕ) → Says d (text s) → text s ≡ x
SaysOnly a_flag d x = (b : Bool) → Says d (flag b) → flag b ≡ x
SaysOnly an_id d x = (i : Id) → Says d (id i) → id i ≡ x
SaysOnly some_hex d x = (bytes : List ℕ) → Says d (hex bytes) → hex bytes ≡ x
SaysOnly an_event d x = (e : EventView) → Says d (event e) → event e ≡ x
SaysOnly a_filter d x = (f : Filter) → Says d (filter f) → filter f ≡ x

strings : (d : Data) (s t : List ℕ) → d ≡ string s → d ≡ string t → t ≡ s
strings d s t p q = cc

flags : (d : Data) (s t : Bool) → d ≡ boolean s → d ≡ boolean t → t ≡ s
flags d s t p q = cc

one_id : (d : Data) (i j : Id) → Says d (id i) → Says d (id j) → id j ≡ id i
one_id d i j h g =
    let bytes = encode_lower-injective j.0 i.0 (bytes_of_id j g.1).1 (bytes_of_id i h.1).1 (strings d _ _ h.0 g.0) in
    ap (λ b. id (id_of_bytes b)) bytes

one_hex : (d : Data) (a b : List ℕ) → Says d (hex a) → Says d (hex b) → hex b ≡ hex a
one_hex d a b h g =
    let digits : g.0 ≡ h.0 = strings d h.0 g.0 h.1 g.1 in
    let both : Ok b ≡ Ok a = sym g.2 ∙ ap decode_of digits ∙ h.2 in
    cc

only : (x : Said) (d : Data) → Says d x → SaysOnly (part_of x) d x
only (sub s) d h = λ t g. ap sub (strings d s t h.0 g.0)
only (text s) d h = λ t g. ap text (strings d s t h g)
only (flag b) d h = λ c g. ap flag (flags d b c h g)
only (id i) d h = λ j g. one_id d i j h g
only (hex bytes) d h = λ other g. one_hex d bytes other h g
only (event e) d h = λ other g. ap event (one_event d e other h.0 g.0)
only (filter f) d h = λ other g. ap filter (one_filter d f other h g)

meets : (y x : Said) (d : Data) → SaysOnly (part_of y) d x → Says d y → y ≡ x
meets (sub s) x d h = h s
meets (text s) x d h = h s
meets (flag b) x d h = h b
meets (id i) x d h = h i
meets (hex bytes) x d h = h bytes
meets (event e) x d h = h e
meets (filter f) x d h = h f

one_list : (xs ys : List Said) (ds : List Data) → map part_of ys ≡ map part_of xs → SayEach xs ds → SayEach ys ds → ys ≡ xs
one_list [] [] ds e h g = refl
one_list [] (y ∷ ys) ds e h g = cc
one_list (x ∷ xs) [] ds e h g = cc
one_list (x ∷ xs) (y ∷ ys) [] e h g = absurd h
one_list (x ∷ xs) (y ∷ ys) (d ∷ ds) e h g =
    let heads : part_of x ≡ part_of y = cc in
    let tails : map part_of ys ≡ map part_of xs = cc in
    let first : y ≡ x = meets y x d (subst (λ p. SaysOnly p d x) heads (only x d h.0)) g.0 in
    ap₂ (λ a b. a ∷ b) first (one_list xs ys ds tails h.1 g.1)

form_of : List ℕ → List Said → Form
form_of name said = record { name = name; said = said }

one_of_value : (table : List Data → Table) (d : Data) (a b : Form) → IsMessage table d a → IsMessage table d b → b ≡ a
unfolding form_of
one_of_value table d a b h g =
    let names : Some b.name ≡ Some a.name = sym g.name ∙ h.name in
    let parts : Some (map part_of b.said) ≡ Some (map part_of a.said) = sym g.parts ∙ h.parts in
    let name : b.name ≡ a.name = cc in
    let kinds : map part_of b.said ≡ map part_of a.said = cc in
    let said : b.said ≡ a.said = one_list a.said b.said (behind_name d) kinds h.said g.said in
    let same : form_of b.name b.said ≡ form_of a.name a.said = ap₂ form_of name said in
    same

pub one_message : (table : List Data → Table) (s : List ℕ) (a b : Form) → Reads table s a → Reads table s b → b ≡ a
one_message table s a b h g =
    let both : Some g.0 ≡ Some h.0 = sym g.1 ∙ h.1 in
    let same : g.0 ≡ h.0 = cc in
    one_of_value table h.0 a b h.2 (subst (λ d. IsMessage table d b) same g.2)
