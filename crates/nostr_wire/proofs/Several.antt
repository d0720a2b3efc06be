-- The filters of a request.
use Rattle.std.proofs.Common.{◌≡◌, ◌≢◌, ℕ, zero, suc, ◌+◌, ◌<◌, ◌≤◌, ◌++◌, ◌∙◌, List, [], ◌∷◌, length, map, take, drop, set, get_or, Bool, true, false, ◌&&◌, refl, sym, inl, inr, ap, subst, arith}
use Rattle.std.proofs.lemmas.Bool.{and_parts}
use Rattle.std.proofs.lemmas.List.{get_or-drop, drop-drop, drop-set-lt}
use Rattle.std.specs.List.{list_all}
use Rattle.serde_json.specs.Data.{Data}
use Rattle.serde_json.specs.View.{view}
use Rattle.serde_json.specs.declared.value.Value.{Value}
use Rattle.nostr_filter.specs.declared.filter.Filter.{Filter}
use Rattle.nostr_wire.specs.declared.fault.WireFault.{WireFault}
use Rattle.nostr_wire.specs.Elements.{a_sub, a_filter, Said, sub, filter, part_of, has_type, Says, SaysNo, IsFaultOf, data_of}
use Rattle.nostr_wire.specs.Forms.{request_parts}
use Rattle.nostr_wire.specs.Reading.{SayEach, AreRead, AreRefused, fits, IsFirstFault}

-- the values are these filters
abbrev pub AreFilters : List Filter → List Value → Type 0
AreFilters fs vs = AreRead (map (λ v. a_filter) vs) (map filter fs) (map view vs)

pub one_more : (fs : List Filter) (vs : List Value) (f : Filter) (v : Value) → AreFilters fs vs → Says (view v) (filter f) → AreFilters (fs ++ f ∷ []) (vs ++ v ∷ [])
one_more [] [] f v h g = (refl, (g, tt))
one_more [] (w ∷ vs) f v h g = absurd cc
one_more (e ∷ fs) [] f v h g = absurd h.1
one_more (e ∷ fs) (w ∷ vs) f v h g =
    let tails : map part_of (map filter fs) ≡ map (λ u. a_filter) vs = cc in
    let more = one_more fs vs f v (tails, h.1.1) g in
    (ap (λ ps. a_filter ∷ ps) more.0, (h.1.0, more.1))

pub fault_at : (fs : List Filter) (vs : List Value) (i : ℕ) (d : Value) (f : WireFault) → i < length vs → AreFilters fs (take i vs)
    → SaysNo a_filter (view (get_or vs i d)) → IsFaultOf a_filter (view (get_or vs i d)) f → IsFirstFault (map (λ v. a_filter) vs) (map view vs) f
fault_at fs [] i d f below h none fault = absurd (omega arith)
fault_at fs (v ∷ vs) zero d f below h none fault = inl (none, fault)
fault_at [] (v ∷ vs) (suc i) d f below h none fault = absurd cc
fault_at (e ∷ fs) (v ∷ vs) (suc i) d f below h none fault =
    let tails : map part_of (map filter fs) ≡ map (λ u. a_filter) (take i vs) = cc in
    inr ((filter e, refl, h.1.0), fault_at fs vs i d f (omega arith) (tails, h.1.1) none fault)

pub fits_all : (vs : List Value) → fits (map (λ v. a_filter) vs) (map view vs) ≡ list_all (λ v. has_type a_filter (view v)) vs
fits_all [] = refl
fits_all (v ∷ vs) = rw (fits_all vs) refl

pub object_at : (vs : List Value) (i : ℕ) (d : Value) → i < length vs → list_all (λ v. has_type a_filter (view v)) vs ≡ true → has_type a_filter (view (get_or vs i d)) ≡ true
object_at [] i d below h = absurd (omega arith)
object_at (v ∷ vs) zero d below h = (and_parts _ _ h).0
object_at (v ∷ vs) (suc i) d below h = object_at vs i d (omega arith) (and_parts _ _ h).1

-- ---- values that are as they were from one on

pub same_here : (vs ws : List Value) (i : ℕ) (d : Value) → drop i ws ≡ drop i vs → get_or ws i d ≡ get_or vs i d
same_here vs ws i d left =
    let none : i + 0 ≡ i = omega arith in
    let at = λ (l : List Value). get_or-drop i l 0 d ∙ ap (λ k. get_or l k d) none in
    sym (at ws) ∙ ap (λ (l : List Value). get_or l 0 d) left ∙ at vs

-- after one is written over, so are those behind it
pub same_behind : (vs ws : List Value) (i : ℕ) (w : Value) → drop i ws ≡ drop i vs → drop (i + 1) (set ws i w) ≡ drop (i + 1) vs
same_behind vs ws i w left =
    drop-set-lt (i + 1) ws i w (omega arith) ∙ sym (drop-drop 1 i ws) ∙ ap (λ (l : List Value). drop 1 l) left ∙ drop-drop 1 i vs

-- ---- a request's elements

and_no : (b : Bool) → (b && false) ≡ false
and_no true = refl
and_no false = refl

filters_map : (vs : List Value) → map (λ v. a_filter) vs ≡ map (λ d. a_filter) (map view vs)
filters_map [] = refl
filters_map (v ∷ vs) = ap (λ ps. a_filter ∷ ps) (filters_map vs)

parts_are : (v : Value) (fs : List Value) → 1 ≤ length fs → request_parts (map view (v ∷ fs)) ≡ a_sub ∷ map (λ u. a_filter) fs
parts_are v [] some = absurd (omega arith)
parts_are v (w ∷ ws) some = ap (λ ps. a_sub ∷ a_filter ∷ ps) (sym (filters_map ws))

pub request_fits : (v : Value) (fs : List Value) → has_type a_sub (view v) ≡ true → list_all (λ u. has_type a_filter (view u)) fs ≡ true → fits (a_sub ∷ map (λ u. a_filter) fs) (view v ∷ map view fs) ≡ true
request_fits v fs named objects = rw (named, fits_all fs, objects) refl

pub request_refused : (vs fs : List Value) (v : Value) (f : WireFault) → vs ≡ v ∷ fs → 1 ≤ length fs → AreRefused (a_sub ∷ map (λ u. a_filter) fs) (view v ∷ map view fs) f
    → AreRefused (request_parts (map view vs)) (map view vs) f
request_refused vs fs v f whole some h =
    subst (λ l. AreRefused (request_parts (map view l)) (map view l) f) (sym whole) (subst (λ ps. AreRefused ps (view v ∷ map view fs) f) (sym (parts_are v fs some)) h)

pub request_read : (vs fs : List Value) (v : Value) (xs : List Said) → vs ≡ v ∷ fs → 1 ≤ length fs → AreRead (a_sub ∷ map (λ u. a_filter) fs) xs (view v ∷ map view fs)
    → AreRead (request_parts (map view vs)) xs (map view vs)
request_read vs fs v xs whole some h =
    subst (λ l. AreRead (request_parts (map view l)) xs (map view l)) (sym whole) (subst (λ ps. AreRead ps xs (view v ∷ map view fs)) (sym (parts_are v fs some)) h)

pub no_filter : (vs fs : List Value) (v : Value) → vs ≡ v ∷ fs → length fs ≡ 0 → fits (request_parts (map view vs)) (map view vs) ≡ false
no_filter vs [] v whole none = rw whole (and_no (has_type a_sub (view v)))
no_filter vs (w ∷ ws) v whole none = absurd (omega (arith, none))

pub no_name : (vs fs : List Value) (v : Value) → vs ≡ v ∷ fs → has_type a_sub (view v) ≡ false → fits (request_parts (map view vs)) (map view vs) ≡ false
no_name vs fs v whole h = rw (whole, h) refl

pub no_objects : (vs fs : List Value) (v : Value) → vs ≡ v ∷ fs → 1 ≤ length fs → list_all (λ u. has_type a_filter (view u)) fs ≡ false → fits (request_parts (map view vs)) (map view vs) ≡ false
no_objects vs fs v whole some h =
    let misfit : fits (a_sub ∷ map (λ u. a_filter) fs) (view v ∷ map view fs) ≡ false = rw (fits_all fs, h) (and_no (has_type a_sub (view v))) in
    subst (λ l. fits (request_parts (map view l)) (map view l) ≡ false) (sym whole) (subst (λ ps. fits ps (view v ∷ map view fs) ≡ false) (sym (parts_are v fs some)) misfit)

-- ---- what is written

pub data_more : (fs : List Filter) (f : Filter) (d : Data) → d ≡ data_of (filter f) → map data_of (map filter fs) ++ d ∷ [] ≡ map data_of (map filter (fs ++ f ∷ []))
data_more [] f d e = ap (λ x. x ∷ []) e
data_more (g ∷ fs) f d e = ap (λ l. data_of (filter g) ∷ l) (data_more fs f d e)

filters_written : (fs : List Filter) → map (λ d. a_filter) (map data_of (map filter fs)) ≡ map part_of (map filter fs)
filters_written [] = refl
filters_written (f ∷ fs) = ap (λ ps. a_filter ∷ ps) (filters_written fs)

pub request_row : (s : List ℕ) (fs : List Filter) → fs ≢ [] → request_parts (map data_of (sub s ∷ map filter fs)) ≡ map part_of (sub s ∷ map filter fs)
request_row s [] some = absurd (some refl)
request_row s (f ∷ fs) some = ap (λ ps. a_sub ∷ a_filter ∷ ps) (filters_written fs)

abbrev pub AreSaid : List Filter → Type 0
AreSaid fs = SayEach (map filter fs) (map data_of (map filter fs))

pub said_more : (fs : List Filter) (f : Filter) → AreSaid fs → Says (data_of (filter f)) (filter f) → AreSaid (fs ++ f ∷ [])
said_more [] f h g = (g, tt)
said_more (e ∷ fs) f h g = (h.0, said_more fs f h.1 g)
