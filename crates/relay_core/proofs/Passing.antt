-- What is due from a place on.
use Rattle.std.proofs.Common.{◌≡◌, ℕ, suc, ◌+◌, ◌<◌, ◌≤◌, Bool, true, false, true≢false, ◌&&◌, cond, nat_lt, List, [], ◌∷◌, ◌++◌, length, get_or, take, drop, map, slice_get, refl, ap, ap₂, sym, ◌∙◌, arith, append_assoc, Option, Some, None}
use mathlib.Core.List.{IsPrefix}
use Rattle.std.specs.Prelude.{filter, filter_map, option_to_list, nat_le}
use Rattle.std.specs.List.{AllByRecursion, cons_option, list_any}
use Rattle.std.proofs.lemmas.Bool.Decides.{nat_tests}
use Rattle.std.proofs.lemmas.Grind.{common_steps}
use Rattle.std.proofs.lemmas.List.{append-nil, length-append, length-take, take_more, take-append-drop, take-append-le}
use Rattle.std.proofs.lemmas.Option.{slice_get_past, slice_get_within, get_or_from_slice_get}
use Rattle.std.proofs.Math.Seq.{drop-cons}
use Rattle.nostr_event.specs.EventView.{EventView}
use Rattle.nostr_filter.specs.Matching.{matches_of}
use Rattle.nostr_wire.specs.Forms.{Form}
use Rattle.relay_core.specs.declared.subs.Subscription.{Subscription}
use Rattle.relay_core.specs.Messages.{event_to}
use Rattle.relay_core.specs.Kept.{Kept, kept_of}
use Rattle.relay_core.specs.Due.{is_due, sent_at, due_from, due, further, marked, CatchesUp}

-- ---- before all marks

none_sent : (p : ℕ) (e : EventView) (subs : List Subscription) → AllByRecursion (λ (s : Subscription). p < s.mark) subs → sent_at p e subs ≡ []
none_sent p e [] h = refl
none_sent p e (s ∷ subs) h =
    let lt : p < s.mark = h.0 in
    let early : nat_le s.mark p ≡ false = grind (arith, nat_tests) in
    rw early (none_sent p e subs h.1)

all_above : (p k : ℕ) (subs : List Subscription) → k < p → AllByRecursion (λ (s : Subscription). p ≤ s.mark) subs → AllByRecursion (λ (s : Subscription). k < s.mark) subs
all_above p k [] lt h = tt
all_above p k (s ∷ subs) lt h = let le : p ≤ s.mark = h.0 in (omega arith, all_above p k subs lt h.1)

-- ---- one list behind another

due_split : (p : ℕ) (subs : List Subscription) (xs ys : List EventView) → due_from p subs (xs ++ ys) ≡ due_from p subs xs ++ due_from (p + length xs) subs ys
due_split p subs [] ys = let same : p ≡ p + 0 = omega arith in ap (λ n. due_from n subs ys) same
due_split p subs (x ∷ xs) ys =
    let later : p + 1 + length xs ≡ p + suc (length xs) = omega arith in
    ap (λ fs. sent_at p x subs ++ fs) (due_split (p + 1) subs xs ys)
    ∙ sym (append_assoc (sent_at p x subs) (due_from (p + 1) subs xs) (due_from (p + 1 + length xs) subs ys))
    ∙ ap (λ n. (sent_at p x subs ++ due_from (p + 1) subs xs) ++ due_from n subs ys) later

lower : (a b : ℕ) (subs : List Subscription) → b ≤ a → AllByRecursion (λ (s : Subscription). a ≤ s.mark) subs → AllByRecursion (λ (s : Subscription). b ≤ s.mark) subs
lower a b [] le h = tt
lower a b (s ∷ subs) le h = let first : a ≤ s.mark = h.0 in (omega (arith, le), lower a b subs le h.1)

quiet : (p : ℕ) (subs : List Subscription) (xs : List EventView) → AllByRecursion (λ (s : Subscription). p + length xs ≤ s.mark) subs → due_from p subs xs ≡ []
quiet p subs [] h = refl
quiet p subs (x ∷ xs) h =
    rw (none_sent p x subs (all_above (p + suc (length xs)) p subs (omega arith) h)) (quiet (p + 1) subs xs (lower (p + suc (length xs)) (p + 1 + length xs) subs (omega arith) h))

-- what lies before all marks is due to none
pub due_start : (low : ℕ) (subs : List Subscription) (events : List EventView) → low ≤ length events → AllByRecursion (λ (s : Subscription). low ≤ s.mark) subs → due subs (take low events) ≡ []
due_start low subs events le h = quiet 0 subs (take low events) (lower low (0 + length (take low events)) subs (omega (arith, length-take low events)) h)

-- ---- one more

long_as : (xs : List EventView) (n : ℕ) → n ≤ length xs → length (take n xs) ≡ n
long_as xs n le = grind (arith, common_steps, le)

take_next : (xs : List EventView) (i : ℕ) (x : EventView) → slice_get xs i ≡ Some x → take (i + 1) xs ≡ take i xs ++ x ∷ []
take_next xs i x h = take_more xs i x (slice_get_within xs i x h) ∙ ap (λ y. take i xs ++ y ∷ []) (get_or_from_slice_get xs i x x h)

due_next : (p : ℕ) (subs : List Subscription) (events : List EventView) (e : EventView) → slice_get events p ≡ Some e → due subs (take (p + 1) events) ≡ due subs (take p events) ++ sent_at p e subs
due_next p subs events e at =
    let within : p < length events = slice_get_within events p e at in
    let size : 0 + length (take p events) ≡ p = omega (arith, long_as events p (omega (arith, within))) in
    ap (due subs) (take_next events p e at)
    ∙ due_split 0 subs (take p events) (e ∷ [])
    ∙ ap (λ n. due subs (take p events) ++ (sent_at n e subs ++ [])) size
    ∙ ap (λ fs. due subs (take p events) ++ fs) (append-nil (sent_at p e subs))

pub due_more : (p : ℕ) (subs : List Subscription) (events : List EventView) (e : EventView) (out new : List Form) → slice_get events p ≡ Some e → out ≡ due subs (take p events) → new ≡ out ++ sent_at p e subs
    → new ≡ due subs (take (p + 1) events)
due_more p subs events e out new at so_far put = put ∙ ap (λ xs. xs ++ sent_at p e subs) so_far ∙ sym (due_next p subs events e at)

-- ---- what is given, and what is due then

further_le : (a n p : ℕ) → n ≤ p → nat_le (further a n) p ≡ nat_le a p
further_le a n p le = elim (nat_lt a n) as (λ b. nat_lt a n ≡ b → nat_le (cond b n a) p ≡ nat_le a p) [
  | true ↦ λ lt. grind (arith, nat_tests, le, lt)
  | false ↦ λ lt. refl
] refl

due_same : (n p : ℕ) (e : EventView) (s : Subscription) → n ≤ p → is_due p e (record s { mark = further s.mark n }) ≡ is_due p e s
due_same n p e s le = ap (λ b. b && list_any (λ f. matches_of f e) s.filters) (further_le s.mark n p le)

sent_by : (b c : Bool) (e : EventView) (s : Subscription) (n : ℕ) (xs ys : List Subscription) → b ≡ c → map (λ (t : Subscription). event_to t.name e) xs ≡ map (λ (t : Subscription). event_to t.name e) ys
    → map (λ (t : Subscription). event_to t.name e) (cond b (record s { mark = n } ∷ xs) xs) ≡ map (λ (t : Subscription). event_to t.name e) (cond c (s ∷ ys) ys)
sent_by true true e s n xs ys is same = ap (λ fs. event_to s.name e ∷ fs) same
sent_by true false e s n xs ys is same = absurd (true≢false is)
sent_by false true e s n xs ys is same = absurd (true≢false (sym is))
sent_by false false e s n xs ys is same = same

sent_same : (n p : ℕ) (e : EventView) (subs : List Subscription) → n ≤ p → sent_at p e (marked n subs) ≡ sent_at p e subs
sent_same n p e [] le = refl
sent_same n p e (s ∷ subs) le =
    sent_by (is_due p e (record s { mark = further s.mark n })) (is_due p e s) e s (further s.mark n) (filter (is_due p e) (marked n subs)) (filter (is_due p e) subs) (due_same n p e s le) (sent_same n p e subs le)

behind_same : (n p : ℕ) (subs : List Subscription) (xs : List EventView) → n ≤ p → due_from p (marked n subs) xs ≡ due_from p subs xs
behind_same n p subs [] le = refl
behind_same n p subs (x ∷ xs) le = ap₂ (λ a b. a ++ b) (sent_same n p x subs le) (behind_same n (p + 1) subs xs (omega (arith, le)))

le_further : (a n : ℕ) → n ≤ further a n
le_further a n = elim (nat_lt a n) as (λ b. nat_lt a n ≡ b → n ≤ cond b n a) [
  | true ↦ λ lt. grind (arith, nat_tests, lt)
  | false ↦ λ lt. grind (arith, nat_tests, lt)
] refl

marks_above : (n : ℕ) (subs : List Subscription) → AllByRecursion (λ (s : Subscription). n ≤ s.mark) (marked n subs)
marks_above n [] = tt
marks_above n (s ∷ subs) = (le_further s.mark n, marks_above n subs)

parted : (n : ℕ) (subs : List Subscription) (more : List EventView) → n ≤ length more → due subs more ≡ due subs (take n more) ++ due_from n subs (drop n more)
parted n subs more le =
    let size : 0 + length (take n more) ≡ n = omega (arith, long_as more n le) in
    ap (due subs) (sym (take-append-drop n more)) ∙ due_split 0 subs (take n more) (drop n more) ∙ ap (λ m. due subs (take n more) ++ due_from m subs (drop n more)) size

left : (n : ℕ) (subs : List Subscription) (more : List EventView) → n ≤ length more → due (marked n subs) more ≡ due_from n subs (drop n more)
left n subs more le =
    parted n (marked n subs) more le
    ∙ ap (λ fs. fs ++ due_from n (marked n subs) (drop n more)) (due_start n (marked n subs) more le (marks_above n subs))
    ∙ behind_same n n subs (drop n more) (omega arith)

kept_whole : (n : ℕ) (subs : List Subscription) (events more : List EventView) → n ≤ length events → IsPrefix events more → due subs more ≡ due subs (take n events) ++ due (marked n subs) more
kept_whole n subs events more le p =
    let long : length events ≤ length more = omega (arith, length-append events p.0, ap length p.1) in
    let same : take n more ≡ take n events = ap (take n) (sym p.1) ∙ take-append-le n events p.0 le in
    parted n subs more (omega (arith, le, long))
    ∙ ap (λ xs. due subs xs ++ due_from n subs (drop n more)) same
    ∙ ap (λ fs. due subs (take n events) ++ fs) (sym (left n subs more (omega (arith, le, long))))

pub catches_up : (events : List EventView) (n : ℕ) (out : List Form) (old new : Kept) → n ≤ length events → out ≡ due old.subs (take n events) → new ≡ kept_of (marked n old.subs) old.sessions → CatchesUp events n out old new
catches_up events n out old new le given moved = record {
  within = le;
  given = given;
  marks = moved ∙ ap (λ m. kept_of (marked m old.subs) old.sessions) (sym (long_as events n le));
  nothing_lost = λ more p. kept_whole n old.subs events more le p ∙ ap₂ (λ a b. a ++ b) (sym given) (ap (λ (k : Kept). due k.subs more) (sym moved));
}

sent_more : (p : ℕ) (e : EventView) (s : Subscription) (subs : List Subscription) → sent_at p e (s ∷ []) ++ sent_at p e subs ≡ sent_at p e (s ∷ subs)
sent_more p e s subs = elim (is_due p e s) as (λ b. map (λ (t : Subscription). event_to t.name e) (cond b (s ∷ []) []) ++ sent_at p e subs ≡ map (λ (t : Subscription). event_to t.name e) (cond b (s ∷ filter (is_due p e) subs) (filter (is_due p e) subs))) [
  | true ↦ refl
  | false ↦ refl
]

pub sent_next : (p : ℕ) (e : EventView) (s : Subscription) (subs : List Subscription) (i k : ℕ) (out new : List Form) → k ≡ i + 1 → i < length subs → s ≡ get_or subs i s → new ≡ out ++ sent_at p e (s ∷ [])
    → new ++ sent_at p e (drop k subs) ≡ out ++ sent_at p e (drop i subs)
sent_next p e s subs i k out new is lt item put =
    let one : k ≡ suc i = omega (arith, is) in
    ap (λ xs. xs ++ sent_at p e (drop k subs)) put
    ∙ append_assoc out (sent_at p e (s ∷ [])) (sent_at p e (drop k subs))
    ∙ ap (λ xs. out ++ xs) (sent_more p e s (drop k subs))
    ∙ ap (λ n. out ++ sent_at p e (s ∷ drop n subs)) one
    ∙ ap (λ x. out ++ sent_at p e (x ∷ drop (suc i) subs)) item
    ∙ ap (λ ss. out ++ sent_at p e ss) (sym (drop-cons subs i s lt))

-- ---- events at places

told : (name : List ℕ) (o : Option EventView) (more : List EventView) → map (event_to name) (option_to_list o) ++ map (event_to name) more ≡ map (event_to name) (cons_option o more)
told name None more = refl
told name (Some e) more = refl

pub told_next : (name : List ℕ) (events : List EventView) (place : ℕ) (places : List ℕ) (i k : ℕ) (out new : List Form) → k ≡ i + 1 → i < length places → place ≡ get_or places i place
    → new ≡ out ++ map (event_to name) (option_to_list (slice_get events place))
    → new ++ map (event_to name) (filter_map (slice_get events) (drop k places)) ≡ out ++ map (event_to name) (filter_map (slice_get events) (drop i places))
told_next name events place places i k out new is lt item put =
    let one : k ≡ suc i = omega (arith, is) in
    let rest : ℕ → List Form = λ n. map (event_to name) (filter_map (slice_get events) (drop n places)) in
    ap (λ xs. xs ++ rest k) put
    ∙ append_assoc out (map (event_to name) (option_to_list (slice_get events place))) (rest k)
    ∙ ap (λ xs. out ++ xs) (told name (slice_get events place) (filter_map (slice_get events) (drop k places)))
    ∙ ap (λ n. out ++ map (event_to name) (filter_map (slice_get events) (place ∷ drop n places))) one
    ∙ ap (λ x. out ++ map (event_to name) (filter_map (slice_get events) (x ∷ drop (suc i) places))) item
    ∙ ap (λ ps. out ++ map (event_to name) (filter_map (slice_get events) ps)) (sym (drop-cons places i place lt))

-- at no place there is no event
pub nothing_told : (name : List ℕ) (events : List EventView) (place : ℕ) (out : List Form) → length events ≤ place → out ≡ out ++ map (event_to name) (option_to_list (slice_get events place))
nothing_told name events place out le = sym (append-nil out) ∙ ap (λ o. out ++ map (event_to name) (option_to_list o)) (sym (slice_get_past events place le))
