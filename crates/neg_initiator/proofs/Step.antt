-- What is settled before a reply is settled after it.
use Rattle.std.proofs.Common.{◌≡◌, ℕ, ◌<◌, ◌≤◌, ◌⊎◌, inl, inr, List, ◌++◌, refl, sym, ap, subst, ◌∙◌}
use Rattle.std.specs.Prelude.{Contains, All}
use Rattle.std.proofs.lemmas.List.Elements.{All-contains, All-weaker, Contains-append_left, Contains-append_right, Contains-append_cases}
use Rattle.neg_codec.proofs.Stretches.{some_stretch, one_stretch}
use Rattle.item_key.specs.declared.Id.{Id}
use Rattle.item_key.specs.declared.Item.{Item}
use Rattle.item_key.specs.Keys.{place, least, IsKey}
use Rattle.neg_codec.specs.Ranges.{Claim, skip, print, ids, Span, Stretch, stretches, Lies, Ascends}
use Rattle.neg_print.specs.Print.{print_of}
use Rattle.item_roll.specs.Parts.{part, ids_of}
use Rattle.item_roll.specs.Truth.{SameIds, Says, IsTrueOf, Meet, Follows}
use Rattle.item_roll.proofs.Members.{part_keeps, part_gives, ids_give, ids_keep}
use Rattle.neg_initiator.specs.Listed.{IsListed, IsUnlisted}
use Rattle.neg_initiator.specs.Settled.{Needs, Has, HasOnePrint, ToldApart, OneTime, IsSkipped, Settled}

-- What the initiator did with a stretch of the reply, by what it says.
abbrev pub Accounts : List Item → List Span → List (Item × Item) → List Id → List Id → Item → Item → Claim → Type 0
Accounts a asked trusted need have l u skip =
    (t : Stretch) (p : List ℕ) → Contains (stretches asked) t → Meet (record { lower = l; upper = u; claim = skip }) t → t.claim ≡ print p → Contains trusted (t.lower, t.upper)
Accounts a asked trusted need have l u (print p) =
    (p ≡ print_of (ids_of (part a l u))) × Contains trusted (l, u)
Accounts a asked trusted need have l u (ids is) =
    ((i : Id) → Contains is i → (Contains (ids_of (part a l u)) i → ⊥) → Contains need i)
    × ((i : Id) → Contains (ids_of (part a l u)) i → (Contains is i → ⊥) → Contains have i)

abbrev made : ℕ → Id → Item
made t i = record { time = t; id = i }

same_item : (j k : Item) → j.time ≡ k.time → j.id ≡ k.id → j ≡ k
same_item j k e f = ap (λ (t : ℕ). made t j.id) e ∙ ap (λ (i : Id). made k.time i) f

-- an id that both parts have is of one item
one_item : (a b : List Item) → OneTime a b → (j k : Item) → Contains a j → Contains b k → j.id ≡ k.id → j ≡ k
one_item a b one j k hj hk e = same_item j k (one j k (Contains-append_left a b j hj) (Contains-append_right a b k hk) e) e

swapped : (a b : List Item) (k : Item) → Contains (b ++ a) k → Contains (a ++ b) k
swapped a b k h = elim (Contains-append_cases b a k h) [ inl l ↦ Contains-append_right a b k l | inr r ↦ Contains-append_left a b k r ]

one_time_flip : (a b : List Item) → OneTime a b → OneTime b a
one_time_flip a b one j k hj hk e = one j k (swapped a b j hj) (swapped a b k hk) e

-- where a list of ids is true of both parts, they have the same items
same_by_ids : (a b : List Item) → OneTime a b → (l u k : Item) (is : List Id) → SameIds is (ids_of (part a l u)) → SameIds is (ids_of (part b l u)) → Contains b k → place l ≤ place k → place k < place u → Contains a k
same_by_ids a b one l u k is sa sb h le lt =
    let here : Contains (ids_of (part b l u)) k.id = ids_keep (part b l u) k (part_keeps b l u k h le lt) in
    let there = ids_give (part a l u) k.id ((sa k.id).0 ((sb k.id).1 here)) in
    let in_a = part_gives a l u there.0 there.1 in
    subst (λ (x : Item). Contains a x) (one_item a b one there.0 k in_a.0 h there.2) in_a.0

-- where both parts are equal, they have the same items
same_by_part : (a b : List Item) (l u k : Item) → part a l u ≡ part b l u → Contains b k → place l ≤ place k → place k < place u → Contains a k
same_by_part a b l u k e h le lt = (part_gives a l u k (subst (λ (x : List Item). Contains x k) (sym e) (part_keeps b l u k h le lt))).0

pub told_same : (a b : List Item) (trusted : List (Item × Item)) (l u : Item) (p : List ℕ) → ToldApart a b trusted → Contains trusted (l, u) → p ≡ print_of (ids_of (part a l u)) → p ≡ print_of (ids_of (part b l u)) → part a l u ≡ part b l u
told_same a b trusted l u p told h ea eb = All-contains (λ t. HasOnePrint a b t → part a t.0 t.1 ≡ part b t.0 t.1) trusted (l, u) told h (sym ea ∙ eb)

-- What holds of a stretch at its claim.
says_at : (items : List Item) (s : Stretch) (c : Claim) → s.claim ≡ c → IsTrueOf items s → Says c (part items s.lower s.upper)
says_at items s c e h = subst (λ (x : Claim). Says x (part items s.lower s.upper)) e h

-- a key of the other list, in a stretch of the last ask that is true of both
asked_same : (a b : List Item) → OneTime a b → (trusted : List (Item × Item)) → ToldApart a b trusted
    → (t : Stretch) (k : Item) (c : Claim) → t.claim ≡ c → IsTrueOf a t → IsTrueOf b t → ((p : List ℕ) → t.claim ≡ print p → Contains trusted (t.lower, t.upper))
    → Contains b k → Lies k t → Contains a k ⊎ (t.claim ≡ skip)
asked_same a b one trusted told t k skip e ta tb asks hk lies = inr e
asked_same a b one trusted told t k (print p) e ta tb asks hk lies =
    inl (same_by_part a b t.lower t.upper k (told_same a b trusted t.lower t.upper p told (asks p e) (says_at a t (print p) e ta) (says_at b t (print p) e tb)) hk lies.0 lies.1)
asked_same a b one trusted told t k (ids is) e ta tb asks hk lies =
    inl (same_by_ids a b one t.lower t.upper k is (says_at a t (ids is) e ta) (says_at b t (ids is) e tb) hk lies.0 lies.1)

-- a Skip of the reply: the stretch of the last ask that has the key is true of both, or was a Skip
skip_same : (a b : List Item) → OneTime a b → (asked answered : List Span) → Ascends least asked
    → All (IsTrueOf a) (stretches asked) → Follows b asked answered
    → (trusted : List (Item × Item)) → ToldApart a b trusted
    → (s : Stretch) (k : Item) → IsKey k → Contains (stretches answered) s → Lies k s → s.claim ≡ skip
    → ((t : Stretch) (p : List ℕ) → Contains (stretches asked) t → Meet s t → t.claim ≡ print p → Contains trusted (t.lower, t.upper))
    → Contains b k → Contains a k ⊎ IsSkipped asked k
skip_same a b one asked answered up truth follows trusted told s k key hs lies is_skip asks hk =
    let t = some_stretch asked k key in
    let meet : Meet s t.0 = (k, key, lies, t.2) in
    let ta : IsTrueOf a t.0 = All-contains (IsTrueOf a) (stretches asked) t.0 truth t.1 in
    let tb : IsTrueOf b t.0 = follows.skipped s t.0 hs t.1 is_skip meet in
    elim (asked_same a b one trusted told t.0 k t.0.claim refl ta tb (λ p e. asks t.0 p t.1 meet e) hk t.2) [
      | inl same ↦ inl same
      | inr skipped ↦ inr (λ s' h l. ap (λ (x : Stretch). x.claim) (one_stretch asked up k s' t.0 h t.1 l t.2) ∙ skipped)
    ]

-- ---- one step of a session

pub record Accounted (a : List Item) (asked answered next : List Span) (trusted : List (Item × Item)) (need have : List Id) : Type 0 where
  -- each key that the next ask leaves in Skips alone lies in a stretch of the reply that is accounted for
  pub each : (k : Item) → IsKey k → IsSkipped next k → (s : Stretch) × Contains (stretches answered) s × Lies k s × Accounts a asked trusted need have s.lower s.upper s.claim

pub record Adds (a : List Item) (answered : List Span) (need have need' have' : List Id) : Type 0 where
  pub need_kept : (i : Id) → Contains need i → Contains need' i
  pub have_kept : (i : Id) → Contains have i → Contains have' i
  pub need_new : All (λ i. Contains need i ⊎ IsListed a answered i) need'
  pub have_new : All (λ i. Contains have i ⊎ IsUnlisted a answered i) have'

listed_needed : (a b : List Item) (asked answered : List Span) → Follows b asked answered → (i : Id) → IsListed a answered i → Needs a b i
listed_needed a b asked answered follows i h =
    let told = says_at b h.0 (ids h.1) h.3 (All-contains (IsTrueOf b) (stretches answered) h.0 follows.told h.2) in
    let k = ids_give (part b h.0.lower h.0.upper) i ((told i).0 h.4) in
    let in_b = part_gives b h.0.lower h.0.upper k.0 k.1 in
    (k.0, in_b.0, (λ in_a. h.5 (subst (λ (x : Id). Contains (ids_of (part a h.0.lower h.0.upper)) x) k.2 (ids_keep (part a h.0.lower h.0.upper) k.0 (part_keeps a h.0.lower h.0.upper k.0 in_a in_b.1 in_b.2)))), k.2)

unlisted_had : (a b : List Item) (asked answered : List Span) → Follows b asked answered → (i : Id) → IsUnlisted a answered i → Has a b i
unlisted_had a b asked answered follows i h =
    let told = says_at b h.0 (ids h.1) h.3 (All-contains (IsTrueOf b) (stretches answered) h.0 follows.told h.2) in
    let k = ids_give (part a h.0.lower h.0.upper) i h.4 in
    let in_a = part_gives a h.0.lower h.0.upper k.0 k.1 in
    (k.0, in_a.0, (λ in_b. h.5 ((told i).1 (subst (λ (x : Id). Contains (ids_of (part b h.0.lower h.0.upper)) x) k.2 (ids_keep (part b h.0.lower h.0.upper) k.0 (part_keeps b h.0.lower h.0.upper k.0 in_b in_a.1 in_a.2))))), k.2)

need_at : (a b : List Item) → OneTime a b → (asked answered : List Span) → Ascends least asked → All (IsTrueOf a) (stretches asked) → Follows b asked answered
    → (trusted : List (Item × Item)) → ToldApart a b trusted → (need have : List Id)
    → (s : Stretch) (k : Item) → IsKey k → Contains (stretches answered) s → Lies k s → (c : Claim) → s.claim ≡ c → Accounts a asked trusted need have s.lower s.upper c
    → Contains b k → (Contains a k → ⊥) → Contains need k.id ⊎ IsSkipped asked k
need_at a b one asked answered up truth follows trusted told need have s k key hs lies skip e acc hk lacks =
    elim (skip_same a b one asked answered up truth follows trusted told s k key hs lies e (λ t p ht meet is. acc t p ht meet is) hk) [
      | inl same ↦ absurd (lacks same)
      | inr skipped ↦ inr skipped
    ]
need_at a b one asked answered up truth follows trusted told need have s k key hs lies (print p) e acc hk lacks =
    let tb = says_at b s (print p) e (All-contains (IsTrueOf b) (stretches answered) s follows.told hs) in
    absurd (lacks (same_by_part a b s.lower s.upper k (told_same a b trusted s.lower s.upper p told acc.1 acc.0 tb) hk lies.0 lies.1))
need_at a b one asked answered up truth follows trusted told need have s k key hs lies (ids is) e acc hk lacks =
    let tb = says_at b s (ids is) e (All-contains (IsTrueOf b) (stretches answered) s follows.told hs) in
    let listed : Contains is k.id = (tb k.id).1 (ids_keep (part b s.lower s.upper) k (part_keeps b s.lower s.upper k hk lies.0 lies.1)) in
    inl (acc.0 k.id listed (λ own. let j = ids_give (part a s.lower s.upper) k.id own in
    let in_a = part_gives a s.lower s.upper j.0 j.1 in
    lacks (subst (λ (x : Item). Contains a x) (one_item a b one j.0 k in_a.0 hk j.2) in_a.0)))

told_flip : (a b : List Item) (trusted : List (Item × Item)) → ToldApart a b trusted → ToldApart b a trusted
told_flip a b trusted told =
    All-weaker (λ t. HasOnePrint a b t → part a t.0 t.1 ≡ part b t.0 t.1) (λ t. HasOnePrint b a t → part b t.0 t.1 ≡ part a t.0 t.1) (λ t h e. sym (h (sym e))) trusted told

have_skip : (a b : List Item) → OneTime a b → (asked answered : List Span) → Ascends least asked
    → All (IsTrueOf a) (stretches asked) → Follows b asked answered
    → (trusted : List (Item × Item)) → ToldApart a b trusted
    → (s : Stretch) (k : Item) → IsKey k → Contains (stretches answered) s → Lies k s → s.claim ≡ skip
    → ((t : Stretch) (p : List ℕ) → Contains (stretches asked) t → Meet s t → t.claim ≡ print p → Contains trusted (t.lower, t.upper))
    → Contains a k → Contains b k ⊎ IsSkipped asked k
have_skip a b one asked answered up truth follows trusted told s k key hs lies is_skip asks hk =
    let t = some_stretch asked k key in
    let meet : Meet s t.0 = (k, key, lies, t.2) in
    let ta : IsTrueOf a t.0 = All-contains (IsTrueOf a) (stretches asked) t.0 truth t.1 in
    let tb : IsTrueOf b t.0 = follows.skipped s t.0 hs t.1 is_skip meet in
    elim (asked_same b a (one_time_flip a b one) trusted (told_flip a b trusted told) t.0 k t.0.claim refl tb ta (λ p e. asks t.0 p t.1 meet e) hk t.2) [
      | inl same ↦ inl same
      | inr skipped ↦ inr (λ s' h l. ap (λ (x : Stretch). x.claim) (one_stretch asked up k s' t.0 h t.1 l t.2) ∙ skipped)
    ]

have_at : (a b : List Item) → OneTime a b → (asked answered : List Span) → Ascends least asked → All (IsTrueOf a) (stretches asked) → Follows b asked answered
    → (trusted : List (Item × Item)) → ToldApart a b trusted → (need have : List Id)
    → (s : Stretch) (k : Item) → IsKey k → Contains (stretches answered) s → Lies k s → (c : Claim) → s.claim ≡ c → Accounts a asked trusted need have s.lower s.upper c
    → Contains a k → (Contains b k → ⊥) → Contains have k.id ⊎ IsSkipped asked k
have_at a b one asked answered up truth follows trusted told need have s k key hs lies skip e acc hk lacks =
    elim (have_skip a b one asked answered up truth follows trusted told s k key hs lies e (λ t p ht meet is. acc t p ht meet is) hk) [
      | inl same ↦ absurd (lacks same)
      | inr skipped ↦ inr skipped
    ]
have_at a b one asked answered up truth follows trusted told need have s k key hs lies (print p) e acc hk lacks =
    let tb = says_at b s (print p) e (All-contains (IsTrueOf b) (stretches answered) s follows.told hs) in
    absurd (lacks (same_by_part b a s.lower s.upper k (sym (told_same a b trusted s.lower s.upper p told acc.1 acc.0 tb)) hk lies.0 lies.1))
have_at a b one asked answered up truth follows trusted told need have s k key hs lies (ids is) e acc hk lacks =
    let tb = says_at b s (ids is) e (All-contains (IsTrueOf b) (stretches answered) s follows.told hs) in
    inl (acc.1 k.id (ids_keep (part a s.lower s.upper) k (part_keeps a s.lower s.upper k hk lies.0 lies.1)) (λ listed.
    let j = ids_give (part b s.lower s.upper) k.id ((tb k.id).0 listed) in
    let in_b = part_gives b s.lower s.upper j.0 j.1 in
    lacks (subst (λ (x : Item). Contains b x) (sym (one_item a b one k j.0 hk in_b.0 (sym j.2))) in_b.0)))

either : {P Q : Type 0} → P ⊎ Q → (Q → P) → P
either (inl p) f = p
either (inr q) f = f q

-- What is settled before a reply that follows b is settled after it, for the next ask.
pub settled_after : (a b : List Item) (asked answered next : List Span) (trusted : List (Item × Item)) (need have need' have' : List Id)
    → All IsKey a → All IsKey b → OneTime a b → Ascends least asked → All (IsTrueOf a) (stretches asked) → Follows b asked answered → ToldApart a b trusted
    → Adds a answered need have need' have' → Accounted a asked answered next trusted need' have'
    → Settled a b asked need have → Settled a b next need' have'
settled_after a b asked answered next trusted need have need' have' keys_a keys_b one up truth follows told adds done was = record {
  need_right = All-weaker (λ i. Contains need i ⊎ IsListed a answered i) (Needs a b)
      (λ i h. elim h [ inl old ↦ All-contains (Needs a b) need i was.need_right old | inr new ↦ listed_needed a b asked answered follows i new ]) need' adds.need_new;
  have_right = All-weaker (λ i. Contains have i ⊎ IsUnlisted a answered i) (Has a b)
      (λ i h. elim h [ inl old ↦ All-contains (Has a b) have i was.have_right old | inr new ↦ unlisted_had a b asked answered follows i new ]) have' adds.have_new;
  need_whole = λ k hk lacks skipped.
      let key = All-contains IsKey b k keys_b hk in
      let s = done.each k key skipped in
      either (need_at a b one asked answered up truth follows trusted told need' have' s.0 k key s.1 s.2 s.0.claim refl s.3 hk lacks)
      (λ before. adds.need_kept k.id (was.need_whole k hk lacks before));
  have_whole = λ k hk lacks skipped.
      let key = All-contains IsKey a k keys_a hk in
      let s = done.each k key skipped in
      either (have_at a b one asked answered up truth follows trusted told need' have' s.0 k key s.1 s.2 s.0.claim refl s.3 hk lacks)
      (λ before. adds.have_kept k.id (was.have_whole k hk lacks before));
}
