-- Lists of postings and of places.
use Rattle.std.proofs.Common.{◌≡◌, ℕ, suc, ◌+◌, ◌/◌, ◌%◌, ◌<◌, ◌≤◌, inl, inr, true, false, List, [], ◌∷◌, ◌++◌, length, get_or, map, take, refl, ap, sym, subst, arith, ◌∙◌, ◌-◌, ltb, leb, Option, None, Some, length-append, append_assoc, append-nil}
use Rattle.std.specs.Prelude.{◌⊎◌, All, Contains, IsPermutation, filter_map, option_to_list}
use Rattle.std.specs.List.{cons_option}
use Rattle.std.specs.List.Sorted.{IsNonDecreasing, IsNonDecreasingBy, IsPartitionPoint}
use Rattle.std.proofs.lemmas.Bool.{cases_lt, ltb-true, leb-false}
use Rattle.std.proofs.lemmas.List.Sorted.{Contains-permutation}
use Rattle.std.proofs.lemmas.List.{length-map, get_or-map, get_or_default, get_or_append_left, get_or-append-add, map-append}
use Rattle.std.proofs.Math.Seq.{take-suc}
use Rattle.std.proofs.lemmas.List.Elements.{Contains-append_left, Contains-append_right, Contains-append_cases, Contains-push, Contains-push_cases, All-push, filter_map-append}
use Rattle.std.proofs.lemmas.Grind.{flat_map-append}
use Rattle.nostr_event.specs.EventView.{EventView}
use Rattle.nostr_filter.specs.declared.filter.Filter.{Filter}
use Rattle.event_index.specs.Marks.{tag_mark, marks_of, AreMarksOf}
use Rattle.event_index.specs.Postings.{posting, joined, Covered, HavePostings, Covers, ReadsPlaces, HoldMatching}

none_in : {X : Type 0} (x : X) → Contains [] x → ⊥
none_in x h = absurd (omega (arith, h.1))

mapped : {X Y : Type 0} (g : X → Y) (xs : List X) (x : X) → Contains xs x → Contains (map g xs) (g x)
mapped g xs x h = (h.0, omega (arith, length-map xs g, h.1), get_or-map g xs h.0 x (g x) h.1 ∙ ap g h.2)

pub took_more : {X : Type 0} (xs : List X) (i : ℕ) (d : X) → i < length xs → take (i + 1) xs ≡ take i xs ++ get_or xs i d ∷ []
took_more xs i d lt =
    let next : i + 1 ≡ suc i = omega arith in
    ap (λ n. take n xs) next ∙ take-suc xs i d lt

-- ---- postings of events

pub tags_more : (place : ℕ) (front : List ℕ) (tags : List (List (List ℕ))) (i : ℕ) (d : List (List ℕ)) (o : Option ℕ) (old all more : List ℕ) → i < length tags → o ≡ tag_mark (get_or tags i d)
    → all ≡ old ++ map (λ m. posting m place) (front ++ filter_map tag_mark (take i tags)) → more ≡ all ++ map (λ m. posting m place) (option_to_list o)
    → more ≡ old ++ map (λ m. posting m place) (front ++ filter_map tag_mark (take (i + 1) tags))
tags_more place front tags i d o old all more lt at is put =
    let g : ℕ → ℕ = λ m. posting m place in
    let tag = get_or tags i d in
    let now = front ++ filter_map tag_mark (take i tags) in
    put ∙ ap (λ xs. xs ++ map g (option_to_list o)) is ∙ append_assoc old (map g now) (map g (option_to_list o))
    ∙ ap (λ xs. old ++ xs) (sym (map-append g now (option_to_list o)))
    ∙ ap (λ xs. old ++ map g xs) (append_assoc front (filter_map tag_mark (take i tags)) (option_to_list o) ∙ ap (λ xs. front ++ (filter_map tag_mark (take i tags) ++ xs)) (ap option_to_list at ∙ last (tag_mark tag))
    ∙ ap (λ xs. front ++ xs) (sym (filter_map-append tag_mark (take i tags) (tag ∷ [])) ∙ ap (filter_map tag_mark) (sym (took_more tags i d lt))))
  where
    last : (p : Option ℕ) → option_to_list p ≡ cons_option p []
    last None = refl
    last (Some k) = refl

pub have_none : (start : ℕ) (postings : List ℕ) → HavePostings start [] postings
have_none start postings i m d lt there = absurd (omega (arith, lt))

pub have_more : (start place : ℕ) (events : List EventView) (e : EventView) (postings more : List ℕ) → place ≡ start + length events → HavePostings start events postings
    → more ≡ postings ++ map (λ m. posting m place) (marks_of e) → HavePostings start (events ++ e ∷ []) more
have_more start place events e postings more is h put i m d lt there =
    let g : ℕ → ℕ = λ m. posting m place in
    let new = map g (marks_of e) in
    subst (λ (ps : List ℕ). Contains ps (posting m (start + i))) (sym put) (elim (cases_lt i (length events)) [
      | inl early ↦
          let same : get_or (events ++ e ∷ []) i d ≡ get_or events i d = get_or_append_left events (e ∷ []) d i early in
          Contains-append_left postings new (posting m (start + i)) (h i m d early (subst (λ (x : EventView). Contains (marks_of x) m) same there))
      | inr late ↦
          let at : i ≡ length events + 0 = omega (arith, lt, late, length-append events (e ∷ [])) in
          let same : get_or (events ++ e ∷ []) i d ≡ e = ap (λ n. get_or (events ++ e ∷ []) n d) at ∙ get_or-append-add events (e ∷ []) 0 d in
          let here : place ≡ start + i = omega (arith, is, at) in
          Contains-append_right postings new (posting m (start + i))
          (subst (λ n. Contains new (posting m n)) here (mapped g (marks_of e) m (subst (λ (x : EventView). Contains (marks_of x) m) same there)))
    ])

-- an event's posting, where the first event stands at 0
posting_at : (events : List EventView) (x : Covered) (i m : ℕ) (d : EventView) → Covers events x → i < length events → Contains (marks_of (get_or events i d)) m → Contains (joined x.runs) (posting m i)
posting_at events x i m d h lt there =
    let same : 0 + i ≡ i = omega arith in
    subst (λ n. Contains (joined x.runs) (posting m n)) same (h.listed i m d lt there)

pub covers_none : (x : Covered) → x.count ≡ 0 → Covers [] x
covers_none x is = record { counted = is; listed = have_none 0 (joined x.runs) }

pub covers_more : (events new : List EventView) (x y : Covered) (postings : List ℕ) → Covers events x → HavePostings x.count new postings → y.count ≡ x.count + length new
    → ((p : ℕ) → Contains (joined x.runs ++ postings) p → Contains (joined y.runs) p) → Covers (events ++ new) y
covers_more events new x y postings h have count all = record {
  counted = omega (arith, count, h.counted, length-append events new);
  listed = λ i m d lt there.
      let zeroed : i ≡ 0 + i = omega arith in
      subst (λ n. Contains (joined y.runs) (posting m n)) zeroed (elim (cases_lt i (length events)) [
        | inl early ↦
            let same : get_or (events ++ new) i d ≡ get_or events i d = get_or_append_left events new d i early in
            all (posting m i) (Contains-append_left (joined x.runs) postings (posting m i) (posting_at events x i m d h early (subst (λ (v : EventView). Contains (marks_of v) m) same there)))
        | inr late ↦
            let j = i - length events in
            let at : i ≡ length events + j = omega (arith, late) in
            let same : get_or (events ++ new) i d ≡ get_or new j d = ap (λ n. get_or (events ++ new) n d) at ∙ get_or-append-add events new j d in
            let within : j < length new = omega (arith, lt, at, length-append events new) in
            let here : x.count + j ≡ i = omega (arith, at, h.counted) in
            all (posting m i) (Contains-append_right (joined x.runs) postings (posting m i)
            (subst (λ n. Contains postings (posting m n)) here (have j m d within (subst (λ (v : EventView). Contains (marks_of v) m) same there))))
      ]);
}

-- ---- runs

pub joined_more : (runs : List (List ℕ)) (run : List ℕ) → joined (runs ++ run ∷ []) ≡ joined runs ++ run
joined_more runs run = flat_map-append (λ r. r) runs (run ∷ []) ∙ ap (λ xs. joined runs ++ xs) (append-nil run)

pub runs_more : {X : Type 0} (its : X → List ℕ) (runs : List X) (i : ℕ) (run : X) → i < length runs → get_or runs i run ≡ run → joined (map its (take (i + 1) runs)) ≡ joined (map its (take i runs)) ++ its run
runs_more its runs i run lt is =
    ap (λ rs. joined (map its rs)) (took_more runs i run lt ∙ ap (λ r. take i runs ++ r ∷ []) is) ∙ ap joined (map-append its (take i runs) (run ∷ [])) ∙ joined_more (map its (take i runs)) (its run)

-- runs of which the last and more postings became one
pub merged_all : (runs first last all : List (List ℕ)) (postings merged run : List ℕ) → runs ≡ first ++ last → all ≡ first ++ run ∷ [] → merged ≡ postings ++ joined last → IsPermutation merged run
    → (p : ℕ) → Contains (joined runs ++ postings) p → Contains (joined all) p
merged_all runs first last all postings merged run cut is put moved p there =
    let whole : joined all ≡ joined first ++ run = ap joined is ∙ joined_more first run in
    let parts : joined runs ≡ joined first ++ joined last = ap joined cut ∙ flat_map-append (λ r. r) first last in
    let in_run : Contains (postings ++ joined last) p → Contains (joined first ++ run) p =
    λ h. Contains-append_right (joined first) run p (Contains-permutation merged run p moved (subst (λ (ps : List ℕ). Contains ps p) (sym put) h)) in
    subst (λ (ps : List ℕ). Contains ps p) (sym whole) (elim (Contains-append_cases (joined runs) postings p there) [
      | inl old ↦ elim (Contains-append_cases (joined first) (joined last) p (subst (λ (ps : List ℕ). Contains ps p) parts old)) [
        | inl kept ↦ Contains-append_left (joined first) run p kept
        | inr gone ↦ in_run (Contains-append_right postings (joined last) p gone)
      ]
      | inr new ↦ in_run (Contains-append_left postings (joined last) p new)
    ])

-- ---- a mark's stretch of a run

pub risen : (xs : List ℕ) → IsNonDecreasing xs → IsNonDecreasingBy (λ p. p / 1048576) xs
risen xs h i j d le lt = let up = h i j d le lt in omega (arith, up)

pub stretch_whole : (xs : List ℕ) (mark first behind : ℕ) → IsPartitionPoint (λ y. ltb (y / 1048576) mark ≡ true) (λ y. ltb (y / 1048576) mark ≡ false) xs first
    → IsPartitionPoint (λ y. leb (y / 1048576) mark ≡ true) (λ y. leb (y / 1048576) mark ≡ false) xs behind
    → (k d : ℕ) → k < length xs → get_or xs k d / 1048576 ≡ mark → (first ≤ k) × (k < behind)
stretch_whole xs mark first behind low high k d lt is = (from (cases_lt k first), upto (cases_lt k behind))
  where
    from : (k < first) ⊎ (first ≤ k) → first ≤ k
    from (inl early) = let less = ltb-true _ _ (low.0 k d (omega arith) early) in absurd (omega (arith, less, is))
    from (inr le) = le

    upto : (k < behind) ⊎ (behind ≤ k) → k < behind
    upto (inl early) = early
    upto (inr le) = let more = leb-false _ _ (high.1 k d le lt) in absurd (omega (arith, more, is))

-- what was read of a stretch, up to a place in it
pub record Reading (limit first at : ℕ) (run old places : List ℕ) : Type 0 where
  pub below : All (λ p. p < limit) old → All (λ p. p < limit) places
  pub kept : (i : ℕ) → Contains old i → Contains places i
  pub found : (k : ℕ) → first ≤ k → k < at → get_or run k 0 % 1048576 < limit → Contains places (get_or run k 0 % 1048576)

pub reading_none : (limit first : ℕ) (run old : List ℕ) → Reading limit first first run old old
reading_none limit first run old = record { below = λ h. h; kept = λ i h. h; found = λ k le lt in_limit. absurd (omega (arith, le, lt)) }

pub reading_put : (limit first at : ℕ) (run old places more : List ℕ) → get_or run at 0 % 1048576 < limit → more ≡ places ++ get_or run at 0 % 1048576 ∷ [] → Reading limit first at run old places
    → Reading limit first (at + 1) run old more
reading_put limit first at run old places more low put h =
    let place = get_or run at 0 % 1048576 in
    subst (λ (ps : List ℕ). Reading limit first (at + 1) run old ps) (sym put) (record {
      below = λ b. All-push (λ p. p < limit) places place (h.below b) low;
      kept = λ i there. Contains-append_left places (place ∷ []) i (h.kept i there);
      found = λ k le lt in_limit. elim (cases_lt k at) [
        | inl early ↦ Contains-append_left places (place ∷ []) (get_or run k 0 % 1048576) (h.found k le early in_limit)
        | inr late ↦
            let same : at ≡ k = omega (arith, lt, late) in
            subst (λ n. Contains (places ++ place ∷ []) (get_or run n 0 % 1048576)) same (Contains-push places place)
      ];
    })

pub reading_left : (limit first at : ℕ) (run old places more : List ℕ) → limit ≤ get_or run at 0 % 1048576 → more ≡ places → Reading limit first at run old places
    → Reading limit first (at + 1) run old more
reading_left limit first at run old places more high same h =
    subst (λ (ps : List ℕ). Reading limit first (at + 1) run old ps) (sym same) (record {
      below = h.below;
      kept = h.kept;
      found = λ k le lt in_limit. elim (cases_lt k at) [
        | inl early ↦ h.found k le early in_limit
        | inr late ↦
            let here : at ≡ k = omega (arith, lt, late) in
            absurd (not_less (get_or run k 0 % 1048576) limit (subst (λ n. limit ≤ get_or run n 0 % 1048576) here high) in_limit)
      ];
    })
  where
    not_less : (a b : ℕ) → b ≤ a → a < b → ⊥
    not_less a b le lt = absurd (omega (arith, le, lt))

pub reading_whole : (limit mark first behind at : ℕ) (run old places : List ℕ) → limit ≤ 1048576 → behind ≤ at → ((k d : ℕ) → k < length run → get_or run k d / 1048576 ≡ mark → (first ≤ k) × (k < behind))
    → Reading limit first at run old places → ReadsPlaces limit mark run old places
reading_whole limit mark first behind at run old places few end whole h = record {
  below = h.below;
  kept = h.kept;
  found = λ i lt there.
      let k = there.0 in
      let p = posting mark i in
      let marked : p / 1048576 ≡ mark = omega (arith, lt, few) in
      let placed : p % 1048576 ≡ i = omega (arith, lt, few) in
      let within = whole k p there.1 (ap (λ n. n / 1048576) there.2 ∙ marked) in
      let here : get_or run k 0 % 1048576 ≡ i = ap (λ n. n % 1048576) (get_or_default run k 0 p there.1 ∙ there.2) ∙ placed in
      subst (λ n. Contains places n) here (h.found k within.0 (omega (arith, within.1, end)) (subst (λ n. n < limit) (sym here) lt));
}

-- ---- places

pub reads_none : (limit mark : ℕ) (places : List ℕ) → ReadsPlaces limit mark [] places places
reads_none limit mark places = record { below = λ h. h; kept = λ i h. h; found = λ i lt h. absurd (none_in (posting mark i) h) }

pub reads_more : (limit mark : ℕ) (xs ys old mid new : List ℕ) → ReadsPlaces limit mark xs old mid → ReadsPlaces limit mark ys mid new → ReadsPlaces limit mark (xs ++ ys) old new
reads_more limit mark xs ys old mid new g h = record {
  below = λ b. h.below (g.below b);
  kept = λ i there. h.kept i (g.kept i there);
  found = λ i lt there. elim (Contains-append_cases xs ys (posting mark i) there) [
    | inl first ↦ h.kept i (g.found i lt first)
    | inr last ↦ h.found i lt last
  ];
}

-- the places are those of some marks
pub record ReadsAll (limit : ℕ) (marks postings places : List ℕ) : Type 0 where
  pub below : All (λ p. p < limit) places
  pub found : (m i : ℕ) → Contains marks m → i < limit → Contains postings (posting m i) → Contains places i

pub all_none : (limit : ℕ) (postings : List ℕ) → ReadsAll limit [] postings []
all_none limit postings = record { below = λ k d lt. absurd (omega (arith, lt)); found = λ m i there lt h. absurd (none_in m there) }

pub all_more : (limit mark : ℕ) (marks postings old new : List ℕ) → ReadsAll limit marks postings old → ReadsPlaces limit mark postings old new → ReadsAll limit (marks ++ mark ∷ []) postings new
all_more limit mark marks postings old new g h = record {
  below = h.below g.below;
  found = λ m i there lt at. elim (Contains-push_cases marks mark m there) [
    | inl first ↦ h.kept i (g.found m i first lt at)
    | inr same ↦ h.found i lt (subst (λ n. Contains postings (posting n i)) (sym same) at)
  ];
}

pub hold_matching : (f : Filter) (events : List EventView) (x : Covered) (marks places : List ℕ) → AreMarksOf f marks → Covers events x → ReadsAll x.count marks (joined x.runs) places → HoldMatching f events places
hold_matching f events x marks places of h reads = record {
  below = subst (λ n. All (λ p. p < n) places) h.counted reads.below;
  whole = λ i d lt hit.
      let w = of (get_or events i d) hit in
      reads.found w.0 i w.1 (omega (arith, lt, h.counted)) (posting_at events x i w.0 d h lt w.2);
}
