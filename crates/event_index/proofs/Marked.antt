-- What a filter matches has a mark of each of its conditions.
use Rattle.std.proofs.Common.{◌≡◌, ℕ, ◌<◌, ◌&&◌, ◌||◌, ◌==◌, Bool, true, false, true≢false, List, [], ◌∷◌, length, get_or, map, refl, ap, sym, subst, arith, ◌∙◌, zero, suc, Option, None, Some}
use Rattle.std.specs.Prelude.{bytes_eq, filter_map, Contains}
use Rattle.std.specs.List.{list_any, list_all, cons_option}
use Rattle.std.proofs.lemmas.Bool.Decides.{nat_tests}
use Rattle.std.proofs.lemmas.List.{length-map, get_or-map}
use Rattle.std.proofs.lemmas.List.Elements.{Contains-append_right}
use Rattle.std.proofs.lemmas.List.Folds.{Any-from_list_any}
use Rattle.std.proofs.lemmas.Slice.Eq.{bytes_eq-Decides}
use Rattle.nostr_filter.specs.declared.conditions.TagCondition.{TagCondition}
use Rattle.nostr_filter.specs.declared.filter.Filter.{Filter}
use Rattle.nostr_filter.specs.Matching.{met, has_text, tag_meets, tags_meet}
use Rattle.event_index.specs.Marks.{mixed, value_mark, tag_mark, AreMarksOf}

and_last : (a b : Bool) → (a && b) ≡ true → b ≡ true
and_last true b h = h
and_last false b h = absurd (true≢false (sym h))

and_first : (a b : Bool) → (a && b) ≡ true → a ≡ true
and_first true b h = refl
and_first false b h = absurd (true≢false (sym h))

head : (x : ℕ) (xs : List ℕ) → Contains (x ∷ xs) x
head x xs = (0, omega arith, refl)

behind : (y : ℕ) (xs : List ℕ) (x : ℕ) → Contains xs x → Contains (y ∷ xs) x
behind y xs x h = Contains-append_right (y ∷ []) xs x h

text_marked : (g : List ℕ → ℕ) (texts : List (List ℕ)) (t : List ℕ) → has_text texts t ≡ true → Contains (map g texts) (g t)
text_marked g texts t h =
    let some = Any-from_list_any (λ x. bytes_eq x t) texts h in
    let same : some.1 ≡ t = (bytes_eq-Decides some.1 t).0 some.4 in
    (some.0, omega (arith, length-map texts g, some.2), get_or-map g texts some.0 some.1 (g t) some.2 ∙ ap g (some.3 ∙ same))

kind_listed : (kinds : List ℕ) (kind : ℕ) → list_any (λ k. k == kind) kinds ≡ true → Contains kinds kind
kind_listed kinds kind h =
    let some = Any-from_list_any (λ k. k == kind) kinds h in
    let is : (some.1 == kind) ≡ true = some.4 in
    let same : some.1 ≡ kind = grind (arith, nat_tests) in
    (some.0, some.2, subst (λ (n : ℕ). get_or kinds some.0 n ≡ n) same some.3)

-- ---- tags

tag_is : (c : TagCondition) (tag : List (List ℕ)) → tag_meets c tag ≡ true → (v : List ℕ) × (tag_mark tag ≡ Some (value_mark c.letter v)) × (has_text c.values v ≡ true)
tag_is c [] h = absurd (true≢false (sym h))
tag_is c (name ∷ []) h = absurd (true≢false (sym h))
tag_is c (name ∷ value ∷ more) h =
    let named : name ≡ c.letter ∷ [] = (bytes_eq-Decides name (c.letter ∷ [])).0 (and_first _ _ h) in
    (value, subst (λ (n : List ℕ). tag_mark (n ∷ value ∷ more) ≡ Some (value_mark c.letter value)) (sym named) refl, and_last _ _ h)

first_option : (o : Option ℕ) (xs : List ℕ) (x : ℕ) → o ≡ Some x → Contains (cons_option o xs) x
first_option o xs x is = subst (λ (p : Option ℕ). Contains (cons_option p xs) x) (sym is) (head x xs)

behind_option : (o : Option ℕ) (xs : List ℕ) (x : ℕ) → Contains xs x → Contains (cons_option o xs) x
behind_option None xs x h = h
behind_option (Some y) xs x h = behind y xs x h

tag_marked : (c : TagCondition) (tags : List (List (List ℕ))) → tags_meet tags c ≡ true
    → (m : ℕ) × Contains (map (value_mark c.letter) c.values) m × Contains (filter_map tag_mark tags) m
tag_marked c [] h = absurd (true≢false (sym h))
tag_marked c (tag ∷ tags) h = go (tag_meets c tag) refl (tag_marked c tags)
  where
    go : (b : Bool) → tag_meets c tag ≡ b → (tags_meet tags c ≡ true → (m : ℕ) × Contains (map (value_mark c.letter) c.values) m × Contains (filter_map tag_mark tags) m)
        → (m : ℕ) × Contains (map (value_mark c.letter) c.values) m × Contains (filter_map tag_mark (tag ∷ tags)) m
    go true is more =
        let w = tag_is c tag is in
        let m = value_mark c.letter w.0 in
        (m, text_marked (value_mark c.letter) c.values w.0 w.2, first_option (tag_mark tag) (filter_map tag_mark tags) m w.1)
    go false is more =
        let rest : tags_meet tags c ≡ true = ap (λ b. b || tags_meet tags c) (sym is) ∙ h in
        let w = more rest in
        (w.0, w.1, behind_option (tag_mark tag) (filter_map tag_mark tags) w.0 w.2)

all_at : (p : TagCondition → Bool) (cs : List TagCondition) (i : ℕ) (d : TagCondition) → list_all p cs ≡ true → i < length cs → p (get_or cs i d) ≡ true
all_at p [] i d h lt = absurd (omega arith)
all_at p (c ∷ cs) zero d h lt = and_first _ _ h
all_at p (c ∷ cs) (suc i) d h lt = all_at p cs i d (and_last _ _ h) (omega arith)

-- ---- conditions

pub authors_marked : (f : Filter) (authors : List (List ℕ)) (marks : List ℕ) → f.authors ≡ Some authors → marks ≡ map (mixed 0) authors → AreMarksOf f marks
authors_marked f authors marks is at e hit =
    let by : met (λ authors. has_text authors e.draft.pubkey) f.authors ≡ true = and_last _ _ (and_first _ _ (and_first _ _ (and_first _ _ hit))) in
    let some : has_text authors e.draft.pubkey ≡ true = (λ j. met (λ authors. has_text authors e.draft.pubkey) (sym is j)) ∙ by in
    let m = mixed 0 e.draft.pubkey in
    (m, subst (λ (ms : List ℕ). Contains ms m) (sym at) (text_marked (mixed 0) authors e.draft.pubkey some), head m (e.draft.kind ∷ filter_map tag_mark e.draft.tags))

pub kinds_marked : (f : Filter) (kinds marks : List ℕ) → f.kinds ≡ Some kinds → marks ≡ kinds → AreMarksOf f marks
kinds_marked f kinds marks is at e hit =
    let of_kind : met (λ kinds. list_any (λ k. k == e.draft.kind) kinds) f.kinds ≡ true = and_last _ _ (and_first _ _ (and_first _ _ hit)) in
    let some : list_any (λ k. k == e.draft.kind) kinds ≡ true = (λ j. met (λ kinds. list_any (λ k. k == e.draft.kind) kinds) (sym is j)) ∙ of_kind in
    (e.draft.kind, subst (λ (ms : List ℕ). Contains ms e.draft.kind) (sym at) (kind_listed kinds e.draft.kind some), behind (mixed 0 e.draft.pubkey) (e.draft.kind ∷ filter_map tag_mark e.draft.tags) e.draft.kind (head e.draft.kind (filter_map tag_mark e.draft.tags)))

pub tags_marked : (f : Filter) (tags : List TagCondition) (i : ℕ) (c : TagCondition) (marks : List ℕ) → tags ≡ f.tags → i < length tags → get_or tags i c ≡ c → marks ≡ map (value_mark c.letter) c.values → AreMarksOf f marks
tags_marked f tags i c marks same lt is at e hit =
    let all : list_all (tags_meet e.draft.tags) f.tags ≡ true = and_last _ _ hit in
    let met : list_all (tags_meet e.draft.tags) tags ≡ true = ap (list_all (tags_meet e.draft.tags)) same ∙ all in
    let here : tags_meet e.draft.tags c ≡ true = ap (tags_meet e.draft.tags) (sym is) ∙ all_at (tags_meet e.draft.tags) tags i c met lt in
    let w = tag_marked c e.draft.tags here in
    (w.0, subst (λ (ms : List ℕ). Contains ms w.0) (sym at) w.1, behind (mixed 0 e.draft.pubkey) (e.draft.kind ∷ filter_map tag_mark e.draft.tags) w.0 (behind e.draft.kind (filter_map tag_mark e.draft.tags) w.0 w.2))
