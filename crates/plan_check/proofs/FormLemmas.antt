-- The first line that is wrong.
use Rattle.std.proofs.Common.{◌≡◌, ◌≢◌, ◌⊎◌, ℕ, ◌+◌, ◌-◌, ◌<◌, List, [], ◌∷◌, ◌++◌, length, take, map, codes, inl, inr, refl, ap, sym, ◌∙◌, subst, arith, append_assoc, length-append, take_at, get_or}
use Rattle.std.specs.List.{All}
use Rattle.std.proofs.lemmas.List.{append-nil, length-map}
use Rattle.std.proofs.lemmas.List.Elements.{All-nil, All-cons, All-head, All-map, All-weaker}
use Rattle.item_key.specs.declared.Id.{Id}
use Rattle.sharing.specs.declared.TheConstants.{RELAYS}
use Rattle.plan_check.specs.File.{File, IsBase}
use Rattle.plan_check.specs.TextLines.{ended, FirstIsNot}
use Rattle.plan_check.specs.PlanText.{header_line, base_line, offer_line, give_line, group_line, plan_lines, IsOffer, IsGive, IsOfForm}
use Rattle.plan_check.specs.PlanParts.{IsLineOf, IsBaseLine, IsOfferLine, IsGiveLine, IsGroupLine}
use Rattle.plan_check.specs.PlanReading.{Begins, IsFirstWrong}
use Rattle.plan_check.proofs.Spans.{peel}
use Rattle.plan_check.proofs.KindLemmas.{first_weaker}

abbrev pub based : ℕ × ℕ → List ℕ
based b = ended (base_line b)

abbrev pub offered : Id × List ℕ → List ℕ
offered o = ended (offer_line o)

abbrev pub given : Id × ℕ → List ℕ
given g = ended (give_line g)

abbrev pub grouped : List ℕ → List ℕ
grouped relays = ended (group_line relays)

pub plan_lines-is : (file : File) → plan_lines file ≡ ended (header_line file.bases) ∷ (map based file.bases ++ (map offered file.offers ++ (map given file.gives ++ grouped file.group ∷ [])))
unfolding plan_lines
plan_lines-is file = refl

-- ---- lines of different kinds
base_not_offer : (l : List ℕ) → IsBaseLine l → IsOfferLine l → ⊥
base_not_offer l b o = let e : get_or (based b.0) 0 0 ≡ get_or (offered o.0) 0 0 = ap (λ t. get_or t 0 0) (sym b.2 ∙ o.2) in omega (arith, e)

base_not_give : (l : List ℕ) → IsBaseLine l → IsGiveLine l → ⊥
base_not_give l b g = let e : get_or (based b.0) 0 0 ≡ get_or (given g.0) 0 0 = ap (λ t. get_or t 0 0) (sym b.2 ∙ g.2) in omega (arith, e)

base_not_group : (l : List ℕ) → IsBaseLine l → IsGroupLine l → ⊥
base_not_group l b g = let e : get_or (based b.0) 0 0 ≡ get_or (grouped g.0) 0 0 = ap (λ t. get_or t 0 0) (sym b.2 ∙ g.2) in omega (arith, e)

offer_not_give : (l : List ℕ) → IsOfferLine l → IsGiveLine l → ⊥
offer_not_give l o g = let e : get_or (offered o.0) 0 0 ≡ get_or (given g.0) 0 0 = ap (λ t. get_or t 0 0) (sym o.2 ∙ g.2) in omega (arith, e)

offer_not_group : (l : List ℕ) → IsOfferLine l → IsGroupLine l → ⊥
offer_not_group l o g = let e : get_or (offered o.0) 0 0 ≡ get_or (grouped g.0) 0 0 = ap (λ t. get_or t 0 0) (sym o.2 ∙ g.2) in omega (arith, e)

give_not_group : (l : List ℕ) → IsGiveLine l → IsGroupLine l → ⊥
give_not_group l g o = let e : get_or (given g.0) 1 0 ≡ get_or (grouped o.0) 1 0 = ap (λ t. get_or t 1 0) (sym g.2 ∙ o.2) in omega (arith, e)

-- the lines of records are of their kind
pub of_kind : {X : Type 0} (line : X → List ℕ) (IsIt : X → Type 0) (xs : List X) → All IsIt xs → All (IsLineOf line IsIt) (map (λ x. ended (line x)) xs)
of_kind line IsIt xs h = All-map (IsLineOf line IsIt) (λ x. ended (line x)) xs (All-weaker IsIt (λ x. IsLineOf line IsIt (ended (line x))) (λ x is. (x, is, refl)) xs h)

-- what comes behind lines of one kind is of none
pub behind_bases : (os : List (Id × List ℕ)) (gs : List (Id × ℕ)) (group : List ℕ) (after : List (List ℕ)) → All IsOffer os → All IsGive gs → All (λ r. r < RELAYS) group → FirstIsNot IsBaseLine (map offered os ++ (map given gs ++ grouped group ∷ after))
behind_bases [] [] group after offers gives small = λ b. base_not_group (grouped group) b (group, small, refl)
behind_bases [] (g ∷ gs) group after offers gives small = λ b. base_not_give (given g) b (g, All-head IsGive g gs gives, refl)
behind_bases (o ∷ os) gs group after offers gives small = λ b. base_not_offer (offered o) b (o, All-head IsOffer o os offers, refl)

pub behind_offers : (gs : List (Id × ℕ)) (group : List ℕ) (after : List (List ℕ)) → All IsGive gs → All (λ r. r < RELAYS) group → FirstIsNot IsOfferLine (map given gs ++ grouped group ∷ after)
behind_offers [] group after gives small = λ o. offer_not_group (grouped group) o (group, small, refl)
behind_offers (g ∷ gs) group after gives small = λ o. offer_not_give (given g) o (g, All-head IsGive g gs gives, refl)

pub behind_gives : (group : List ℕ) → All (λ r. r < RELAYS) group → ¬ IsGiveLine (grouped group)
behind_gives group small = λ g. give_not_group (grouped group) g (group, small, refl)

-- ---- the parts of the lines of a plan text
-- the header tells whether bases follow
same_version : (a b : List (ℕ × ℕ)) → ended (header_line a) ≡ ended (header_line b) → a ≡ [] → b ≡ []
same_version [] [] e none = refl
same_version [] (b ∷ bs) e none = let d : get_or (ended (header_line [])) 11 0 ≡ get_or (ended (header_line (b ∷ bs))) 11 0 = ap (λ t. get_or t 11 0) e in absurd (omega (arith, d))
same_version (a ∷ more) b e none = absurd (cc)

pub base_parts : (bs cs : List (ℕ × ℕ)) (rest after : List (List ℕ)) → All IsBase bs → All IsBase cs → (bs ≡ []) ⊎ FirstIsNot IsBaseLine rest → FirstIsNot IsBaseLine after
    → ended (header_line bs) ≡ ended (header_line cs) → map based bs ++ rest ≡ map based cs ++ after → (map based bs ≡ map based cs) × (rest ≡ after)
base_parts bs cs rest after hb hc (inl none) last version e =
    let other : cs ≡ [] = same_version bs cs version none in
    let same : map based bs ≡ map based cs = ap (map based) (none ∙ sym other) in
    (same, sym (ap (λ t. map based t ++ rest) none) ∙ e ∙ ap (λ t. map based t ++ after) other)
base_parts bs cs rest after hb hc (inr first) last version e = peel IsBaseLine (map based bs) (map based cs) rest after (of_kind base_line IsBase bs hb) (of_kind base_line IsBase cs hc) first last e

module _ (bs : List (ℕ × ℕ)) (os : List (Id × List ℕ)) (gs : List (Id × ℕ)) (bases : All IsBase bs) (offers : All IsOffer os) (gives : All IsGive gs) where
  -- what follows these bases, offers and gives, and is none of them, follows those of the file
  pub plan_parts : (rest : List (List ℕ)) (file : File) → IsOfForm file → (bs ≡ []) ⊎ FirstIsNot IsBaseLine (map offered os ++ (map given gs ++ rest)) → FirstIsNot IsOfferLine (map given gs ++ rest) → FirstIsNot IsGiveLine rest
      → ended (header_line bs) ∷ (map based bs ++ (map offered os ++ (map given gs ++ rest))) ≡ plan_lines file
      → (map based bs ≡ map based file.bases) × (map offered os ≡ map offered file.offers) × (map given gs ≡ map given file.gives) × (rest ≡ grouped file.group ∷ [])
  plan_parts rest file form first other last e =
      let whole = e ∙ plan_lines-is file in
      let version : ended (header_line bs) ≡ ended (header_line file.bases) = cc in
      let body : map based bs ++ (map offered os ++ (map given gs ++ rest)) ≡ map based file.bases ++ (map offered file.offers ++ (map given file.gives ++ grouped file.group ∷ [])) = cc in
      let zero = base_parts bs file.bases _ _ bases form.bases first (behind_bases file.offers file.gives file.group [] form.offers form.gives form.group) version body in
      let one = peel IsOfferLine (map offered os) (map offered file.offers) (map given gs ++ rest) (map given file.gives ++ grouped file.group ∷ []) (of_kind offer_line IsOffer os offers) (of_kind offer_line IsOffer file.offers form.offers) other (behind_offers file.gives file.group [] form.gives form.group) zero.1 in
      let two = peel IsGiveLine (map given gs) (map given file.gives) rest (grouped file.group ∷ []) (of_kind give_line IsGive gs gives) (of_kind give_line IsGive file.gives form.gives) last (behind_gives file.group form.group) one.1 in
      (zero.0, one.0, two.0, two.1)

-- ---- the first line that is wrong
-- after lines that begin a plan text, and are none, a line with which they don't, or the end
wrong_after : (front rest lines : List (List ℕ)) (n : ℕ) → lines ≡ front ++ rest → n ≡ length front + 1 → Begins front
    → (rest ≡ [] → (file : File) → IsOfForm file → front ≢ plan_lines file)
    → FirstIsNot (λ l. Begins (front ++ l ∷ [])) rest → IsFirstWrong lines n
wrong_after front [] lines n e at begins ended wrong =
    let P : List (List ℕ) → Type 0 = λ t. Begins t in
    let len : length lines ≡ length front = ap length e ∙ ap length (append-nil front) in
    let before : take (n - 1) lines ≡ front = ap (take (n - 1)) e ∙ take_at front [] (n - 1) (omega arith) in
    record {
      counted = omega arith;
      near = omega arith;
      before = subst P (sym before) begins;
      wrong = λ within. absurd (omega arith);
      ended = λ past file form same. ended refl file form (sym (e ∙ append-nil front) ∙ same);
    }
wrong_after front (l ∷ ls) lines n e at begins ended wrong =
    let P : List (List ℕ) → Type 0 = λ t. Begins t in
    let len : length lines ≡ length front + length (l ∷ ls) = ap length e ∙ length-append front (l ∷ ls) in
    let before : take (n - 1) lines ≡ front = ap (take (n - 1)) e ∙ take_at front (l ∷ ls) (n - 1) (omega arith) in
    let one : length (front ++ l ∷ []) ≡ n = length-append front (l ∷ []) ∙ sym at in
    let here : take n lines ≡ front ++ l ∷ [] =
    ap (take n) (e ∙ sym (append_assoc front (l ∷ []) ls)) ∙ take_at (front ++ l ∷ []) ls n one in
    record {
      counted = omega arith;
      near = omega arith;
      before = subst P (sym before) begins;
      wrong = λ within b. wrong (subst P here b);
      ended = λ past. absurd (omega arith);
    }

abbrev nothing : File
nothing = record { bases = []; offers = []; gives = []; group = [] }

nothing_ok : IsOfForm nothing
nothing_ok = record { bases = All-nil IsBase; offers = All-nil IsOffer; gives = All-nil IsGive; group = All-nil (λ r. r < RELAYS) }

-- two lines at least
two_lines : (file : File) (l : List ℕ) → (l ∷ []) ≢ plan_lines file
two_lines file l e =
    let len = ap length (e ∙ plan_lines-is file) in
    omega (
      arith,
      len,
      length-append (map based file.bases) (map offered file.offers ++ (map given file.gives ++ grouped file.group ∷ [])),
      length-append (map offered file.offers) (map given file.gives ++ grouped file.group ∷ []),
      length-append (map given file.gives) (grouped file.group ∷ []),
    )

-- the first line is one of the headers
header_is : (bs : List (ℕ × ℕ)) (l : List ℕ) → l ≡ ended (header_line bs) → (l ≡ ended (codes "nostr-plan 1")) ⊎ (l ≡ ended (codes "nostr-plan 2"))
header_is [] l e = inl e
header_is (b ∷ bs) l e = inr e

not_both : {X : Type 0} (P Q R : X → Type 0) → ((x : X) → R x → P x ⊎ Q x) → (xs : List X) → FirstIsNot P xs → FirstIsNot Q xs → FirstIsNot R xs
not_both P Q R f [] h k = tt
not_both P Q R f (x ∷ xs) h k = λ r. elim (f x r) [ inl p ↦ h p | inr q ↦ k q ]

-- the first line isn't the header
pub wrong_at_header : (lines : List (List ℕ)) → FirstIsNot (λ line. line ≡ ended (codes "nostr-plan 1")) lines → FirstIsNot (λ line. line ≡ ended (codes "nostr-plan 2")) lines → IsFirstWrong lines 1
wrong_at_header lines first second =
    wrong_after [] lines lines 1 refl refl (nothing, plan_lines nothing, nothing_ok, refl)
    (λ none file form e. cc (e ∙ plan_lines-is file))
    (not_both (λ line. line ≡ ended (codes "nostr-plan 1")) (λ line. line ≡ ended (codes "nostr-plan 2")) (λ l. Begins ([] ++ l ∷ []))
    (λ l b. (let e = b.3 ∙ plan_lines-is b.0 in header_is b.0.bases l (cc))) lines first second)

abbrev one_base : File
one_base = record { bases = (0, 1) ∷ []; offers = []; gives = []; group = [] }

one_base_ok : IsOfForm one_base
one_base_ok = record {
  bases = All-cons IsBase (0, 1) [] (record { relay = omega arith; some = omega arith; small = omega arith }) (All-nil IsBase);
  offers = All-nil IsOffer;
  gives = All-nil IsGive;
  group = All-nil (λ r. r < RELAYS);
}

first_base : (bs : List (ℕ × ℕ)) (l : List ℕ) (after rest : List (List ℕ)) → All IsBase bs → ended (codes "nostr-plan 2") ∷ l ∷ after ≡ ended (header_line bs) ∷ (map based bs ++ rest) → IsBaseLine l
first_base [] l after rest h e =
    let head : ended (codes "nostr-plan 2") ≡ ended (codes "nostr-plan 1") = cc in
    let d : get_or (ended (codes "nostr-plan 2")) 11 0 ≡ get_or (ended (codes "nostr-plan 1")) 11 0 = ap (λ t. get_or t 11 0) head in
    absurd (omega (arith, d))
first_base (b ∷ bs) l after rest h e = (b, All-head IsBase b bs h, cc)

-- no base follows the header of version 2
pub wrong_at_bases : (rest lines : List (List ℕ)) → lines ≡ ended (codes "nostr-plan 2") ∷ rest → FirstIsNot IsBaseLine rest → IsFirstWrong lines 2
wrong_at_bases rest lines e first =
    wrong_after (ended (codes "nostr-plan 2") ∷ []) rest lines 2 e refl (one_base, based (0, 1) ∷ grouped [] ∷ [], one_base_ok, sym (plan_lines-is one_base))
    (λ none file form same. two_lines file (ended (codes "nostr-plan 2")) same)
    (first_weaker IsBaseLine (λ l. Begins ((ended (codes "nostr-plan 2") ∷ []) ++ l ∷ [])) (λ l b. first_base b.0.bases l b.1 _ b.2.bases (b.3 ∙ plan_lines-is b.0)) rest first)

-- lines that don't begin with a header, and the bases that it announces
pub no_header : (lines : List (List ℕ)) → FirstIsNot (λ line. line ≡ ended (codes "nostr-plan 1")) lines → FirstIsNot (λ line. line ≡ ended (codes "nostr-plan 2")) lines
    → (bs : List (ℕ × ℕ)) (rest : List (List ℕ)) → lines ≢ ended (header_line bs) ∷ (map based bs ++ rest)
no_header lines first second bs rest e =
    subst (FirstIsNot (λ l. l ≡ ended (header_line bs))) e (not_both (λ line. line ≡ ended (codes "nostr-plan 1")) (λ line. line ≡ ended (codes "nostr-plan 2")) (λ l. l ≡ ended (header_line bs)) (header_is bs) lines first second) refl

pub no_bases : (after lines : List (List ℕ)) → lines ≡ ended (codes "nostr-plan 2") ∷ after → FirstIsNot IsBaseLine after → (bs : List (ℕ × ℕ)) (rest : List (List ℕ)) → All IsBase bs → lines ≢ ended (header_line bs) ∷ (map based bs ++ rest)
no_bases [] lines e first [] rest h same =
    let whole = sym e ∙ same in
    let head : ended (codes "nostr-plan 2") ≡ ended (codes "nostr-plan 1") = cc in
    let d : get_or (ended (codes "nostr-plan 2")) 11 0 ≡ get_or (ended (codes "nostr-plan 1")) 11 0 = ap (λ t. get_or t 11 0) head in
    omega (arith, d)
no_bases [] lines e first (b ∷ bs) rest h same = let whole = sym e ∙ same in cc
no_bases (l ∷ after) lines e first bs rest h same = first (first_base bs l after rest h (sym e ∙ same))

-- the same first line, whatever follows it
same_first : {X : Type 0} (P : X → Type 0) (us xs ys : List X) (x : X) → FirstIsNot P (us ++ x ∷ xs) → FirstIsNot P (us ++ x ∷ ys)
same_first P [] xs ys x h = h
same_first P (u ∷ us) xs ys x h = h

module _ (bs : List (ℕ × ℕ)) (os : List (Id × List ℕ)) (gs : List (Id × ℕ)) (bases : All IsBase bs) (offers : All IsOffer os) (gives : All IsGive gs) where
  abbrev front : List (List ℕ)
  front = ended (header_line bs) ∷ (map based bs ++ (map offered os ++ map given gs))

  length-front : length front ≡ length bs + length os + length gs + 1
  length-front = omega (arith, length-append (map based bs) (map offered os ++ map given gs), length-append (map offered os) (map given gs), length-map bs based, length-map os offered, length-map gs given)

  -- these lines, and a rest
  with_rest : (rest : List (List ℕ)) → front ++ rest ≡ ended (header_line bs) ∷ (map based bs ++ (map offered os ++ (map given gs ++ rest)))
  with_rest rest =
      ap (λ t. ended (header_line bs) ∷ t) (append_assoc (map based bs) (map offered os ++ map given gs) rest ∙ ap (λ t. map based bs ++ t) (append_assoc (map offered os) (map given gs) rest))

  -- they begin the text of the file without a group
  front_begins : Begins front
  front_begins =
      let file : File = record { bases = bs; offers = os; gives = gs; group = [] } in (
        file,
        grouped [] ∷ [],
        record { bases = bases; offers = offers; gives = gives; group = All-nil (λ r. r < RELAYS) },
        with_rest (grouped [] ∷ []) ∙ sym (plan_lines-is file),
      )

  first_again : (ls after : List (List ℕ)) (l : List ℕ) → (bs ≡ []) ⊎ FirstIsNot IsBaseLine (map offered os ++ (map given gs ++ l ∷ ls)) → (bs ≡ []) ⊎ FirstIsNot IsBaseLine (map offered os ++ (map given gs ++ l ∷ after))
  first_again ls after l (inl none) = inl none
  first_again ls after l (inr first) =
      let P : List (List ℕ) → Type 0 = λ t. FirstIsNot IsBaseLine t in
      inr (subst P (append_assoc (map offered os) (map given gs) (l ∷ after)) (same_first IsBaseLine (map offered os ++ map given gs) ls after l (subst P (sym (append_assoc (map offered os) (map given gs) (l ∷ ls))) first)))

  -- the line after the gives isn't `group`
  pub wrong_at_group : (rest lines : List (List ℕ)) (n : ℕ) → lines ≡ ended (header_line bs) ∷ (map based bs ++ (map offered os ++ (map given gs ++ rest))) → n ≡ length bs + length os + length gs + 2
      → (bs ≡ []) ⊎ FirstIsNot IsBaseLine (map offered os ++ (map given gs ++ rest)) → FirstIsNot IsOfferLine (map given gs ++ rest) → FirstIsNot IsGiveLine rest → FirstIsNot IsGroupLine rest → IsFirstWrong lines n
  wrong_at_group [] lines n e at first other last none =
      wrong_after front [] lines n (e ∙ sym (with_rest [])) (omega (arith, length-front)) front_begins
      (λ end file form same.
      let parts = plan_parts bs os gs bases offers gives [] file form first other last (sym (with_rest []) ∙ append-nil front ∙ same) in
      let empty = parts.3 in cc)
      tt
  wrong_at_group (l ∷ ls) lines n e at first other last none =
      wrong_after front (l ∷ ls) lines n (e ∙ sym (with_rest (l ∷ ls))) (omega (arith, length-front)) front_begins
      (λ end file form same. cc)
      (λ begins.
      let file = begins.0 in
      let after = begins.1 in
      let regrouped : ended (header_line bs) ∷ (map based bs ++ (map offered os ++ (map given gs ++ l ∷ after))) ≡ plan_lines file =
      sym (with_rest (l ∷ after)) ∙ sym (append_assoc front (l ∷ []) after) ∙ begins.3 in
      let parts = plan_parts bs os gs bases offers gives (l ∷ after) file begins.2 (first_again ls after l first) (same_first IsOfferLine (map given gs) ls after l other) last regrouped in
      let rest = parts.3 in
      none (file.group, begins.2.group, cc))

  -- a line follows the group
  pub wrong_at_end : (group : List ℕ) (rest lines : List (List ℕ)) (n : ℕ) → All (λ r. r < RELAYS) group → lines ≡ ended (header_line bs) ∷ (map based bs ++ (map offered os ++ (map given gs ++ grouped group ∷ rest)))
      → n ≡ length bs + length os + length gs + 3 → rest ≢ [] → IsFirstWrong lines n
  wrong_at_end group [] lines n small e at some = absurd (some refl)
  wrong_at_end group (l ∷ ls) lines n small e at some =
      let file : File = record { bases = bs; offers = os; gives = gs; group = group } in
      let form : IsOfForm file = record { bases = bases; offers = offers; gives = gives; group = small } in
      let all = front ++ grouped group ∷ [] in
      let whole : all ≡ plan_lines file = with_rest (grouped group ∷ []) ∙ sym (plan_lines-is file) in
      let grown : lines ≡ all ++ l ∷ ls = e ∙ sym (with_rest (grouped group ∷ l ∷ ls)) ∙ sym (append_assoc front (grouped group ∷ []) (l ∷ ls)) in
      wrong_after all (l ∷ ls) lines n grown (omega (arith, length-front, length-append front (grouped group ∷ []))) (file, [], form, append-nil all ∙ whole)
      (λ end other form same. cc)
      (λ begins.
      let other = begins.0 in
      let after = begins.1 in
      let regrouped : ended (header_line bs) ∷ (map based bs ++ (map offered os ++ (map given gs ++ grouped group ∷ l ∷ after))) ≡ plan_lines other =
      sym (with_rest (grouped group ∷ l ∷ after)) ∙ sym (append_assoc front (grouped group ∷ []) (l ∷ after)) ∙ sym (append_assoc all (l ∷ []) after) ∙ begins.3 in
      let parts = plan_parts bs os gs bases offers gives (grouped group ∷ l ∷ after) other begins.2 (inr (behind_bases os gs group (l ∷ after) offers gives small)) (behind_offers gs group (l ∷ after) gives small) (behind_gives group small) regrouped in
      let rest = parts.3 in cc)
