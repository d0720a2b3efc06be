-- Lines of one kind, one after another.
use Rattle.std.proofs.Common.{◌≡◌, ℕ, ◌+◌, ◌-◌, ◌<◌, ◌==◌, ◌&&◌, Bool, true, false, cond, List, [], ◌∷◌, ◌++◌, length, map, take, get_or, nat_lt, Option, Some, None, refl, sym, ap, ◌∙◌, subst, arith, append_assoc, length-append, inl, inr}
use Rattle.std.specs.Option.{IfSome}
use Rattle.std.specs.declared.cmp.Ordering.{Ordering}
use Rattle.std.specs.Ordering.{nat_cmp, is_lt}
use Rattle.std.specs.List.{All}
use Rattle.std.proofs.lemmas.Bool.{cases_Bool}
use Rattle.std.proofs.lemmas.List.{map-append, take_more}
use Rattle.std.proofs.lemmas.List.Elements.{All-nil, All-push}
use Rattle.plan_check.specs.Lines.{first_out, is_behind, or_else, rises, rises_from}
use Rattle.plan_check.specs.TextLines.{ended, FirstIsNot}
use Rattle.plan_check.specs.PlanParts.{IsLineOf, IsRun}

-- the key before what follows
abbrev pub last_from : {X K : Type 0} → (X → K) → Option K → List X → Option K
last_from key before [] = before
last_from key before (x ∷ xs) = last_from key (Some (key x)) xs

module _ {X K : Type 0} (c : K → K → Ordering) (key : X → K) (fine : X → Bool) where
  pub last_push : (before : Option K) (xs : List X) (x : X) → last_from key before (xs ++ x ∷ []) ≡ Some (key x)
  last_push before [] x = refl
  last_push before (y ∷ ys) x = last_push (Some (key y)) ys x

  -- one more
  pub out_push : (before : Option K) (n : ℕ) (xs : List X) (x : X) →
      first_out c key fine before n (xs ++ x ∷ []) ≡ or_else (first_out c key fine before n xs) (cond (is_behind c (last_from key before xs) (key x) && fine x) None (Some (n + length xs)))
  out_push before n [] x = ap (λ m. cond (is_behind c before (key x) && fine x) None (Some m)) (omega arith)
  out_push before n (y ∷ ys) x =
      elim (cases_Bool (is_behind c before (key y) && fine y)) [
        | inl t ↦
            ap (λ b. cond b (first_out c key fine (Some (key y)) (n + 1) (ys ++ x ∷ [])) (Some n)) t ∙ out_push (Some (key y)) (n + 1) ys x
            ∙ ap (λ m. or_else (first_out c key fine (Some (key y)) (n + 1) ys) (cond (is_behind c (last_from key (Some (key y)) ys) (key x) && fine x) None (Some m))) (omega arith)
            ∙ sym (ap (λ b. or_else (cond b (first_out c key fine (Some (key y)) (n + 1) ys) (Some n)) (cond (is_behind c (last_from key (Some (key y)) ys) (key x) && fine x) None (Some (n + length (y ∷ ys))))) t)
        | inr f ↦
            ap (λ b. cond b (first_out c key fine (Some (key y)) (n + 1) (ys ++ x ∷ [])) (Some n)) f
            ∙ sym (ap (λ b. or_else (cond b (first_out c key fine (Some (key y)) (n + 1) ys) (Some n)) (cond (is_behind c (last_from key (Some (key y)) ys) (key x) && fine x) None (Some (n + length (y ∷ ys))))) f)
      ]

length_nil : {X : Type 0} (xs : List X) → length xs ≡ 0 → xs ≡ []
length_nil [] h = refl
length_nil (x ∷ xs) h = absurd (omega arith)

-- lines of one kind so far, with the key of the last
pub record Passed (X K : Type 0) (c : K → K → Ordering) (key : X → K) (fine : X → Bool) (line : X → List ℕ) (IsIt : X → Type 0) (lines rest : List (List ℕ)) (count : ℕ) (out : Option ℕ) (before : Option K) : Type 0 where
  pub records : List X
  pub form : All IsIt records
  pub told : lines ≡ map (λ x. ended (line x)) records ++ rest
  pub counted : length records ≡ count
  pub first : out ≡ first_out c key fine None 0 records
  pub last : before ≡ last_from key None records

module _ {X K : Type 0} {c : K → K → Ordering} {key : X → K} {fine : X → Bool} {line : X → List ℕ} {IsIt : X → Type 0} where
  pub passed_none : (lines : List (List ℕ)) → Passed X K c key fine line IsIt lines lines 0 None None
  passed_none lines = record { records = []; form = All-nil IsIt; told = refl; counted = refl; first = refl; last = refl }

  pub passed_more : (lines rest after : List (List ℕ)) (words : List ℕ) (count : ℕ) (out : Option ℕ) (before : Option K) (x : X) (ok : Bool)
      → Passed X K c key fine line IsIt lines rest count out before → rest ≡ ended words ∷ after → words ≡ line x → IsIt x → ok ≡ (is_behind c before (key x) && fine x)
      → Passed X K c key fine line IsIt lines after (count + 1) (or_else out (cond ok None (Some count))) (Some (key x))
  passed_more lines rest after words count out before x ok p e w is o = record {
    records = p.records ++ x ∷ [];
    form = All-push IsIt p.records x p.form is;
    told = p.told ∙ ap (λ t. map (λ x. ended (line x)) p.records ++ t) (e ∙ ap (λ l. ended l ∷ after) w)
        ∙ sym (append_assoc (map (λ x. ended (line x)) p.records) (ended (line x) ∷ []) after) ∙ ap (λ t. t ++ after) (sym (map-append (λ x. ended (line x)) p.records (x ∷ [])));
    counted = omega (arith, length-append p.records (x ∷ []), p.counted);
    first = ap (λ a. or_else a (cond ok None (Some count))) p.first ∙ ap (λ b. or_else (first_out c key fine None 0 p.records) (cond b None (Some count))) (o ∙ ap (λ k. is_behind c k (key x) && fine x) p.last)
        ∙ ap (λ m. or_else (first_out c key fine None 0 p.records) (cond (is_behind c (last_from key None p.records) (key x) && fine x) None (Some m))) (omega (arith, p.counted))
        ∙ sym (out_push c key fine None 0 p.records x);
    last = sym (last_push c key fine None p.records x);
  }

  pub run_of : (lines rest : List (List ℕ)) (count : ℕ) (out : Option ℕ) (before : Option K) → Passed X K c key fine line IsIt lines rest count out before → FirstIsNot (IsLineOf line IsIt) rest
      → IsRun X K c key fine line IsIt lines rest count out
  run_of lines rest count out before p last = record { records = p.records; form = p.form; told = p.told; counted = p.counted; first = p.first; last = last }

  -- no line of the kind comes
  pub no_run : (lines rest : List (List ℕ)) (count : ℕ) (out : Option ℕ) → IsRun X K c key fine line IsIt lines rest count out → count ≡ 0 → FirstIsNot (IsLineOf line IsIt) lines
  no_run lines rest count out r none =
      let empty : r.records ≡ [] = length_nil r.records (r.counted ∙ none) in
      subst (FirstIsNot (IsLineOf line IsIt)) (sym (r.told ∙ ap (λ xs. map (λ x. ended (line x)) xs ++ rest) empty)) r.last

pub note_within : (o : Option ℕ) (ok : Bool) (n : ℕ) → IfSome o (λ k. k < n) → IfSome (or_else o (cond ok None (Some n))) (λ k. k < n + 1)
note_within None true n h = tt
note_within None false n h = omega arith
note_within (Some k) ok n h = omega (arith, h)

-- ---- numbers that rise
and_assoc : (a b d : Bool) → (a && (b && d)) ≡ ((a && b) && d)
and_assoc true b d = refl
and_assoc false b d = refl

and_one : (b : Bool) → (b && true) ≡ b
and_one true = refl
and_one false = refl

pub rises_push : (before : Option ℕ) (rs : List ℕ) (r : ℕ) → rises_from before (rs ++ r ∷ []) ≡ (rises_from before rs && is_behind nat_cmp (last_from (λ x. x) before rs) r)
rises_push before [] r = and_one (is_behind nat_cmp before r)
rises_push before (q ∷ qs) r = ap (λ b. is_behind nat_cmp before q && b) (rises_push (Some q) qs r) ∙ and_assoc (is_behind nat_cmp before q) (rises_from (Some q) qs) (is_behind nat_cmp (last_from (λ x. x) (Some q) qs) r)

pub last_number : (before : Option ℕ) (rs : List ℕ) (r : ℕ) → last_from (λ x. x) before (rs ++ r ∷ []) ≡ Some r
last_number before [] r = refl
last_number before (q ∷ qs) r = last_number (Some q) qs r

less : (a b : ℕ) → is_lt (nat_cmp a b) ≡ nat_lt a b
less a b = elim (cases_Bool (nat_lt a b)) [
  | inl t ↦ rw t refl
  | inr f ↦ rw f (elim (cases_Bool (a == b)) [ inl t ↦ rw t refl | inr f ↦ rw f refl ])
]

-- one number more, behind the one at the place before
pub rises_more : (rs : List ℕ) (i : ℕ) → 0 < i → i < length rs → rises (take (i + 1) rs) ≡ (rises (take i rs) && nat_lt (get_or rs (i - 1) 0) (get_or rs i 0))
rises_more rs i some lt =
    let r : ℕ = get_or rs i 0 in
    let b : ℕ = get_or rs (i - 1) 0 in
    let same : i - 1 + 1 ≡ i = omega arith in
    let front : take i rs ≡ take (i - 1) rs ++ b ∷ [] = ap (λ n. take n rs) (sym same) ∙ take_more rs (i - 1) 0 (omega arith) in
    let last : last_from (λ (x : ℕ). x) None (take i rs) ≡ Some b = ap (last_from (λ (x : ℕ). x) None) front ∙ last_number None (take (i - 1) rs) b in
    ap rises (take_more rs i 0 lt) ∙ rises_push None (take i rs) r ∙ ap (λ k. rises (take i rs) && is_behind nat_cmp k r) last ∙ ap (λ t. rises (take i rs) && t) (less b r)
