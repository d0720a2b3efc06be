-- What is read is spelled so.
use Rattle.std.proofs.Common.{◌≡◌, ℕ, zero, suc, ◌+◌, ◌<◌, ◌≤◌, inl, inr, Bool, true, false, cond, ltb, List, ◌++◌, length, get_or, take, drop, Result, Ok, Err, refl, sym, ap, subst, ◌∙◌, append_assoc, arith}
use Rattle.std.proofs.lemmas.Bool.{ltb-true, ltb-false, lt-ltb}
use Rattle.std.proofs.lemmas.List.{drop_at, take-append-drop, length-take, get_or-drop, get_or-take, get_or_past}
use Rattle.std.proofs.lemmas.Bool.{cases_lt}
use Rattle.neg_varint.specs.declared.VarintFault.{VarintFault}
use Rattle.neg_varint.specs.Spelling.{IsSpelling}
use Rattle.neg_varint.specs.Reading.{number_at}
use Rattle.neg_varint.proofs.Laws.{number_takes}
use Rattle.item_key.specs.declared.Item.{Item}
use Rattle.neg_codec.specs.declared.CodecFault.{CodecFault}
use Rattle.neg_codec.specs.declared.CodecFault.TheVariants as fault
use Rattle.item_key.specs.Keys.{place, endless}
use Rattle.neg_codec.specs.Text.{IsBound, SpellsBound}
use Rattle.neg_codec.specs.Reading.{◌>>=◌, place_in, varint_at, front_at, time_of_code, bound_of, bound_at}

abbrev pub IsBytes : List ℕ → Type 0
IsBytes bytes = (i : ℕ) → get_or bytes i 0 < 256

IsBytes-drop : (n : ℕ) (bytes : List ℕ) → IsBytes bytes → IsBytes (drop n bytes)
IsBytes-drop n bytes h i = rw get_or-drop (h (n + i))

IsBytes-take : (n : ℕ) (bytes : List ℕ) → IsBytes bytes → IsBytes (take n bytes)
IsBytes-take n bytes h i =
    elim (cases_lt i n) [
      | inl lt ↦ rw (get_or-take n bytes i 0 lt) (h i)
      | inr le ↦ rw (get_or_past (take n bytes) i 0 (omega (arith, length-take n bytes))) (omega arith)
    ]

-- ---- steps

pub bind_ok : {A B : Type 0} (r : Result A CodecFault) (f : A → Result B CodecFault) (y : B) → (r >>= f) ≡ Ok y → (x : A) × (r ≡ Ok x) × (f x ≡ Ok y)
bind_ok (Ok x) f y e = (x, refl, e)
bind_ok (Err d) f y e = absurd cc

-- a test that did not fail, on either side
pub past : {A : Type 0} (b : Bool) (d : CodecFault) (r : Result A CodecFault) (y : A) → cond b (Err d) r ≡ Ok y → (b ≡ false) × (r ≡ Ok y)
past true d r y e = absurd cc
past false d r y e = (refl, e)

pub within : {A : Type 0} (b : Bool) (d : CodecFault) (r : Result A CodecFault) (y : A) → cond b r (Err d) ≡ Ok y → (b ≡ true) × (r ≡ Ok y)
within true d r y e = (refl, e)
within false d r y e = absurd cc

abbrev pub done : {A : Type 0} → A → Result A CodecFault
done x = Ok x

abbrev pub failed : {A : Type 0} → CodecFault → Result A CodecFault
failed d = Err d

pub no_error : {A : Type 0} (d : CodecFault) (y : A) → failed d ≡ done y → ⊥
no_error d y e = cc

pub ok_is : {A : Type 0} (x y : A) → done x ≡ done y → x ≡ y
ok_is x y e = cc

-- what a reader took from the front
pub record Takes (bytes text rest : List ℕ) : Type 0 where
  pub parts : bytes ≡ text ++ rest
  pub rest_fits : IsBytes rest

pub Takes-then : (a x b y c : List ℕ) → Takes a x b → Takes b y c → Takes a (x ++ y) c
Takes-then a x b y c p q = record { parts = p.parts ∙ ap (λ (t : List ℕ). x ++ t) q.parts ∙ sym (append_assoc x y c); rest_fits = q.rest_fits }

fits_after : (bytes text rest : List ℕ) → IsBytes bytes → bytes ≡ text ++ rest → IsBytes rest
fits_after bytes text rest fits e = subst IsBytes (ap (drop (length text)) e ∙ drop_at text rest (length text) refl) (IsBytes-drop (length text) bytes fits)

-- ---- numbers

pub record Varint (n : ℕ) (bytes rest : List ℕ) : Type 0 where
  pub text : List ℕ
  pub takes : Takes bytes text rest
  pub spelling : IsSpelling n text

number_ok : (total : ℕ) (bytes : List ℕ) (r : Result (ℕ × List ℕ) VarintFault) (x : ℕ × List ℕ) → number_at bytes ≡ r → varint_at total bytes ≡ Ok x → number_at bytes ≡ Ok x
unfolding varint_at
number_ok total bytes (Ok y) x e h = let k : done y ≡ done x = subst (λ (r : Result (ℕ × List ℕ) VarintFault). elim r as (λ _. Result (ℕ × List ℕ) CodecFault) [ Ok x ↦ Ok x | Err e ↦ Err (fault.Varint (place_in total bytes)) ] ≡ Ok x) e h in e ∙ ap (λ (z : ℕ × List ℕ). Ok z) (ok_is y x k)
number_ok total bytes (Err d) x e h = absurd (let k : Err (fault.Varint (place_in total bytes)) ≡ done x = subst (λ (r : Result (ℕ × List ℕ) VarintFault). elim r as (λ _. Result (ℕ × List ℕ) CodecFault) [ Ok x ↦ Ok x | Err e ↦ Err (fault.Varint (place_in total bytes)) ] ≡ Ok x) e h in cc)

pub varint_takes : (total : ℕ) (bytes : List ℕ) (n : ℕ) (rest : List ℕ) → IsBytes bytes → varint_at total bytes ≡ Ok (n, rest) → Varint n bytes rest
varint_takes total bytes n rest fits e =
    let number = number_takes bytes n rest fits (number_ok total bytes (number_at bytes) (n, rest) refl e) in
    record { text = number.text; takes = record { parts = number.parts; rest_fits = fits_after bytes number.text rest fits number.parts }; spelling = number.spelling }

pub front_takes : (total n : ℕ) (bytes a rest : List ℕ) → IsBytes bytes → front_at total n bytes ≡ Ok (a, rest) → Takes bytes a rest × (length a ≡ n) × IsBytes a
unfolding front_at
front_takes total n bytes a rest fits e =
    let g = past (ltb (length bytes) n) (fault.Truncated (place_in total bytes)) (done (take n bytes, drop n bytes)) (a, rest) e in
    let long : n ≤ length bytes = ltb-false _ _ g.0 in
    let same = ok_is (take n bytes, drop n bytes) (a, rest) g.1 in
    subst (λ (p : List ℕ × List ℕ). Takes bytes p.0 p.1 × (length p.0 ≡ n) × IsBytes p.0) same
    (record { parts = sym (take-append-drop n bytes); rest_fits = IsBytes-drop n bytes fits }, omega (arith, length-take n bytes), IsBytes-take n bytes fits)

-- ---- bounds

bound_is : (start before code t : ℕ) (front : List ℕ) → time_of_code start before code ≡ Ok t → IsBound before code front (bound_of t front)
unfolding time_of_code
bound_is start before zero t front e = let same : endless ≡ t = ok_is endless t e in rw (← same) refl
bound_is start before (suc more) t front e =
    let g = within (ltb (before + more) endless) (fault.TimeTooLarge start) (done (before + more)) t e in
    let same : before + more ≡ t = ok_is (before + more) t g.1 in
    let lt : before + more < endless = ltb-true _ _ g.0 in
    let test : ltb t endless ≡ true = lt-ltb t endless (omega (arith, same, lt)) in
    rw test (sym same, omega (arith, same, lt), refl)

pub record Bounded (lower upper : Item) (bytes rest : List ℕ) : Type 0 where
  pub text : List ℕ
  pub takes : Takes bytes text rest
  pub spelling : SpellsBound lower.time upper text
  pub ascends : place lower ≤ place upper

pub bound_takes : (total : ℕ) (lower : Item) (bytes : List ℕ) (x : Item × List ℕ) → IsBytes bytes → bound_at total lower bytes ≡ Ok x → Bounded lower x.0 bytes x.1
unfolding bound_at
bound_takes total lower bytes x fits e =
    let last = λ (time : ℕ) (front : List ℕ × List ℕ). cond (ltb (place (bound_of time front.0)) (place lower)) (Err (fault.Descending (place_in total bytes))) (done (bound_of time front.0, front.1)) in
    let third = λ (rest : List ℕ) (time : ℕ) (len : ℕ × List ℕ). cond (ltb 32 len.0) (Err (fault.PrefixLength (place_in total rest))) (front_at total len.0 len.1) >>= last time in
    let a = bind_ok (varint_at total bytes) (λ code. time_of_code (place_in total bytes) lower.time code.0 >>= λ time. varint_at total code.1 >>= third code.1 time) x e in
    let b = bind_ok (time_of_code (place_in total bytes) lower.time a.0.0) (λ time. varint_at total a.0.1 >>= third a.0.1 time) x a.2 in
    let c = bind_ok (varint_at total a.0.1) (third a.0.1 b.0) x b.2 in
    let d = bind_ok (cond (ltb 32 c.0.0) (Err (fault.PrefixLength (place_in total a.0.1))) (front_at total c.0.0 c.0.1)) (last b.0) x c.2 in
    let g = past (ltb 32 c.0.0) (fault.PrefixLength (place_in total a.0.1)) (front_at total c.0.0 c.0.1) d.0 d.1 in
    let h = past (ltb (place (bound_of b.0 d.0.0)) (place lower)) (fault.Descending (place_in total bytes)) (done (bound_of b.0 d.0.0, d.0.1)) x d.2 in
    let code = varint_takes total bytes a.0.0 a.0.1 fits a.1 in
    let len = varint_takes total a.0.1 c.0.0 c.0.1 code.takes.rest_fits c.1 in
    let front = front_takes total c.0.0 c.0.1 d.0.0 d.0.1 len.takes.rest_fits g.1 in
    let inner = Takes-then a.0.1 len.text c.0.1 d.0.0 d.0.1 len.takes front.0 in
    let whole = Takes-then bytes code.text a.0.1 (len.text ++ d.0.0) d.0.1 code.takes inner in
    let le : place lower ≤ place (bound_of b.0 d.0.0) = ltb-false _ _ h.0 in
    let short : c.0.0 ≤ 32 = ltb-false _ _ g.0 in
    let made : Item × List ℕ = (bound_of b.0 d.0.0, d.0.1) in
    let spelling : SpellsBound lower.time (bound_of b.0 d.0.0) (code.text ++ (len.text ++ d.0.0)) = record {
      code = a.0.0;
      code_text = code.text;
      length_text = len.text;
      front = d.0.0;
      parts = refl;
      code_is = code.spelling;
      length_is = subst (λ (n : ℕ). IsSpelling n len.text) (sym front.1) len.spelling;
      short = omega (arith, front.1, short);
      bound = bound_is (place_in total bytes) lower.time a.0.0 b.0 d.0.0 b.1;
    } in
    let all : Bounded lower made.0 bytes made.1 = record { text = code.text ++ (len.text ++ d.0.0); takes = whole; spelling = spelling; ascends = le } in
    subst (λ (y : Item × List ℕ). Bounded lower y.0 bytes y.1) (ok_is made x h.1) all
