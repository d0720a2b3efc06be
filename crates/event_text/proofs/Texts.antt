-- Values read one after another.
use Rattle.std.proofs.Common.{◌≡◌, ℕ, ◌-◌, ◌<◌, ◌==◌, List, [], ◌∷◌, ◌++◌, map, length, get_or, Option, Some, None, false, IfSome, refl, ap, ◌∙◌, subst, arith}
use Rattle.std.specs.Prelude.{option_map}
use Rattle.fast_float.specs.Text.{scan}
use Rattle.json.specs.Token.{Token}
use Rattle.json.specs.Lex.{tokens}
use Rattle.json.specs.Json.{parse_map, after_end_array, read_key, items, members, value}
use Rattle.json.proofs.Grammar.{value_is, value-begin_array, value-begin_object}
use Rattle.serde_json.specs.Data.{Num, Data, Members, no_members, unsigned, number, string, array, object, item, put}
use Rattle.serde_json.specs.Read.{of_json, converted, number_of, number_from, read}
use Rattle.serde_json.specs.View.{items_of}
use Rattle.event_text.specs.Tokens.{IsNext, Gives, GivesMembers}
use Rattle.event_text.proofs.Turns.{converted-array, converted-object, item_read, items_over, member_read, members_over, whole_read}

pub string_next : (depth : ℕ) (ts r : List Token) (s : List ℕ) → ts ≡ Token.string s ∷ r → IsNext depth ts (string s) r
string_next depth ts r s is = ap (converted of_json) (ap (value depth) is ∙ value_is depth _)

pub number_next : (depth : ℕ) (ts r : List Token) (s : List ℕ) (n : Num) → ts ≡ Token.number s ∷ r → number_of s ≡ Some n → IsNext depth ts (number n) r
number_next depth ts r s n is e = ap (converted of_json) (ap (value depth) is ∙ value_is depth _) ∙ ap (λ o. option_map (λ d. (d, r)) (option_map number o)) e

pub whole_number : (s : List ℕ) (o : Option ℕ) → (get_or s 0 0 == 45) ≡ false → IfSome o (λ n. number_from false (scan s) ≡ Some (unsigned n)) → IfSome o (λ n. number_of s ≡ Some (unsigned n))
unfolding number_of
whole_number s None above h = tt
whole_number s (Some n) above h = rw above h

pub array_next : (depth : ℕ) (ts us r : List Token) (ds : List Data) → 0 < depth → ts ≡ Token.begin_array ∷ us → Gives (depth - 1) us ds r → IsNext depth ts (array (items_of ds)) r
array_next depth ts us r ds some is gives =
    ap (converted of_json) (ap (value depth) is ∙ value-begin_array depth us some) ∙ converted-array (items (value (depth - 1)) (length us) us)
    ∙ ap (parse_map array) (gives (length us) (omega arith))

pub object_next : (depth : ℕ) (ts us r : List Token) (all : Members) → 0 < depth → ts ≡ Token.begin_object ∷ us → GivesMembers (depth - 1) us no_members all r → IsNext depth ts (object all) r
object_next depth ts us r all some is gives =
    ap (converted of_json) (ap (value depth) is ∙ value-begin_object depth us some) ∙ converted-object (members (value (depth - 1)) (length us) us)
    ∙ ap (parse_map object) (gives (length us) (omega arith))

-- ---- elements

-- an array's end gives no element
pub end_gives : (depth : ℕ) (ts r : List Token) → after_end_array ts ≡ Some r → Gives depth ts [] r
end_gives depth ts r over n enough = items_over (value depth) n ts r enough over

-- an element, and those behind it
pub one_gives : (depth : ℕ) (ts r : List Token) (d : Data) → after_end_array ts ≡ None → IsNext depth ts d r → length r < length ts
    → (ds : List Data) (rest : List Token) → Gives depth r ds rest → Gives depth ts (d ∷ ds) rest
one_gives depth ts r d going found less ds rest more n enough =
    item_read (value depth) n ts r d (omega (arith, less, enough)) going found ∙ ap (parse_map (item d)) (more (n - 1) (omega (arith, less, enough)))

module _ {X : Type 0} (value_of : X → Data) where
  behind : (xs : List X) (x : X) (more : List Data) → map value_of xs ++ value_of x ∷ more ≡ map value_of (xs ++ x ∷ []) ++ more
  behind [] x more = refl
  behind (y ∷ xs) x more = ap (λ l. value_of y ∷ l) (behind xs x more)

  none_behind : (xs : List X) → map value_of xs ++ [] ≡ map value_of xs
  none_behind [] = refl
  none_behind (x ∷ xs) = ap (λ l. value_of x ∷ l) (none_behind xs)

  -- a turn of a loop that began at `first`
  pub turn_gives : (depth : ℕ) (first ts r : List Token) (xs : List X) (x : X) → after_end_array ts ≡ None → IsNext depth ts (value_of x) r → length r < length ts
      → ((more : List Data) (rest : List Token) → Gives depth ts more rest → Gives depth first (map value_of xs ++ more) rest)
      → (more : List Data) (rest : List Token) → Gives depth r more rest → Gives depth first (map value_of (xs ++ x ∷ []) ++ more) rest
  turn_gives depth first ts r xs x going found less before more rest gives =
      subst (λ l. Gives depth first l rest) (behind xs x more) (before (value_of x ∷ more) rest (one_gives depth ts r (value_of x) going found less more rest gives))

  -- the loop's end
  pub all_gives : (depth : ℕ) (first ts r : List Token) (xs : List X) → after_end_array ts ≡ Some r
      → ((more : List Data) (rest : List Token) → Gives depth ts more rest → Gives depth first (map value_of xs ++ more) rest) → Gives depth first (map value_of xs) r
  all_gives depth first ts r xs over before = subst (λ l. Gives depth first l r) (none_behind xs) (before [] r (end_gives depth ts r over))

-- ---- members

pub end_gives_members : (depth : ℕ) (ts r : List Token) (found : Members) → read_key ts ≡ Some (None, r) → GivesMembers depth ts found found r
end_gives_members depth ts r found over n enough = members_over (value depth) found n ts r enough over

pub one_gives_members : (depth : ℕ) (ts s r : List Token) (k : List ℕ) (d : Data) (found : Members) → read_key ts ≡ Some (Some k, s) → IsNext depth s d r → length r < length ts
    → (all : Members) (rest : List Token) → GivesMembers depth r (put k d found) all rest → GivesMembers depth ts found all rest
one_gives_members depth ts s r k d found key is less all rest more n enough =
    member_read (value depth) found n k ts s r d (omega (arith, less, enough)) key is ∙ more (n - 1) (omega (arith, less, enough))

-- ---- the whole text

pub text_read : (text : List ℕ) (d : Data) → IsNext 127 (tokens text) d [] → read text ≡ Some d
text_read text d is = whole_read (value 127 (tokens text)) d is

-- ---- where a value is next, no array ends

pub next_going : (depth : ℕ) (ts r : List Token) (d : Data) → IsNext depth ts d r → after_end_array ts ≡ None
next_going depth [] r d h = refl
next_going depth (Token.begin_object ∷ ts) r d h = refl
next_going depth (Token.end_object ∷ ts) r d h = refl
next_going depth (Token.begin_array ∷ ts) r d h = refl
next_going depth (Token.end_array ∷ ts) r d h =
    let none : converted of_json (value depth (Token.end_array ∷ ts)) ≡ None = ap (converted of_json) (value_is depth (Token.end_array ∷ ts)) in
    absurd (cc)
next_going depth (Token.key s ∷ ts) r d h = refl
next_going depth (Token.string s ∷ ts) r d h = refl
next_going depth (Token.number s ∷ ts) r d h = refl
next_going depth (Token.boolean b ∷ ts) r d h = refl
next_going depth (Token.null ∷ ts) r d h = refl
next_going depth (Token.bad ∷ ts) r d h = refl
