-- The members of a list, and the order in which they are looked up.
use Rattle.std.specs.Prelude.{◌≡◌, ℕ, Bool, List, [], bytes_eq, slice_index_or, IsSortedBy}
use Rattle.std.specs.List.{list_any}
use Rattle.std.specs.Ordering.{nat_cmp, is_lt}
use Rattle.std.specs.Cmp.Lexicographic.{slice_cmp}

-- one of the texts is this one
abbrev pub has_text : List (List ℕ) → List ℕ → Bool
has_text texts text = list_any (λ t. bytes_eq t text) texts

-- the text at the place, or an empty one
abbrev pub text_at : List (List ℕ) → ℕ → List ℕ
text_at texts place = slice_index_or texts place []

-- the text is at one of the places
abbrev pub is_at : List (List ℕ) → List ℕ → List ℕ → Bool
is_at texts places text = list_any (λ p. bytes_eq (text_at texts p) text) places

-- the places of the texts, in the order of the texts' bytes
pub record AreInOrder (texts : List (List ℕ)) (places : List ℕ) : Type 0 where
  pub all : (text : List ℕ) → is_at texts places text ≡ has_text texts text
  pub ascend : IsSortedBy (λ a b. is_lt (slice_cmp nat_cmp (text_at texts a) (text_at texts b))) places
