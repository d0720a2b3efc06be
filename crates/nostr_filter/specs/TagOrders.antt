-- What conditions on tags are looked up by.
use Rattle.std.specs.Prelude.{ℕ, List, [], ◌∷◌, map, IfSome}
use Rattle.nostr_filter.specs.Members.{AreInOrder}
use Rattle.nostr_filter.specs.declared.order.Key.{Key}
use Rattle.nostr_filter.specs.declared.order.Key.TheVariants.{Tagged, None}
use Rattle.nostr_filter.specs.declared.order.TagOrder.{TagOrder}

-- a name of one letter and the first value behind it, in one text; nothing of another tag
abbrev pub key_of : List (List ℕ) → List ℕ
key_of ((x ∷ []) ∷ value ∷ more) = x ∷ value
key_of _ = []

abbrev pub key_is : Key → List ℕ
key_is (Tagged letter value) = letter ∷ value.now
key_is None = []

abbrev pub keys_of : List (List (List ℕ)) → List (List ℕ)
keys_of tags = map key_of tags

-- the places, if there are any, are those of the tags in the order of their keys
abbrev pub IsOrderOf : List (List (List ℕ)) → TagOrder → Type 0
IsOrderOf tags order = IfSome order.places (λ p. AreInOrder (keys_of tags) p.items)
