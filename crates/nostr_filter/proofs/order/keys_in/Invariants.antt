use Rattle.std.proofs.Common.{◌≡◌, ◌++◌, map}
use Rattle.nostr_filter.specs.TagOrders.{key_is, keys_of}
use Rattle.nostr_filter.proofs.order.keys_in.Given as goal

abbrev pub invariant-loop-tag : goal.invariant-loop-tag
invariant-loop-tag l = map key_is l.keys.items ++ keys_of l.tag-iterator ≡ keys_of l.tags
