use Rattle.std.proofs.Common.{rules, sym, ◌∙◌}
use Rattle.std.specs.Prelude.{bytes_eq}
use Rattle.std.specs.Ordering.{nat_cmp, is_lt}
use Rattle.std.specs.Cmp.Lexicographic.{slice_cmp}
use Rattle.std.proofs.lemmas.Cmp.{nat_list_cmp_total}
use Rattle.std.proofs.lemmas.Fn.{always_returns_same}
use Rattle.std.proofs.lemmas.List.{length-map}
use Rattle.std.proofs.lemmas.List.Sorted.{list_any-IsPermutation, ranks_by}
use Rattle.nostr_filter.specs.Members.{text_at}
use Rattle.nostr_filter.specs.TagOrders.{key_of, keys_of}
use Rattle.nostr_filter.proofs.order.ordered.Goals as goal

pub returns : goal.returns
returns c =
    let keys = keys_of c.args.tags.now in
    record {
      all = λ text. sym (list_any-IsPermutation (λ p. bytes_eq (text_at keys p) text) c.in_ok-places.places.items c.sort_unstable_by.new.self.items c.sort_unstable_by.ensures.permutation) ∙ c.in_ok-places.ensures keys (length-map c.args.tags.now key_of ∙ sym c.len.ensures) text;
      ascend = c.sort_unstable_by.ensures.sorted (λ a b. is_lt (slice_cmp nat_cmp (text_at keys a) (text_at keys b))) (ranks_by nat_list_cmp_total (text_at keys)) (always_returns_same _ _ _ (λ a r g called. search (rules, c.in_ok-keys.ensures)));
    }
