use Rattle.std.proofs.Common.{rules, refl, sym, ◌∙◌}
use Rattle.std.specs.Prelude.{bytes_eq}
use Rattle.std.specs.Ordering.{nat_cmp, is_lt}
use Rattle.std.specs.Cmp.Lexicographic.{slice_cmp}
use Rattle.std.proofs.lemmas.Cmp.{nat_list_cmp_total}
use Rattle.std.proofs.lemmas.Fn.{always_returns_same}
use Rattle.std.proofs.lemmas.List.Sorted.{list_any-IsPermutation, ranks_by}
use Rattle.nostr_filter.specs.Members.{text_at}
use Rattle.nostr_filter.proofs.members.order_of.Goals as goal

pub returns : goal.returns
returns c =
    let texts = c.args.texts.now in
    record {
      all = λ text. sym (list_any-IsPermutation (λ p. bytes_eq (text_at texts p) text) c.in_ok-places.places.items c.sort_unstable_by.new.self.items c.sort_unstable_by.ensures.permutation) ∙ c.in_ok-places.ensures texts refl text;
      ascend = c.sort_unstable_by.ensures.sorted (λ a b. is_lt (slice_cmp nat_cmp (text_at texts a) (text_at texts b))) (ranks_by nat_list_cmp_total (text_at texts)) (always_returns_same _ _ _ (λ a r g called. search rules));
    }
