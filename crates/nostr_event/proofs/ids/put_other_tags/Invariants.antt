use Rattle.std.proofs.Common.{◌≡◌, ◌∷◌, ◌++◌, flat_map, IsUtf8}
use Rattle.nostr_event.specs.IdText.{tag_text}
use Rattle.nostr_event.proofs.ids.put_other_tags.Given as goal

abbrev pub invariant-loop-tag : goal.invariant-loop-tag
invariant-loop-tag l = record {
  text : l.out.items ++ flat_map (λ v. 44 ∷ tag_text l.spelling v) l.tag-iterator ≡ l.initial.out.items ++ flat_map (λ v. 44 ∷ tag_text l.spelling v) l.fn.tags;
  utf8 : IsUtf8 l.initial.out.items → IsUtf8 l.out.items;
}
