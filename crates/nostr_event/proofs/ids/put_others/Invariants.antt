use Rattle.std.proofs.Common.{◌≡◌, ◌∷◌, ◌++◌, flat_map, IsUtf8}
use Rattle.nostr_event.specs.IdText.{string_text}
use Rattle.nostr_event.proofs.ids.put_others.Given as goal

abbrev pub invariant-loop-value : goal.invariant-loop-value
invariant-loop-value l = record {
  text : l.out.items ++ flat_map (λ v. 44 ∷ string_text l.spelling v) l.value-iterator ≡ l.initial.out.items ++ flat_map (λ v. 44 ∷ string_text l.spelling v) l.fn.values;
  utf8 : IsUtf8 l.initial.out.items → IsUtf8 l.out.items;
}
