use Rattle.std.proofs.Common.{◌≡◌, ◌++◌, map, take}
use Rattle.nostr_event.specs.Parts.{parts, AreTexts}
use Rattle.nostr_event.proofs.parts.put_texts.Given as goal

abbrev pub invariant-loop-text : goal.invariant-loop-text
invariant-loop-text l = record {
  are : AreTexts l.bytes.items l.ends.items;
  more : parts l.bytes.items 0 l.ends.items ≡ parts l.initial.bytes.items 0 l.initial.ends.items ++ map (λ t. t.now) (take l.text-index l.texts);
}
