use Rattle.std.proofs.Common.{◌≡◌, ◌+◌, drop}
use Rattle.nostr_filter.specs.Sizes.{texts_size}
use Rattle.nostr_filter.proofs.sizes.behind_texts.Given as goal

abbrev pub invariant-loop-text : goal.invariant-loop-text
invariant-loop-text l = l.left + texts_size l.texts ≡ l.room + texts_size (drop l.text-index l.texts)
