use Rattle.std.proofs.Common.{◌∷◌, List, ℕ, subst}
use Rattle.std.specs.List.{All}
use Rattle.std.specs.Str.{IsUtf8}
use Rattle.std.proofs.lemmas.List.Elements.{All-drop}
use Rattle.nostr_event.specs.Parts.{part, parts}
use Rattle.nostr_event.proofs.tags.Tag.split_first.Goals as goal

pub invariant_of-others : goal.invariant_of-others
invariant_of-others c =
    let bytes = c.self.inside.bytes.now in
    let start = c.self.inside.start in
    let end = c.in_ok-end.end.now in
    let ends = c.in_ok-end.ends.now in
    All-drop IsUtf8 1 (part bytes start end ∷ parts bytes end ends) (subst (λ (l : List ℕ). All IsUtf8 (parts bytes start l)) c.in_ok-end.ensures.cases.0 c.self.invariant)
