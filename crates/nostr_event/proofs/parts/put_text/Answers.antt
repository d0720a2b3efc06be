use Rattle.std.proofs.Common.{◌≡◌, ◌++◌, ◌∷◌, [], length, length-append, arith, rules}
use Rattle.std.proofs.lemmas.List.Elements.{All-append, All-cons, All-nil}
use Rattle.std.specs.Str.{IsUtf8}
use Rattle.nostr_event.specs.Parts.{parts}
use Rattle.nostr_event.proofs.Parting.{rises_more, one_more_part}
use Rattle.nostr_event.proofs.parts.put_text.Goals as goal

pub returns-clause-are : goal.returns-clause-are
returns-clause-are c =
    let bytes = c.args.bytes.now.items in
    let ends = c.args.ends.now.items in
    let text = c.args.text.now in
    let grown : c.extend_from_slice.new.self.items ≡ bytes ++ text = search rules in
    let ended : c.push.new.self.items ≡ ends ++ length (bytes ++ text) ∷ [] = search (rules, length-append bytes text) in
    rw (grown, ended) record {
      rise = rises_more 0 ends (length bytes) (length (bytes ++ text)) c.requires.rise (omega (arith, length-append bytes text));
      texts = rw (one_more_part bytes text 0 ends c.requires.rise) (All-append IsUtf8 (parts bytes 0 ends) (text ∷ []) c.requires.texts (All-cons IsUtf8 text [] c.utf8.text (All-nil IsUtf8)));
    }

pub returns-clause-more : goal.returns-clause-more
returns-clause-more c =
    let bytes = c.args.bytes.now.items in
    let ends = c.args.ends.now.items in
    let text = c.args.text.now in
    let grown : c.extend_from_slice.new.self.items ≡ bytes ++ text = search rules in
    let ended : c.push.new.self.items ≡ ends ++ length (bytes ++ text) ∷ [] = search (rules, length-append bytes text) in
    rw (grown, ended) (one_more_part bytes text 0 ends c.requires.rise)
