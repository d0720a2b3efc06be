use Rattle.std.proofs.Common.{◌≡◌, ◌++◌, IsUtf8, subst, sym, arith}
use Rattle.std.proofs.lemmas.Grind.{common_steps}
use Rattle.std.proofs.lemmas.Str.{IsUtf8-append}
use Rattle.nostr_event.specs.IdText.{string_text}
use Rattle.nostr_event.proofs.Utf8.{IsUtf8-string_text}
use Rattle.nostr_event.proofs.ids.put_quoted.Goals as goal

pub returns-clause-utf8 : goal.returns-clause-utf8
returns-clause-utf8 c =
    let whole : c.push-2.new.self.items ≡ c.args.out.now.items ++ string_text c.args.spelling c.args.bytes.now = grind (arith, common_steps) in
    λ text u. subst IsUtf8 (sym whole) (IsUtf8-append _ _ u (IsUtf8-string_text _ _ text))
