use Rattle.std.proofs.Common.{◌≡◌, ◌++◌, IsUtf8, rules, subst, sym}
use Rattle.std.proofs.lemmas.Str.{IsUtf8-append, IsUtf8-from_ascii}
use Rattle.nostr_event.proofs.ids.put_number.Goals as goal

pub returns-clause-utf8 : goal.returns-clause-utf8
returns-clause-utf8 c = λ u.
    let whole : c.extend_from_slice.new.self.items ≡ c.args.out.now.items ++ c.format.result.now = search rules in
    subst IsUtf8 (sym whole) (IsUtf8-append _ _ u (IsUtf8-from_ascii _ c.format.ensures.ascii))
