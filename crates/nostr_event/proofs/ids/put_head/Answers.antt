use Rattle.std.proofs.Common.{◌≡◌, ◌++◌, ◌∷◌, [], IsUtf8, subst, sym, arith, rules, refl}
use Rattle.std.proofs.lemmas.Str.{IsUtf8-append}
use Rattle.nostr_event.proofs.Utf8.{after_ascii, digits_utf8, IsUtf8-are_ascii}
use Rattle.nostr_event.proofs.ids.put_head.Goals as goal

pub returns-clause-utf8 : goal.returns-clause-utf8
returns-clause-utf8 c = λ u.
    let head : c.extend_from_slice.new.self.items ≡ c.args.out.now.items ++ 91 ∷ 48 ∷ 44 ∷ [] = search rules in
    let begun : IsUtf8 c.extend_from_slice.new.self.items = subst IsUtf8 (sym head) (IsUtf8-append _ _ u (IsUtf8-are_ascii _ refl)) in
    let digits : IsUtf8 c.digits32_of.result = subst IsUtf8 (sym c.digits32_of.ensures) (digits_utf8 _) in
    let key = c.in_ok-put_quoted.ensures.utf8 digits begun in
    let time = c.in_ok-put_number.ensures.utf8 (after_ascii _ _ 44 c.in_ok-push.ensures.items (omega arith) key) in
    let kind = c.in_ok-put_number-2.ensures.utf8 (after_ascii _ _ 44 c.in_ok-push-2.ensures.items (omega arith) time) in
    after_ascii _ _ 44 c.in_ok-push-3.ensures.items (omega arith) kind
