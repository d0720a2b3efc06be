use Rattle.std.proofs.Common.{◌≡◌, [], ◌∷◌, ◌++◌, rules}
use Rattle.ws_serve.proofs.Holding.{held_more}
use Rattle.ws_serve.proofs.outbox.Outbox.put_later.Goals as goal

pub returns-clause-whole : goal.returns-clause-whole
returns-clause-whole g c =
    let items : c.push_back.new.self.items ≡ c.self.inside.later.items ++ c.args.message ∷ [] = search rules in
    rw (← c.self.view_is, items) (held_more c.self.inside.wire c.self.inside.later.items c.args.message)
