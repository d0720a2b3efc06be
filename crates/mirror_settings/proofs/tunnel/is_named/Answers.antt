use Rattle.std.proofs.Common.{lit<}
use Rattle.std.proofs.lemmas.Str.Pattern.{NoCharPasses-char}
use Rattle.mirror_settings.proofs.Tables.{authority_there}
use Rattle.mirror_settings.proofs.tunnel.is_named.Goals as goal

pub returns : goal.returns
returns c =
    let there = authority_there c.args.host.now c.authority_of.result c.is_some.result c.is_some.ensures c.authority_of.ensures.found c.authority_of.ensures.none in (
      λ yes. (c.is_graphic.ensures.0 c.if-not-is_graphic.false, λ i below. NoCharPasses-char 47 c.args.host.now i c.if-contains.ensures.cases (lit< tt) below, there.0 yes),
      λ named. there.1 named.2,
    )
