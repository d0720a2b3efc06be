use Rattle.std.proofs.Common.{rules, ◌<◌, length, inl, refl}
use Rattle.mirror_settings.proofs.Colons.{no_colon}
use Rattle.mirror_settings.proofs.url.is_host.Goals as goal

pub returns-else-contains : goal.returns-else-contains
returns-else-contains c =
    let some : 0 < length c.args.host.now = search rules in
    (λ y. (some, inl (no_colon c.args.host.now c.if-contains.ensures.cases)), λ h. refl)
