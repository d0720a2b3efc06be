use Rattle.std.proofs.Common.{inl, inr, sym, subst, ◌∙◌}
use Rattle.mirror_settings.specs.Relays.{IsHost}
use Rattle.mirror_settings.proofs.Urls.{same_host}
use Rattle.mirror_settings.proofs.url.authority_of.Goals as goal

pub returns-else-is_host-2-clause-none : goal.returns-else-is_host-2-clause-none
returns-else-is_host-2-clause-none c a is =
    let found = c.in-Some.ensures.found in
    elim is.2 [
      | inl e ↦
          (let same = same_host (record { host = c.in-Some.host.now; port = c.in-Some.port }) a found.0.1 is.1 (sym found.1 ∙ e) in
          let yes = c.if-is_host-2.ensures.1 (subst IsHost (sym same) is.0) in
          cc)
      | inr h ↦
          (let yes = c.if-is_host.ensures.1 (subst IsHost (sym h.0) is.0) in
          cc)
    ]
