use Rattle.std.proofs.Common.{◌∙◌, ap}
use Rattle.nostr_filter.proofs.Tagged.{any_tag, none_named}
use Rattle.nostr_filter.proofs.tested.has_tags.Goals as goal

pub returns : goal.returns
returns c = λ e x. none_named x c.args.members.now.entries (c.loop-name.invariant ∙ ap any_tag c.in-None.ensures.steps.0)
