use Rattle.std.proofs.Common.{ap, sym, ◌∙◌, take}
use Rattle.nostr_filter.specs.Choice.{newest_first, in_order, cut_of}
use Rattle.event_table.proofs.Ranked.{picked_are}
use Rattle.event_table.proofs.choosing.chosen_at.Goals as goal

pub returns : goal.returns
returns c events same =
    let f = c.args.filter.now in
    c.keep_first.ensures ∙ ap (λ rs. take (cut_of f) (in_order newest_first rs)) c.in_ok-ranks.ensures ∙ sym (picked_are f events c.args.list.now same)
