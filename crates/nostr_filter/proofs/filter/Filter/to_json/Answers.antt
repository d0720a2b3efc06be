use Rattle.nostr_filter.proofs.ReadsBack.{object_of-Reads}
use Rattle.nostr_filter.proofs.filter.Filter.to_json.Goals as goal

pub returns-clause-reads_back : goal.returns-clause-reads_back
returns-clause-reads_back c =
    let up = rw c.as_slice-tags.ensures.list at c.as_slice-tags.ensures.in_order in
    rw c.in_ok-value.ensures.object (object_of-Reads c.args.self.now up c.in_ok-value.ensures.authors c.in_ok-value.ensures.ids c.in_ok-value.ensures.kinds)
