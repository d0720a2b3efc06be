use Rattle.std.proofs.Common.{◌++◌, ◌∙◌, sym, ap, string_bytes, flat_map, take, List, ℕ}
use Rattle.std.specs.List.{enumerate_from}
use Rattle.std.proofs.lemmas.List.{append_assoc}
use Rattle.mirror_core.specs.declared.end.End.{End}
use Rattle.session_run.specs.Lines.{end_line}
use Rattle.session_run.proofs.Ends.{one_more, all_taken}
use Rattle.session_run.proofs.text.put_ends.Goals as goal

abbrev line : ℕ × End → List ℕ
line p = end_line p.0 p.1

pub loop-relay-preserved : goal.loop-relay-preserved
loop-relay-preserved c =
    let put = string_bytes c.args.text.now in
    let before = flat_map line (take c.loop-relay.relay (enumerate_from 0 c.args.ends.now)) in
    let next = line (c.loop-relay.relay, c.index-ends-relay.result) in
    c.in_ok-put_end.ensures
    ∙ ap (λ zs. zs ++ next) c.loop-relay.invariant
    ∙ append_assoc put before next
    ∙ ap (λ zs. put ++ zs) (sym (one_more line c.args.ends.now c.loop-relay.relay c.index-ends-relay.result c.loop-relay-test.true c.index-ends-relay.is))

pub returns : goal.returns
returns c = c.loop-relay.invariant ∙ ap (λ zs. string_bytes c.args.text.now ++ zs) (all_taken line c.args.ends.now c.loop-relay.relay c.loop-relay-test.false)
