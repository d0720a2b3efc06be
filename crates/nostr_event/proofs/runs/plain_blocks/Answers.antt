use Rattle.std.proofs.Common.{◌+◌, arith, rules}
use Rattle.nostr_event.proofs.Plain.{plain_more}
use Rattle.nostr_event.proofs.runs.plain_blocks.Goals as goal

pub loop-len-preserved : goal.loop-len-preserved
loop-len-preserved c =
    let len = c.loop-len.len in
    record {
      bound = omega arith;
      plain = plain_more c.args.bytes.now len (len + 16) (omega arith) c.loop-len.invariant.plain (search rules);
    }
