use Rattle.std.proofs.Common.{arith}
use Rattle.std.proofs.lemmas.Grind.{common_steps}
use Rattle.nostr_event.proofs.Plain.{plain_front}
use Rattle.nostr_event.proofs.ids.put_run.Goals as goal

pub returns-in_ok-put_byte-in-Some-clause-text : goal.returns-in_ok-put_byte-in-Some-clause-text
returns-in_ok-put_byte-in-Some-clause-text c =
    rw (plain_front c.args.spelling c.args.bytes.now c.plain_len.result c.plain_len.ensures.plain) (grind (arith, common_steps))

pub returns-in-None-clause-text : goal.returns-in-None-clause-text
returns-in-None-clause-text c =
    rw (plain_front c.args.spelling c.args.bytes.now c.plain_len.result c.plain_len.ensures.plain) (grind (arith, common_steps))
