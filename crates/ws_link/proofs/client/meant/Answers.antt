use Rattle.std.proofs.Common.{refl}
use Rattle.ws_link.proofs.Hearing.{is_other}
use Rattle.ws_link.proofs.client.meant.Goals as goal

pub returns-in-Err-Kind-clause-means : goal.returns-in-Err-Kind-clause-means
returns-in-Err-Kind-clause-means c = λ form reads. absurd (c.in-Err-Kind.ensures.no_message (is_other _ _ c.in-Err-Kind.field-0-is refl) form reads)

pub returns-in-Err-Event-clause-means : goal.returns-in-Err-Event-clause-means
returns-in-Err-Event-clause-means c = λ form reads. absurd (c.in-Err-Event.ensures.no_message (is_other _ _ c.in-Err-Event.field-0-is refl) form reads)

pub returns-in-Err-Filter-clause-means : goal.returns-in-Err-Filter-clause-means
returns-in-Err-Filter-clause-means c = λ form reads. absurd (c.in-Err-Filter.ensures.no_message (is_other _ _ c.in-Err-Filter.field-0-is refl) form reads)
