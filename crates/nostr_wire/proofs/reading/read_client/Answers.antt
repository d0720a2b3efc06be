use Rattle.std.proofs.lemmas.Result.{IfOk-weaker, IfErr-weaker}
use Rattle.nostr_wire.specs.Forms.{client_form, client_table}
use Rattle.nostr_wire.proofs.Few.{heard_whole}
use Rattle.nostr_wire.proofs.Laws.{one_message, refused_none}
use Rattle.nostr_wire.proofs.reading.read_client.Goals as goal

pub returns-clause-message : goal.returns-clause-message
returns-clause-message c = IfOk-weaker c.client_text-read.result _ _ (λ m hears. heard_whole c.args.text.now m hears) c.client_text-read.ensures.ok

pub returns-clause-no_other : goal.returns-clause-no_other
returns-clause-no_other c =
    IfOk-weaker c.client_text-read.result _ _ (λ m hears other also. one_message client_table c.args.text.now (client_form m) other (heard_whole c.args.text.now m hears) also) c.client_text-read.ensures.ok

pub returns-clause-no_message : goal.returns-clause-no_message
returns-clause-no_message c =
    IfErr-weaker c.client_text-read.result _ _ (λ f refused. refused_none client_table c.args.text.now f refused) c.client_text-read.ensures.err
