use Rattle.std.proofs.Common.{◌≡◌, ◌≢◌, [], Some, map, ap}
use Rattle.std.proofs.lemmas.Result.{IfOk-weaker}
use Rattle.serde_json.specs.View.{view}
use Rattle.nostr_wire.specs.Elements.{data_of}
use Rattle.nostr_wire.specs.Forms.{client_form, client_table}
use Rattle.nostr_wire.specs.Reading.{SayEach, IsMessage}
use Rattle.nostr_wire.specs.Writing.{array_of}
use Rattle.nostr_wire.specs.declared.messages.FromClient.TheVariants as client
use Rattle.nostr_wire.proofs.Arrays.{both, is_message}
use Rattle.nostr_wire.proofs.Several.{request_row}
use Rattle.nostr_wire.proofs.writing.client_value.Goals as goal

pub returns-in-Req-clause-message : goal.returns-in-Req-clause-message
returns-in-Req-clause-message c =
    let s = c.in-Req.sub in
    let fs = c.in-Req.filters in
    let m = client_form (client.Req s fs) in
    rw c.in-Req.is (IfOk-weaker c.request.result (λ v. (view v ≡ array_of m) × (SayEach m.said (map data_of m.said) × (fs ≢ []))) (λ v. IsMessage client_table (view v) m)
    (λ v h. is_message client_table m (view v) (ap Some (request_row s fs h.1.1)) h.1.0 h.0)
    (both c.request.result (λ v. view v ≡ array_of m) (λ v. SayEach m.said (map data_of m.said) × (fs ≢ [])) c.request.ensures.value
    (both c.request.result (λ v. SayEach m.said (map data_of m.said)) (λ v. fs ≢ []) c.request.ensures.says c.request.ensures.some)))
