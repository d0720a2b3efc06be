-- A connection keeps its role.
use Rattle.std.proofs.Common.{◌≡◌, ℕ, Bool, true, false, List, ◌++◌, length, Option, None, Some, Result, Ok, Err, refl, ap, ◌∙◌, inl, inr}
use Rattle.std.specs.Prelude.{OnOk, OnErr}
use Rattle.std.proofs.lemmas.Bool.Decides.{leb_tells}
use Rattle.websocket.specs.declared.error.Error.{Error}
use Rattle.websocket.specs.declared.protocol.incomplete.MessageType.{MessageType}
use Rattle.websocket.specs.declared.protocol.incomplete.MessageType.TheVariants as Kind
use Rattle.websocket.specs.declared.protocol.frame.coding.CloseCode.{CloseCode}
use Rattle.websocket.specs.declared.protocol.frame.coding.OpCode.{OpCode}
use Rattle.websocket.specs.declared.protocol.frame.coding.OpCode.TheVariants as Op
use Rattle.websocket.specs.declared.protocol.frame.coding.Data.{Data}
use Rattle.websocket.specs.declared.protocol.frame.coding.Data.TheVariants.{Continue, Text, Binary}
use Rattle.websocket.specs.declared.protocol.frame.coding.Control.{Control}
use Rattle.websocket.specs.declared.protocol.frame.coding.Control.TheVariants.{Close, Ping, Pong}
use Rattle.websocket.specs.declared.protocol.frame.codec.FrameStatus.{FrameStatus}
use Rattle.websocket.specs.declared.protocol.context.Step.{Step}
use Rattle.websocket.specs.declared.protocol.frame.codec.FrameStatus.TheVariants.{Partial, Complete}
use Rattle.websocket.specs.Frame.{check_size}
use Rattle.websocket.specs.Text.{is_utf8}
use Rattle.websocket.specs.View.{ReadLeaves}
use Rattle.websocket.specs.Connection.{Connection, Effect, failed_connection, can_write, has_allowed_code, decode_close, on_close, on_short_control, on_control, complete_message, check_so_far, deliver, on_message_bytes, on_data_after, on_data, check_header, on_opcode, on_frame, read_step}
use Rattle.websocket.proofs.DecodeLemmas.{ltb_false, ltb_true}
use Rattle.websocket.proofs.StreamLemmas.{after_check_passed, TookFrame_from_read}

abbrev Stays : Connection → Effect → Type 0
Stays conn effect = effect.next.role ≡ conn.role

ok_is : {A : Type 0} {a b : A} → ◌≡◌ {A = Result A Error} (Ok a) (Ok b) → b ≡ a
ok_is e = cc e

close_cases : (conn : Connection) (payload : List ℕ) (frame : Option (CloseCode × List ℕ)) (active allowed : Bool) (effect : Effect) → can_write conn.state ≡ active → has_allowed_code frame ≡ allowed → on_close conn payload (Ok frame) ≡ Ok effect → Stays conn effect
close_cases conn payload frame false allowed effect state code is = rw (ok_is is, state) refl
close_cases conn payload frame true true effect state code is = rw (ok_is is, state, code) refl
close_cases conn payload frame true false effect state code is = rw (ok_is is, state, code) refl

on_close_stays : (conn : Connection) (payload : List ℕ) (r : Result (Option (CloseCode × List ℕ)) Error) (effect : Effect) → on_close conn payload r ≡ Ok effect → Stays conn effect
on_close_stays conn payload (Err e) effect is = absurd (cc is)
on_close_stays conn payload (Ok frame) effect is = close_cases conn payload frame _ _ effect refl refl is

short_control_stays : (conn : Connection) (control : Control) (payload : List ℕ) (effect : Effect) → on_short_control conn control payload ≡ Ok effect → Stays conn effect
short_control_stays conn Close payload effect is = on_close_stays conn payload (decode_close payload) effect is
short_control_stays conn Pong payload effect is = rw (ok_is is) refl
short_control_stays conn Ping payload effect is = rw (ok_is is) refl

on_control_stays : (conn : Connection) (control : Control) (is_final : Bool) (payload : List ℕ) (effect : Effect) → on_control conn control is_final payload ≡ Ok effect → Stays conn effect
unfolding on_control
on_control_stays conn control false payload effect is = absurd (cc is)
on_control_stays conn control true payload effect is =
    elim (leb_tells (length payload) 125) [
      | inl p ↦ short_control_stays conn control payload effect (rw (ltb_false 125 (length payload) p.1) at is)
      | inr p ↦ absurd (cc (rw (ltb_true 125 (length payload) p.1) at is))
    ]

text_stays : (conn : Connection) (bs : List ℕ) (valid : Bool) (effect : Effect) → is_utf8 bs ≡ valid → deliver conn (complete_message Kind.Text bs) ≡ Ok effect → Stays conn effect
text_stays conn bs false effect test is = absurd (cc (rw test at is))
text_stays conn bs true effect test is = rw (ok_is (rw test at is)) refl

delivered_stays : (conn : Connection) (kind : MessageType) (bs : List ℕ) (effect : Effect) → deliver conn (complete_message kind bs) ≡ Ok effect → Stays conn effect
delivered_stays conn Kind.Text bs effect is = text_stays conn bs _ effect refl is
delivered_stays conn Kind.Binary bs effect is = rw (ok_is is) refl

on_message_bytes_stays : (conn : Connection) (kind : MessageType) (is_final : Bool) (bs : List ℕ) (effect : Effect) → on_message_bytes conn kind is_final bs ≡ Ok effect → Stays conn effect
unfolding on_message_bytes
on_message_bytes_stays conn kind true bs effect is =
    delivered_stays conn kind bs effect (after_check_passed (check_size (length bs) conn.config.max_message_size) _ effect is)
on_message_bytes_stays conn kind false bs effect is =
    let kept = after_check_passed (check_so_far kind bs) _ effect (after_check_passed (check_size (length bs) conn.config.max_message_size) _ effect is) in
    rw (ok_is kept) refl

on_data_after_stays : (conn : Connection) (fragments : Option (MessageType × List ℕ)) (kind : Data) (is_final : Bool) (payload : List ℕ) (effect : Effect) → on_data_after conn fragments kind is_final payload ≡ Ok effect → Stays conn effect
on_data_after_stays conn None Continue is_final payload effect is = absurd (cc is)
on_data_after_stays conn None Text is_final payload effect is = on_message_bytes_stays conn Kind.Text is_final payload effect is
on_data_after_stays conn None Binary is_final payload effect is = on_message_bytes_stays conn Kind.Binary is_final payload effect is
on_data_after_stays conn (Some p) Continue is_final payload effect is = on_message_bytes_stays conn p.0 is_final (p.1 ++ payload) effect is
on_data_after_stays conn (Some p) Text is_final payload effect is = absurd (cc is)
on_data_after_stays conn (Some p) Binary is_final payload effect is = absurd (cc is)

on_opcode_stays : (conn : Connection) (op : OpCode) (is_final : Bool) (payload : List ℕ) (effect : Effect) → on_opcode conn op is_final payload ≡ Ok effect → Stays conn effect
unfolding on_data
on_opcode_stays conn (Op.Control control) is_final payload effect is = on_control_stays conn control is_final payload effect is
on_opcode_stays conn (Op.Data kind) is_final payload effect is = on_data_after_stays conn conn.fragments kind is_final payload effect is

pub role_stays : (conn : Connection) (bs : List ℕ) (p : ℕ × Effect) → read_step conn bs ≡ Ok (Complete p) → p.1.next.role ≡ conn.role
unfolding on_frame
role_stays conn bs p read =
    let took = TookFrame_from_read conn bs p read in
    on_opcode_stays conn took.header.opcode took.header.is_final took.payload p.1 (after_check_passed (check_header conn took.header) _ p.1 took.does)

leaves_role : (before after : Connection) (input old new : List ℕ) (s : Result (FrameStatus (ℕ × Effect)) Error) → read_step before input ≡ s → ReadLeaves s before after old new → after.role ≡ before.role
leaves_role before after input old new (Err e) is h = absurd h
leaves_role before after input old new (Ok (Partial needed)) is h = ap (λ (c : Connection). c.role) h.0
leaves_role before after input old new (Ok (Complete p)) is h = ap (λ (c : Connection). c.role) h.0 ∙ role_stays before input p is

pub read_role : (r : Result (FrameStatus Step) Error) (before after : Connection) (input old new : List ℕ)
    → OnOk r (ReadLeaves (read_step before input) before after old new) → OnErr r (after ≡ failed_connection before) → after.role ≡ before.role
read_role (Ok status) before after input old new h k = leaves_role before after input old new _ refl h
read_role (Err e) before after input old new h k = ap (λ (c : Connection). c.role) k
