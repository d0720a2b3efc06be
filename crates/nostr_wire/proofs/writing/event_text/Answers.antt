use Rattle.std.proofs.Common.{◌≡◌, ◌≤◌, ◌++◌, ◌∙◌, [], ◌∷◌, ap, ap₂, refl, subst}
use Rattle.std.specs.Arc.{arc_value}
use Rattle.std.specs.String.{string_bytes}
use Rattle.json.specs.Lex.{tokens}
use Rattle.json.specs.Tree as tree
use Rattle.serde_json.specs.Read.{max_depth}
use Rattle.serde_json.specs.Written.{outline, compact_text}
use Rattle.nostr_event.specs.EventJson.{Reads, object_of}
use Rattle.nostr_wire.specs.Forms.{event_form, relay_table}
use Rattle.nostr_wire.specs.Writing.{array_of, text_of}
use Rattle.nostr_wire.proofs.Arrays.{is_message}
use Rattle.nostr_wire.proofs.Plain.{array_of-plain}
use Rattle.nostr_event.proofs.Rereading.{depth_same, text_read}
use Rattle.nostr_wire.proofs.Texts.{event_tokens, event_read, event_written}
use Rattle.nostr_wire.proofs.writing.event_text.Goals as goal
use Rattle.nostr_wire.proofs.writing.event_text.Goals.{In_ok-push_str-2}

text_is : (c : In_ok-push_str-2) → string_bytes c.push_str-2.new.self ≡ text_of (event_form c.args.name.now (arc_value c.args.event.now))
text_is c =
    let text = c.text-text.ensures.text ∙ ap (λ e. compact_text (object_of e)) c.deref.ensures in
    let begun = c.in_ok-reserve.ensures.bytes ∙ c.in_ok-out.ensures.text in
    let both = c.in_ok-push_str.ensures.bytes ∙ ap₂ (λ t u. t ++ u) begun text in
    c.in_ok-push_str-2.ensures.bytes ∙ ap (λ t. t ++ 93 ∷ []) both ∙ event_written c.args.name.now (arc_value c.args.event.now)

pub returns-clause-text : goal.returns-clause-text
returns-clause-text c = text_is c

pub returns-clause-reads_back : goal.returns-clause-reads_back
returns-clause-reads_back c =
    let m = event_form c.args.name.now (arc_value c.args.event.now) in
    let reads = subst (λ e. Reads (object_of e) e) c.deref.ensures c.text-text.ensures.reads_back in
    let same = ap tokens (text_is c) ∙ event_tokens c.args.name.now (arc_value c.args.event.now) reads.0.in_range in
    let shallow : tree.depth (outline (array_of m)) ≤ max_depth = rw (depth_same (array_of m)) (array_of-plain m).1 in (
      array_of m,
      text_read _ _ same (event_read c.args.name.now (arc_value c.args.event.now) reads.0.in_range) shallow,
      is_message relay_table m (array_of m) refl ((refl, c.in_ok-out.ensures.name), (reads, tt)) refl,
    )
