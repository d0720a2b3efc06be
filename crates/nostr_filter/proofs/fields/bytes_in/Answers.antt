use Rattle.std.proofs.Common.{◌≡◌, ◌∙◌, Some, map, sym, ap, arith}
use Rattle.std.proofs.lemmas.List.{take_all}
use Rattle.std.proofs.lemmas.List.Elements.{All-push}
use Rattle.serde_json.specs.Find.{as_str}
use Rattle.serde_json.specs.View.{view}
use Rattle.nostr_event.specs.EventView.{IsBytesOf}
use Rattle.nostr_filter.specs.FilterJson.{hex_texts}
use Rattle.nostr_filter.proofs.Hexes.{hex_here, texts_more}
use Rattle.nostr_filter.proofs.Items.{each_some}
use Rattle.nostr_filter.proofs.fields.bytes_in.Goals as goal

pub unreachable-requires : goal.unreachable-requires
unreachable-requires c =
    c.hex_at.ensures.missing c.in_default.is (hex_here c.args.values.now c.loop-value.value-index c.value-item.result (omega arith) c.value-item.is c.loop-value.invariant.left).0

pub loop-value-preserved : goal.loop-value-preserved
loop-value-preserved c =
    let i = c.loop-value.value-index in
    let v = c.value-item.result in
    let b = c.in-Some.bytes in
    let l = c.loop-value.invariant in
    let one = c.in-Some.ensures.spelled in
    rw c.in_ok-push.ensures.items (record {
      texts = texts_more c.args.values.now i v b c.loop-value.list.items (omega arith) c.value-item.is l.texts one.1;
      bytes = All-push (IsBytesOf 32) c.loop-value.list.items b l.bytes one.0;
      left = (hex_here c.args.values.now i v (omega arith) c.value-item.is l.left).1;
    })

pub returns : goal.returns
returns c =
    let list = c.loop-value.list.items in
    let whole = take_all c.loop-value.value-index c.args.values.now (omega arith) in
    let all : map (λ v. as_str (view v)) c.args.values.now ≡ map Some (hex_texts list) = ap (map (λ v. as_str (view v))) (sym whole) ∙ c.loop-value.invariant.texts in
    rw c.in_ok-searchable.ensures (each_some as_str c.args.values.now (hex_texts list) all, c.loop-value.invariant.bytes)
