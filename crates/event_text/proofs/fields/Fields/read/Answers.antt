use Rattle.std.proofs.Common.{◌≡◌, codes, rules}
use Rattle.hex.specs.Hex.{encode_lower}
use Rattle.serde_json.specs.Data.{unsigned, number, string, array}
use Rattle.nostr_event.specs.EventJson.{tags_items}
use Rattle.event_text.proofs.Members.{put_id, put_pubkey, put_created_at, put_kind, put_tags, put_content, put_sig}
use Rattle.event_text.proofs.fields.Fields.read.Goals as goal

pub returns-in_ok-bytes32_in-in-id-clause-ok : goal.returns-in_ok-bytes32_in-in-id-clause-ok
returns-in_ok-bytes32_in-in-id-clause-ok c =
    let x = c.in_ok-bytes32_in-in-id.field-0 in
    let named : c.args.name.now ≡ codes "id" = search rules in
    (string (encode_lower x), c.in_ok-bytes32_in-in-id.ensures.ok c.args.depth, λ found h. rw named (put_id found c.args.self.now x c.in_ok-bytes32_in-in-id.ensures.bytes h))

pub returns-in_ok-bytes32_in-in-pubkey-clause-ok : goal.returns-in_ok-bytes32_in-in-pubkey-clause-ok
returns-in_ok-bytes32_in-in-pubkey-clause-ok c =
    let x = c.in_ok-bytes32_in-in-pubkey.field-0 in
    let named : c.args.name.now ≡ codes "pubkey" = search rules in
    (string (encode_lower x), c.in_ok-bytes32_in-in-pubkey.ensures.ok c.args.depth, λ found h. rw named (put_pubkey found c.args.self.now x c.in_ok-bytes32_in-in-pubkey.ensures.bytes h))

pub returns-in_ok-below_in-in-created_at-clause-ok : goal.returns-in_ok-below_in-in-created_at-clause-ok
returns-in_ok-below_in-in-created_at-clause-ok c =
    let x = c.in_ok-below_in-in-created_at.field-0 in
    let named : c.args.name.now ≡ codes "created_at" = search rules in
    (number (unsigned x), c.in_ok-below_in-in-created_at.ensures.ok c.args.depth, λ found h. rw named (put_created_at found c.args.self.now x c.in_ok-below_in-in-created_at.ensures.below h))

pub returns-in_ok-below_in-in-kind-clause-ok : goal.returns-in_ok-below_in-in-kind-clause-ok
returns-in_ok-below_in-in-kind-clause-ok c =
    let x = c.in_ok-below_in-in-kind.field-0 in
    let named : c.args.name.now ≡ codes "kind" = search rules in
    (number (unsigned x), c.in_ok-below_in-in-kind.ensures.ok c.args.depth, λ found h. rw named (put_kind found c.args.self.now x c.in_ok-below_in-in-kind.ensures.below h))

pub returns-in_ok-tags_in-in-tags-clause-ok : goal.returns-in_ok-tags_in-in-tags-clause-ok
returns-in_ok-tags_in-in-tags-clause-ok c =
    let x = c.in_ok-tags_in-in-tags.field-0 in
    let named : c.args.name.now ≡ codes "tags" = search rules in
    (array (tags_items x), c.in_ok-tags_in-in-tags.ensures.ok, λ found h. rw named (put_tags found c.args.self.now x h))

pub returns-in_ok-str_in-in-content-clause-ok : goal.returns-in_ok-str_in-in-content-clause-ok
returns-in_ok-str_in-in-content-clause-ok c =
    let x = c.in_ok-str_in-in-content.field-0 in
    let named : c.args.name.now ≡ codes "content" = search rules in
    (string x.now, c.in_ok-str_in-in-content.ensures.ok c.args.depth, λ found h. rw named (put_content found c.args.self.now x h))

pub returns-in_ok-bytes64_in-in-sig-clause-ok : goal.returns-in_ok-bytes64_in-in-sig-clause-ok
returns-in_ok-bytes64_in-in-sig-clause-ok c =
    let x = c.in_ok-bytes64_in-in-sig.field-0 in
    let named : c.args.name.now ≡ codes "sig" = search rules in
    (string (encode_lower x), c.in_ok-bytes64_in-in-sig.ensures.ok c.args.depth, λ found h. rw named (put_sig found c.args.self.now x c.in_ok-bytes64_in-in-sig.ensures.bytes h))
