-- What the text of an event is read as.
use Rattle.std.proofs.Common.{◌≡◌, ◌≤◌, ℕ, suc, max, List, [], ◌∷◌, Some, option_and_then, refl, sym, ap, ap₂, ◌∙◌, append-nil, arith}
use Rattle.hex.proofs.HexLemmas.{decode_of-encode_lower}
use Rattle.json.specs.Lex.{tokens}
use Rattle.json.specs.Json as json
use Rattle.json.specs.Tree as tree
use Rattle.json.specs.Tree.{json_tokens, HasNumbers, ItemsHaveNumbers}
use Rattle.json.proofs.Printed.Decimals.{IsNumber-decimal}
use Rattle.json.proofs.Printed.Tokens.{tokens-print}
use Rattle.json.proofs.Printed.Trees.{value-json_tokens, ArePrintable-json_tokens}
use Rattle.serde_json.specs.Data.{Data, null, boolean, number, string, array, object, Items, no_items, item, Members, no_members, member, depth, items_depth, members_depth}
use Rattle.serde_json.specs.Read.{of_json, read, max_depth}
use Rattle.serde_json.specs.Written.{outline, items_outline, members_outline, compact_text}
use Rattle.serde_json.proofs.OnLiterals.{serde_json_on_literals}
use Rattle.serde_json.proofs.Texts.{print-outline}
use Rattle.item_key.specs.declared.Id.{Id}
use Rattle.nostr_event.specs.declared.draft.Draft.{Draft}
use Rattle.nostr_event.specs.EventView.{EventView, IsInRange}
use Rattle.nostr_event.specs.EventJson.{tag_items, tags_items, object_of}
use Rattle.nostr_event.specs.Said.{bytes_or_none, content_in, sig_in, event_with}
use Rattle.nostr_event.proofs.Printed.{object_read}

mutual
  pub depth_same : (d : Data) → tree.depth (outline d) ≡ depth d
  depth_same null = refl
  depth_same (boolean b) = refl
  depth_same (number n) = refl
  depth_same (string s) = refl
  depth_same (array ds) = ap suc (items_depth_same ds)
  depth_same (object ms) = ap suc (members_depth_same ms)

  items_depth_same : (ds : Items) → tree.items_depth (items_outline ds) ≡ items_depth ds
  items_depth_same no_items = refl
  items_depth_same (item d ds) = ap₂ max (depth_same d) (items_depth_same ds)

  members_depth_same : (ms : Members) → tree.members_depth (members_outline ms) ≡ members_depth ms
  members_depth_same no_members = refl
  members_depth_same (member k d ms) = ap₂ max (depth_same d) (members_depth_same ms)

pub text_read : (text : List ℕ) (d : Data) → tokens text ≡ json_tokens (outline d) → of_json (outline d) ≡ Some d → tree.depth (outline d) ≤ max_depth → read text ≡ Some d
text_read text d same back shallow =
    let found = ap (json.value max_depth) (same ∙ sym (append-nil (json_tokens (outline d)))) ∙ value-json_tokens (outline d) max_depth [] shallow in
    ap (λ v. option_and_then of_json (option_and_then (λ p. json.if_last p.0 p.1) v)) found ∙ back

-- ---- the numbers and the depth of an event

tag_numbers : (texts : List (List ℕ)) → ItemsHaveNumbers (items_outline (tag_items texts))
tag_numbers [] = tt
tag_numbers (t ∷ ts) = (tt, tag_numbers ts)

tags_numbers : (tags : List (List (List ℕ))) → ItemsHaveNumbers (items_outline (tags_items tags))
tags_numbers [] = tt
tags_numbers (t ∷ ts) = (tag_numbers t, tags_numbers ts)

pub event_numbers : (e : EventView) → IsInRange e → HasNumbers (outline (object_of e))
event_numbers e h =
    let time = IsNumber-decimal e.draft.created_at (omega (arith, h.finite)) in
    let kind = IsNumber-decimal e.draft.kind (omega (arith, h.kind)) in
    (tt, (time, (tt, (kind, (tt, (tt, (tags_numbers e.draft.tags, tt)))))))

tag_depth : (texts : List (List ℕ)) → items_depth (tag_items texts) ≤ 1
tag_depth [] = omega arith
tag_depth (t ∷ ts) = omega (arith, tag_depth ts)

tags_depth : (tags : List (List (List ℕ))) → items_depth (tags_items tags) ≤ 2
tags_depth [] = omega arith
tags_depth (t ∷ ts) = omega (arith, tag_depth t, tags_depth ts)

event_depth : (e : EventView) → depth (object_of e) ≤ max_depth
event_depth e = omega (arith, tags_depth e.draft.tags)

-- ---- its text

event_tokens : (e : EventView) → IsInRange e → tokens (compact_text (object_of e)) ≡ json_tokens (outline (object_of e))
event_tokens e h =
    let d = object_of e in
    ap tokens (sym (print-outline d)) ∙ tokens-print (json_tokens (outline d)) (ArePrintable-json_tokens (outline d) (event_numbers e h))

pub event_read : (e : EventView) → IsInRange e → read (compact_text (object_of e)) ≡ Some (object_of e)
event_read e h =
    let shallow : tree.depth (outline (object_of e)) ≤ max_depth = rw (depth_same (object_of e)) (event_depth e) in
    text_read _ _ (event_tokens e h) (object_read e h) shallow

pub one_value : {a b : Data} → Some a ≡ Some b → a ≡ b
one_value h = cc

content_said : (e : EventView) → IsInRange e → content_in (compact_text (object_of e)) ≡ e.draft.content
unfolding content_in serde_json_on_literals
content_said e h = rw (event_read e h) refl

sig_said : (e : EventView) → IsInRange e → sig_in (compact_text (object_of e)) ≡ e.sig
unfolding sig_in serde_json_on_literals
sig_said e h = rw (event_read e h) (ap bytes_or_none (decode_of-encode_lower e.sig h.sig.1))

-- an event is what its parts and its text say
pub event_said : (e : EventView) (text : List ℕ) → IsInRange e → text ≡ compact_text (object_of e) → event_with e.id e.draft.pubkey e.draft.created_at e.draft.kind e.draft.tags text ≡ e
event_said e text h is =
    let content : content_in text ≡ e.draft.content = ap content_in is ∙ content_said e h in
    let sig : sig_in text ≡ e.sig = ap sig_in is ∙ sig_said e h in
    ap₂ (λ (c s : List ℕ). record { id = e.id; draft = record { pubkey = e.draft.pubkey; created_at = e.draft.created_at; kind = e.draft.kind; tags = e.draft.tags; content = c }; sig = s }) content sig

-- the same of parts that are given together
pub parts_said : (id : Id) (d : Draft) (sig : List ℕ) (parts : List ℕ × ℕ × ℕ × List (List (List ℕ))) (text : List ℕ) → parts ≡ (d.pubkey, d.created_at, d.kind, d.tags) → IsInRange (record { id = id; draft = d; sig = sig })
    → text ≡ compact_text (object_of (record { id = id; draft = d; sig = sig })) → event_with id parts.0 parts.1 parts.2 parts.3 text ≡ record { id = id; draft = d; sig = sig }
parts_said id d sig parts text are h is =
    ap (λ (p : List ℕ × ℕ × ℕ × List (List (List ℕ))). event_with id p.0 p.1 p.2 p.3 text) are ∙ event_said (record { id = id; draft = d; sig = sig }) text h is
