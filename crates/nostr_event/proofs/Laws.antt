-- A JSON value has the fields of at most one event, and what refuses it leaves none.
use Rattle.std.proofs.Common.{◌≡◌, ◌≢◌, ℕ, List, nat_lt, None, Some, true, refl, sym, codes, subst, rules}
use Rattle.hex.specs.Hex.{encode_lower}
use Rattle.serde_json.specs.Data.{Data, unsigned, number, string, array}
use Rattle.serde_json.specs.Find.{get}
use Rattle.nostr_event.specs.declared.fault.EventField.{EventField}
use Rattle.nostr_event.specs.declared.fault.EventField.TheVariants.{Object, Id as IdField, Pubkey, CreatedAt, Kind, Tags, Content, Sig}
use Rattle.nostr_event.specs.declared.fault.EventFault.{EventFault}
use Rattle.nostr_event.specs.declared.fault.EventFault.TheVariants.{Shape, Hex, Range, WrongId, Memory}
use Rattle.nostr_event.specs.EventView.{EventView, IsBytesOf, IsIdOf}
use Rattle.nostr_event.specs.EventJson.{HasFields, Passes, Reads, Refuses, IsFirstNotHex, first_failing, shape_tests, range_tests, tags_items}
use Rattle.nostr_event.proofs.Injective.{encode_lower-injective, tags_items-injective}
use Rattle.nostr_event.proofs.FieldTests.{object_from_get}
use Rattle.nostr_event.proofs.Find.{tags_are}

text_at : (name : List ℕ) (d : Data) (s t : List ℕ) → get name d ≡ Some (string s) → get name d ≡ Some (string t) → s ≡ t
text_at name d s t p q = cc

number_at : (name : List ℕ) (d : Data) (m n : ℕ) → get name d ≡ Some (number (unsigned m)) → get name d ≡ Some (number (unsigned n)) → m ≡ n
number_at name d m n p q = cc

tags_at : (name : List ℕ) (d : Data) (s t : List (List (List ℕ))) → get name d ≡ Some (array (tags_items s)) → get name d ≡ Some (array (tags_items t)) → s ≡ t
tags_at name d s t p q =
    let same : tags_items s ≡ tags_items t = cc in
    tags_items-injective s t same

bytes_at : (name : List ℕ) (n : ℕ) (d : Data) (s t : List ℕ) → IsBytesOf n s → IsBytesOf n t → get name d ≡ Some (string (encode_lower s)) → get name d ≡ Some (string (encode_lower t)) → s ≡ t
bytes_at name n d s t fits also p q = encode_lower-injective s t fits.1 also.1 (text_at name d (encode_lower s) (encode_lower t) p q)

event_of : List ℕ → List ℕ → ℕ → ℕ → List (List (List ℕ)) → List ℕ → List ℕ → EventView
event_of id pubkey created_at kind tags content sig = record {
  id = record { 0 = id };
  draft = record { pubkey = pubkey; created_at = created_at; kind = kind; tags = tags; content = content };
  sig = sig;
}

pub one_event : (d : Data) (a b : EventView) → HasFields d a → HasFields d b → b ≡ a
unfolding event_of
one_event d a b p q =
    let id = bytes_at (codes "id") 32 d b.id.0 a.id.0 q.in_range.id p.in_range.id q.id p.id in
    let pubkey = bytes_at (codes "pubkey") 32 d b.draft.pubkey a.draft.pubkey q.in_range.pubkey p.in_range.pubkey q.pubkey p.pubkey in
    let created_at = number_at (codes "created_at") d b.draft.created_at a.draft.created_at q.created_at p.created_at in
    let kind = number_at (codes "kind") d b.draft.kind a.draft.kind q.kind p.kind in
    let tags = tags_at (codes "tags") d b.draft.tags a.draft.tags q.tags p.tags in
    let content = text_at (codes "content") d b.draft.content a.draft.content q.content p.content in
    let sig = bytes_at (codes "sig") 64 d b.sig a.sig q.in_range.sig p.in_range.sig q.sig p.sig in
    let same : event_of b.id.0 b.draft.pubkey b.draft.created_at b.draft.kind b.draft.tags b.draft.content b.sig
    ≡ event_of a.id.0 a.draft.pubkey a.draft.created_at a.draft.kind a.draft.tags a.draft.content a.sig = cc in
    same

shapes_pass : (d : Data) (e : EventView) → HasFields d e → first_failing (shape_tests d) ≡ None
shapes_pass d e h = rw (object_from_get (codes "id") d _ h.id, h.id, h.pubkey, h.created_at, h.kind, h.tags, tags_are e.draft.tags, h.content, h.sig) refl

ranges_pass : (d : Data) (e : EventView) → HasFields d e → first_failing (range_tests d) ≡ None
ranges_pass d e h =
    let finite : nat_lt e.draft.created_at 18446744073709551615 ≡ true = search rules in
    let fits : nat_lt e.draft.kind 65536 ≡ true = search rules in
    rw (h.created_at, finite, h.kind, fits) refl

-- what has the fields of an event passes all tests
pub fields_pass : (d : Data) (e : EventView) → HasFields d e → Passes d
fields_pass d e h = (shapes_pass d e h, ((e.id.0, h.in_range.id, h.id), (e.draft.pubkey, h.in_range.pubkey, h.pubkey), (e.sig, h.in_range.sig, h.sig)), ranges_pass d e h)

all_hex : (d : Data) (e : EventView) (f : EventField) → HasFields d e → ¬ IsFirstNotHex d f
all_hex d e Object h = λ n. n
all_hex d e IdField h = λ n. n (e.id.0, h.in_range.id, h.id)
all_hex d e Pubkey h = λ n. n.1 (e.draft.pubkey, h.in_range.pubkey, h.pubkey)
all_hex d e CreatedAt h = λ n. n
all_hex d e Kind h = λ n. n
all_hex d e Tags h = λ n. n
all_hex d e Content h = λ n. n
all_hex d e Sig h = λ n. n.2 (e.sig, h.in_range.sig, h.sig)

pub refused_none : (d : Data) (f : EventFault) → Refuses d f → f ≢ Memory → (e : EventView) → ¬ Reads d e
refused_none d (Shape f) refused other e = λ r.
    let passed : first_failing (shape_tests d) ≡ None = shapes_pass d e r.0 in
    cc
refused_none d (Hex f) refused other e = λ r. all_hex d e f r.0 refused.1
refused_none d (Range f) refused other e = λ r.
    let passed : first_failing (range_tests d) ≡ None = ranges_pass d e r.0 in
    let failed = refused.2 in
    cc
refused_none d WrongId refused other e = λ r.
    let same : refused.0 ≡ e = one_event d e refused.0 r.0 refused.1 in
    refused.2 (subst (λ (v : EventView). IsIdOf v.id v.draft) (sym same) r.1)
refused_none d Memory refused other e = λ r. other refl
