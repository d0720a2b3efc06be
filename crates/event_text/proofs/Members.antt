-- One field more.
use Rattle.std.proofs.Common.{◌≡◌, ◌<◌, ◌^◌, ℕ, List, Option, Some, None, false, true≢false, IfSome, Bor, refl, sym, ap, subst, ◌∙◌, codes}
use Rattle.std.specs.Prelude.{bytes_eq}
use Rattle.std.proofs.lemmas.Slice.Eq.{bytes_eq-Decides}
use Rattle.hex.specs.Hex.{encode_lower}
use Rattle.serde_json.specs.Data.{Data, Members, unsigned, number, string, array, object, put}
use Rattle.serde_json.specs.Find.{get_member}
use Rattle.serde_json.proofs.Views.{get_member-put, get_member-put_other}
use Rattle.item_key.specs.Keys.{endless}
use Rattle.nostr_event.specs.EventView.{EventView, IsBytesOf}
use Rattle.nostr_event.specs.EventJson.{HasFields, tags_items}
use Rattle.event_text.specs.declared.fields.Fields.{Fields}
use Rattle.event_text.specs.Fields.{Hold}

apart : (xs ys : List ℕ) → bytes_eq xs ys ≡ false → xs ≡ ys → ⊥
apart xs ys off e = true≢false (sym ((bytes_eq-Decides xs ys).1 e) ∙ off)

-- what is put at another name leaves a field as it was
kept : {X : Type 0} (o : Option X) (value : X → Data) (q k : List ℕ) (d : Data) (found : Members) → bytes_eq q k ≡ false
    → IfSome o (λ x. get_member q found ≡ Some (value x)) → IfSome o (λ x. get_member q (put k d found) ≡ Some (value x))
kept None value q k d found off h = tt
kept (Some x) value q k d found off h = get_member-put_other q k d found (apart q k off) ∙ h

abbrev bytes : List ℕ → Data
bytes b = string (encode_lower b)

abbrev whole : ℕ → Data
whole n = number (unsigned n)

pub put_id : (found : Members) (f : Fields) (b : List ℕ) → IsBytesOf 32 b → Hold found f → Hold (put (codes "id") (bytes b) found) (record { id = Some b; pubkey = f.pubkey; created_at = f.created_at; kind = f.kind; tags = f.tags; content = f.content; sig = f.sig })
put_id found f b fits h = record {
  id = get_member-put (codes "id") (bytes b) found;
  pubkey = kept f.pubkey bytes (codes "pubkey") (codes "id") (bytes b) found refl h.pubkey;
  created_at = kept f.created_at whole (codes "created_at") (codes "id") (bytes b) found refl h.created_at;
  kind = kept f.kind whole (codes "kind") (codes "id") (bytes b) found refl h.kind;
  tags = kept f.tags (λ t. array (tags_items t)) (codes "tags") (codes "id") (bytes b) found refl h.tags;
  content = kept f.content (λ s. string s.now) (codes "content") (codes "id") (bytes b) found refl h.content;
  sig = kept f.sig bytes (codes "sig") (codes "id") (bytes b) found refl h.sig;
  id_bytes = fits;
  pubkey_bytes = h.pubkey_bytes;
  finite = h.finite;
  low = h.low;
  sig_bytes = h.sig_bytes;
}

pub put_pubkey : (found : Members) (f : Fields) (b : List ℕ) → IsBytesOf 32 b → Hold found f → Hold (put (codes "pubkey") (bytes b) found) (record { id = f.id; pubkey = Some b; created_at = f.created_at; kind = f.kind; tags = f.tags; content = f.content; sig = f.sig })
put_pubkey found f b fits h = record {
  id = kept f.id bytes (codes "id") (codes "pubkey") (bytes b) found refl h.id;
  pubkey = get_member-put (codes "pubkey") (bytes b) found;
  created_at = kept f.created_at whole (codes "created_at") (codes "pubkey") (bytes b) found refl h.created_at;
  kind = kept f.kind whole (codes "kind") (codes "pubkey") (bytes b) found refl h.kind;
  tags = kept f.tags (λ t. array (tags_items t)) (codes "tags") (codes "pubkey") (bytes b) found refl h.tags;
  content = kept f.content (λ s. string s.now) (codes "content") (codes "pubkey") (bytes b) found refl h.content;
  sig = kept f.sig bytes (codes "sig") (codes "pubkey") (bytes b) found refl h.sig;
  id_bytes = h.id_bytes;
  pubkey_bytes = fits;
  finite = h.finite;
  low = h.low;
  sig_bytes = h.sig_bytes;
}

pub put_created_at : (found : Members) (f : Fields) (n : ℕ) → n < endless → Hold found f → Hold (put (codes "created_at") (whole n) found) (record { id = f.id; pubkey = f.pubkey; created_at = Some n; kind = f.kind; tags = f.tags; content = f.content; sig = f.sig })
put_created_at found f n fits h = record {
  id = kept f.id bytes (codes "id") (codes "created_at") (whole n) found refl h.id;
  pubkey = kept f.pubkey bytes (codes "pubkey") (codes "created_at") (whole n) found refl h.pubkey;
  created_at = get_member-put (codes "created_at") (whole n) found;
  kind = kept f.kind whole (codes "kind") (codes "created_at") (whole n) found refl h.kind;
  tags = kept f.tags (λ t. array (tags_items t)) (codes "tags") (codes "created_at") (whole n) found refl h.tags;
  content = kept f.content (λ s. string s.now) (codes "content") (codes "created_at") (whole n) found refl h.content;
  sig = kept f.sig bytes (codes "sig") (codes "created_at") (whole n) found refl h.sig;
  id_bytes = h.id_bytes;
  pubkey_bytes = h.pubkey_bytes;
  finite = fits;
  low = h.low;
  sig_bytes = h.sig_bytes;
}

pub put_kind : (found : Members) (f : Fields) (n : ℕ) → n < 2 ^ 16 → Hold found f → Hold (put (codes "kind") (whole n) found) (record { id = f.id; pubkey = f.pubkey; created_at = f.created_at; kind = Some n; tags = f.tags; content = f.content; sig = f.sig })
put_kind found f n fits h = record {
  id = kept f.id bytes (codes "id") (codes "kind") (whole n) found refl h.id;
  pubkey = kept f.pubkey bytes (codes "pubkey") (codes "kind") (whole n) found refl h.pubkey;
  created_at = kept f.created_at whole (codes "created_at") (codes "kind") (whole n) found refl h.created_at;
  kind = get_member-put (codes "kind") (whole n) found;
  tags = kept f.tags (λ t. array (tags_items t)) (codes "tags") (codes "kind") (whole n) found refl h.tags;
  content = kept f.content (λ s. string s.now) (codes "content") (codes "kind") (whole n) found refl h.content;
  sig = kept f.sig bytes (codes "sig") (codes "kind") (whole n) found refl h.sig;
  id_bytes = h.id_bytes;
  pubkey_bytes = h.pubkey_bytes;
  finite = h.finite;
  low = fits;
  sig_bytes = h.sig_bytes;
}

pub put_tags : (found : Members) (f : Fields) (t : List (List (List ℕ))) → Hold found f → Hold (put (codes "tags") (array (tags_items t)) found) (record { id = f.id; pubkey = f.pubkey; created_at = f.created_at; kind = f.kind; tags = Some t; content = f.content; sig = f.sig })
put_tags found f t h = record {
  id = kept f.id bytes (codes "id") (codes "tags") (array (tags_items t)) found refl h.id;
  pubkey = kept f.pubkey bytes (codes "pubkey") (codes "tags") (array (tags_items t)) found refl h.pubkey;
  created_at = kept f.created_at whole (codes "created_at") (codes "tags") (array (tags_items t)) found refl h.created_at;
  kind = kept f.kind whole (codes "kind") (codes "tags") (array (tags_items t)) found refl h.kind;
  tags = get_member-put (codes "tags") (array (tags_items t)) found;
  content = kept f.content (λ s. string s.now) (codes "content") (codes "tags") (array (tags_items t)) found refl h.content;
  sig = kept f.sig bytes (codes "sig") (codes "tags") (array (tags_items t)) found refl h.sig;
  id_bytes = h.id_bytes;
  pubkey_bytes = h.pubkey_bytes;
  finite = h.finite;
  low = h.low;
  sig_bytes = h.sig_bytes;
}

pub put_content : (found : Members) (f : Fields) (s : Bor (List ℕ)) → Hold found f → Hold (put (codes "content") (string s.now) found) (record { id = f.id; pubkey = f.pubkey; created_at = f.created_at; kind = f.kind; tags = f.tags; content = Some s; sig = f.sig })
put_content found f s h = record {
  id = kept f.id bytes (codes "id") (codes "content") (string s.now) found refl h.id;
  pubkey = kept f.pubkey bytes (codes "pubkey") (codes "content") (string s.now) found refl h.pubkey;
  created_at = kept f.created_at whole (codes "created_at") (codes "content") (string s.now) found refl h.created_at;
  kind = kept f.kind whole (codes "kind") (codes "content") (string s.now) found refl h.kind;
  tags = kept f.tags (λ t. array (tags_items t)) (codes "tags") (codes "content") (string s.now) found refl h.tags;
  content = get_member-put (codes "content") (string s.now) found;
  sig = kept f.sig bytes (codes "sig") (codes "content") (string s.now) found refl h.sig;
  id_bytes = h.id_bytes;
  pubkey_bytes = h.pubkey_bytes;
  finite = h.finite;
  low = h.low;
  sig_bytes = h.sig_bytes;
}

pub put_sig : (found : Members) (f : Fields) (b : List ℕ) → IsBytesOf 64 b → Hold found f → Hold (put (codes "sig") (bytes b) found) (record { id = f.id; pubkey = f.pubkey; created_at = f.created_at; kind = f.kind; tags = f.tags; content = f.content; sig = Some b })
put_sig found f b fits h = record {
  id = kept f.id bytes (codes "id") (codes "sig") (bytes b) found refl h.id;
  pubkey = kept f.pubkey bytes (codes "pubkey") (codes "sig") (bytes b) found refl h.pubkey;
  created_at = kept f.created_at whole (codes "created_at") (codes "sig") (bytes b) found refl h.created_at;
  kind = kept f.kind whole (codes "kind") (codes "sig") (bytes b) found refl h.kind;
  tags = kept f.tags (λ t. array (tags_items t)) (codes "tags") (codes "sig") (bytes b) found refl h.tags;
  content = kept f.content (λ s. string s.now) (codes "content") (codes "sig") (bytes b) found refl h.content;
  sig = get_member-put (codes "sig") (bytes b) found;
  id_bytes = h.id_bytes;
  pubkey_bytes = h.pubkey_bytes;
  finite = h.finite;
  low = h.low;
  sig_bytes = fits;
}

-- ---- all fields

of_some : {X : Type 0} (o : Option X) (x : X) (P : X → Type 0) → o ≡ Some x → IfSome o P → P x
of_some o x P is h = subst (λ p. IfSome p P) is h

pub id_of : (found : Members) (f : Fields) (b : List ℕ) → Hold found f → f.id ≡ Some b → (get_member (codes "id") found ≡ Some (bytes b)) × IsBytesOf 32 b
id_of found f b h is = (of_some f.id b _ is h.id, of_some f.id b _ is h.id_bytes)

pub has_fields : (found : Members) (f : Fields) (e : EventView) (text : Bor (List ℕ)) → Hold found f
    → f.id ≡ Some e.id.0 → f.pubkey ≡ Some e.draft.pubkey → f.created_at ≡ Some e.draft.created_at → f.kind ≡ Some e.draft.kind
    → f.tags ≡ Some e.draft.tags → f.content ≡ Some text → e.draft.content ≡ text.now → f.sig ≡ Some e.sig → HasFields (object found) e
has_fields found f e text h id pubkey created_at kind tags content copied sig = record {
  id = of_some f.id _ _ id h.id;
  pubkey = of_some f.pubkey _ _ pubkey h.pubkey;
  created_at = of_some f.created_at _ _ created_at h.created_at;
  kind = of_some f.kind _ _ kind h.kind;
  tags = of_some f.tags _ _ tags h.tags;
  content = of_some f.content _ _ content h.content ∙ ap (λ s. Some (string s)) (sym copied);
  sig = of_some f.sig _ _ sig h.sig;
  in_range = record {
    finite = of_some f.created_at _ _ created_at h.finite;
    kind = of_some f.kind _ _ kind h.low;
    id = of_some f.id _ _ id h.id_bytes;
    pubkey = of_some f.pubkey _ _ pubkey h.pubkey_bytes;
    sig = of_some f.sig _ _ sig h.sig_bytes;
  };
}

pub some_with : {X : Type 0} (o : Option X) (P Q : X → Type 0) → ((x : X) → P x → Q x) → IfSome o P → IfSome o Q
some_with None P Q f h = tt
some_with (Some x) P Q f h = f x h
