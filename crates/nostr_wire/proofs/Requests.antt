-- Requests whose elements are read one after another.
use Rattle.std.proofs.Common.{◌≡◌, ◌≢◌, ℕ, List, [], ◌∷◌, map, Option, Some, None, codes, true, true≢false, refl, sym, inr, ap, ◌∙◌, subst}
use Rattle.std.specs.Prelude.{is_some}
use Rattle.json.specs.Token as spec
use Rattle.json.specs.Reads.{token_of, Yields}
use Rattle.json.specs.declared.token.Token.{Token}
use Rattle.serde_json.specs.Data.{Data, array}
use Rattle.serde_json.specs.Find.{as_str}
use Rattle.serde_json.specs.Read.{read}
use Rattle.serde_json.specs.View.{items_of}
use Rattle.nostr_filter.specs.declared.filter.Filter.{Filter}
use Rattle.nostr_wire.specs.declared.fault.WireFault.{WireFault}
use Rattle.nostr_wire.specs.declared.messages.FromClient.TheVariants as client
use Rattle.nostr_wire.specs.Elements.{sub, filter}
use Rattle.nostr_wire.specs.Forms.{client_table, request_parts}
use Rattle.nostr_wire.specs.Reading.{behind_name, expected, kept_filters, SayEach, AreRead, AreRefused, Hears, Refuses}
use Rattle.nostr_wire.proofs.Arrays.{list_back}

-- a token that comes is the first
pub some_token : (old new : List spec.Token) (o : Option Token) → is_some o ≡ true → Yields old o new → (t : spec.Token) × (old ≡ t ∷ new)
some_token old new (Some t) some h = (token_of t, h)
some_token old new None some h = absurd (true≢false (sym some))

pub no_token : (old new : List spec.Token) (o : Option Token) → is_some o ≢ true → Yields old o new → old ≡ []
no_token old new (Some t) none h = absurd (none refl)
no_token old new None none h = h.0

module _ (n s : Data) (ds : List Data) (named : as_str n ≡ Some (codes "REQ")) where
  whole : Data
  whole = array (items_of (n ∷ s ∷ ds))

  behind : behind_name (array (items_of (n ∷ s ∷ ds))) ≡ s ∷ ds
  behind = ap (λ l. s ∷ l) (list_back ds)

  row : expected client_table (array (items_of (n ∷ s ∷ ds))) ≡ Some (request_parts (s ∷ ds))
  row = rw named (ap (λ l. Some (request_parts l)) behind)

  pub request_refused_by : (text : List ℕ) (f : WireFault) → read text ≡ Some (array (items_of (n ∷ s ∷ ds))) → AreRefused (request_parts (s ∷ ds)) (s ∷ ds) f → Refuses client_table text f
  request_refused_by text f is h =
      inr (inr (array (items_of (n ∷ s ∷ ds)), is, inr (request_parts (s ∷ ds), row, subst (λ l. AreRefused (request_parts (s ∷ ds)) l f) (sym behind) h)))

  pub request_heard : (text x : List ℕ) (most : Option ℕ) (all fs : List Filter) → read text ≡ Some (array (items_of (n ∷ s ∷ ds))) → fs ≡ kept_filters most all
      → AreRead (request_parts (s ∷ ds)) (sub x ∷ map filter all) (s ∷ ds) → Hears most text (client.Req x fs)
  request_heard text x most all fs is kept h = (
    array (items_of (n ∷ s ∷ ds)),
    is,
    (
      all,
      kept,
      record {
        name = named;
        parts = row ∙ ap Some (sym h.0);
        said = subst (λ l. SayEach (sub x ∷ map filter all) l) (sym behind) h.1;
      },
    ),
  )
