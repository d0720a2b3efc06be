-- An object with no field.
use Rattle.std.proofs.Common.{◌≡◌, [], Some, None, refl}
use Rattle.serde_json.specs.Data.{object, no_members}
use Rattle.nostr_filter.specs.Tags.{letters}
use Rattle.nostr_filter.specs.FilterJson.{Reads, conditions_of}

no_conditions : conditions_of letters (object no_members) ≡ Some []
unfolding letters
no_conditions = refl

-- it reads as the filter that each event meets
pub bare_reads : Reads (object no_members) (record { ids = None; authors = None; kinds = None; tags = []; since = None; until = None; limit = None })
bare_reads = record {
  object = refl;
  tags = no_conditions;
  authors = refl;
  ids = refl;
  kinds = refl;
  limit = refl;
  since = refl;
  until = refl;
  author_bytes = tt;
  id_bytes = tt;
}
