-- The times of a filter, and what it matches of a slice of them.
use Rattle.std.specs.Prelude.{ℕ, ◌^◌, ◌-◌, None, Some, unwrap_or, nat_lt, if◌then◌else◌}
use Rattle.nostr_filter.specs.declared.filter.Filter.{Filter}
use Rattle.slices.specs.declared.times.Slice.{Slice}

-- the first time that it matches, and the last
abbrev pub first_of : Filter → ℕ
first_of f = unwrap_or f.since 0

abbrev pub last_of : Filter → ℕ
last_of f = unwrap_or f.until (2 ^ 64 - 1)

-- The filter's conditions, but with the slice's times. A bound that leaves out nothing isn't written.
abbrev pub within : Filter → Slice → Filter
within f s = record f {
  since = (if nat_lt 0 s.since then Some s.since else None);
  until = (if nat_lt s.until (2 ^ 64 - 1) then Some s.until else None);
}
