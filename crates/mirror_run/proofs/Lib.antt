mod LineLemmas
mod HexLemmas
mod ItemLemmas
mod OutputLemmas
mod FormLemmas
mod InputLemmas
mod PlacingLemmas
mod SessionLemmas
