pub mod HexLemmas
pub mod NumberLemmas
