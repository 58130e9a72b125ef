pub mod CameLemmas
pub mod RowLemmas
