pub mod TickedLaws
pub mod FoundLemmas
pub mod RowLemmas
pub mod DoneLemmas
pub mod ByteLemmas
pub mod LentSteps
