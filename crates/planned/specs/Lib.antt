pub mod Counted
pub mod View
pub mod ViewLaws
pub mod OutcomesLaws
pub mod Lists
