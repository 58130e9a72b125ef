pub mod Layouts
pub mod RackCalls
pub mod LayoutsLaws
pub mod GuardedLaws
pub mod TableLaws
pub mod CallLaws
pub mod OutcomesLaws
