pub mod GuardTests
pub mod RowTests
