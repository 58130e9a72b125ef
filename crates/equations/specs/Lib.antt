pub mod Row
pub mod RowLaws
pub mod RowTest
pub mod Beside
pub mod BesideLaws
pub mod Safe
