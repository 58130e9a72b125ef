pub mod Columns
pub mod ColumnsLaws
