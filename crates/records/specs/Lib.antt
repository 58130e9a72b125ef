pub mod Records
pub mod RecordsLaws
pub mod Held
