pub mod RecordsReadLaws
