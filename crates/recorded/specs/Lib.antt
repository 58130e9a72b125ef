pub mod RecordsRead
