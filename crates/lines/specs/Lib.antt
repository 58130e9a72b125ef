pub mod Words
pub mod Line
pub mod LineStands
pub mod KeyLaws
pub mod LineLaws
pub mod ValueLaws
pub mod LineTextLaws
pub mod OutcomesLaws
