pub mod Words
pub mod DigitsLaws
pub mod WordsLaws
pub mod FieldsLaws
pub mod WordsExamples
