pub mod Sheet
pub mod SheetLaws
