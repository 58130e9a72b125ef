pub mod OnBytes
pub mod FromFile
pub mod FieldsHeld
pub mod StateHeld
pub mod StateRoundTrip
pub mod TableRead
