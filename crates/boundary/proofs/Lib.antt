pub mod CallsHeld
pub mod RefusedLeaves
pub mod Theorem
pub mod TableHeld
pub mod FilePromise
pub mod ReportPromise
pub mod Example
