pub mod Cuts
pub mod Moves
pub mod Takes
pub mod Presence
pub mod Rows
pub mod Scan
pub mod Written
