pub mod Totals
pub mod Pipes
pub mod Rows
pub mod Holds
