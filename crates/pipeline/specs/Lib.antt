pub mod Entries
pub mod Orient
pub mod States
pub mod Freezing
pub mod Correction
pub mod Block
pub mod Batches
pub mod Held
