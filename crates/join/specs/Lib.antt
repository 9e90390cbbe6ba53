pub mod Counting
pub mod Loads
pub mod Opening
pub mod Pairing
pub mod Phases
pub mod Settled
pub mod Shows
pub mod Taken
