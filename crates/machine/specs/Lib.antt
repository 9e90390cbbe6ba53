pub mod Machine
pub mod Refusals
pub mod Report
pub mod Law
pub mod Weight
