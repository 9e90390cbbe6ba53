pub mod Pipe
pub mod Machine
pub mod Law
