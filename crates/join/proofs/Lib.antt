pub mod Comparing
pub mod Fetching
pub mod Lists
pub mod Loading
pub mod Pairs
pub mod Settling
pub mod Turning
pub mod Writing
