pub mod Caps
pub mod Meaning
pub mod RecordLists
pub mod Tallies
