mod Fronts
mod Cells
pub mod Blank
pub mod Compacting
pub mod FailedRows
pub mod Freezes
pub mod Moves
pub mod Queues
pub mod RowByRow
mod Ranges
mod Scanning
mod Sameness
