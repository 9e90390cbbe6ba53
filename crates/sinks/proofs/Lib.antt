pub mod Laws
pub mod Leading
