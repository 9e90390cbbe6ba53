pub mod Grades
pub mod Verdicts
pub mod Window
