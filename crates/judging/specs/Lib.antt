pub mod Judging
pub mod Steps
pub mod StepLaws
pub mod Sums
pub mod SumsLaws
pub mod Marks
