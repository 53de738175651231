pub mod Set
pub mod SetLaws
pub mod Plate
pub mod PlateLaws
pub mod PlateRule
pub mod Worked
