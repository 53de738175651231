pub mod Columns
pub mod Form
pub mod FormLaws
pub mod Stations
pub mod StationsLaws
