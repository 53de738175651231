mod Fronts
pub mod Stopped
