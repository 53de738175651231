pub mod Calendar
pub mod Moment
pub mod MomentLaws
