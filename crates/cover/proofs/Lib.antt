pub mod LeaseCoverLaws
pub mod PeriodLaws
pub mod PlateCoverLaws
