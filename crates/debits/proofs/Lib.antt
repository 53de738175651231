pub mod AcceptedLaws
pub mod Balance
pub mod SequenceLaws
pub mod Demand3Laws
pub mod Demand3
