pub mod Calls
pub mod CallsLaws
pub mod Numbers
pub mod OneAnswer
pub mod Tics
pub mod TicsLaws
