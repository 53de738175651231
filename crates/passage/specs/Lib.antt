pub mod Passage
pub mod PassageLaws
