pub mod JudgedLaws
pub mod MarksLaws
pub mod WordLaws
pub mod TallyLaws
