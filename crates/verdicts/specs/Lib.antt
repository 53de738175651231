pub mod Verdict
pub mod VerdictLaws
pub mod Record
pub mod Tables
pub mod LineTests
pub mod LineTestsLaws
