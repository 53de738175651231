pub mod Columns
pub mod Fault
pub mod PieceLaws
pub mod Pieces
pub mod Text
pub mod TextLaws
pub mod Worked
