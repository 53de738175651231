pub mod Layout
pub mod LayoutLaws
pub mod Form
pub mod FormLaws
