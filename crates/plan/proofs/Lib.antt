pub mod NameLaws
pub mod Numbering
pub mod Passing
