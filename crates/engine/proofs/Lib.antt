pub mod CallLaws
pub mod MarkLaws
pub mod ReadLaws
pub mod Refusals
