pub mod FireLaws
pub mod SearchLaws
pub mod SeekLaws
