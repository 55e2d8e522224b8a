pub mod Laid
pub mod Runs
