pub mod Depth
pub mod Laid
