pub mod EndTests
pub mod Magnitude
pub mod SignTest
pub mod Signed32
