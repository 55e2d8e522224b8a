pub mod Numbers
pub mod Owned
pub mod Pair
