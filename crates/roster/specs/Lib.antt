pub mod Events
pub mod Roster
pub mod Scan
pub mod Served
pub mod Turn
pub mod Turns
