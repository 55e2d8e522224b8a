pub mod Disabler
pub mod Monitor
pub mod Property
pub mod Steps
pub mod Transaction
