pub mod States
pub mod Tables
pub mod Verdicts
