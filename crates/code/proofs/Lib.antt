pub mod OperatorsHeld
pub mod StackHeld
pub mod TakenSpans
pub mod Turns
pub mod WordsHeld
