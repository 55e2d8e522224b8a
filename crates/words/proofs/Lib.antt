pub mod BitLaws
pub mod Gather
pub mod Loops
pub mod MaskWalk
pub mod MatchRest
pub mod SpliceLaws
pub mod SubsetLaws
pub mod TestLaws
