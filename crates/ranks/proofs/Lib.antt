pub mod ClimbLaws
pub mod RankRows
pub mod RankWalk
pub mod StandingLaws
