pub mod RankRow
pub mod Standing
