pub mod Ranks
pub mod Told
pub mod RankLaws
