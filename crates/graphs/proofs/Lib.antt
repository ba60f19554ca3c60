pub mod ReachLaws
pub mod HeldLaws
pub mod WalkLaws
pub mod RankLaws
pub mod OrderLaws
