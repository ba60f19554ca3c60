pub mod ConcernLaws
pub mod MatchLaws
pub mod FirstLaws
pub mod KnownLaws
pub mod LeftLaws
pub mod ElsewhereLaws
