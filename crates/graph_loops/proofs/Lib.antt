mod Levels
mod RoundLaws
mod FollowLaws
mod Shortest
