pub mod LeaderLaws
