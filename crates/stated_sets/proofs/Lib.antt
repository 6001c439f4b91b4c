pub mod JoinedSets
