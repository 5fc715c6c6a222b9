pub mod DatabaseLaws
pub mod EscapeLemmas
pub mod ReadLemmas
