pub mod AscendingLemmas
pub mod PlainLaws
pub mod RunningLemmas
pub mod CommandLemmas
pub mod EntryLemmas
pub mod FixedLemmas
