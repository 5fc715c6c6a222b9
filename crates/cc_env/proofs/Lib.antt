pub mod EnvLemmas
pub mod IndexLemmas
pub mod LookupLemmas
pub mod NameLemmas
pub mod SnapshotLemmas
