pub mod Env
pub mod Index
pub mod Names
pub mod Snapshot
