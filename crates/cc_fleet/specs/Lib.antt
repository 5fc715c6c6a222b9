pub mod Clash
pub mod Failures
pub mod Joined
pub mod Run
pub mod Fleet
