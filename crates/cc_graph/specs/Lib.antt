pub mod Graph
pub mod Walk
pub mod Frontier
pub mod Queue
pub mod Ends
pub mod Run
pub mod Read
pub mod Entries
