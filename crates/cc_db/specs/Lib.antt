pub mod Message
pub mod Database
pub mod Read
