pub mod Client
pub mod Inherited
pub mod Out
pub mod Seats
pub mod Shared
pub mod SharedSeat
pub mod Size
