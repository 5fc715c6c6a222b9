pub mod Shim
