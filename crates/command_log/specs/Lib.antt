pub mod Running
pub mod Writing
pub mod Counting
pub mod Reading
