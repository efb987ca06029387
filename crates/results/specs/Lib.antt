pub mod Reads
pub mod Seats
