pub mod Each
pub mod Seating
pub mod Made
