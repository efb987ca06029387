pub mod Supplies
pub mod Aims
pub mod Makes
pub mod Clones
pub mod Copies
