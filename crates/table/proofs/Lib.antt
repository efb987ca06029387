pub mod Driven
pub mod Held
