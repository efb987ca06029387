pub mod Means
pub mod Words
