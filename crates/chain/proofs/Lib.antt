pub mod Means
pub mod Walks
