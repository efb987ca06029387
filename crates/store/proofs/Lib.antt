pub mod Views
pub mod Items
pub mod Stores
pub mod Models
pub mod Acts
pub mod Sums
pub mod Outcomes
