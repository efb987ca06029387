pub mod Each
pub mod States
