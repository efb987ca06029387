pub mod Fronts
pub mod Reading
pub mod Redirect
pub mod Tables
pub mod Ways
