pub mod Faults
pub mod Units
pub mod Bank
pub mod Held
