pub mod Fits
pub mod Ends
