pub mod Table
pub mod Extents
pub mod Refusals
pub mod Calls
