pub mod Refusals
pub mod Bits
pub mod Packing
pub mod Definitions
pub mod Arguments
pub mod Writing
pub mod Cases
pub mod Reasons
