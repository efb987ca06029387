pub mod Refusals
pub mod State
pub mod Edits
pub mod Flattening
pub mod Runs
pub mod Laws
pub mod Cases
pub mod Faults
