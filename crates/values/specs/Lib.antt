pub mod Defs
pub mod Fronts
pub mod Leads
pub mod Tables
