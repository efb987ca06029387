pub mod Graphs
pub mod Opening
