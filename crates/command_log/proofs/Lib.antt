pub mod Lines
mod Spelling
