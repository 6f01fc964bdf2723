pub mod Standing
pub mod Numerals
pub mod Joining
pub mod Forming
pub mod Lining
pub mod Recording
pub mod Entries
