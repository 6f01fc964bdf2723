pub mod Refusals
pub mod Adding
pub mod Reading
pub mod Parsing
pub mod Records
pub mod Entries
