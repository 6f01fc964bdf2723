pub mod Classes
pub mod Best
pub mod Looking
pub mod Listing
pub mod Coding
pub mod Verdicts
