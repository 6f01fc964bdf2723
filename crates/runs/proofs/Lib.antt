pub mod Opening
pub mod Dealing
pub mod Underway
pub mod Making
