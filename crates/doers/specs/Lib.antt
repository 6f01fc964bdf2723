pub mod Action
pub mod Tapes
