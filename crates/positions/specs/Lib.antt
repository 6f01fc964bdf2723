pub mod Ranges
pub mod Masks
pub mod Of
pub mod Meets
pub mod Taking
