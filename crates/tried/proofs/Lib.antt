pub mod Below
pub mod ClashTest
pub mod TextTest
pub mod StateTest
pub mod CutTest
pub mod Lines
pub mod Cases
