pub mod Standing
pub mod Meant
pub mod Turned
pub mod Rows
pub mod Made
pub mod Walking
