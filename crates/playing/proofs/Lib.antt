pub mod Led
pub mod Coded
pub mod Going
pub mod Pieced
