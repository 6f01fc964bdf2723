pub mod Desks
pub mod Cells
pub mod Tables
pub mod Filling
pub mod Plates
