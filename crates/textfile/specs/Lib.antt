pub mod Texts
pub mod Packing
pub mod Printing
pub mod Faults
pub mod Steps
