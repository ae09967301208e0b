pub mod Faults
pub mod Graph
pub mod Grid
pub mod Transmissions
pub mod Words
pub mod Planes
pub mod Rules
