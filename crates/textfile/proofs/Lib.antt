pub mod Cuts
pub mod Packed
pub mod Decoded
pub mod Printed
