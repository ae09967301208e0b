pub mod Heap
pub mod Order
pub mod Ranked
