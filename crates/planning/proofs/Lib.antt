mod Deepest
mod Joins
pub mod Law
mod Makings
pub mod Misses
mod Planned
mod Sound
mod Steps
