mod Bounds
mod Plans
mod Readiness
mod Steps
pub mod Used
