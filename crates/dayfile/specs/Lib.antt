pub mod Codes
pub mod Layout
pub mod Reading
pub mod Frames
