pub mod Messages
pub mod Bytes
pub mod Words
pub mod Lines
pub mod RoundTrip
