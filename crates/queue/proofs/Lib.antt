mod Ends
mod Places
pub mod Ranked
mod Sifts
