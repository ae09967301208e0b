mod Ends
pub mod Places
pub mod Spaced
pub mod Leads
pub mod RoundTrip
