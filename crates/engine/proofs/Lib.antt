mod Bookable
mod Changes
mod Climbs
mod Closings
mod Entries
mod Lateness
mod Loads
mod Means
mod Numbers
mod Ordered
mod Places
mod Rounds
pub mod Promises
mod Safe
mod Settles
mod Slots
mod Tables
