mod Outcomes
pub mod Searches
pub mod Trees
