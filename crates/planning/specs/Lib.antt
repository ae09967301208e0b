pub mod Always
pub mod Making
