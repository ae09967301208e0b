pub mod Approvals
mod Bridges
pub mod Faulty
mod Judgement
mod Layouts
mod Marks
pub mod Widest
