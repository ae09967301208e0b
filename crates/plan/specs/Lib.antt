pub mod Approval
pub mod Drafts
pub mod Faults
pub mod Plans
pub mod Spacing
