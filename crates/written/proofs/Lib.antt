mod Apart
pub mod Drafts
pub mod Fitting
pub mod Holding
pub mod Laws
pub mod Runs
