pub mod Prefixes
pub mod Runs
pub mod Parting
pub mod CellLaws
pub mod SharedBits
pub mod Walking
pub mod Beginnings
mod Examples
