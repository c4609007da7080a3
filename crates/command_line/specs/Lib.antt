pub mod Parts
pub mod Values
pub mod Items
pub mod Plans
pub mod Uses
pub mod Command
