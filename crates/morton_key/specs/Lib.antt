pub mod Codes
pub mod Keys
pub mod Order
pub mod Bits
pub mod Measure
pub mod Spread
