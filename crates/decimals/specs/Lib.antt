pub mod Decimals
pub mod Fractions
pub mod Values
pub mod Rounding
