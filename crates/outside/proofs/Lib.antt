pub mod Pieces
pub mod OneFile
