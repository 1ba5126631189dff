pub mod Keys
pub mod Pieces
pub mod Serials
