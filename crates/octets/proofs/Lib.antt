pub mod BigEndian
pub mod Parts
pub mod Places
pub mod Same
