pub mod Bits
pub mod Digits
pub mod Every
pub mod FromDigits
pub mod Shifts
pub mod Tests
pub mod Xor
