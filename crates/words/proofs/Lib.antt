pub mod Determined
pub mod FourWords
