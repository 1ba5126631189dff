pub mod FourWords
