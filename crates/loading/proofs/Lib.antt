pub mod Loads
pub mod Marks
pub mod Outcomes
pub mod RoundTrip
pub mod Standing
