pub mod Determined
pub mod Editions
pub mod Fronts
pub mod Opening
pub mod Payloads
pub mod RoundTrip
