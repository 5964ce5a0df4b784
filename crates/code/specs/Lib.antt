pub mod Words
pub mod Faults
pub mod Outcomes
pub mod Polynomials
pub mod Prepared
pub mod Locating
