pub mod Making
pub mod Scramblers
pub mod LineCodes
pub mod Moves
pub mod Linear
