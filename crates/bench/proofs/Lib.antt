pub mod Standing
pub mod Resting
pub mod Refusing
pub mod Running
pub mod Ending
pub mod Texts
