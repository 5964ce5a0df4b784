pub mod Refusals
pub mod Records
pub mod Printing
pub mod Benches
pub mod Files
pub mod Standard
