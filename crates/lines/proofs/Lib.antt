pub mod NineAtOnce
