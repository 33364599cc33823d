pub mod Parting
pub mod Numerals
pub mod Printing
pub mod Nibbles
pub mod Turning
pub mod ReadsBack
pub mod Samples
