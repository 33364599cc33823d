pub mod Words
pub mod Numeral
pub mod Hex
pub mod Crc
