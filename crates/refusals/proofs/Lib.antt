pub mod Asked
pub mod First
