pub mod Amounts
pub mod Laws
pub mod Operators
pub mod Rounding
pub mod Text
