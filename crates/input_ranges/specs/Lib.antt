pub mod Ranges
pub mod RangeFiles
