pub mod Cuts
pub mod Glyphs
pub mod Hexes
pub mod Numerals
pub mod OneReading
pub mod Readings
pub mod ReportLines
pub mod Running
pub mod ShownPages
pub mod Spellings
pub mod Texts
pub mod Tracing
mod SizeRows
pub mod Ending
