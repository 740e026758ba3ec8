mod ZerosBehind
pub mod Glyphs
pub mod Grammar
pub mod FirstByte
mod Scanning
mod Spelling
mod Reading
pub mod Decoding
mod Printing
pub mod ReadsBack
pub mod Written
