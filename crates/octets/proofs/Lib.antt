pub mod Octets
pub mod Inverse
pub mod Decoding
pub mod Encoding
