-- `Decoded`: the bytes of a field have room where `text` says how many they are, and a field in front of a space is within its line.
pub mod Decoded
