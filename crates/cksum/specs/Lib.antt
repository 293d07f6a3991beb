-- What the contracts of the checksum cite. Assumes nothing.
pub mod Cksum
