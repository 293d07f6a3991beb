-- What the contracts of a map written out cite. Assumes nothing.
pub mod Printing
