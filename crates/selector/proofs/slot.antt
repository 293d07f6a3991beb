-- Laws of the loop over the bits of a slot.
pub mod Slotting
