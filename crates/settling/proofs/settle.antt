-- Laws of the call.
mod Settling
