-- Laws of the reasons of a map.
mod Showing
mod Finishing
