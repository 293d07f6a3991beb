-- Laws of the loops over lengths.
mod Adding
