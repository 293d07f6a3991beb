-- Laws of the candidates: the choice among them, and the best polarity.
mod Choosing
mod Polarities
