-- What the promises of maps and scripts as text are stated by. Assumes nothing.
pub mod TextMeaning
