-- Laws of what is burned.
pub mod Written
