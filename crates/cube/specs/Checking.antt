-- Inside: how the functions that check a list go over its records. No call of document 01 needs it to be read.
-- Assumes nothing.
pub use Rattle.records.specs.Kinds.{stride}
