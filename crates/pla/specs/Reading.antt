-- Inside: what is in the buffer while a text is read, before a refusal clears it.
-- Assumes nothing.
use Rattle.std.specs.Prelude.{◌≡◌, List, ℕ, length}
use Rattle.records.specs.Records.{image}
use Rattle.shared.specs.SharedRecord.{shares, shared_capacity}
use Rattle.pla.specs.Pla.{Pla, made, wrong, pla_of}

-- a buffer of so many bytes that holds the products of a map, and zeros after them; of a refused text, some bytes
abbrev pub KeptOf : ℕ → Pla → List ℕ → Type 0
KeptOf bytes (made n m l) b = b ≡ image shares bytes l
KeptOf bytes (wrong number k) b = length b ≡ bytes

-- the same of what a text means
abbrev pub Kept : List ℕ → ℕ → List ℕ → Type 0
Kept t bytes b = KeptOf bytes (pla_of (shared_capacity bytes) t) b
