-- Records of any kind end to end in a buffer of bytes. Document 01, "Cubes and lists": "Lists are records end to end, with no header."
-- Assumes nothing.
use Rattle.std.specs.Prelude.{◌≡◌, cond, ℕ, suc, ◌-◌, ◌*◌, ◌/◌, min, List, [], ◌∷◌, ◌++◌, ltb, leb, length, replicate}
use Rattle.std.proofs.lemmas.List.Edits.{sets}
use Rattle.bits.specs.Below.{list_below}

-- A kind of record: the width of a record, its bytes, the record that stands at a place of a buffer, and the record whose bytes are all zero
pub record Codec (A : Type 0) : Type 0 where
  pub width : ℕ
  pub enc : A → List ℕ
  pub read : List ℕ → ℕ → A
  pub none : A

-- the bytes of a list of records, end to end
abbrev pub flat : {A : Type 0} → (A → List ℕ) → List A → List ℕ
flat enc [] = []
flat enc (a ∷ l) = enc a ++ flat enc l

-- bytes at the front, and zeros after them up to so many
unfoldable pub filled : ℕ → List ℕ → List ℕ
filled room s = s ++ replicate (room - length s) 0

-- a buffer of so many bytes, all zero
abbrev pub zeros : ℕ → List ℕ
zeros room = replicate room 0

-- what a buffer d holds after it was filled with the bytes s: unchanged where they don't fit
unfoldable pub filled_by : List ℕ → List ℕ → List ℕ
filled_by d s = cond (leb (length s) (length d)) (filled (length d) s) d

module _ {A : Type 0} (C : Codec A) where
  -- the first k records of a buffer
  unfoldable pub records : ℕ → List ℕ → List A
  records k b = list_below k (C.read b)

  -- all records of a buffer
  unfoldable pub list_of : List ℕ → List A
  list_of b = records (length b / C.width) b

  -- the buffer with a record stored at place i; unchanged where it has no such place
  unfoldable pub stored : List ℕ → ℕ → A → List ℕ
  stored b i a = cond (ltb i (length b / C.width)) (sets b (C.width * i) (C.enc a)) b

  -- the buffer with a list of records stored end to end from place k on
  unfoldable pub written : ℕ → List A → List ℕ → List ℕ
  written k [] b = b
  written k (a ∷ l) b = written (suc k) l (stored b k a)

  -- a buffer of so many bytes that holds a list, and zeros after it
  unfoldable pub image : ℕ → List A → List ℕ
  image room l = filled room (flat C.enc l)

  -- the buffer b holds the list l, and zeros after it
  unfoldable pub Holds : List ℕ → List A → Type 0
  Holds b l = b ≡ image (length b) l

  -- the buffer b holds some k records, and zeros after them
  unfoldable pub Held : ℕ → List ℕ → Type 0
  Held k b = Holds b (records k b)

  -- "Capacity of a lent work or output buffer: its length divided by" the width of a record, "rounded down, and at most" the limit
  unfoldable pub capacity_of : ℕ → ℕ → ℕ
  capacity_of limit room = min (room / C.width) limit
