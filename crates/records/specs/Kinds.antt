-- What a kind of record has to keep, and the test of a buffer of its records.
-- Assumes nothing.
use Rattle.std.specs.Prelude.{◌≡◌, ℕ, ◌+◌, ◌-◌, ◌*◌, ◌/◌, ◌%◌, ◌<◌, Bool, List, [], ◌∷◌, length, get_or, replicate, take, drop, leb, eqb}
use Rattle.records.specs.Records.{Codec, list_of, image}
use Rattle.records.specs.Answers.{Outcome, accepted, unless, unless_at}

-- What has to be shown of a codec, once for each kind of record
pub record Lawful {A : Type 0} (C : Codec A) : Type 0 where
  pub wide : 0 < C.width
  pub len : (a : A) → length (C.enc a) ≡ C.width
  pub zero_record : C.enc C.none ≡ replicate C.width 0
  pub reads : (n : ℕ) (l : List A) (i : ℕ) → i < length l → C.read (image C n l) i ≡ get_or l i C.none

-- and that a record is read the same from its own part of a buffer
pub record Laws {A : Type 0} (C : Codec A) : Type 0 where
  pub lawful : Lawful C
  pub part : (b : List ℕ) (i : ℕ) → i < length b / C.width → C.read (take (C.width * i + C.width - C.width * i) (drop (C.width * i) b)) 0 ≡ C.read b i

-- how many records are looked at together
abbrev pub stride : ℕ
stride = 32

-- the test of a buffer of records: it is whole, it has at most so many, and each record passes; refused by three numbers
abbrev pub checked : {A : Type 0} → Codec A → (A → Bool) → ℕ → ℕ → ℕ → ℕ → List ℕ → Outcome
checked C test cut many bad most b =
    unless (eqb (length b % C.width) 0) cut 0
    (unless (leb (length b / C.width) most) many 0
    (unless_at test bad (list_of C b)
    (accepted (length (list_of C b) ∷ []))))

-- every item can be written
abbrev pub Any : {A : Type 0} → A → Type 0
Any a = Unit {0}
