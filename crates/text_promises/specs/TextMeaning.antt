-- What a text means, as a value at each assignment; and what is promised of a map that is read, settled and printed.
-- Assumes nothing.
use Rattle.std.specs.Prelude.{◌≡◌, List, ℕ, ◌*◌, ◌^◌, ◌≤◌, ◌<◌, length, take}
use Rattle.bits.specs.Sums.{All}
use Rattle.records.specs.Records.{flat, records}
use Rattle.cube.specs.declared.Cube.{Cube}
use Rattle.cube.specs.Lists.{cubes, most_variables, most_records}
use Rattle.shared.specs.declared.Shared.{Shared}
use Rattle.shared.specs.SharedRecord.{shares, shared_width, shared_capacity, Fine}
use Rattle.shared.specs.Outputs.{carrying, output_count, output_value}
use Rattle.settling.specs.declared.Settlement.{Settlement}
use Rattle.settling.specs.Calls.{settle_out}
use Rattle.shared_run.specs.declared.SharedSettlement.{SharedSettlement}
use Rattle.shared_run.specs.Calls.{shared_settle_out}
use Rattle.pla.specs.Pla.{Pla, made, wrong, pla_of, pla_after}
use Rattle.pla_print.specs.Printing.{pla_text}

-- the value at a of output k of a map; 0 for a text that is refused
abbrev pub pla_value : ℕ → Pla → ℕ → ℕ
pla_value k (made n m l) a = output_value n k l a
pla_value k (wrong number line) a = 0

-- the value at a of output k of the map that a text means, where there is room for so many products
unfoldable pub text_value : ℕ → ℕ → List ℕ → ℕ → ℕ
text_value room k t a = pla_value k (pla_of room t) a

-- a product that has no output at or above m
abbrev pub Below : ℕ → Shared → Type 0
Below m s = s.outputs < 2 ^ m

-- a map within every limit: what `check` of shared products asks of it, and outputs below m alone
pub record FineMap (room n m : ℕ) (l : List Shared) : Type 0 where
  pub few : n ≤ most_variables
  pub some : 1 ≤ m
  pub low : m ≤ output_count
  pub short : length l ≤ room
  pub fine : All (Fine n) l
  pub below : All (Below m) l

-- a map of n inputs and m outputs that a text means, and the products that are burned for it: printed, they read back as what they are, each output has the value
-- that the text gives it, and there are no more of them
pub record BurnedText (t : List ℕ) (n m : ℕ) (given burned : List Shared) : Type 0 where
  pub reads : pla_of most_records (pla_text n m burned) ≡ made n m burned
  pub same_outputs : (k : ℕ) → k < m → (a : ℕ) → a < 2 ^ n → output_value n k burned a ≡ output_value n k given a
  pub same_text : (k : ℕ) → k < m → (a : ℕ) → a < 2 ^ n → text_value most_records k (pla_text n m burned) a ≡ text_value most_records k t a
  pub no_more : length burned ≤ length given

-- ---- the lists that settling is given and burns

-- the bytes of the products of a map
abbrev pub map_bytes : List Shared → List ℕ
map_bytes l = flat shares.enc l

-- the bytes of the list of output 0
abbrev pub one_bytes : List Shared → List ℕ
one_bytes l = flat cubes.enc (carrying 0 l)

-- what settling leaves at the front of its output: as many records as it answers
abbrev pub burned_shares : ℕ → List ℕ → List ℕ → ℕ → List ℕ → SharedSettlement → List Shared
burned_shares n list script work out s = records shares s.burned (shared_settle_out n list script work out)

abbrev pub burned_cubes : ℕ → List ℕ → List ℕ → ℕ → List ℕ → Settlement → List Cube
burned_cubes n list script work out s = records cubes s.burned (settle_out n list script work out)

-- ---- a call of the reader that is accepted, in a buffer of so many bytes

pub record ReadMap (t : List ℕ) (bytes n m count : ℕ) : Type 0 where
  pub list : List Shared
  pub is : pla_of (shared_capacity bytes) t ≡ made n m list
  pub many : count ≡ length list
  pub front : take (shared_width * count) (pla_after t bytes) ≡ map_bytes list
