-- Inside: what the functions within the calls on a map promise one another. None of it is needed to read the calls.
-- Assumes nothing.
use Rattle.std.specs.Prelude.{◌≡◌, List, ℕ, ◌*◌, ◌≤◌, length, Result, Ok, Err}
use Rattle.records.specs.declared.Refusal.{Refusal}
use Rattle.records.specs.Records.{zeros}
use Rattle.records.specs.Places.{place_width}
use Rattle.records.specs.Answers.{Accepts, refused}
use Rattle.cube.specs.Lists.{record_width, cubes_of}
use Rattle.polarity.specs.Cost.{cost}
use Rattle.script.specs.Calls.{run_of}
use Rattle.settling.specs.Calls.{settle_outcome}
use Rattle.selector.specs.declared.ByList.{ByList}
use Rattle.selector.specs.declared.MapRefusal.{MapRefusal}
use Rattle.selector.specs.declared.settle_map.Burned.{Burned}
use Rattle.selector.specs.Maps.{most_lists, starts, records_of}
use Rattle.selector.specs.Answers.{after_map, after_each, map_told}
use Rattle.selector.specs.Calls.{true_numbers, shown_bytes, reasons_turns, Job, list_count, ran_burnt, settle_turns, burned_lengths, burned_bytes}

-- lengths of one to twelve lists that add up to a buffer
pub record Mapped (lists lengths : List ℕ) : Type 0 where
  pub some : 1 ≤ length lengths
  pub few : length lengths ≤ most_lists
  pub adds : starts lengths (length lengths) ≡ length lists

-- ---- reasons

-- and an output that has room for a place of each record
pub record Showable (lists lengths : List ℕ) (out : ℕ) : Type 0 where
  pub lists_are : Mapped lists lengths
  pub room : place_width * records_of lists lengths ≤ out

-- the reasons of the lists have been written in turn, with their numbers
pub record ShownTurns (n : ℕ) (lists lengths : List ℕ) (a : ℕ) (out each : List ℕ) (r : Result ℕ MapRefusal) (out' each' : List ℕ) : Type 0 where
  pub answer : map_told r ≡ reasons_turns n lists lengths a
  pub numbers : each' ≡ after_each (reasons_turns n lists lengths a) (true_numbers n lists lengths a) each
  pub out_is : out' ≡ after_map (reasons_turns n lists lengths a) (shown_bytes n lists lengths a out) out

-- ---- settling

-- scripts, one a list, whose lengths add up to their buffer too, and an output with room
pub record Settleable (j : Job) (out : ℕ) : Type 0 where
  pub lists_are : Mapped j.lists j.lengths
  pub one_a_list : length j.script_lengths ≡ list_count j
  pub scripts_are : starts j.script_lengths (length j.script_lengths) ≡ length j.scripts
  pub room : length j.lists ≤ out

-- a list was settled: the bytes of its burned list, and what that costs
pub record PartBurned (n : ℕ) (list script : List ℕ) (work room bytes price : ℕ) : Type 0 where
  pub passed : Accepts (settle_outcome n list script work room)
  pub bytes_are : bytes ≡ record_width * length (ran_burnt n (cubes_of list) (run_of n list script work))
  pub price_is : price ≡ cost (ran_burnt n (cubes_of list) (run_of n list script work))

abbrev pub PartTold : (n : ℕ) (list script : List ℕ) (work room : ℕ) → Result Burned Refusal → Type 0
PartTold n list script work room (Ok b) = PartBurned n list script work room b.bytes b.cost
PartTold n list script work room (Err r) = settle_outcome n list script work room ≡ refused r

-- the lists have been settled in turn
pub record SettledTurns (j : Job) (out : List ℕ) (r : ByList) (out' : List ℕ) : Type 0 where
  pub answer : map_told r.answer ≡ settle_turns j
  pub lengths : r.each ≡ after_map (settle_turns j) (burned_lengths j) (zeros most_lists)
  pub out_is : out' ≡ after_map (settle_turns j) (burned_bytes j (length out)) out
