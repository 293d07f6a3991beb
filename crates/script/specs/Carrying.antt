-- Inside: a work buffer that is ready for a step: any kind of record, by what each of them has to pass.
-- Assumes nothing.
use Rattle.std.specs.Prelude.{◌≡◌, ℕ, ◌*◌, ◌/◌, ◌%◌, ◌≤◌, Bool, true, List, length}
use Rattle.bits.specs.Sums.{All, first_bad}
use Rattle.records.specs.Records.{Codec, records, list_of, image}
use Rattle.bits.proofs.Sums.{all_each}
use Rattle.records.specs.Answers.{accepted}
use Rattle.cube.specs.Cubes.{good, Good}
use Rattle.cube.specs.Calls.{check_list}
use Rattle.cube.proofs.Codes.{parts_good}
use Rattle.cube.proofs.Lists.{AcceptedList, check_accepts}
use Rattle.cube.specs.Lists.{cubes, most_records, most_variables}

-- the work buffer holds `count` records of one kind, zeros after them, and has room for cap; over n variables each of them passes the test
pub record Carries {A : Type 0} (C : Codec A) (test : A → Bool) (n count cap : ℕ) (work : List ℕ) : Type 0 where
  pub held : work ≡ image C (length work) (records C count work)
  pub good : first_bad test (records C count work) ≡ count
  pub few : n ≤ most_variables
  pub room : C.width * cap ≤ length work

-- what an accepted list is: whole, not too long, over few variables, and each of its records passes the test
pub record Listed {A : Type 0} (C : Codec A) (test : A → Bool) (n : ℕ) (b : List ℕ) : Type 0 where
  pub few : n ≤ most_variables
  pub whole : length b % C.width ≡ 0
  pub short : length b / C.width ≤ most_records
  pub each : All (λ a. test a ≡ true) (list_of C b)

-- of cubes
pub cubes_listed : (n : ℕ) (b v : List ℕ) → check_list most_variables n b ≡ accepted v → Listed cubes (good n) n b
cubes_listed n b v e =
    let a : AcceptedList cubes most_variables n b = check_accepts cubes most_variables n b v e in
    record { few = a.few; whole = a.whole; short = a.short; each = all_each (Good n) (λ c. good n c ≡ true) (parts_good n) (list_of cubes b) a.good }
