-- Inside: what the functions within settle promise one another, of the choice and of what is burned. None of it is needed to read the call.
-- Assumes nothing.
use Rattle.std.specs.Prelude.{◌≡◌, cond, List, ℕ, ◌%◌, ◌^◌, ◌≤◌, ◌<◌, ltb, length, take}
use Rattle.records.specs.Records.{image}
use Rattle.cube.specs.declared.Cube.{Cube}
use Rattle.cube.specs.Lists.{cubes, cubes_of, cube_capacity, record_width, most_records, most_variables, vector_variables, truth_vector}
use Rattle.cube.specs.Calls.{check_list}
use Rattle.polarity.specs.declared.Counts.{Counts}
use Rattle.polarity.specs.Forms.{form_list}
use Rattle.polarity.specs.Ranks.{counts_of, rank_of, rank}
use Rattle.polarity.specs.Vectors.{byte_at, Vector}
use Rattle.trees.specs.Least.{tree_list}
use Rattle.settling.specs.declared.BestForm.{BestForm}
use Rattle.settling.specs.declared.Burning.{Burning}
use Rattle.settling.specs.declared.Candidate.{Candidate}
use Rattle.settling.specs.declared.Forms.{Forms}
use Rattle.settling.specs.declared.Origin.{Origin}
use Rattle.settling.specs.declared.Origin.TheVariants as origin_is
use Rattle.settling.specs.Candidates.{tree_form, burned_list, fixed_of}
use Rattle.records.specs.Answers.{Accepts}

-- ---- the choice

abbrev pub candidate_of : Counts → Origin → Candidate
candidate_of counts origin = record { rank = rank_of counts; origin = origin }

-- the better of two candidates, ties to the earlier
abbrev pub better_of : Candidate → Candidate → Candidate
better_of earlier later = cond (ltb later.rank earlier.rank) later earlier

-- the list that an origin names, with the script's result and the given list
abbrev pub list_from : ℕ → List Cube → List Cube → Origin → List Cube
list_from n result given origin_is.Script = result
list_from n result given origin_is.Given = given
list_from n result given (origin_is.Form p) = form_list n p (byte_at (truth_vector n given))
list_from n result given origin_is.Tree = tree_list n (byte_at (truth_vector n given))

-- there is such a list
abbrev pub Named : ℕ → Origin → Type 0
Named n origin_is.Script = Unit {0}
Named n origin_is.Given = Unit {0}
Named n (origin_is.Form p) = (n ≤ vector_variables) × (p < 2 ^ n)
Named n origin_is.Tree = n ≤ vector_variables

-- a candidate stands for a list: it has the list's rank, and its origin names the list
pub record StandsFor (n : ℕ) (result given l : List Cube) (c : Candidate) : Type 0 where
  pub rank_is : c.rank ≡ rank l
  pub list_is : list_from n result given c.origin ≡ l
  pub named : Named n c.origin

-- the counts of the form under p of the vector at the front of a buffer, whose size is known
abbrev pub FormCounts : List ℕ → ℕ → ℕ → Counts → Type 0
FormCounts v p size r =
    (n : ℕ) → Vector n (take (2 ^ n) v) → p < 2 ^ n → size ≡ length (form_list n p (byte_at (take (2 ^ n) v))) → r ≡ counts_of (form_list n p (byte_at (take (2 ^ n) v)))

-- the best polarity of a list's function, and what the tree's list counts
pub record FormsAre (n : ℕ) (given : List Cube) (f : Forms) : Type 0 where
  pub fixed : f.fixed ≡ fixed_of n given
  pub tree : f.tree ≡ counts_of (tree_form n given)

-- the same with its truth vector
pub record FormIs (n : ℕ) (given : List Cube) (f : BestForm) : Type 0 where
  pub fixed : f.fixed ≡ fixed_of n given
  pub tree : n ≤ vector_variables → f.tree ≡ counts_of (tree_form n given)
  pub vector : n ≤ vector_variables → take (2 ^ n) f.vector ≡ truth_vector n given

-- both lists are short, and the form is the given list's
pub record Choosable (n : ℕ) (list result : List ℕ) (best : BestForm) : Type 0 where
  pub list_short : length (cubes_of list) ≤ most_records
  pub result_short : length (cubes_of result) ≤ most_records
  pub best_is : FormIs n (cubes_of list) best

-- ---- what is burned

-- a list fills the front of the output buffer, zeros after it, and its count is answered
pub record BurnedIs (l : List Cube) (out out' : List ℕ) (r : ℕ) : Type 0 where
  pub answer : r ≡ length l
  pub buffer : out' ≡ image cubes (length out) l

-- a list that is made of a function, for which an output of so many bytes has room: here of the vector at the front of a buffer
pub record ListFits (n : ℕ) (v : List ℕ) (made : (ℕ → ℕ) → List Cube) (out : ℕ) : Type 0 where
  pub vector : Vector n (take (2 ^ n) v)
  pub room : length (made (byte_at (take (2 ^ n) v))) ≤ cube_capacity out

-- both lists are whole, the vector is the given list's, and the list that the origin names has room
pub record Burnable (n : ℕ) (list result : List ℕ) (best : BestForm) (origin : Origin) (out : ℕ) : Type 0 where
  pub list_whole : length list % record_width ≡ 0
  pub result_whole : length result % record_width ≡ 0
  pub best_is : FormIs n (cubes_of list) best
  pub named : Named n origin
  pub room : length (list_from n (cubes_of result) (cubes_of list) origin) ≤ cube_capacity out

-- the script's result is whole and short, and the given list is accepted and fits the output
pub record Burns (n : ℕ) (list result : List ℕ) (out : ℕ) : Type 0 where
  pub whole : length result % record_width ≡ 0
  pub short : length (cubes_of result) ≤ most_records
  pub passed : Accepts (check_list most_variables n list)
  pub room : length (cubes_of list) ≤ cube_capacity out

-- the list to burn fills the front of the output buffer, zeros after it
pub record BurningIs (n : ℕ) (result given : List Cube) (out out' : List ℕ) (r : Burning) : Type 0 where
  pub fixed : r.fixed ≡ fixed_of n given
  pub burned : r.burned ≡ length (burned_list n result given)
  pub buffer : out' ≡ image cubes (length out) (burned_list n result given)
