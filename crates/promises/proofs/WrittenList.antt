-- A list that a call made of a vector and wrote to the front of its output, whichever list it is: what is known of the list is known of what was written, the value call
-- answers the vector's value, and no other byte was written.
-- Assumes nothing.
use mathlib.Core.Path.{◌≡◌, sym, ap, ◌∙◌, subst}
use mathlib.Core.List.{List, [], ◌∷◌}
use Prim.Native.Nat.{ℕ, ◌*◌, ◌^◌, ◌≤◌, ◌<◌}
use native.Mathlib.Nat.{le_trans}
use lib.ListN.{length, drop}
use Rattle.bits.specs.Sums.{All}
use Rattle.records.specs.Records.{flat, written}
use Rattle.records.specs.Answers.{Outcome, accepted}
use Rattle.records.proofs.Records.{capacity_most, written_rest}
use Rattle.cube.specs.declared.Cube.{Cube}
use Rattle.cube.specs.Cubes.{Good}
use Rattle.cube.specs.Lists.{record_width, cubes, cubes_of, cube_capacity, most_records, list_value, trues}
use Rattle.cube.proofs.Lists.{lawful, cubes_flat}
use Rattle.polarity.specs.Vectors.{byte_at, Vector}
use Rattle.promises.specs.Calls.{value, Called}
use Rattle.promises.specs.Refusals.{NoneWrong, faults}
use Rattle.promises.specs.Accepted.{goes_on}
use Rattle.promises.specs.CheapestTree.{list_in}
use Rattle.promises.proofs.NotWrong.{written_fits, written_bytes, list_fine}
use Rattle.promises.proofs.DemandOne.{not_wrong_goes_on}

-- l was written, so many products, where there was room for it
pub record Wrote (n : ℕ) (vector out : List ℕ) (l : List Cube) (products : ℕ) (out' : List ℕ) : Type 0 where
  pub is_one : Vector n vector
  pub all : products ≡ length l
  pub room : length l ≤ cube_capacity (length out)
  pub is : out' ≡ written cubes 0 l out

module _ (n : ℕ) (vector out : List ℕ) (l : List Cube) (products : ℕ) (out' : List ℕ) (W : Wrote n vector out l products out') where
  bytes : list_in products out' ≡ flat cubes.enc l
  bytes = written_bytes l products out out' W.all W.room W.is

  pub list_written : cubes_of (list_in products out') ≡ l
  list_written = ap cubes_of bytes ∙ cubes_flat l

  pub no_more : drop (record_width * products) out' ≡ drop (record_width * products) out
  no_more =
      (λ i. drop (record_width * W.all i) (W.is i)) ∙ written_rest cubes lawful out l (written_fits l out W.room)
      ∙ ap (λ (k : ℕ). drop (record_width * k) out) (sym W.all)

  pub of_list : (P : List Cube → Type 0) → P l → P (cubes_of (list_in products out'))
  of_list P = subst P (sym list_written)

  pub value_call : All (Good n) l → (a : ℕ) → a < 2 ^ n → list_value n l a ≡ byte_at vector a → (o : Outcome) → Called (value n (list_in products out') a) o []
      → o ≡ accepted (byte_at vector a ∷ trues n (cubes_of (list_in products out')) a ∷ [])
  unfolding goes_on
  value_call good a h is o c =
      let short : length l ≤ most_records = le_trans W.room (capacity_most cubes most_records (length out)) in
      let fine = list_fine n a l W.is_one.few h short good in
      (not_wrong_goes_on (value n (list_in products out') a) o [] c (subst (λ (b : List ℕ). NoneWrong (faults (value n b a))) (sym bytes) fine)).0
      ∙ ap (λ (x : ℕ). accepted (x ∷ trues n (cubes_of (list_in products out')) a ∷ [])) (of_list (λ m. list_value n m a ≡ byte_at vector a) is)
