-- Where nothing is wrong of a list, a script or a vector, what it is; the bytes of a list that was written; and lists and vectors of which nothing is wrong.
-- Assumes nothing.
use mathlib.Core.Path.{◌≡◌, refl, sym, ap, ◌∙◌, subst}
use mathlib.Core.Bool.{true, true≢false}
use mathlib.Core.List.{List, ◌++◌, append-nil}
use Prim.Native.Nat.{ℕ, suc, ◌-◌, ◌*◌, ◌/◌, ◌^◌, ◌≤◌, ◌<◌}
use native.Mathlib.Nat.{lt_of_not-le, le_trans, mul-le-mul_left}
use native.Mathlib.Omega.{arith}
use borrow.Author.Tests.{le-leb}
use lib.ListN.{length, get_or, take, drop, replicate}
use lib.Seq.{take_at}
use Rattle.bits.specs.Below.{list_below}
use Rattle.bits.specs.Sums.{All}
use Rattle.bits.proofs.Below.{length_list_below, get_or_list_below}
use Rattle.bits.proofs.Sums.{all_map}
use Rattle.records.specs.Records.{records, list_of, flat, filled, written, image, Holds}
use Rattle.records.proofs.Images.{length_flat}
use Rattle.records.proofs.Records.{capacity_fits, written_front, holds_records}
use Rattle.cube.specs.declared.Cube.{Cube}
use Rattle.cube.specs.Cubes.{good, Good, one}
use Rattle.cube.specs.Lists.{cubes, cubes_of, cube_capacity, most_records, record_width, vector_variables}
use Rattle.cube.proofs.Codes.{parts_good}
use Rattle.cube.specs.Calls.{check_list}
use Rattle.cube.proofs.Lists as list_laws
use Rattle.cube.proofs.Lists.{lawful, good_at}
use Rattle.polarity.specs.Vectors.{Vector, check_vector}
use Rattle.polarity.proofs.Vectors.{check_accepts}
use Rattle.steps.specs.Steps.{Allowed, meaning}
use Rattle.script.specs.Scripts.{step_records, fits, steps_of}
use Rattle.script.specs.Calls.{check_script}
use Rattle.script.proofs.Scripts.{meaning_fits, script_accepts}
use Rattle.shared.specs.SharedRecord.{shares_of, Fine}
use Rattle.shared.specs.Calls.{check_shared}
use Rattle.shared.proofs.Lists.{shared_accepts}
use Rattle.shared_steps.specs.SharedSteps.{SharedAllowed}
use Rattle.shared_run.specs.SharedScripts.{check_shared_script, shared_steps_of}
use Rattle.shared_run.proofs.SharedScripts.{shared_script_accepts, shared_script_fits}
use Rattle.promises.specs.Calls as call
use Rattle.promises.specs.Refusals.{NoneWrong, record_faults, list_faults, at_faults, script_faults, vector_faults, shared_faults, shared_script_faults, faults}
use Rattle.promises.proofs.Chains.{none_both, judged_right}
use Rattle.promises.proofs.Judging.{by_list, by_script, by_vector, by_shared_lem, by_shared_script}

-- ---- a fault that is not there

pub not_at_most : (a b : ℕ) → ((q : ℕ) → (q ≡ 0) × (b ≤ a) → ⊥) → a < b
not_at_most a b none = lt_of_not-le (λ h. none 0 (refl, h))

pub not_below : (a b : ℕ) → ((q : ℕ) → (q ≡ 0) × (b < a) → ⊥) → a ≤ b
not_below a b none = let l : a < suc b = lt_of_not-le (λ h. none 0 (refl, h)) in omega arith

-- ---- what is known where nothing is wrong

-- a list's cubes are good, a script's steps are allowed
pub good_list : (limit n : ℕ) (list : List ℕ) → NoneWrong (list_faults cubes limit n list) → All (Good n) (cubes_of list)
good_list limit n list none = (list_laws.check_accepts cubes limit n list _ (judged_right (list_faults cubes limit n list) (check_list limit n list) _ (by_list cubes limit n list) none)).good

pub fit_script : (n : ℕ) (script : List ℕ) → NoneWrong (script_faults n script) → All (Allowed n) (steps_of script)
unfolding steps_of
fit_script n script none =
    let s = script_accepts n script _ (judged_right (script_faults n script) (check_script n script) _ (by_script n script) none) in
    all_map (λ r. fits n r ≡ true) (Allowed n) meaning (meaning_fits n) (list_of step_records script) s.each

-- a list's shared products are fine, the steps of a script on them are allowed
pub fine_shared : (n : ℕ) (list : List ℕ) → NoneWrong (shared_faults n list) → All (Fine n) (shares_of list)
fine_shared n list none = (shared_accepts n list _ (judged_right (shared_faults n list) (check_shared n list) _ (by_shared_lem n list) none)).good

pub fit_shared_script : (n : ℕ) (script : List ℕ) → NoneWrong (shared_script_faults n script) → All (SharedAllowed n) (shared_steps_of script)
fit_shared_script n script none =
    let s = shared_script_accepts n script _ (judged_right (shared_script_faults n script) (check_shared_script n script) _ (by_shared_script n script) none) in
    shared_script_fits n script s.each

-- a vector is one
pub is_vector : (n : ℕ) (l : List ℕ) → NoneWrong (vector_faults n l) → Vector n l
is_vector n l none = check_accepts n l _ (judged_right (vector_faults n l) (check_vector n l) _ (by_vector n l) none)

-- ---- of which nothing is wrong

-- the bits of a function are a vector
pub bits_fine : (n : ℕ) (f : ℕ → ℕ) → n ≤ vector_variables → ((t : ℕ) → f t < 2) → NoneWrong (vector_faults n (list_below (2 ^ n) f))
unfolding vector_faults
bits_fine n f few small = (
  (λ q w. omega (arith, w.1)),
  (
    (λ q w. w.1 (length_list_below (2 ^ n) f)),
    (
      (λ q low.
          let inside : q < 2 ^ n = omega (arith, low.inside, length_list_below (2 ^ n) f) in
          let is : get_or (list_below (2 ^ n) f) q 0 ≡ f q = get_or_list_below (2 ^ n) f q 0 inside in
          true≢false (sym (le-leb (get_or (list_below (2 ^ n) f) q 0) 1 (omega (arith, is, small q))) ∙ low.fails)),
      tt,
    ),
  ),
)

-- nothing is wrong of a second transform under the same polarity, into a buffer with room
module _ (n p : ℕ) (f : ℕ → ℕ) (few : n ≤ vector_variables) (low : p < 2 ^ n) (small : (t : ℕ) → f t < 2) (l room : List ℕ)
    (is : l ≡ list_below (2 ^ n) f) (long : 2 ^ n ≤ length room) where
  pub second_fine : NoneWrong (faults (call.coefficients n l p room))
  unfolding faults
  second_fine =
      subst (λ (v : List ℕ). NoneWrong (faults (call.coefficients n v p room))) (sym is)
      (none_both (vector_faults n (list_below (2 ^ n) f)) _ (bits_fine n f few small) ((λ q w. omega (arith, w.1)), ((λ q w. omega (arith, w.1)), tt)))

-- the cubes of a list's bytes are the list
flat_holds : (l : List Cube) → Holds cubes (flat cubes.enc l) l
unfolding Holds image filled
flat_holds l =
    let none : length (flat cubes.enc l) - length (flat cubes.enc l) ≡ 0 = omega arith in
    sym (ap (λ (k : ℕ). flat cubes.enc l ++ replicate k 0) none ∙ append-nil (flat cubes.enc l))

pub flat_back : (l : List Cube) → cubes_of (flat cubes.enc l) ≡ l
unfolding list_of
flat_back l =
    let long : length (flat cubes.enc l) ≡ record_width * length l = length_flat cubes.enc record_width lawful.len l in
    let many : length (flat cubes.enc l) / record_width ≡ length l = omega arith in
    ap (λ (k : ℕ). records cubes k (flat cubes.enc l)) many ∙ holds_records cubes lawful (flat cubes.enc l) l (flat_holds l)

-- a list that was written to a buffer with room for it: it fits, and its bytes are the buffer's front
module _ (l : List Cube) where
  pub written_fits : (out : List ℕ) → length l ≤ cube_capacity (length out) → record_width * length l ≤ length out
  written_fits out room = le_trans (mul-le-mul_left record_width room) (capacity_fits cubes most_records (length out))

  pub written_bytes : (k : ℕ) (out out' : List ℕ) → k ≡ length l → length l ≤ cube_capacity (length out) → out' ≡ written cubes 0 l out
      → take (record_width * k) out' ≡ flat cubes.enc l
  written_bytes k out out' count room is =
      ap (take (record_width * k)) (is ∙ written_front cubes lawful out l (written_fits out room))
      ∙ take_at (flat cubes.enc l) (drop (record_width * length l) out) (record_width * k)
      (length_flat cubes.enc record_width lawful.len l ∙ ap (λ (j : ℕ). record_width * j) (sym count))

-- nothing is wrong of the value of a list of good cubes
pub list_fine : (n a : ℕ) (l : List Cube) → n ≤ vector_variables → a < 2 ^ n → length l ≤ most_records → All (Good n) l
    → NoneWrong (faults (call.value n (flat cubes.enc l) a))
unfolding faults at_faults list_faults record_faults
list_fine n a l few h short g =
    let long : length (flat cubes.enc l) ≡ record_width * length l = length_flat cubes.enc record_width lawful.len l in (
      (λ q w. omega (arith, w.1)),
      (
        (λ q w. w.1 (omega arith)),
        (
          (λ q w. omega (arith, w.1)),
          (
            (λ q low.
                true≢false (sym (subst (λ (m : List Cube). good n (get_or m q one) ≡ true) (sym (flat_back l)) (parts_good n (get_or l q one) (good_at n l g q))) ∙ low.fails)),
            ((λ q w. omega (arith, w.1)), tt),
          ),
        ),
      ),
    )
