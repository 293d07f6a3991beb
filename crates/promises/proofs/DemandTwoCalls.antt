-- Demand 2, of the calls: what an accepted call answers and leaves means what the papers define, over the contracts of the calls, also one after another.
-- "Truth vector to coefficients and back returns the vector, under every polarity."
-- Assumes nothing.
use mathlib.Core.Path.{◌≡◌, refl, sym, ap, ◌∙◌, subst}
use mathlib.Core.List.{List, [], ◌∷◌, ◌++◌}
use Prim.Native.Nat.{ℕ, ◌*◌, ◌%◌, ◌^◌, ◌≤◌, ◌<◌}
use native.Mathlib.Nat.{le_trans, mod-lt, zero-lt-suc}
use lib.Bits.{bit_xor}
use lib.ListN.{length, take, drop, get_or-append}
use lib.Seq.{take_at, drop_at}
use Rattle.bits.specs.Below.{list_below, LeastThen}
use Rattle.bits.specs.Sums.{sum, one_if}
use Rattle.bits.proofs.Below.{length_list_below, get_or_list_below}
use Rattle.records.specs.Records.{flat, image}
use Rattle.records.specs.Answers.{Outcome, accepted}
use Rattle.records.proofs.Answers.{not_both}
use Rattle.records.proofs.Records.{capacity_most}
use Rattle.cube.specs.declared.Cube.{Cube}
use Rattle.cube.specs.Cubes.{holds}
use Rattle.cube.specs.Lists.{cubes, cubes_of, cube_capacity, most_variables, most_records, record_width, vector_variables, list_value, trues, truth_vector}
use Rattle.cube.proofs.Meaning.{value_is_exor}
use Rattle.polarity.specs.Cost.{cost}
use Rattle.polarity.specs.Forms.{coefficient, value_back, form_from, form_list, size}
use Rattle.polarity.specs.Vectors.{byte_at, Vector, coefficient_vector, vector_back}
use Rattle.polarity.proofs.Forms.{form_good, form_cong}
use Rattle.polarity.proofs.Parities.{parity_lt}
use Rattle.polarity.proofs.Theorems.{there_and_back, back_and_there, form_has_the_value, best_is_first}
use Rattle.script.specs.Run.{Ran, stopped, ended, run}
use Rattle.script.specs.Scripts.{steps_of}
use Rattle.script.specs.Calls.{run_of, ran_outcome, ran_work}
use Rattle.script.proofs.Value.{run_value}
use Rattle.promises.specs.Calls.{Call, Called}
use Rattle.promises.specs.Calls as call
use Rattle.promises.specs.Refusals.{NoneWrong, record_faults, list_faults, vector_faults, faults}
use Rattle.promises.specs.Accepted.{goes_on, goes_on_leaving}
use Rattle.promises.proofs.Chains.{none_left, none_right}
use Rattle.promises.proofs.NotWrong.{not_at_most, not_below, is_vector, good_list, fit_script, second_fine, flat_back, written_bytes, list_fine}
use Rattle.promises.proofs.DemandOne.{accepted_not_wrong, not_wrong_goes_on}
use Rattle.promises.proofs.Calling.{only}

-- ---- one call

module _ (c : Call) (v : List ℕ) (buffers : List (List ℕ)) (called : Called c (accepted v) buffers) where
  fine : NoneWrong (faults c)
  fine = accepted_not_wrong c (accepted v) buffers called v refl

  went_on : (accepted v ≡ goes_on c) × (buffers ≡ goes_on_leaving c)
  went_on = not_wrong_goes_on c (accepted v) buffers called fine

one_value : {x y : ℕ} → accepted (x ∷ []) ≡ accepted (y ∷ []) → x ≡ y
one_value e = cc

two_values : {x y z w : ℕ} → accepted (x ∷ y ∷ []) ≡ accepted (z ∷ w ∷ []) → (x ≡ z) × (y ≡ w)
two_values e = (cc, cc)

module _ (n : ℕ) (list : List ℕ) (a b t : ℕ) (c : Called (call.value n list a) (accepted (b ∷ t ∷ [])) []) where
  both : (b ≡ list_value n (cubes_of list) a) × (t ≡ trues n (cubes_of list) a)
  unfolding goes_on
  both = two_values (went_on (call.value n list a) (b ∷ t ∷ []) [] c).0

  -- The value call answers the EXOR of the list's products at the assignment, ..
  pub value_answers : b ≡ one_if (sum (λ c. holds n c a) (cubes_of list))
  value_answers = both.0 ∙ value_is_exor n (cubes_of list) a

  -- .. and the number of those that are true there, whose parity it is.
  pub value_trues : t ≡ trues n (cubes_of list) a
  value_trues = both.1

  pub value_parity : b ≡ t % 2
  unfolding list_value
  value_parity = both.0 ∙ ap (λ (k : ℕ). k % 2) (sym value_trues)

module _ (n : ℕ) (list out out' v : List ℕ) (c : Called (call.truth_vector n list out) (accepted v) (out' ∷ [])) where
  vector_left : out' ≡ truth_vector n (cubes_of list) ++ drop (2 ^ n) out
  unfolding goes_on_leaving
  vector_left = only (went_on (call.truth_vector n list out) v (out' ∷ []) c).1

  -- The truth vector's bytes are the list's values ..
  pub truth_vector_values : (a : ℕ) → a < 2 ^ n → byte_at out' a ≡ list_value n (cubes_of list) a
  truth_vector_values a h =
      ap (λ (b : List ℕ). byte_at b a) vector_left
      ∙ get_or-append (truth_vector n (cubes_of list)) (drop (2 ^ n) out) 0 a (subst (λ (k : ℕ). a < k) (sym (length_list_below (2 ^ n) (list_value n (cubes_of list)))) h)
      ∙ get_or_list_below (2 ^ n) (list_value n (cubes_of list)) a 0 h

  -- .. and every byte after them is as it was.
  pub truth_vector_rest : drop (2 ^ n) out' ≡ drop (2 ^ n) out
  truth_vector_rest =
      ap (drop (2 ^ n)) vector_left
      ∙ drop_at (truth_vector n (cubes_of list)) (drop (2 ^ n) out) (2 ^ n) (length_list_below (2 ^ n) (list_value n (cubes_of list)))

-- The best polarity has the least cost, then the fewest products, then the smallest p; the size is the number of products of its form.
pub best_polarity_answers : (n : ℕ) (vector : List ℕ) (p k : ℕ) → Called (call.best_polarity n vector) (accepted (p ∷ k ∷ [])) []
    → LeastThen (λ q. cost (form_list n q (byte_at vector))) (λ q. size n q (byte_at vector)) (2 ^ n) p × (k ≡ size n p (byte_at vector))
unfolding goes_on
best_polarity_answers n vector p k c =
    let t = two_values (went_on (call.best_polarity n vector) (p ∷ k ∷ []) [] c).0 in (
      subst (LeastThen (λ q. cost (form_list n q (byte_at vector))) (λ q. size n q (byte_at vector)) (2 ^ n)) (sym t.0) (best_is_first n (byte_at vector)),
      t.1 ∙ ap (λ (q : ℕ). size n q (byte_at vector)) (sym t.0),
    )

-- ---- vectors

-- the front of a buffer after a call that wrote V there
front : (n : ℕ) (f : ℕ → ℕ) (out out' : List ℕ) → ◌≡◌ {A = List (List ℕ)} (out' ∷ []) ((list_below (2 ^ n) f ++ drop (2 ^ n) out) ∷ []) → take (2 ^ n) out' ≡ list_below (2 ^ n) f
front n f out out' e = ap (take (2 ^ n)) (only e) ∙ take_at (list_below (2 ^ n) f) (drop (2 ^ n) out) (2 ^ n) (length_list_below (2 ^ n) f)

-- ---- there and back

module _ (n p : ℕ) (l out : List ℕ) (none : NoneWrong (faults (call.coefficients n l p out))) where
  vector : Vector n l
  unfolding faults
  vector = is_vector n l (none_left (vector_faults n l) _ none)

  low : p < 2 ^ n
  unfolding faults
  low = not_at_most p (2 ^ n) (none_right (vector_faults n l) _ none).0

-- a first call of which nothing is wrong, and a second one on what it left, into a buffer with room
module _ (n p : ℕ) (l out out' back back' : List ℕ) (o q : Outcome) (long : 2 ^ n ≤ length back) where
  -- Truth vector, coefficients, truth vector: both calls are accepted, and the second returns the vector, under every polarity ..
  pub calls_there_and_back : NoneWrong (faults (call.coefficients n l p out))
      → Called (call.coefficients n l p out) o (out' ∷ []) → Called (call.vector_back n (take (2 ^ n) out') p back) q (back' ∷ [])
      → (o ≡ accepted (2 ^ n ∷ [])) × (q ≡ accepted (2 ^ n ∷ [])) × (take (2 ^ n) back' ≡ l)
  unfolding goes_on goes_on_leaving faults
  calls_there_and_back none c d =
      let v = vector n p l out none in
      let g = not_wrong_goes_on (call.coefficients n l p out) o (out' ∷ []) c none in
      let w : take (2 ^ n) out' ≡ coefficient_vector n p l = front n (coefficient n p (byte_at l)) out out' g.1 in
      let more = second_fine n p (coefficient n p (byte_at l)) v.few (low n p l out none) (parity_lt n (λ t. byte_at l (bit_xor t p))) (take (2 ^ n) out') back w long in
      let h = not_wrong_goes_on (call.vector_back n (take (2 ^ n) out') p back) q (back' ∷ []) d more in (
        g.0,
        h.0,
        front n (value_back n p (byte_at (take (2 ^ n) out'))) back back' h.1 ∙ ap (vector_back n p) w ∙ there_and_back n p l v (low n p l out none),
      )

  -- .. and coefficients, truth vector, coefficients too.
  pub calls_back_and_there : NoneWrong (faults (call.vector_back n l p out))
      → Called (call.vector_back n l p out) o (out' ∷ []) → Called (call.coefficients n (take (2 ^ n) out') p back) q (back' ∷ [])
      → (o ≡ accepted (2 ^ n ∷ [])) × (q ≡ accepted (2 ^ n ∷ [])) × (take (2 ^ n) back' ≡ l)
  unfolding goes_on goes_on_leaving faults
  calls_back_and_there none c d =
      let v = vector n p l out none in
      let g = not_wrong_goes_on (call.vector_back n l p out) o (out' ∷ []) c none in
      let w : take (2 ^ n) out' ≡ vector_back n p l = front n (value_back n p (byte_at l)) out out' g.1 in
      let more = second_fine n p (value_back n p (byte_at l)) v.few (low n p l out none) (λ a. parity_lt n (byte_at l) (bit_xor a p)) (take (2 ^ n) out') back w long in
      let h = not_wrong_goes_on (call.coefficients n (take (2 ^ n) out') p back) q (back' ∷ []) d more in (
        g.0,
        h.0,
        front n (coefficient n p (byte_at (take (2 ^ n) out'))) back back' h.1 ∙ ap (coefficient_vector n p) w ∙ back_and_there n p l v (low n p l out none),
      )

-- ---- the form's list

-- coefficients, writing the form, and the value of what was written
module _ (n p k a : ℕ) (l c c' f f' : List ℕ) (o q : Outcome)
    (none : NoneWrong (faults (call.coefficients n l p c))) (first : Called (call.coefficients n l p c) o (c' ∷ []))
    (second : Called (call.write_form n (take (2 ^ n) c') p f) (accepted (k ∷ [])) (f' ∷ []))
    (h : a < 2 ^ n) (third : Called (call.value n (take (record_width * k) f') a) q []) where
  abbrev form : List Cube
  form = form_from n p (byte_at (take (2 ^ n) c'))

  is_form : form ≡ form_list n p (byte_at l)
  unfolding goes_on_leaving
  is_form =
      let g = not_wrong_goes_on (call.coefficients n l p c) o (c' ∷ []) first none in
      ap (λ (v : List ℕ). form_from n p (byte_at v)) (front n (coefficient n p (byte_at l)) c c' g.1)
      ∙ form_cong n p (byte_at (coefficient_vector n p l)) (coefficient n p (byte_at l)) (λ s b. get_or_list_below (2 ^ n) (coefficient n p (byte_at l)) s 0 b)

  room : length form ≤ cube_capacity (length f)
  unfolding faults
  room =
      let t = fine (call.write_form n (take (2 ^ n) c') p f) (k ∷ []) (f' ∷ []) second in
      not_below (length form) (cube_capacity (length f)) (none_right (vector_faults n (take (2 ^ n) c')) _ t).1.0

  bytes : take (record_width * k) f' ≡ flat cubes.enc form
  unfolding goes_on goes_on_leaving
  bytes =
      let g = went_on (call.write_form n (take (2 ^ n) c') p f) (k ∷ []) (f' ∷ []) second in
      written_bytes form k f f' (one_value g.0) room (only g.1)

  -- The written form's value is the vector's byte, at every assignment and under every polarity; the second number is of the form's products.
  pub form_value_call : q ≡ accepted (byte_at l a ∷ trues n (form_list n p (byte_at l)) a ∷ [])
  unfolding goes_on
  form_value_call =
      let v = vector n p l c none in
      let short : length form ≤ most_records = le_trans room (capacity_most cubes most_records (length f)) in
      let more = subst (λ (b : List ℕ). NoneWrong (faults (call.value n b a))) (sym bytes)
      (list_fine n a form v.few h short (form_good n p (byte_at (take (2 ^ n) c')))) in
      (not_wrong_goes_on (call.value n (take (record_width * k) f') a) q [] third more).0
      ∙ ap (λ (b : List ℕ). accepted (list_value n (cubes_of b) a ∷ trues n (cubes_of b) a ∷ [])) bytes
      ∙ ap (λ (m : List Cube). accepted (list_value n m a ∷ trues n m a ∷ [])) (flat_back form ∙ is_form)
      ∙ ap (λ (x : ℕ). accepted (x ∷ trues n (form_list n p (byte_at l)) a ∷ [])) (form_has_the_value n p (byte_at l) v.bits (low n p l c none) a h)

-- Truth vector of a list, its coefficients under any polarity, the form written from them, the form's value: it is the list's value.
module _ (n p k a : ℕ) (list v v' c c' f f' : List ℕ) (o₁ o₂ q : Outcome) (few : NoneWrong (faults (call.truth_vector n list v))) (low : p < 2 ^ n) (long : 2 ^ n ≤ length c)
    (h : a < 2 ^ n) where
  pub four_calls : Called (call.truth_vector n list v) o₁ (v' ∷ [])
      → Called (call.coefficients n (take (2 ^ n) v') p c) o₂ (c' ∷ [])
      → Called (call.write_form n (take (2 ^ n) c') p f) (accepted (k ∷ [])) (f' ∷ [])
      → Called (call.value n (take (record_width * k) f') a) q []
      → (o₁ ≡ accepted (2 ^ n ∷ [])) × (o₂ ≡ accepted (2 ^ n ∷ []))
      × (q ≡ accepted (list_value n (cubes_of list) a ∷ trues n (form_list n p (byte_at (truth_vector n (cubes_of list)))) a ∷ []))
  unfolding goes_on goes_on_leaving faults list_faults record_faults list_value
  four_calls first second third fourth =
      let g = not_wrong_goes_on (call.truth_vector n list v) o₁ (v' ∷ []) first few in
      let w : take (2 ^ n) v' ≡ truth_vector n (cubes_of list) = front n (list_value n (cubes_of list)) v v' g.1 in
      let none = second_fine n p (list_value n (cubes_of list)) (not_below n vector_variables few.0) low
      (λ t. mod-lt (trues n (cubes_of list) t) (zero-lt-suc 1)) (take (2 ^ n) v') c w long in (
        g.0,
        (not_wrong_goes_on (call.coefficients n (take (2 ^ n) v') p c) o₂ (c' ∷ []) second none).0,
        form_value_call n p k a (take (2 ^ n) v') c c' f f' o₂ q none second third h fourth
            ∙ ap (λ (b : List ℕ). accepted (byte_at b a ∷ trues n (form_list n p (byte_at b)) a ∷ [])) w
            ∙ ap (λ (x : ℕ). accepted (x ∷ trues n (form_list n p (byte_at (truth_vector n (cubes_of list)))) a ∷ [])) (get_or_list_below (2 ^ n) (list_value n (cubes_of list)) a 0 h),
      )

-- ---- run

module _ (n : ℕ) (list script work work' : List ℕ) (count peak : ℕ)
    (c : Called (call.run n list script work) (accepted (count ∷ peak ∷ [])) (work' ∷ [])) where
  -- Run answers the count and the peak of the list that the script ends in, after the undoing; that list is at the front of work, and zeros after it ..
  pub run_answers : (m : List Cube) × (run n (cube_capacity (length work)) (steps_of script) (cubes_of list) ≡ ended m peak) × (count ≡ length m)
      × (work' ≡ image cubes (length work) m)
  unfolding goes_on goes_on_leaving run_of
  run_answers = let g = went_on (call.run n list script work) (count ∷ peak ∷ []) (work' ∷ []) c in go (run_of n list script (length work)) refl g.0 g.1
    where
      go : (ran : Ran Cube) → run_of n list script (length work) ≡ ran → accepted (count ∷ peak ∷ []) ≡ ran_outcome ran → work' ∷ [] ≡ ran_work (length work) ran ∷ []
          → (m : List Cube) × (run_of n list script (length work) ≡ ended m peak) × (count ≡ length m) × (work' ≡ image cubes (length work) m)
      go (stopped why step) is e f = absurd (not_both e)
      go (ended m q) is e f = let t = two_values e in (m, is ∙ ap (ended m) (sym t.1), t.0, only f)

  -- .. and it has the given list's value at every assignment.
  pub run_keeps_value : (m : List Cube) → run n (cube_capacity (length work)) (steps_of script) (cubes_of list) ≡ ended m peak
      → (a : ℕ) → list_value n m a ≡ list_value n (cubes_of list) a
  unfolding faults
  run_keeps_value m ran =
      let none = fine (call.run n list script work) (count ∷ peak ∷ []) (work' ∷ []) c in
      run_value n (cube_capacity (length work)) (steps_of script) (fit_script n script (none_right (list_faults cubes most_variables n list) _ none).1)
      (cubes_of list) (good_list most_variables n list (none_left (list_faults cubes most_variables n list) _ none)) m peak ran
