-- Demand 2. The value of a list, each rewrite, each L-transformation and each fixed-polarity Reed-Muller form are exactly what the published papers
-- define. Truth vector to coefficients and back returns the vector, under every polarity. 000, 001 and 002 are the source documents of document 01.
-- The theorems are proved in cube (Meaning), steps (Rules, Transformation, Inversion), polarity (Theorems) and script (Counting), and stand here as one page.
-- Assumes nothing.
use mathlib.Core.Path.{◌≡◌, sym, ap, ◌∙◌}
use mathlib.Core.Logic.{◌≢◌, ◌⊎◌}
use mathlib.Core.Bool.{true}
use mathlib.Core.List.{List, [], ◌∷◌, map}
use Prim.Native.Nat.{ℕ, suc, ◌+◌, ◌*◌, ◌^◌, ◌≤◌, ◌<◌}
use native.Mathlib.Omega.{arith}
use borrow.Author.Tests.{le-leb, lt-leb}
use lib.Bits.{bit_and}
use lib.Dec.{eqb}
use lib.ListN.{length, get_or}
use Rattle.std.specs.Prelude.{Some, None, Ok}
use Rattle.bits.specs.Bits.{bit}
use Rattle.bits.specs.Sums.{sum, one_if, All}
use Rattle.bits.specs.Below.{LeastThen}
use Rattle.cube.specs.declared.Cube.{Cube}
use Rattle.cube.specs.Cubes.{code, put, one, Good, met, holds}
use Rattle.cube.specs.Lists.{cubes_of, cube_capacity, list_value, truth_vector, vector_variables}
use Rattle.cube.proofs.Meaning as meaning
use Rattle.steps.specs.Moves.{next}
use Rattle.orders.specs.Codes.{lower, higher}
use Rattle.steps.specs.Steps.{Step, Allowed, drop, join, split, turn, L, step, exchanged, is_split, is_join, is_drop}
use Rattle.steps.specs.Effects.{DropDone, JoinDone, SplitDone, TurnDone, IsRewrite}
use Rattle.steps.specs.Rules.{complemented, plain, absent, bar, IsThird, Same, DropRule, JoinRule, SplitRule, TurnRule, Transformed}
use Rattle.steps.proofs.Inversion as inversion
use Rattle.steps.proofs.Kept as kept
use Rattle.steps.proofs.Rules as rules
use Rattle.steps.proofs.Transformation as transformation
use Rattle.script.specs.Run.{ended, undo, run}
use Rattle.script.specs.Counts.{how_many, lists, greatest}
use Rattle.script.specs.Scripts.{steps_of}
use Rattle.script.specs.Calls.{run_of}
use Rattle.script.proofs.Counts as counting
use Rattle.polarity.specs.Cost.{cost}
use Rattle.polarity.specs.Forms.{parity_within, coefficient, form_from, form_list, Form, size, best_polarity}
use Rattle.polarity.specs.Vectors.{byte_at, Vector, coefficient_vector, vector_back}
use Rattle.polarity.proofs.Theorems as theorems
use Rattle.polarity.proofs.Uniqueness as uniqueness
use Rattle.settling.specs.declared.Settlement.{Settlement}
use Rattle.settling.specs.Candidates.{best_form, fixed_of}
use Rattle.settling.specs.Calls.{settled}
use Rattle.promises.specs.Calls.{settle, Called}
use Rattle.promises.proofs.Calling.{Accepting, called_accepted}

-- ---- "The value of a list"

-- A list's value is the EXOR of its products.
pub value_is_exor : (n : ℕ) (l : List Cube) (a : ℕ) → list_value n l a ≡ one_if (sum (λ c. holds n c a) l)
value_is_exor = meaning.value_is_exor

-- A product is true where each of its literals is met, per variable, and only there (002, definition 3.3) ..
pub product_true : (n : ℕ) (c : Cube) (a : ℕ) → ((k : ℕ) → k < n → met (code c k) (bit a k) ≡ true) → holds n c a ≡ true
product_true = meaning.product_true

pub true_product : (n : ℕ) (c : Cube) (a : ℕ) → holds n c a ≡ true → (k : ℕ) → k < n → met (code c k) (bit a k) ≡ true
true_product = meaning.true_product

-- .. which is one masked comparison of its record's numbers.
pub product_by_mask : (n : ℕ) (c : Cube) (a : ℕ) → Good n c → a < 2 ^ n → holds n c a ≡ eqb (bit_and c.seen a) c.value
product_by_mask = meaning.product_by_mask

-- "The product with no literal is the constant 1. The empty list is the constant 0."
pub no_literal_true : (n a : ℕ) → holds n one a ≡ true
no_literal_true = meaning.no_literal_true

pub empty_list_zero : (n a : ℕ) → list_value n [] a ≡ 0
empty_list_zero = meaning.empty_list_zero

-- ---- "each rewrite"

-- A rule says what the step decides of its left side, wherever the cubes stand, and that both sides are the same function. In any product t ..
module _ (n : ℕ) (t : Cube) (g : Good n t) where
  -- .. at a variable v: xt ⊕ yt → zt, where z is the third of x and y; and xt → yt ⊕ zt, where y is the lower and z the higher of the other codes ..
  pub join_codes : (v : ℕ) → v < n → (x y z : ℕ) → IsThird x y z → JoinRule n (put t v x) (put t v y) (put t v z)
  join_codes = rules.join_codes n t g

  pub split_codes : (v : ℕ) → v < n → (x y z : ℕ) → x < 3 → lower x ≡ y → higher x ≡ z → SplitRule n v (put t v x) (put t v y) (put t v z)
  split_codes = rules.split_codes n t g

  -- .. and at two variables v and u: the turn at v makes z of x and x' in the first product, and w of y' and y in the second.
  pub turn_codes : (v u : ℕ) → v < n → u < n → v ≢ u → (x x' z y y' w : ℕ) → IsThird x x' z → IsThird y' y w
      → TurnRule n v (put (put t v x) u y) (put (put t v x') u y') (put (put t v z) u y) (put (put t v x') u w)
  turn_codes = rules.turn_codes n t g

  -- The rules of 000 by their names, where x is the literal p of the variable v and y the literal q of u: either of the two literals each.
  -- (S6) 1 ⊕ 1 → 0
  pub rule_s6 : DropRule n t t
  rule_s6 = rules.rule_s6 n t g

  module _ (v : ℕ) (hv : v < n) where
    -- (1S) 1 → x ⊕ x̄
    pub rule_1_s : SplitRule n v (put t v absent) (put t v complemented) (put t v plain)
    rule_1_s = rules.rule_1_s n t g v hv

    module _ (p : ℕ) (hp : p < 2) where
      -- (S1) x ⊕ x̄ → 1
      pub rule_s1 : JoinRule n (put t v p) (put t v (bar p)) (put t v absent)
      rule_s1 = rules.rule_s1 n t g v hv p hp

      -- (S2) x ⊕ 1 → x̄
      pub rule_s2 : JoinRule n (put t v p) (put t v absent) (put t v (bar p))
      rule_s2 = rules.rule_s2 n t g v hv p hp

      -- (2S) x̄ → x ⊕ 1
      pub rule_2_s : SplitRule n v (put t v (bar p)) (put t v p) (put t v absent)
      rule_2_s = rules.rule_2_s n t g v hv p hp

      module _ (u : ℕ) (hu : u < n) (vu : v ≢ u) (q : ℕ) (hq : q < 2) where
        -- (S3) xy ⊕ ȳ → 1 ⊕ x̄y
        pub rule_s3 : TurnRule n v (put (put t v p) u q) (put (put t v absent) u (bar q)) (put (put t v (bar p)) u q) (put (put t v absent) u absent)
        rule_s3 = rules.rule_s3 n t g v hv p hp u hu vu q hq

        -- (S4) xy ⊕ x̄ȳ → x̄ ⊕ y
        pub rule_s4 : TurnRule n v (put (put t v p) u q) (put (put t v (bar p)) u (bar q)) (put (put t v absent) u q) (put (put t v (bar p)) u absent)
        rule_s4 = rules.rule_s4 n t g v hv p hp u hu vu q hq

        -- (S5) xy ⊕ x̄ȳ → x ⊕ ȳ
        pub rule_s5 : TurnRule n u (put (put t v p) u q) (put (put t v (bar p)) u (bar q)) (put (put t v p) u absent) (put (put t v absent) u (bar q))
        rule_s5 = rules.rule_s5 n t g v hv p hp u hu vu q hq

-- What a step that is done does to the list: its places and cubes are as document 01's table needs them, and the next list is the one it names.
module _ (n cap i j : ℕ) (l m : List Cube) where
  pub drop_done : step n cap (drop i j) l ≡ next m → DropDone n i j l m
  drop_done = inversion.drop_accepted n cap i j l m

  pub join_done : step n cap (join i j) l ≡ next m → JoinDone n i j l m
  join_done = inversion.join_accepted n cap i j l m

  pub turn_done : (v : ℕ) → step n cap (turn v i j) l ≡ next m → TurnDone n v i j l m
  turn_done v = inversion.turn_accepted n cap v i j l m

  pub split_done : (v : ℕ) → step n cap (split v i) l ≡ next m → SplitDone cap v i l m
  split_done v = inversion.split_accepted n cap v i l m

-- A rewrite that is done keeps the list's function, step by step.
pub rewrite_value : (n cap : ℕ) (x : Step) → IsRewrite x → Allowed n x → (l m : List Cube) → All (Good n) l → step n cap x l ≡ next m
    → (a : ℕ) → list_value n m a ≡ list_value n l a
rewrite_value = kept.rewrite_value

-- ---- "each L-transformation"

module _ (n v b : ℕ) (hv : v < n) (hb : b < 2) where
  -- The step is made of every cube of the list ..
  pub l_step : (cap : ℕ) (f : List Cube) → step n cap (L v b) f ≡ next (map (exchanged v b) f)
  l_step cap f = inversion.l_accepted n cap v b f

  -- .. as 000, definition 4.1 has it: the literal is deleted where it stands and added where the variable has none.
  pub definition_4_1 : (c : Cube) → Good n c → Transformed v b c (exchanged v b c)
  definition_4_1 = transformation.definition_4_1 n v b hv hb

  -- It is its own inverse.
  pub own_inverse : (f : List Cube) → All (Good n) f → map (exchanged v b) (map (exchanged v b) f) ≡ f
  own_inverse = transformation.own_inverse n v b hv hb

  -- 000, corollary 4.3: two lists are the same function just where they are after it.
  pub corollary_4_3 : (f g : List Cube) → All (Good n) f → All (Good n) g
      → (Same n f g → Same n (map (exchanged v b) f) (map (exchanged v b) g)) × (Same n (map (exchanged v b) f) (map (exchanged v b) g) → Same n f g)
  corollary_4_3 = transformation.corollary_4_3 n v b hv hb

-- Two on different variables commute.
pub commutes : (u v a b : ℕ) → u ≢ v → (f : List Cube) → map (exchanged v b) (map (exchanged u a) f) ≡ map (exchanged u a) (map (exchanged v b) f)
commutes = transformation.commutes

-- ---- "each fixed-polarity Reed-Muller form"

module _ (n p : ℕ) where
  -- "Truth vector to coefficients and back returns the vector, under every polarity"; and coefficients to truth vector and back.
  pub there_and_back : (l : List ℕ) → Vector n l → p < 2 ^ n → vector_back n p (coefficient_vector n p l) ≡ l
  there_and_back = theorems.there_and_back n p

  pub back_and_there : (l : List ℕ) → Vector n l → p < 2 ^ n → coefficient_vector n p (vector_back n p l) ≡ l
  back_and_there = theorems.back_and_there n p

  -- The form has the function's value at every assignment.
  pub form_has_the_value : (f : ℕ → ℕ) → ((t : ℕ) → f t < 2) → p < 2 ^ n → (a : ℕ) → a < 2 ^ n → list_value n (form_list n p f) a ≡ f a
  form_has_the_value = theorems.form_has_the_value n p

  -- 001, definition 3: the literal whose code is the polarity's entry does not appear.
  pub literal_of_polarity_missing : (c : ℕ → ℕ) → All (λ d. (k : ℕ) → code d k ≢ bit p k) (form_from n p c)
  literal_of_polarity_missing = theorems.literal_of_polarity_missing n p

  -- The form's list is a form under its polarity: products without those literals, each set of variables once, ascending; ..
  pub form_is_form : (f : ℕ → ℕ) → Form n p (form_list n p f)
  form_is_form = uniqueness.form_is_form n p

  -- .. and 001, property 2: every form under that polarity that has the function's values is that list.
  pub form_is_only : (l : List Cube) → Form n p l → p < 2 ^ n → (f : ℕ → ℕ) → ((a : ℕ) → a < 2 ^ n → list_value n l a ≡ f a) → l ≡ form_list n p f
  form_is_only = uniqueness.form_is_only n p

module _ (n : ℕ) (f : ℕ → ℕ) where
  -- 002, lemma 2.2: polarity 0 is the positive form; its literals are plain, and f is the EXOR of the coefficients of the sets whose variables are all 1.
  pub positive_literals : All (λ d. (k : ℕ) → (code d k ≡ 2) ⊎ (code d k ≡ 1)) (form_list n 0 f)
  positive_literals = theorems.positive_literals n f

  pub positive_form : ((t : ℕ) → f t < 2) → (a : ℕ) → a < 2 ^ n → f a ≡ parity_within n (parity_within n f) a
  positive_form = theorems.positive_form n f

  pub positive_coefficient : (s : ℕ) → coefficient n 0 f s ≡ parity_within n f s
  positive_coefficient = theorems.positive_coefficient n f

  -- The best polarity has the least cost, then the fewest products, then the smallest p; ..
  pub best_is_first : LeastThen (λ p. cost (form_list n p f)) (λ p. size n p f) (2 ^ n) (best_polarity n f)
  best_is_first = theorems.best_is_first n f

  -- .. and no polarity, whatever its form costs, has fewer products.
  pub best_has_fewest : (q : ℕ) → q < 2 ^ n → size n (best_polarity n f) f ≤ size n q f
  best_has_fewest = theorems.best_has_fewest n f

-- ---- the script

-- The list a script ends in is the last of the lists between its steps, with all L steps undone, last one first.
pub script_result : (n cap : ℕ) (xs : List Step) (l m : List Cube) (peak : ℕ) → run n cap xs l ≡ ended m peak
    → m ≡ undo xs (get_or (lists n cap xs l) (length xs) [])
script_result = counting.run_result

-- ---- the counts that settle answers, of a call that was not refused

module _ (n : ℕ) (list script work out : List ℕ) (s : Settlement) (work' out' : List ℕ)
    (c : Called (settle n list script work out) (settled (Ok s)) (work' ∷ out' ∷ [])) where
  acc : Accepting n list script work out s work' out'
  acc = called_accepted n list script work out work' out' s c

  abbrev result : List Cube
  result = acc.end.result

  ran : run n (cube_capacity (length work)) (steps_of script) (cubes_of list) ≡ ended result s.peak
  unfolding run_of
  ran = acc.end.ran ∙ ap (λ (t : Settlement). ended result t.peak) (sym acc.is)

  -- given: the number of the given products
  pub given_count : s.given ≡ length (cubes_of list)
  given_count = ap (λ (t : Settlement). t.given) acc.is

  -- script: "the first count plus splits, less joins, less twice the drops"
  pub script_count : s.script + how_many is_join (steps_of script) + 2 * how_many is_drop (steps_of script) ≡ length (cubes_of list) + how_many is_split (steps_of script)
  script_count =
      let many : s.script ≡ length result = ap (λ (t : Settlement). t.script) acc.is in
      omega (arith, counting.run_count n (cube_capacity (length work)) (steps_of script) (cubes_of list) result s.peak ran)

  -- peak: "the greatest count met, the first included", of the lists between the steps, of which there is one more than there are steps
  pub peak_is : s.peak ≡ greatest (lists n (cube_capacity (length work)) (steps_of script) (cubes_of list))
  peak_is = counting.run_peak n (cube_capacity (length work)) (steps_of script) (cubes_of list) result s.peak ran

  pub lists_met : length (lists n (cube_capacity (length work)) (steps_of script) (cubes_of list)) ≡ suc (length (steps_of script))
  lists_met = counting.run_lists n (cube_capacity (length work)) (steps_of script) (cubes_of list) result s.peak ran

  -- "It is at most the first count plus splits."
  pub peak_at_most : s.peak ≤ length (cubes_of list) + how_many is_split (steps_of script)
  peak_at_most = counting.run_peak_splits n (cube_capacity (length work)) (steps_of script) (cubes_of list) result s.peak ran

  -- fixed: the best polarity of the given list's function, by its truth vector, and its size; none above 8 variables
  pub fixed_few : n ≤ vector_variables → s.fixed
      ≡ Some (record {
        polarity = best_polarity n (byte_at (truth_vector n (cubes_of list)));
        products = size n (best_polarity n (byte_at (truth_vector n (cubes_of list)))) (byte_at (truth_vector n (cubes_of list)));
      })
  unfolding fixed_of best_form
  fixed_few h = ap (λ (t : Settlement). t.fixed) acc.is ∙ simp (le-leb n vector_variables h)

  pub fixed_many : vector_variables < n → s.fixed ≡ None
  unfolding fixed_of
  fixed_many h = ap (λ (t : Settlement). t.fixed) acc.is ∙ simp (lt-leb n vector_variables h)
