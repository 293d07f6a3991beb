-- `choice::write_kronecker` meets its contract.
-- Assumes nothing.
use mathlib.Core.Path.{◌≡◌, sym, ap, ◌∙◌}
use mathlib.Core.List.{[], ◌∷◌}
use Prim.Native.Nat.{ℕ, ◌≤◌}
use native.Mathlib.Omega.{arith}
use lib.Pow.{pow_mono}
use Rattle.records.specs.Answers.{accepted}
use Rattle.records.specs.Records.{written}
use Rattle.records.proofs.Answers.{call_refused, call_accepted, handed_on}
use Rattle.cube.specs.Lists.{cubes}
use Rattle.polarity.specs.Vectors.{byte_at, Vector, check_vector}
use Rattle.polarity.proofs.Shown.{alone_packed}
use Rattle.polarity.proofs.Vectors.{check_accepts}
use Rattle.trees.proofs.Halves.{stands_vector}
use Rattle.kronecker.specs.Choices.{choice_list}
use Rattle.kronecker.specs.Calls.{kronecker_variables, kronecker_after}
use Rattle.kronecker.proofs.choice.Calling.{kronecker_1, kronecker_refused, kronecker_5, kronecker_0, choice_is_best}
use borrow.Author.Rules.{rules}
use Rattle.kronecker.proofs.choice.write_kronecker.Goals as goal
use Rattle.kronecker.proofs.choice.write_kronecker.Goals.{In_ok-check_vector}

few : (a : In_ok-check_vector) → a.args.n ≤ kronecker_variables
few a = omega (arith, a.if-n-gt-MOST_VARIABLES.false)

told : (a : In_ok-check_vector) → check_vector a.args.n a.args.vector.now ≡ accepted (a.in_ok-check_vector.field-0 ∷ [])
told a = sym a.in_ok-check_vector.ensures

ok : (a : In_ok-check_vector) → Vector a.args.n a.args.vector.now
ok a = check_accepts _ _ _ (told a)

pub returns-then-n-gt-MOST_VARIABLES : goal.returns-then-n-gt-MOST_VARIABLES
unfolding kronecker_after
returns-then-n-gt-MOST_VARIABLES c = let both = call_refused _ _ _ _ (kronecker_1 _ _ _ _ c.at.ensures (omega (arith, c.if-n-gt-MOST_VARIABLES.true))) in record { result_value = both.0; out_after = both.1 }

pub returns-then-capacity-found : goal.returns-then-capacity-found
unfolding kronecker_after
returns-then-capacity-found c = let both = call_refused _ _ _ _ (kronecker_5 _ _ _ (few (goal.at.returns-then-capacity-found c).In_ok-check_vector) _ (told (goal.at.returns-then-capacity-found c).In_ok-check_vector) _ c.pack_word-w.ensures (search rules) _ c.find-found.ensures _ c.capacity.ensures
    _ c.at-then-capacity-found.ensures c.if-capacity-found.true) in record { result_value = both.0; out_after = both.1 }

pub put_choice-requires : goal.put_choice-requires
put_choice-requires c =
    let h = few (goal.at.put_choice-requires c).In_ok-check_vector in (omega (arith, h), omega (arith, pow_mono {j = 6} h))

pub returns-in_err-check_vector : goal.returns-in_err-check_vector
unfolding kronecker_after
returns-in_err-check_vector c = let both = call_refused _ _ _ _ (kronecker_refused _ _ _ (omega (arith, c.if-n-gt-MOST_VARIABLES.false)) _ (sym c.in_err-check_vector.ensures)) in record { result_value = handed_on _ _ _ _ c.from_residual.ensures both.0; out_after = both.1 }

pub returns : goal.returns
unfolding kronecker_after
returns c = let both = let S = stands_vector _ _ (ok (goal.at.returns c).In_ok-check_vector) _ (alone_packed _ _ (ok (goal.at.returns c).In_ok-check_vector) (few (goal.at.returns c).In_ok-check_vector) _ c.pack_word-w.ensures) in
    call_accepted _ _ _ _ _ (kronecker_0 _ _ _ (few (goal.at.returns c).In_ok-check_vector) _ (told (goal.at.returns c).In_ok-check_vector) _ c.pack_word-w.ensures (search rules) _ c.find-found.ensures _ c.capacity.ensures c.if-capacity-found.false)
    (c.put_choice.ensures.bytes _ S
    ∙ ap (λ (x : ℕ). written cubes 0 (choice_list c.args.n x (byte_at c.args.vector.now)) c.args.out.now) (choice_is_best _ _ _ (few (goal.at.returns c).In_ok-check_vector) _ (told (goal.at.returns c).In_ok-check_vector) _ c.pack_word-w.ensures (search rules) _ c.find-found.ensures _ c.capacity.ensures)) in record { result_value = both.0; out_after = both.1 }
