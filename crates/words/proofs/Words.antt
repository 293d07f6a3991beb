-- The words of an outcome that is known otherwise, and those of a settled map.
-- Assumes nothing.
use mathlib.Core.Path.{◌≡◌, refl, ap, ◌∙◌}
use mathlib.Core.List.{List}
use Prim.Native.Nat.{ℕ}
use Rattle.std.specs.Prelude.{Result, Ok, Err}
use Rattle.records.specs.declared.Refusal.{Refusal}
use Rattle.records.specs.Answers.{Outcome, outcome_of}
use Rattle.settling.specs.declared.Settlement.{Settlement}
use Rattle.settling.specs.Calls.{settled}
use Rattle.words.specs.Words.{words, settlement_values, settled_words}

-- what was put is the words of an outcome, and the outcome is the call's
pub words_of : (told : Outcome → List ℕ) {answer : List ℕ} {o call : Outcome} → answer ≡ told o → o ≡ call → answer ≡ told call
words_of told put is = put ∙ ap told is

-- the values of a settled map are put with both of its absent words
pub settled_put : (r : Result Settlement Refusal) → words (outcome_of settlement_values r) ≡ settled_words (settled r)
unfolding settled_words
settled_put (Ok s) = refl
settled_put (Err e) = refl
