-- A script that a call wrote; and a call with a script, and the same call with another script, which documents 02, Eleven and Twelve, compare.
-- Assumes nothing.
use Rattle.std.specs.Prelude.{◌≡◌, List, ℕ, ◌*◌, length, take}
use Rattle.script.specs.Scripts.{step_width}
use Rattle.promises.specs.Calls.{Call, run, settle}

-- the script that a call wrote to a buffer: its front, 8 bytes for each step that is answered
abbrev pub written_in : ℕ → List ℕ → List ℕ
written_in steps buffer = take (step_width * steps) buffer

-- the second call is the first one with the other script, on the same list, in a work buffer as long, whatever it holds; of settle with the same output buffer
pub data OtherScript (n : ℕ) (list script other : List ℕ) : Call → Call → Type 0 where
  of_run : (work again : List ℕ) → length again ≡ length work → OtherScript n list script other (run n list script work) (run n list other again)
  of_settle : (work again out : List ℕ) → length again ≡ length work → OtherScript n list script other (settle n list script work out) (settle n list other again out)
