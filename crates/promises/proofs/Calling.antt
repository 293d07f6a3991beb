-- The buffers of a call by themselves. An accepted call of settle answers a settlement; and what it says of its input, its counts and its buffers.
-- Assumes nothing.
use mathlib.Core.Path.{◌≡◌, sym, ◌∙◌}
use mathlib.Core.List.{List, [], ◌∷◌}
use Prim.Native.Nat.{ℕ}
use lib.ListN.{length}
use Rattle.std.specs.Prelude.{Ok}
use Rattle.records.specs.Records.{zeros}
use Rattle.records.specs.Answers.{accepted}
use Rattle.settling.specs.declared.Settlement.{Settlement}
use Rattle.settling.specs.Calls.{settle_out, settled}
use Rattle.settling.proofs.Outcomes.{Ended, settlement_of, same_settlement, settle_ended, settle_counts, work_cleared}
use Rattle.promises.specs.Calls.{settle, answers, leaves, Called}

-- the script ended, and the settlement is of its end
pub record Accepting (n : ℕ) (list script work out : List ℕ) (s : Settlement) (work' out' : List ℕ) : Type 0 where
  pub end : Ended n list script (length work) (length out)
  pub is : s ≡ settlement_of n list script (length work) (length out) end
  pub work_is : work' ≡ zeros (length work)
  pub out_is : out' ≡ settle_out n list script (length work) out

-- the one buffer of a call, and the two of another
pub only : {x y : List ℕ} → ◌≡◌ {A = List (List ℕ)} (x ∷ []) (y ∷ []) → x ≡ y
only e = cc

pub work_of : {a b x y : List ℕ} → ◌≡◌ {A = List (List ℕ)} (a ∷ b ∷ []) (x ∷ y ∷ []) → a ≡ x
work_of e = cc

pub out_of : {a b x y : List ℕ} → ◌≡◌ {A = List (List ℕ)} (a ∷ b ∷ []) (x ∷ y ∷ []) → b ≡ y
out_of e = cc

pub called_accepted : (n : ℕ) (list script work out work' out' : List ℕ) (s : Settlement)
    → Called (settle n list script work out) (settled (Ok s)) (work' ∷ out' ∷ []) → Accepting n list script work out s work' out'
unfolding answers leaves
called_accepted n list script work out work' out' s c =
    let e = settle_ended n list script (length work) (length out) _ (sym c.answer) in
    record {
      end = e;
      is = same_settlement s (settlement_of n list script (length work) (length out) e) (c.answer ∙ settle_counts n list script (length work) (length out) e);
      work_is = work_of c.left ∙ work_cleared n list script work (length out) e.values e.checked;
      out_is = out_of c.left;
    }

pub accepted_settled : (n : ℕ) (list script work out v : List ℕ) (buffers : List (List ℕ)) → Called (settle n list script work out) (accepted v) buffers
    → (s : Settlement) × Called (settle n list script work out) (settled (Ok s)) buffers
unfolding answers
accepted_settled n list script work out v buffers c =
    let e = settle_ended n list script (length work) (length out) v (sym c.answer) in
    (settlement_of n list script (length work) (length out) e, record { answer = sym (settle_counts n list script (length work) (length out) e); left = c.left })
