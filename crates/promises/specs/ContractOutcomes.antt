-- That every outcome which a function's contract allows is one of a call of document 01. `Learnt`, of a function's module `Reads`, is what its contract
-- tells a caller, as the prover reads it; a are the arguments, z is the answer, ws are the last contents of the lent buffers.
-- Assumes nothing.
use Rattle.std.specs.Prelude.{List, ℕ}
use contract.Lifetimes.{Lfts}
use denote.Triple.Clauses.{Lasts, at_exit}
use borrow.Fn.Kind.{ParamKind, ResultKind}
use borrow.Fn.Kinds.{Out, Dens, res_t, ended_of}
use Rattle.records.specs.Answers.{Outcome}
use Rattle.promises.specs.Calls.{Call, Called, Faced}

module _ (n : ℕ) (ps : List (ParamKind n)) (r : ResultKind n) (Learnt : Out n ps r) (call : (κs : Lfts n) → Dens κs ps → Call)
    (left : (κs : Lfts n) (a : Dens κs ps) → Lasts (ended_of n ps r) κs a → List (List ℕ)) where
  -- a function whose answer `told` gives in document 01's numbers and values
  abbrev pub IsCalled : ((κs : Lfts n) → (res_t r κs).Denot → Outcome) → Type 0
  IsCalled told =
      (κs : Lfts n) (a : Dens κs ps) (z : (res_t r κs).Denot) (ws : Lasts (ended_of n ps r) κs a) →
      Learnt κs a z (at_exit (ended_of n ps r) κs a ws) →
      Called (call κs a) (told κs z) (left κs a ws)

  -- a function for C and Rust, which leaves its eight words in a buffer
  abbrev pub IsFaced : ((κs : Lfts n) (a : Dens κs ps) → Lasts (ended_of n ps r) κs a → List ℕ) → Type 0
  IsFaced answer =
      (κs : Lfts n) (a : Dens κs ps) (z : (res_t r κs).Denot) (ws : Lasts (ended_of n ps r) κs a) →
      Learnt κs a z (at_exit (ended_of n ps r) κs a ws) →
      Faced (call κs a) (answer κs a ws) (left κs a ws)

-- a function that answers one of the buffers by value, as the starts of an index: what it leaves is read of its answer too
abbrev pub IsCalledBy : (n : ℕ) (ps : List (ParamKind n)) (r : ResultKind n) → Out n ps r → ((κs : Lfts n) → Dens κs ps → Call)
    → ((κs : Lfts n) (a : Dens κs ps) → (res_t r κs).Denot → Lasts (ended_of n ps r) κs a → List (List ℕ)) → ((κs : Lfts n) → (res_t r κs).Denot → Outcome) → Type 0
IsCalledBy n ps r Learnt call left told =
    (κs : Lfts n) (a : Dens κs ps) (z : (res_t r κs).Denot) (ws : Lasts (ended_of n ps r) κs a) →
    Learnt κs a z (at_exit (ended_of n ps r) κs a ws) →
    Called (call κs a) (told κs z) (left κs a z ws)
