-- That a contract determines the outcome: any two results, and any two last contents of the lent buffers, that satisfy it for the same
-- arguments are equal. `Learnt`, of a function's module `Reads`, is what its contract tells a caller. Document 01, "What the contracts have to say".
-- Assumes nothing.
use Rattle.std.specs.Prelude.{◌≡◌, List, ℕ}
use contract.Lifetimes.{Lfts}
use denote.Triple.Clauses.{Lasts, at_exit}
use borrow.Fn.Kind.{ParamKind, ResultKind}
use borrow.Fn.Kinds.{Out, Dens, res_t, ended_of}

abbrev pub Determined : (n : ℕ) (ps : List (ParamKind n)) (r : ResultKind n) → Out n ps r → Type 0
Determined n ps r Learnt =
    (κs : Lfts n) (a : Dens κs ps) (z z' : (res_t r κs).Denot) (ws ws' : Lasts (ended_of n ps r) κs a) →
    Learnt κs a z (at_exit (ended_of n ps r) κs a ws) →
    Learnt κs a z' (at_exit (ended_of n ps r) κs a ws') →
    (z ≡ z') × (ws ≡ ws')

-- the same of a contract that hands back a reference: what is read of the result, as the bytes of a part of a lent slice, is determined. Its address is not.
abbrev pub DeterminedBy : (n : ℕ) (ps : List (ParamKind n)) (r : ResultKind n) {W : Type 0} → ((κs : Lfts n) → (res_t r κs).Denot → W) → Out n ps r → Type 0
DeterminedBy n ps r read Learnt =
    (κs : Lfts n) (a : Dens κs ps) (z z' : (res_t r κs).Denot) (ws ws' : Lasts (ended_of n ps r) κs a) →
    Learnt κs a z (at_exit (ended_of n ps r) κs a ws) →
    Learnt κs a z' (at_exit (ended_of n ps r) κs a ws') →
    (read κs z ≡ read κs z') × (ws ≡ ws')
