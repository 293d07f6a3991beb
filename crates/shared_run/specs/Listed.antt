-- Inside: a list of shared products that is accepted, as a script runs on it.
-- Assumes nothing.
use Rattle.std.specs.Prelude.{◌≡◌, true, List, ℕ}
use Rattle.bits.proofs.Sums.{all_each}
use Rattle.records.specs.Answers.{accepted}
use Rattle.shared.specs.SharedRecord.{shares, shares_of, fine, Fine}
use Rattle.shared.specs.Calls.{check_shared}
use Rattle.shared.proofs.SharedRecord.{parts_fine}
use Rattle.shared.proofs.Lists.{AcceptedShared, shared_accepts}
use Rattle.script.specs.Carrying.{Listed}

-- what an accepted list is, as a script runs on it
pub shared_listed : (n : ℕ) (b v : List ℕ) → check_shared n b ≡ accepted v → Listed shares (fine n) n b
shared_listed n b v e =
    let a : AcceptedShared n b = shared_accepts n b v e in
    record { few = a.few; whole = a.whole; short = a.short; each = all_each (Fine n) (λ r. fine n r ≡ true) (parts_fine n) (shares_of b) a.good }
