-- A call of the reader that is accepted, in the words of its contract: the map that the text means, and its products at the front of the buffer.
-- Assumes nothing.
use mathlib.Core.Path.{◌≡◌, refl, sym, ap, ◌∙◌}
use mathlib.Core.List.{List, [], ◌∷◌}
use Prim.Native.Nat.{ℕ, ◌-◌, ◌*◌}
use lib.ListN.{length, get_or, take, replicate}
use lib.Seq.{take_at}
use Rattle.records.specs.Records.{image, filled, capacity_of}
use Rattle.records.specs.Answers.{accepted}
use Rattle.records.proofs.Answers.{not_both, accepted_values}
use Rattle.records.proofs.Images.{length_flat}
use Rattle.cube.specs.Lists.{most_records}
use Rattle.shared.specs.SharedRecord.{shares, shared_width, shared_capacity}
use Rattle.shared.proofs.SharedRecord.{shared_lawful}
use Rattle.pla.specs.Pla.{Pla, made, wrong, pla_of, told_of, products_of, pla_outcome, pla_after}
use Rattle.text_promises.specs.TextMeaning.{map_bytes, ReadMap}

-- a buffer of 49,152 bytes has room for every list
pub whole_room : shared_capacity 49152 ≡ most_records
unfolding capacity_of
whole_room = refl

-- An accepted call answers the inputs, the outputs and the number of products of the map that the text means, and leaves the bytes of those products at the front of the buffer.
pub read_accepted : (t : List ℕ) (bytes n m count : ℕ) → pla_outcome t bytes ≡ accepted (n ∷ m ∷ count ∷ []) → ReadMap t bytes n m count
unfolding pla_outcome pla_after image filled
read_accepted t bytes n m count e = go (pla_of (shared_capacity bytes) t) refl e
  where
    go : (p : Pla) → pla_of (shared_capacity bytes) t ≡ p → told_of p ≡ accepted (n ∷ m ∷ count ∷ []) → ReadMap t bytes n m count
    go (wrong number k) is a = absurd (not_both (sym a))
    go (made n' m' l) is a =
        let values = accepted_values a in
        let en : n' ≡ n = ap (λ (v : List ℕ). get_or v 0 0) values in
        let em : m' ≡ m = ap (λ (v : List ℕ). get_or v 1 0) values in
        let many : length l ≡ count = ap (λ (v : List ℕ). get_or v 2 0) values in
        let long : length (map_bytes l) ≡ shared_width * count =
        length_flat shares.enc shared_width shared_lawful.len l ∙ ap (λ (k : ℕ). shared_width * k) many in
        record {
          list = l;
          is = is ∙ (λ i. made (en i) (em i) l);
          many = sym many;
          front =
              ap (λ (p : Pla). take (shared_width * count) (image shares bytes (products_of p))) is
              ∙ take_at (map_bytes l) (replicate (bytes - length (map_bytes l)) 0) (shared_width * count) long;
        }
