-- Products that are burned for a map that was read, whatever they are burned by: within its limits and with its values, they are printed as a text that means the map.
-- Assumes nothing.
use mathlib.Core.Path.{◌≡◌, sym, ◌∙◌}
use mathlib.Core.List.{List}
use Prim.Native.Nat.{ℕ, ◌^◌, ◌≤◌, ◌<◌}
use native.Mathlib.Nat.{le_trans}
use lib.ListN.{length}
use Rattle.bits.specs.Sums.{All}
use Rattle.cube.specs.Lists.{most_records}
use Rattle.shared.specs.declared.Shared.{Shared}
use Rattle.shared.specs.SharedRecord.{Fine}
use Rattle.shared.specs.Outputs.{output_value}
use Rattle.pla.specs.Pla.{made, pla_of}
use Rattle.pla_print.specs.Printing.{pla_text}
use Rattle.pla_print.proofs.ReadBack.{read_back}
use Rattle.text_promises.specs.TextMeaning.{Below, BurnedText}
use Rattle.text_promises.proofs.Meaning.{what_a_text_means}
use Rattle.text_promises.proofs.Accepted.{accepted_is_fine}

module _ (t : List ℕ) (n m : ℕ) (given burned : List Shared) (read : pla_of most_records t ≡ made n m given) where
  pub burned_text : All (Fine n) burned → All (Below m) burned → length burned ≤ length given
      → ((k : ℕ) → k < m → (a : ℕ) → a < 2 ^ n → output_value n k burned a ≡ output_value n k given a) → BurnedText t n m given burned
  burned_text fine below fewer same =
      let f = accepted_is_fine most_records t n m given read in
      let short : length burned ≤ most_records = le_trans fewer f.short in
      let back : pla_of most_records (pla_text n m burned) ≡ made n m burned = read_back n m most_records burned f.few f.some f.low fine below short short in
      record {
        reads = back;
        same_outputs = same;
        same_text = λ k h a b.
            what_a_text_means most_records (pla_text n m burned) n m burned back k a ∙ same k h a b ∙ sym (what_a_text_means most_records t n m given read k a);
        no_more = fewer;
      }
