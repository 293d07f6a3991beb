-- Lists of records end to end, as bytes: one of them, wherever it starts; and the numbers that a call answers of them.
-- Assumes nothing.
use mathlib.Core.Path.{◌≡◌, sym, ap, ap₂, ◌∙◌}
use mathlib.Core.List.{List, ◌++◌, append_assoc}
use Prim.Native.Nat.{ℕ, ◌-◌, ◌*◌, ◌≤◌, ◌<◌}
use native.Mathlib.Omega.{arith}
use lib.ListN.{length, get_or, take, drop, get_or-append}
use lib.Seq.{take_at, drop_at}
use Rattle.bits.specs.Below.{sum_below, list_below}
use Rattle.bits.proofs.Below.{sum_cong, length_list_below, get_or_list_below}
use Rattle.records.specs.Records.{Codec, flat, zeros}
use Rattle.records.proofs.Records.{Lawful}
use Rattle.records.proofs.Images.{flat_append, length_flat}
use Rattle.selector.specs.Maps.{most_lists, starts, part, join_below, each_of}
use Rattle.selector.proofs.Parts.{join_long, around}

-- where parts start, by the number of each
pub starts_are : (lengths : List ℕ) (f : ℕ → ℕ) (m : ℕ) → ((i : ℕ) → i < m → get_or lengths i 0 ≡ f i) → (k : ℕ) → k ≤ m → starts lengths k ≡ sum_below k f
starts_are lengths f m is k h = sum_cong k (λ i. get_or lengths i 0) f (λ i l. is i (omega arith))

-- ---- one list

module _ {A : Type 0} (C : Codec A) (K : Lawful C) (f : ℕ → List A) where
  -- the bytes from list k on: its own, and others after them
  pub record From (m k : ℕ) (after : List ℕ) : Type 0 where
    pub rest : List ℕ
    pub is : drop (C.width * length (join_below k f)) (flat C.enc (join_below m f) ++ after) ≡ flat C.enc (f k) ++ rest

  pub from : (m k : ℕ) (after : List ℕ) → k < m → From m k after
  from m k after h =
      let s = around f m k h in
      let before : List ℕ = flat C.enc (join_below k f) in
      let at : ℕ = C.width * length (join_below k f) in
      record {
        rest = flat C.enc s.rest ++ after;
        is =
            ap (λ (l : List A). drop at (flat C.enc l ++ after)) s.is
            ∙ ap (λ (b : List ℕ). drop at (b ++ after))
            (flat_append C.enc (join_below k f) (f k ++ s.rest) ∙ ap (λ (b : List ℕ). before ++ b) (flat_append C.enc (f k) s.rest))
            ∙ ap (drop at) (append_assoc before (flat C.enc (f k) ++ flat C.enc s.rest) after)
            ∙ drop_at before ((flat C.enc (f k) ++ flat C.enc s.rest) ++ after) at (length_flat C.enc C.width K.len (join_below k f))
            ∙ append_assoc (flat C.enc (f k)) (flat C.enc s.rest) after;
      }

  -- lists whose lengths in bytes are these: part k is list k
  module _ (lengths : List ℕ) (m : ℕ) (are : (i : ℕ) → i < m → get_or lengths i 0 ≡ C.width * length (f i)) where
    pub join_start : (k : ℕ) → k ≤ m → starts lengths k ≡ C.width * length (join_below k f)
    join_start k h = starts_are lengths (λ i. C.width * length (f i)) m are k h ∙ sym (join_long f C.width k)

    pub join_part : (after : List ℕ) (k : ℕ) → k < m → part (flat C.enc (join_below m f) ++ after) lengths k ≡ flat C.enc (f k)
    unfolding part
    join_part after k h =
        let s = from m k after h in
        ap₂ (λ (x y : ℕ). take x (drop y (flat C.enc (join_below m f) ++ after))) (are k h) (join_start k (omega arith))
        ∙ ap (take (C.width * length (f k))) s.is
        ∙ take_at (flat C.enc (f k)) s.rest (C.width * length (f k)) (length_flat C.enc C.width K.len (f k))

-- ---- a number for each of m lists, and zeros after the last

module _ (m : ℕ) (f : ℕ → ℕ) where
  pub each_front : take m (each_of m f) ≡ list_below m f
  unfolding each_of
  each_front = take_at (list_below m f) (zeros (most_lists - m)) m (length_list_below m f)

  pub each_after : drop m (each_of m f) ≡ zeros (most_lists - m)
  unfolding each_of
  each_after = drop_at (list_below m f) (zeros (most_lists - m)) m (length_list_below m f)

  pub each_at : (k : ℕ) → k < m → get_or (each_of m f) k 0 ≡ f k
  unfolding each_of
  each_at k h = get_or-append (list_below m f) (zeros (most_lists - m)) 0 k (rw length_list_below h) ∙ get_or_list_below m f k 0 h
