-- A list of records, of any kind, written to the front of a buffer that is zero from byte n on: once the bytes between are zero too, the buffer holds the list
-- and zeros after it.
-- Assumes nothing.
use mathlib.Core.Path.{◌≡◌, sym, ap, ap₂, ◌∙◌}
use mathlib.Core.List.{List, ◌++◌}
use Prim.Native.Nat.{ℕ, ◌+◌, ◌-◌, ◌*◌, ◌≤◌}
use native.Mathlib.Omega.{arith}
use borrow.Rule.Slice.PartMut.{put_mid, Post-is}
use lib.ListN.{length, take, drop, length-drop, replicate-append-replicate}
use lib.Seq.{take_at, drop-drop, drop-append-add, length-take-le}
use Rattle.records.specs.Records.{Codec, flat, filled, image, written, zeros}
use Rattle.records.proofs.Filling.{drop_zeros}
use Rattle.records.proofs.Images.{length_flat}
use Rattle.records.proofs.Records.{Lawful, written_front, length_written}

module _ {A : Type 0} (C : Codec A) (K : Lawful C) (d : List ℕ) (n : ℕ) (clear : drop n d ≡ zeros (length d - n)) (l : List A) (fits : C.width * length l ≤ length d) where
  abbrev front : List ℕ
  front = flat C.enc l

  abbrev end : ℕ
  end = C.width * length l

  bytes : length front ≡ end
  bytes = length_flat C.enc C.width K.len l

  -- what is from byte e on, where the buffer is zero
  clear_from : (e : ℕ) → n ≤ e → drop e d ≡ zeros (length d - e)
  clear_from e h =
      let at : n + (e - n) ≡ e = omega arith in
      let left : length d - n - (e - n) ≡ length d - e = omega arith in
      ap (λ (k : ℕ). drop k d) (sym at) ∙ sym (drop-drop (e - n) n d) ∙ ap (drop (e - n)) clear ∙ drop_zeros (e - n) (length d - n) ∙ ap zeros left

  whole : front ++ zeros (length d - end) ≡ image C (length d) l
  unfolding image filled
  whole = ap (λ (k : ℕ). front ++ zeros (length d - k)) (sym bytes)

  -- the list reaches to the zeros
  pub written_image : n ≤ end → written C 0 l d ≡ image C (length d) l
  written_image h = written_front C K d l fits ∙ ap (λ (t : List ℕ). front ++ t) (clear_from end h) ∙ whole

  -- it ends before them, and the bytes between are cleared
  pub cleared_image : (e : ℕ) → e ≡ end → e ≤ n → n ≤ length d → (b : List ℕ) → b ≡ written C 0 l d
      → (part : List ℕ) → part ≡ zeros (length (take (n - e) (drop e b))) → put_mid e (n - e) b part ≡ image C (length d) l
  cleared_image e ee h g b eb part ep =
      let is : b ≡ front ++ drop end d = eb ∙ written_front C K d l fits in
      let many : length (take (n - e) (drop e b)) ≡ n - e =
      length-take-le (n - e) (drop e b) (omega (arith, length-drop e b, ap length eb, length_written C 0 l d)) in
      let before : take e b ≡ front = ap (take e) is ∙ take_at front (drop end d) e (bytes ∙ sym ee) in
      let at : length front + (n - e) ≡ n = omega (arith, bytes, ee) in
      let back : end + (n - e) ≡ n = omega (arith, ee) in
      let after : drop n b ≡ zeros (length d - n) =
      ap₂ (λ (k : ℕ) (t : List ℕ). drop k t) (sym at) is ∙ drop-append-add front (drop end d) (n - e) ∙ drop-drop (n - e) end d ∙ ap (λ (k : ℕ). drop k d) back ∙ clear in
      let sum : n - e + (length d - n) ≡ length d - end = omega (arith, ee) in
      ap₂ (λ (x y : List ℕ). x ++ (part ++ y)) before (Post-is e n b h ∙ after)
      ∙ ap (λ (x : List ℕ). front ++ (x ++ zeros (length d - n))) (ep ∙ ap zeros many)
      ∙ ap (λ (x : List ℕ). front ++ x) (replicate-append-replicate (n - e) (length d - n) 0 ∙ ap zeros sum)
      ∙ whole
