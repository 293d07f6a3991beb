-- Any kind of record in a buffer: an item read from its part and stored there.
-- Assumes nothing.
use mathlib.Core.Path.{◌≡◌, sym, ap, ◌∙◌, subst}
use mathlib.Core.List.{List, [], ◌∷◌, ◌++◌, append-nil}
use Prim.Native.Nat.{ℕ, ◌+◌, ◌-◌, ◌*◌, ◌/◌, ◌<◌}
use native.Mathlib.Omega.{arith}
use lib.ListN.{length, get_or, take, drop, length-take, length-drop, drop_of_length-le}
use lib.Seq.{sets, sets-eq}
use borrow.Rule.Slice.PartMut.{put_mid}
use Rattle.bits.specs.Sums.{All}
use Rattle.records.specs.Records.{Codec, list_of, stored}
use Rattle.records.specs.Kinds.{Any, Laws}
use Rattle.records.proofs.Records.{list_at, place_room, stored_part}

-- bytes stored over as many
pub sets_whole : (s t : List ℕ) → length s ≡ length t → sets s 0 t ≡ t
sets_whole s t e = sets-eq t s 0 (omega (arith, e)) ∙ ap (λ (r : List ℕ). t ++ r) (drop_of_length-le s (omega (arith, e))) ∙ append-nil t

-- the bytes of an item stored over its record
pub item_whole : {A : Type 0} (C : Codec A) → Laws C → (b : List ℕ) (a : A) → length b ≡ C.width → sets b 0 (C.enc a) ≡ C.enc a
item_whole C L b a e = sets_whole b (C.enc a) (e ∙ sym (L.lawful.len a))

module _ {A : Type 0} (C : Codec A) (L : Laws C) (w : ℕ) (wide : C.width ≡ w) (b : List ℕ) (i : ℕ) (h : i < length b / C.width) where
  -- an item read from its part of a buffer
  pub item_part : C.read (take (w * i + w - w * i) (drop (w * i) b)) 0 ≡ get_or (list_of C b) i C.none
  item_part =
      subst (λ (v : ℕ). C.read (take (v * i + v - v * i) (drop (v * i) b)) 0 ≡ get_or (list_of C b) i C.none) wide
      (L.part b i h ∙ sym (list_at C b i C.none h))

  -- and stored there
  pub item_stored : (a : A) → put_mid (w * i) (w * i + w - w * i) b (C.enc a) ≡ stored C b i a
  item_stored a =
      subst (λ (v : ℕ). put_mid (v * i) (v * i + v - v * i) b (C.enc a) ≡ stored C b i a) wide
      (stored_part C L.lawful b i a h (C.enc a) (sym (sets_whole (take (C.width * i + C.width - C.width * i) (drop (C.width * i) b)) (C.enc a) long)))
    where
      long : length (take (C.width * i + C.width - C.width * i) (drop (C.width * i) b)) ≡ length (C.enc a)
      long =
          omega (arith, length-take (C.width * i + C.width - C.width * i) (drop (C.width * i) b), length-drop (C.width * i) b, L.lawful.len a, place_room C.width (length b) i L.lawful.wide h)

-- every list can be written, where every item can
pub all_any : {A : Type 0} (l : List A) → All Any l
all_any [] = tt
all_any (x ∷ l) = (tt, all_any l)
