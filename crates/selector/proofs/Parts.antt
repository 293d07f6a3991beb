-- Laws of parts: where each part of a buffer starts, and what the code lends of it; numbers and lists that are added up part by part.
-- Assumes nothing.
use mathlib.Core.Path.{◌≡◌, refl, sym, ap, ap₂, ◌∙◌, subst}
use mathlib.Core.List.{List, [], ◌++◌, append_assoc, append-nil}
use Prim.Native.Nat.{ℕ, zero, suc, ◌+◌, ◌-◌, ◌*◌, ◌≤◌, ◌<◌}
use native.Mathlib.Nat.{mul-add}
use native.Mathlib.Decide.{ℕ_discrete}
use native.Mathlib.Numerals.{add-one}
use native.Mathlib.Omega.{arith}
use borrow.Rule.Slice.PartMut.{put_mid, Post-is}
use lib.ListN.{length, get_or, take, drop, length-append, length-take, length-drop, take-append-drop}
use lib.Seq.{take_at, drop_at, drop-drop, take-append-add, drop-append-le, length-take-le}
use Rattle.bits.specs.Below.{sum_below, list_below}
use Rattle.bits.proofs.Below.{sum_more}
use Rattle.bits.proofs.Front.{Front}
use Rattle.records.specs.Records.{Codec, flat, written, zeros}
use Rattle.records.proofs.Filling.{drop_zeros}
use Rattle.records.proofs.Images.{flat_append, length_flat}
use Rattle.records.proofs.Records.{Lawful, length_written, written_front}
use Rattle.selector.specs.Maps.{most_lists, starts, part, join_below, each_of}

-- ---- sums and lists, one part more

pub sum_zero : (f : ℕ → ℕ) → sum_below 0 f ≡ 0
unfolding sum_below
sum_zero f = refl

pub sum_next : (f : ℕ → ℕ) (k : ℕ) → sum_below (k + 1) f ≡ sum_below k f + f k
unfolding sum_below
sum_next f k = ap (λ (x : ℕ). sum_below x f) (add-one k)

module _ {A : Type 0} (f : ℕ → List A) where
  pub join_zero : join_below 0 f ≡ []
  unfolding join_below
  join_zero = refl

  pub join_next : (k : ℕ) → join_below (k + 1) f ≡ join_below k f ++ f k
  unfolding join_below
  join_next k = ap (λ (x : ℕ). join_below x f) (add-one k)

  -- how long lists of records of w bytes are, end to end
  pub join_long : (w m : ℕ) → w * length (join_below m f) ≡ sum_below m (λ k. w * length (f k))
  unfolding join_below sum_below
  join_long w zero = omega arith
  join_long w (suc m) = ap (λ (x : ℕ). w * x) (length-append (join_below m f) (f m)) ∙ omega (arith, join_long w m)

  -- list k of m lists end to end, with what stands before it and after it
  pub record Around (m k : ℕ) : Type 0 where
    pub rest : List A
    pub is : join_below m f ≡ join_below k f ++ (f k ++ rest)

  pub around : (m k : ℕ) → k < m → Around m k
  unfolding join_below
  around zero k h = absurd (omega arith)
  around (suc m) k h = elim (ℕ_discrete k m) [
    | yes q ↦ subst (Around (suc m)) (sym q) (record { rest = []; is = ap (λ (x : List A). join_below m f ++ x) (sym (append-nil (f m))) })
    | no d ↦ later (around m k (omega arith))
  ]
    where
      later : Around m k → Around (suc m) k
      later s = record {
        rest = s.rest ++ f m;
        is = ap (λ (x : List A). x ++ f m) s.is ∙ append_assoc (join_below k f) (f k ++ s.rest) (f m)
            ∙ ap (λ (x : List A). join_below k f ++ x) (append_assoc (f k) s.rest (f m));
      }

-- ---- a number for each part

-- the loop over m parts has filled an array of zeros from the front
pub each_is : (f : ℕ → ℕ) (each : List ℕ) (m : ℕ) → Front f (zeros most_lists) each m → each ≡ each_of m f
unfolding each_of
each_is f each m r = r.is ∙ ap (λ (z : List ℕ). list_below m f ++ z) (drop_zeros m most_lists)

-- ---- where the parts start

module _ (lengths : List ℕ) where
  -- a part ends where the next one starts, ..
  pub start_next : (k : ℕ) → starts lengths (k + 1) ≡ starts lengths k + get_or lengths k 0
  start_next k = sum_next (λ i. get_or lengths i 0) k

  -- .. before each later one does, ..
  pub start_before : (k m : ℕ) → k < m → starts lengths k + get_or lengths k 0 ≤ starts lengths m
  start_before k m h = omega (arith, start_next k, sum_more (k + 1) m (λ i. get_or lengths i 0) (omega arith))

  -- .. and what the code lends is part k
  pub part_is : (b : List ℕ) (k at end : ℕ) → at ≡ starts lengths k → end ≡ at + get_or lengths k 0 → take (end - at) (drop at b) ≡ part b lengths k
  unfolding part
  part_is b k at end ea ee =
      let size : end - at ≡ get_or lengths k 0 = omega arith in
      ap₂ (λ (x y : ℕ). take x (drop y b)) size ea

  pub part_length : (b : List ℕ) (k : ℕ) → k < length lengths → starts lengths (length lengths) ≡ length b → length (part b lengths k) ≡ get_or lengths k 0
  unfolding part
  part_length b k h e = simp (length-take, length-drop) (omega (arith, start_before k (length lengths) h))

-- ---- a part that was lent and is back

module _ (out : List ℕ) (from end : ℕ) (h : (from ≤ end) × (end ≤ length out)) where
  pub lent_size : length (take (end - from) (drop from out)) ≡ end - from
  lent_size = simp (length-take, length-drop) (omega arith)

  pub lent_back : (back new : List ℕ) → back ≡ new → put_mid from (end - from) out back ≡ take from out ++ (new ++ drop end out)
  lent_back back new e = ap₂ (λ (x y : List ℕ). take from out ++ (x ++ y)) e (Post-is from end out h.0)

-- bytes at the front of a buffer, and others at the front of the part after them
pub fronts : (f l z rest : List ℕ) (to bytes : ℕ) → length f ≡ to → length l ≡ bytes
    → take (to + bytes) (f ++ ((l ++ z) ++ rest)) ≡ f ++ l
fronts f l z rest to bytes ef el =
    ap (λ (x : ℕ). take (x + bytes) (f ++ ((l ++ z) ++ rest))) (sym ef)
    ∙ take-append-add f ((l ++ z) ++ rest) bytes
    ∙ ap (λ (x : List ℕ). f ++ take bytes x) (append_assoc l z rest)
    ∙ ap (λ (x : List ℕ). f ++ x) (take_at l (z ++ rest) bytes el)

-- ---- records written to a part after others

-- a list is written to the front of a buffer, and another one to the part after it: both are written end to end
pub written_next : {A : Type 0} (C : Codec A) → Lawful C → (l m : List A) (out₀ out : List ℕ) → out ≡ written C 0 l out₀ → (to room : ℕ) → to ≡ C.width * length l
    → to ≤ room → room ≤ length out → C.width * length m ≤ room - to
    → take to out ++ (written C 0 m (take (room - to) (drop to out)) ++ drop room out) ≡ written C 0 (l ++ m) out₀
written_next C K l m out₀ out eo to room et h g fits =
    let long : length out ≡ length out₀ = ap length eo ∙ length_written C 0 l out₀ in
    let F : List ℕ = flat C.enc l in
    let M : List ℕ = flat C.enc m in
    let R : List ℕ = drop to out₀ in
    let P : List ℕ = take (room - to) R in
    let bytes : length F ≡ to = length_flat C.enc C.width K.len l ∙ sym et in
    let is : out ≡ F ++ R =
    eo ∙ written_front C K out₀ l (omega (arith, et)) ∙ ap (λ (k : ℕ). F ++ drop k out₀) (sym et) in
    let front : take to out ≡ F = ap (take to) is ∙ take_at F R to bytes in
    let rest : drop to out ≡ R = ap (drop to) is ∙ drop_at F R to bytes in
    let after : drop room out ≡ drop (room - to) R =
    ap (λ (k : ℕ). drop k out) at ∙ sym (drop-drop (room - to) to out) ∙ ap (drop (room - to)) rest in
    let size : length P ≡ room - to = length-take-le (room - to) R (rw length-drop (omega arith)) in
    let more : C.width * length (l ++ m) ≡ to + C.width * length m =
    ap (λ (k : ℕ). C.width * k) (length-append l m) ∙ mul-add C.width (length l) (length m) ∙ ap (λ (k : ℕ). k + C.width * length m) (sym et) in
    ap₂ (λ (x y : List ℕ). x ++ (written C 0 m (take (room - to) y) ++ drop room out)) front rest
    ∙ ap₂ (λ (x y : List ℕ). F ++ (x ++ y)) (written_front C K P m (omega (arith, size))) after
    ∙ ap (λ (x : List ℕ). F ++ x) (append_assoc M (drop (C.width * length m) P) (drop (room - to) R)
    ∙ ap (λ (x : List ℕ). M ++ x) (sym (drop-append-le (C.width * length m) P (drop (room - to) R) (omega (arith, size)))
    ∙ ap (drop (C.width * length m)) (take-append-drop (room - to) R) ∙ drop-drop (C.width * length m) to out₀))
    ∙ sym (append_assoc F M (drop (to + C.width * length m) out₀))
    ∙ sym (written_front C K out₀ (l ++ m) (omega (arith, more)) ∙ ap₂ (λ (x : List ℕ) (k : ℕ). x ++ drop k out₀) (flat_append C.enc l m) more)
  where
    at : room ≡ to + (room - to)
    at = omega arith
