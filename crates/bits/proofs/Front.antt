-- Loops that write a list from the front: after k turns the first k elements are those of f, and the rest is as it was.
-- Assumes nothing.
use mathlib.Core.Path.{◌≡◌, refl, sym, ap, ap₂, ◌∙◌}
use mathlib.Core.List.{List, [], ◌∷◌, ◌++◌, append-nil, append_assoc}
use Prim.Native.Nat.{ℕ, suc, ◌+◌, ◌-◌, ◌≤◌, ◌<◌, zero-le}
use native.Mathlib.Nat.{le_refl}
use native.Mathlib.Numerals.{add-one}
use native.Mathlib.Omega.{arith}
use borrow.Rule.Slice.PartMut.{put_mid, Post-is}
use lib.ListN.{length, get_or, take, drop, set, length-set, length-append, length-drop, drop_of_length-le}
use lib.Seq.{take_at, drop_at, drop-cons, set_at, drop-append-add, drop-drop}
use Rattle.bits.specs.Below.{list_below}
use Rattle.bits.proofs.Below.{length_list_below, is_list_below, list_below_more, list_below_parts}

pub record Front {A : Type 0} (f : ℕ → A) (l₀ l : List A) (k : ℕ) : Type 0 where
  pub long : length l ≡ length l₀
  pub within : k ≤ length l₀
  pub is : l ≡ list_below k f ++ drop k l₀

module _ {A : Type 0} (f : ℕ → A) (l₀ : List A) where
  pub front_none : Front f l₀ l₀ 0
  unfolding list_below
  front_none = record { long = refl; within = zero-le; is = refl }

  module _ (l : List A) (k : ℕ) (r : Front f l₀ l k) where
    pub front_more : (x : A) → k < length l → x ≡ f k → Front f l₀ (set l k x) (k + 1)
    front_more x h e =
        let here : k < length l₀ = omega (arith, r.long) in
        record {
          long = length-set l k x ∙ r.long;
          within = omega arith;
          is = ap₂ (λ (m : List A) (y : A). set m k y) r.is e
              ∙ rw (add-one k, drop-cons l₀ k (f k) here, set_at (list_below k f) (get_or l₀ k (f k)) (drop (suc k) l₀) (f k) k (length_list_below k f), list_below_more k f)
              (sym (append_assoc (list_below k f) (f k ∷ []) (drop (suc k) l₀)));
        }

    pub front_all : length l ≤ k → l ≡ list_below (length l₀) f
    front_all h =
        let e : k ≡ length l₀ = omega (arith, r.long, r.within) in
        r.is ∙ ap (λ (j : ℕ). list_below j f ++ drop j l₀) e
        ∙ ap (λ (m : List A). list_below (length l₀) f ++ m) (drop_of_length-le l₀ {i = length l₀} (le_refl (length l₀))) ∙ append-nil (list_below (length l₀) f)

    -- what a second loop starts with
    pub front_again : Front f l l k
    front_again =
        let back : drop k l ≡ drop k l₀ = ap (drop k) r.is ∙ drop_at (list_below k f) (drop k l₀) k (length_list_below k f) in
        record { long = refl; within = omega (arith, r.long, r.within); is = r.is ∙ ap (λ (m : List A). list_below k f ++ m) (sym back) }

    -- m elements at once, by a part that was lent and is back
    pub front_part : (m end : ℕ) → end ≡ k + m → end ≤ length l → (part : List A) → part ≡ list_below m (λ i. f (k + i)) → Front f l₀ (put_mid k (end - k) l part) (k + m)
    front_part m end ee h part ep =
        let long : length (list_below k f) ≡ k = length_list_below k f in
        let front : take k l ≡ list_below k f = ap (take k) r.is ∙ take_at (list_below k f) (drop k l₀) k long in
        let back : drop end l ≡ drop (k + m) l₀ =
        ap₂ (λ (j : ℕ) (x : List A). drop j x) ee r.is
        ∙ ap (λ (j : ℕ). drop (j + m) (list_below k f ++ drop k l₀)) (sym long) ∙ drop-append-add (list_below k f) (drop k l₀) m ∙ drop-drop m k l₀ in
        let is : put_mid k (end - k) l part ≡ list_below (k + m) f ++ drop (k + m) l₀ =
        ap₂ (λ (x y : List A). x ++ (part ++ y)) front (Post-is k end l (omega arith) ∙ back)
        ∙ ap (λ (x : List A). list_below k f ++ (x ++ drop (k + m) l₀)) ep
        ∙ sym (append_assoc (list_below k f) (list_below m (λ i. f (k + i))) (drop (k + m) l₀))
        ∙ ap (λ (x : List A). x ++ drop (k + m) l₀) (sym (list_below_parts k m f)) in
        record {
          long = ap length is ∙ length-append (list_below (k + m) f) (drop (k + m) l₀) ∙ simp (length_list_below, length-drop) (omega (arith, r.long));
          within = omega (arith, r.long);
          is = is;
        }

-- the elements of a list that is as long
module _ {A : Type 0} (z : A) (F l₀ : List A) (same : length F ≡ length l₀) where
  pub front_list : (l : List A) (k : ℕ) → Front (λ i. get_or F i z) l₀ l k → length l ≤ k → l ≡ F
  front_list l k r h = front_all (λ i. get_or F i z) l₀ l k r h ∙ sym (is_list_below z F (length l₀) (λ i. get_or F i z) same (λ i b. refl))
