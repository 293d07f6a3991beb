-- A line with a product, read a character at a time: where it goes on, where it ends and where it is wrong.
-- Assumes nothing.
use mathlib.Core.Path.{◌≡◌, refl, sym, ◌∙◌}
use mathlib.Core.Bool.{Bool, true, false, cond}
use mathlib.Core.List.{List, [], ◌∷◌}
use Prim.Native.Nat.{ℕ, ◌+◌, ◌-◌, ◌*◌, ◌^◌, ◌%◌, ◌≤◌, ◌<◌}
use native.Mathlib.Nat.{mul-le-mul_right, one-mul}
use native.Mathlib.Numerals.{add-one}
use native.Mathlib.Omega.{arith}
use lib.Dec.{leb, ltb, eqb}
use lib.ListN.{length, get_or, drop, drop_of_length-le}
use lib.Pow.{pow_pos, pow_mono, pow-add}
use lib.Seq.{drop-cons}
use borrow.Author.Tests.{lt-ltb, le-ltb, leb-true, ltb-true}
use Rattle.std.specs.Prelude.{Some, None}
use Rattle.bits.proofs.Bits.{shl_bit}
use Rattle.cube.specs.declared.Cube.{Cube}
use Rattle.cube.specs.Cubes.{one, with_code}
use Rattle.shared.specs.SharedRecord.{sharing}
use Rattle.text.specs.Blanks.{blank}
use Rattle.std.proofs.lemmas.Option.{cond_some}
use Rattle.text.specs.Cubes.{code_of_glyph, known}
use Rattle.text.proofs.Reading.{above}
use Rattle.pla.specs.declared.Header.{Header}
use Rattle.pla.specs.Products.{output_of, spelt, lacking}

-- ---- outputs, added one after the other

-- one more output, which is the next bit
next_output : (o y j : ℕ) → o < 2 ^ j → y ≤ 1 → o + y * 2 ^ j < 2 ^ (j + 1)
next_output o y j h l = omega (arith, pow-add 2 j 1, mul-le-mul_right (2 ^ j) l, one-mul (2 ^ j))

-- all of them in a word
output_fits : (o y j : ℕ) → o < 2 ^ j → y ≤ 1 → j < 32 → o + y * 2 ^ j < 2 ^ 32
output_fits o y j h l g = let more : 2 ^ (j + 1) ≤ 2 ^ 32 = pow_mono {j = 32} (omega arith) in omega (arith, next_output o y j h l)

-- ---- what is read from the k-th character on, at p, is what is read of the whole line

pub record Spelling (n m : ℕ) (line : List ℕ) (c : Cube) (o k p : ℕ) : Type 0 where
  pub upto : k ≤ n + m
  pub small : o < 2 ^ (k - n)
  pub same : spelt n m k c o (drop p line) ≡ spelt n m 0 one 0 line

pub spelling_none : (n m : ℕ) (line : List ℕ) → Spelling n m line one 0 0 0
spelling_none n m line = record { upto = omega arith; small = pow_pos (0 - n); same = refl }

module _ {n m : ℕ} {line : List ℕ} {c : Cube} {o k p : ℕ} (s : Spelling n m line c o k p) where
  module _ (h : p < length line) where
    abbrev b : ℕ
    b = get_or line p 0

    on_byte : spelt n m k c o (b ∷ drop (p + 1) line) ≡ spelt n m 0 one 0 line
    on_byte = rw (drop-cons line p 0 h, ← add-one p) at s.same

    module _ {t : Bool} (d : t ≡ blank b) where
      pub spelling_blank : t ≡ true → Spelling n m line c o k (p + 1)
      unfolding spelt
      spelling_blank e = record { upto = s.upto; small = s.small; same = simp (sym d ∙ e) at on_byte }

      module _ (e : t ≡ false) where
        pub too_many : n ≤ k → n + m ≤ k → None ≡ spelt n m 0 one 0 line
        unfolding spelt
        too_many i j = simp (sym d ∙ e, le-ltb k n i, le-ltb k (n + m) j) at on_byte

        module _ (i : k < n) where
          pub code_other : None ≡ known 3 (code_of_glyph b) → None ≡ spelt n m 0 one 0 line
          unfolding spelt
          code_other g = simp (sym d ∙ e, lt-ltb k n i, above (ltb (code_of_glyph b) 3) _ (sym g)) at on_byte

          pub code_more : {x : ℕ} {a : Cube} → Some x ≡ known 3 (code_of_glyph b) → a ≡ with_code c k x → Spelling n m line a o (k + 1) (p + 1)
          unfolding spelt
          code_more {x} {a} g w =
              let both = cond_some (ltb (code_of_glyph b) 3) _ _ (sym g) in
              let none : k + 1 - n ≡ k - n = omega arith in
              record {
                upto = omega arith;
                small = rw none s.small;
                same = rw (w, ← both.1) (simp (sym d ∙ e, lt-ltb k n i, both.0) at on_byte);
              }

        module _ (i : n ≤ k) (j : k < n + m) where
          pub output_other : None ≡ known 2 (output_of b) → None ≡ spelt n m 0 one 0 line
          unfolding spelt
          output_other g = simp (sym d ∙ e, le-ltb k n i, lt-ltb k (n + m) j, above (ltb (output_of b) 2) _ (sym g)) at on_byte

          module _ {x : ℕ} (g : Some x ≡ known 2 (output_of b)) (u : m ≤ 32) where
            both : (ltb (output_of b) 2 ≡ true) × (output_of b ≡ x)
            both = cond_some (ltb (output_of b) 2) _ _ (sym g)

            l : x ≤ 1
            l = omega (arith, ltb-true (output_of b) 2 both.0, both.1)

            whole : x * 2 ^ (k - n) % 2 ^ 32 ≡ x * 2 ^ (k - n)
            whole = shl_bit (k - n) x 32 (omega (arith, l)) (omega (arith, l))

            pub output_added : o + x * 2 ^ (k - n) % 2 ^ 32 < 2 ^ 32
            output_added = rw whole (output_fits o x (k - n) s.small l (omega arith))

            pub output_more : Spelling n m line c (o + x * 2 ^ (k - n) % 2 ^ 32) (k + 1) (p + 1)
            unfolding spelt
            output_more =
                let next : k + 1 - n ≡ k - n + 1 = omega arith in
                record {
                  upto = omega arith;
                  small = rw (next, whole) (next_output o x (k - n) s.small l);
                  same = rw (whole, ← both.1) (simp (sym d ∙ e, le-ltb k n i, lt-ltb k (n + m) j, both.0) at on_byte);
                }

  module _ (h : length line ≤ p) where
    at_end_lem : spelt n m k c o [] ≡ spelt n m 0 one 0 line
    at_end_lem = rw (drop_of_length-le line h) at s.same

    pub spelt_end : cond (eqb k (n + m)) (Some (sharing o c)) None ≡ spelt n m 0 one 0 line
    unfolding spelt
    spelt_end = at_end_lem

-- ---- what is lacking before a product

-- where nothing is, the inputs and the outputs are in their limits
pub nothing_lacks : (h : Header) → lacking h ≡ 0 → (h.inputs ≤ 32) × (h.outputs ≤ 32)
unfolding lacking
nothing_lacks h e = go (leb h.inputs 32) (leb h.outputs 32) refl refl e
  where
    go : (i o : Bool) → leb h.inputs 32 ≡ i → leb h.outputs 32 ≡ o → ◌≡◌ {A = ℕ} (cond i (cond o (cond h.esop 0 29) 28) 27) 0
        → (h.inputs ≤ 32) × (h.outputs ≤ 32)
    go true true i o e = (leb-true h.inputs 32 i, leb-true h.outputs 32 o)
    go true false i o e = absurd (omega (arith, e))
    go false o i _ e = absurd (omega (arith, e))
