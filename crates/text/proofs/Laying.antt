-- A text laid into a buffer: one text after another, byte by byte, and what it is where there is room.
-- Assumes nothing.
use mathlib.Core.Path.{◌≡◌, refl, sym, ap, ap₂, ◌∙◌}
use mathlib.Core.List.{List, [], ◌∷◌, ◌++◌, append_assoc}
use Prim.Native.Nat.{ℕ, zero, suc, ◌+◌, ◌≤◌, ◌<◌}
use native.Mathlib.Numerals.{add-one}
use native.Mathlib.Omega.{arith}
use lib.ListN.{length, get_or, take, drop, set, length-set, length-append, length-take}
use lib.Seq.{take-suc, take_all, set_out, sets, sets-eq, take_at, drop_at, length-take-le}
use borrow.Author.Tests.{lt-ltb, le-ltb}
use Rattle.cube.specs.declared.Cube.{Cube}
use Rattle.cube.specs.Cubes.{code}
use Rattle.text.specs.Places.{no_place, next_place, ends, laid, Laid}
use Rattle.text.specs.Cubes.{glyph, cube_text}

ends_append : (room at : ℕ) (s t : List ℕ) → ends room (ends room at s) t ≡ ends room at (s ++ t)
unfolding ends
ends_append room at [] t = refl
ends_append room at (x ∷ s) t = ends_append room (next_place room at) s t

pub length_laid : (b : List ℕ) (at : ℕ) (s : List ℕ) → length (laid b at s) ≡ length b
unfolding laid
length_laid b at [] = refl
length_laid b at (x ∷ s) = length_laid (set b at x) (next_place (length b) at) s ∙ length-set b at x

laid_append : (b : List ℕ) (at : ℕ) (s t : List ℕ) → laid (laid b at s) (ends (length b) at s) t ≡ laid b at (s ++ t)
unfolding laid ends
laid_append b at [] t = refl
laid_append b at (x ∷ s) t =
    ap (λ (m : ℕ). laid (laid (set b at x) (next_place (length b) at) s) (ends m (next_place (length b) at) s) t) (sym (length-set b at x))
    ∙ laid_append (set b at x) (next_place (length b) at) s t

-- the buffer keeps its length
pub kept : {b s b' : List ℕ} {at p : ℕ} → Laid b at s p b' → length b' ≡ length b
kept {b} {s} {b'} {at} f = ap length f.bytes ∙ length_laid b at s

-- nothing, and one text after another
pub none : {b : List ℕ} {at : ℕ} → Laid b at [] at b
unfolding ends laid
none = record { place = refl; bytes = refl }

pub after : {b s t b' b'' : List ℕ} {at p q : ℕ} → Laid b at s p b' → Laid b' p t q b'' → Laid b at (s ++ t) q b''
after {b} {s} {t} {b'} {b''} {at} {p} {q} f g = record {
  place = g.place ∙ ap₂ (λ (m r : ℕ). ends m r t) (kept f) f.place ∙ ends_append (length b) at s t;
  bytes = g.bytes ∙ ap₂ (λ (c : List ℕ) (r : ℕ). laid c r t) f.bytes f.place ∙ laid_append b at s t;
}

-- one byte, where there is room and where there isn't
module _ (b : List ℕ) (at x : ℕ) where
  pub byte_put : at < length b → Laid b at (x ∷ []) (at + 1) (set b at x)
  unfolding ends laid
  byte_put h = record { place = simp (lt-ltb at (length b) h); bytes = refl }

  pub byte_lost : length b ≤ at → Laid b at (x ∷ []) no_place b
  unfolding ends laid
  byte_lost h = record { place = simp (le-ltb at (length b) h); bytes = sym (set_out b at x h) }

-- the first k bytes of a text
pub record Copied (b : List ℕ) (at : ℕ) (s : List ℕ) (p : ℕ) (b' : List ℕ) (k : ℕ) : Type 0 where
  pub upto : k ≤ length s
  pub front : Laid b at (take k s) p b'

pub copied_none : (b : List ℕ) (at : ℕ) (s : List ℕ) → Copied b at s at b 0
copied_none b at s = record { upto = omega arith; front = none }

module _ {b s b' : List ℕ} {at p k : ℕ} (f : Copied b at s p b' k) where
  pub copied_more : {b'' : List ℕ} {q : ℕ} → k < length s → Laid b' p (get_or s k 0 ∷ []) q b'' → Copied b at s q b'' (k + 1)
  copied_more {b''} {q} h g = record { upto = omega arith; front = rw (add-one, take-suc s k 0 h) (after f.front g) }

  pub copied_end : length s ≤ k → Laid b at s p b'
  copied_end h = rw (take_all k s h) at f.front

  pub copied_kept : length b' ≡ length b
  copied_kept = kept f.front

-- the codes of the first k variables
pub record Spelt (n : ℕ) (c : Cube) (b : List ℕ) (at p : ℕ) (b' : List ℕ) (k : ℕ) : Type 0 where
  pub upto : k ≤ n
  pub front : Laid b at (cube_text k c) p b'

pub spelt_none : (n : ℕ) (c : Cube) (b : List ℕ) (at : ℕ) → Spelt n c b at at b 0
unfolding cube_text
spelt_none n c b at = record { upto = omega arith; front = none }

module _ {n : ℕ} {c : Cube} {b b' : List ℕ} {at p k : ℕ} (f : Spelt n c b at p b' k) where
  pub spelt_more : {b'' : List ℕ} {q x g : ℕ} → k < n → x ≡ code c k → g ≡ glyph x → Laid b' p (g ∷ []) q b'' → Spelt n c b at q b'' (k + 1)
  unfolding cube_text
  spelt_more {b''} {q} {x} {g} h e d l = record {
    upto = omega arith;
    front = rw add-one (after f.front (rw (d ∙ ap glyph e) at l));
  }

  pub spelt_end : n ≤ k → Laid b at (cube_text n c) p b'
  spelt_end h =
      let e : k ≡ n = omega (arith, f.upto)
      in rw e at f.front

  pub spelt_kept : length b' ≡ length b
  spelt_kept = kept f.front

-- ---- where there is room

ends_room : (room at : ℕ) (s : List ℕ) → at + length s ≤ room → ends room at s ≡ at + length s
unfolding ends
ends_room room at [] h = omega arith
ends_room room at (x ∷ s) h =
    let here : at < room = omega arith in
    let shift : at + 1 + length s ≡ at + suc (length s) = omega arith in
    rw (lt-ltb at room here) (ends_room room (at + 1) s (omega arith) ∙ shift)

laid_room : (b : List ℕ) (at : ℕ) (s : List ℕ) → at + length s ≤ length b → laid b at s ≡ sets b at s
unfolding laid
laid_room b at [] h = refl
laid_room b at (x ∷ s) h =
    let here : at < length b = omega arith in
    let room : suc at + length s ≤ length (set b at x) = simp length-set (omega arith) in
    rw (lt-ltb at (length b) here, add-one at) (laid_room (set b at x) (suc at) s room)

-- a text that has room stands whole from its place on, and ends after its last byte
pub record Stands (b : List ℕ) (at : ℕ) (s : List ℕ) (next : ℕ) (b' : List ℕ) : Type 0 where
  pub ends_at : next ≡ at + length s
  pub before : take at b' ≡ take at b
  pub from : drop at b' ≡ s ++ drop (at + length s) b

pub stands : {b s b' : List ℕ} {at r : ℕ} → Laid b at s r b' → at + length s ≤ length b → Stands b at s r b'
stands {b} {s} {b'} {at} {r} f h =
    let front : length (take at b) ≡ at = length-take-le at b (omega arith) in
    let whole : b' ≡ take at b ++ (s ++ drop (at + length s) b) = f.bytes ∙ laid_room b at s h ∙ sets-eq s b at h ∙ append_assoc (take at b) s (drop (at + length s) b) in
    record {
      ends_at = f.place ∙ ends_room (length b) at s h;
      before = ap (take at) whole ∙ take_at (take at b) (s ++ drop (at + length s) b) at front;
      from = ap (drop at) whole ∙ drop_at (take at b) (s ++ drop (at + length s) b) at front;
    }

-- at the front of a buffer: it ends at r, and the first r bytes are it
pub record AtFront (s : List ℕ) (r : ℕ) (b : List ℕ) : Type 0 where
  pub ends_at : r ≡ length s
  pub within : r ≤ length b
  pub text : take r b ≡ s

pub at_front_laid : {b s b' : List ℕ} {r : ℕ} → Laid b 0 s r b' → length s ≤ length b → AtFront s r b'
at_front_laid {b} {s} {b'} {r} f h =
    let st : Stands b 0 s r b' = stands f (omega arith) in
    let long : r ≡ length s = omega (arith, st.ends_at) in
    record { ends_at = long; within = omega (arith, kept f); text = ap (take r) st.from ∙ take_at s (drop (0 + length s) b) r (sym long) }

pub length_cube : (n : ℕ) (c : Cube) → length (cube_text n c) ≡ n
unfolding cube_text
length_cube zero c = refl
length_cube (suc n) c = length-append (cube_text n c) (glyph (code c n) ∷ []) ∙ rw (length_cube n c) (add-one n)
