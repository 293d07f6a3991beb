-- A table by its parts, and the parts joined in place: after i turns the first i places of each part are joined, and the others are as they were.
-- Assumes nothing.
use mathlib.Core.Path.{◌≡◌, refl, sym, ap, ◌∙◌, subst}
use mathlib.Core.Logic.{◌≢◌}
use mathlib.Core.List.{List, ◌++◌, append_assoc}
use Prim.Native.Nat.{ℕ, ◌+◌, ◌*◌, ◌≤◌, ◌<◌, zero-le}
use native.Mathlib.Nat.{add_assoc, le_refl}
use native.Mathlib.Decide.{ℕ_discrete}
use native.Mathlib.Omega.{arith}
use lib.ListN.{length, get_or, set, length-set, get_or-append}
use lib.Seq.{lt-length-set, get_or-set_same, get_or-set_other, get_or-append-add}
use Rattle.bits.specs.Below.{list_below}
use Rattle.bits.proofs.Below.{length_list_below, get_or_list_below, is_list_below, list_below_cong, list_below_parts}
use Rattle.kronecker.specs.Words.{joined_parts}

-- what stands at one place of each part
pub record Entries : Type 0 where
  pub lower : ℕ
  pub upper : ℕ
  pub change : ℕ

abbrev pub entries_of : ℕ → (ℕ → ℕ) → ℕ → Entries
entries_of t f i = record { lower = f i; upper = f (t + i); change = f (t + t + i) }

abbrev pub entries : ℕ → List ℕ → ℕ → Entries
entries t l = entries_of t (λ p. get_or l p 0)

-- any two together
abbrev pub joined : Entries → Entries
joined e = record { lower = e.lower + e.upper; upper = e.lower + e.change; change = e.upper + e.change }

-- ---- a list by the entries of its parts

abbrev pub parts : ℕ → (ℕ → Entries) → List ℕ
parts t E = list_below t (λ i. (E i).lower) ++ (list_below t (λ i. (E i).upper) ++ list_below t (λ i. (E i).change))

pub parts_cong : (t : ℕ) (E F : ℕ → Entries) → ((i : ℕ) → i < t → E i ≡ F i) → parts t E ≡ parts t F
parts_cong t E F h = λ x.
    list_below_cong t (λ i. (E i).lower) (λ i. (F i).lower) (λ i b. ap (λ (e : Entries). e.lower) (h i b)) x
    ++ (list_below_cong t (λ i. (E i).upper) (λ i. (F i).upper) (λ i b. ap (λ (e : Entries). e.upper) (h i b)) x
    ++ list_below_cong t (λ i. (E i).change) (λ i. (F i).change) (λ i b. ap (λ (e : Entries). e.change) (h i b)) x)

-- any list whose length is three times t
pub below_parts : (t n : ℕ) → n ≡ 3 * t → (f : ℕ → ℕ) → list_below n f ≡ parts t (entries_of t f)
below_parts t n e f =
    let whole : n ≡ t + t + t = omega arith in
    ap (λ (m : ℕ). list_below m f) whole ∙ list_below_parts (t + t) t f
    ∙ ap (λ (l : List ℕ). l ++ list_below t (λ i. f (t + t + i))) (list_below_parts t t f) ∙ append_assoc (list_below t f) _ _

-- an element of the first part of a list, and one behind it
get_d_front : (t i : ℕ) → i < t → (f : ℕ → ℕ) (B : List ℕ) → get_or (list_below t f ++ B) i 0 ≡ f i
get_d_front t i h f B = get_or-append (list_below t f) B 0 i (omega (arith, length_list_below t f)) ∙ get_or_list_below t f i 0 h

get_or_behind : (t i : ℕ) (f : ℕ → ℕ) (B : List ℕ) → get_or (list_below t f ++ B) (t + i) 0 ≡ get_or B i 0
get_or_behind t i f B = ap (λ (k : ℕ). get_or (list_below t f ++ B) (k + i) 0) (sym (length_list_below t f)) ∙ get_or-append-add (list_below t f) B i 0

-- parts that are known are joined place by place
pub joined_parts_lem : (t : ℕ) (E : ℕ → Entries) → joined_parts t (parts t E) ≡ parts t (λ i. joined (E i))
unfolding joined_parts
joined_parts_lem t E = parts_cong t (λ i. joined (entries t (parts t E) i)) (λ i. joined (E i)) (λ i h. ap joined (at i h))
  where
    a : ℕ → ℕ
    a i = (E i).lower

    b : ℕ → ℕ
    b i = (E i).upper

    c : ℕ → ℕ
    c i = (E i).change

    at : (i : ℕ) → i < t → entries t (parts t E) i ≡ E i
    at i h = λ x. record {
      lower = get_d_front t i h a (list_below t b ++ list_below t c) x;
      upper = (get_or_behind t i a (list_below t b ++ list_below t c) ∙ get_d_front t i h b (list_below t c)) x;
      change = (ap (λ (k : ℕ). get_or (parts t E) k 0) (add_assoc t t i) ∙ get_or_behind t (t + i) a (list_below t b ++ list_below t c)
          ∙ get_or_behind t i b (list_below t c) ∙ get_or_list_below t c i 0 h) x;
    }

-- ---- one turn

-- three stores, one to each part
abbrev stored : ℕ → List ℕ → ℕ → Entries → List ℕ
stored t l i e = set (set (set l i e.lower) (t + i) e.upper) (t + t + i) e.change

module _ (t : ℕ) (l : List ℕ) (long : length l ≡ 3 * t) (i : ℕ) (h : i < t) (e : Entries) where
  abbrev one : List ℕ
  one = set l i e.lower

  abbrev two : List ℕ
  two = set one (t + i) e.upper

  entries_here : entries t (stored t l i e) i ≡ e
  entries_here = λ x. record { lower = first x; upper = second x; change = last x }
    where
      first : get_or (stored t l i e) i 0 ≡ e.lower
      first =
          get_or-set_other two (t + t + i) i _ 0 (λ q. omega arith) ∙ get_or-set_other one (t + i) i _ 0 (λ q. omega arith)
          ∙ get_or-set_same l i _ 0 (omega arith)

      second : get_or (stored t l i e) (t + i) 0 ≡ e.upper
      second = get_or-set_other two (t + t + i) (t + i) _ 0 (λ q. omega arith) ∙ get_or-set_same one (t + i) _ 0 (lt-length-set l i _ (omega arith))

      last : get_or (stored t l i e) (t + t + i) 0 ≡ e.change
      last = get_or-set_same two (t + t + i) _ 0 (lt-length-set one (t + i) _ (lt-length-set l i _ (omega arith)))

  entries_other : (k : ℕ) → k ≢ i → k < t → entries t (stored t l i e) k ≡ entries t l k
  entries_other k n b = λ x. record {
    lower = same k n (λ q. omega arith) (λ q. omega arith) x;
    upper = same (t + k) (λ q. omega arith) (λ q. omega arith) (λ q. omega arith) x;
    change = same (t + t + k) (λ q. omega arith) (λ q. omega arith) (λ q. omega arith) x;
  }
    where
      same : (p : ℕ) → p ≢ i → p ≢ t + i → p ≢ t + t + i → get_or (stored t l i e) p 0 ≡ get_or l p 0
      same p n₁ n₂ n₃ = get_or-set_other two (t + t + i) p _ 0 n₃ ∙ get_or-set_other one (t + i) p _ 0 n₂ ∙ get_or-set_other l i p _ 0 n₁

-- ---- the loop

-- what a turn leaves, where k is the place of i in the last part
abbrev pub stores : ℕ → List ℕ → ℕ → ℕ → List ℕ
stores t l i k = set (set (set l i (get_or l i 0 + get_or l (t + i) 0)) (t + i) (get_or l i 0 + get_or l k 0)) k (get_or l (t + i) 0 + get_or l k 0)

pub record Joined (t : ℕ) (l₀ l : List ℕ) (i : ℕ) : Type 0 where
  pub long : length l ≡ 3 * t
  pub within : i ≤ t
  pub done : (k : ℕ) → k < i → entries t l k ≡ joined (entries t l₀ k)
  pub rest : (k : ℕ) → i ≤ k → k < t → entries t l k ≡ entries t l₀ k

module _ (t : ℕ) (l₀ : List ℕ) where
  pub joined_none : length l₀ ≡ 3 * t → Joined t l₀ l₀ 0
  joined_none h = record { long = h; within = zero-le; done = λ k b. absurd (omega arith); rest = λ k a b. refl }

  module _ (l : List ℕ) (i : ℕ) (r : Joined t l₀ l i) where
    pub joined_all : t ≤ i → l ≡ joined_parts t l₀
    unfolding joined_parts
    joined_all h =
        is_list_below 0 l (length l) (λ p. get_or l p 0) refl (λ p b. refl) ∙ below_parts t (length l) r.long (λ p. get_or l p 0)
        ∙ parts_cong t (entries t l) (λ i. joined (entries t l₀ i)) (λ k b. r.done k (omega arith))

    -- the entries of the next turn are as they were, so no sum of two overflows
    pub joined_next : (m : ℕ) → ((p : ℕ) → get_or l₀ p 0 ≤ m) → i < t → (k : ℕ) → k ≡ t + t + i → (get_or l i 0 ≤ m) × (get_or l (t + i) 0 ≤ m) × (get_or l k 0 ≤ m)
    joined_next m most h k ek =
        let same : entries t l i ≡ entries t l₀ i = r.rest i (le_refl i) h in (
          omega (arith, ap (λ (e : Entries). e.lower) same, most i),
          omega (arith, ap (λ (e : Entries). e.upper) same, most (t + i)),
          omega (arith, ap (λ (q : ℕ). get_or l q 0) ek, ap (λ (e : Entries). e.change) same, most (t + t + i)),
        )

    pub joined_more : i < t → (k : ℕ) → k ≡ t + t + i → Joined t l₀ (stores t l i k) (i + 1)
    joined_more h k ek =
        let sums : Entries = joined (entries t l i) in
        let other : (p : ℕ) → p ≢ i → p < t → entries t (stored t l i sums) p ≡ entries t l p = entries_other t l r.long i h sums in
        subst (λ (q : ℕ). Joined t l₀ (stores t l i q) (i + 1)) (sym ek) record {
          long = simp length-set r.long;
          within = omega arith;
          done = λ p b. elim (ℕ_discrete p i) [
            | yes e ↦ subst (λ (q : ℕ). entries t (stored t l i sums) q ≡ joined (entries t l₀ q)) (sym e)
                (entries_here t l r.long i h sums ∙ ap joined (r.rest i (le_refl i) h))
            | no n ↦ other p n (omega arith) ∙ r.done p (omega arith)
          ];
          rest = λ p a b. other p (λ e. omega arith) b ∙ r.rest p (omega arith) b;
        }
