-- Every map that the reader accepts is within every limit, so that it passes `check` of shared products, and printed it reads back as what it is.
-- Assumes nothing.
use mathlib.Core.Path.{◌≡◌, sym, ap, subst, ◌∙◌}
use mathlib.Core.Bool.{Bool, true, false, ◌&&◌, ◌||◌}
use mathlib.Core.List.{List, [], ◌∷◌, ◌++◌}
use Prim.Native.Nat.{ℕ, ◌+◌, ◌-◌, ◌*◌, ◌/◌, ◌^◌, ◌≤◌, ◌<◌}
use native.Mathlib.Nat.{le_trans, mul-le-mul_right, one-mul}
use native.Mathlib.Omega.{arith}
use lib.Dec.{eqb, leb, ltb}
use lib.ListN.{length, get_or, length-append}
use lib.Pow.{pow_pos, pow-add}
use borrow.Author.Tests.{leb-true, ltb-true, ltb-false, eqb-true, eqb-false, not-true}
use Rattle.std.specs.Prelude.{Option, Some, None}
use Rattle.bits.specs.Sums.{All}
use Rattle.bits.proofs.Bools.{both_true}
use Rattle.bits.proofs.Sums.{all_each, all_snoc}
use Rattle.records.specs.Records.{flat}
use Rattle.records.specs.Answers.{accepted}
use Rattle.records.proofs.Images.{length_flat}
use Rattle.cube.specs.declared.Cube.{Cube}
use Rattle.cube.specs.Cubes.{Good, one, with_code}
use Rattle.cube.specs.Lists.{most_variables, most_records}
use Rattle.cube.proofs.Codes.{with_put, one_good, put_good}
use Rattle.shared.specs.declared.Shared.{Shared}
use Rattle.shared.specs.SharedRecord.{shares, shared_width, Fine}
use Rattle.shared.specs.Outputs.{output_count}
use Rattle.shared.specs.Calls.{check_shared}
use Rattle.shared.proofs.SharedRecord.{shared_lawful, shares_flat}
use Rattle.shared.proofs.Lists.{accepts_shared}
use Rattle.text.specs.Blanks.{blank, blanks}
use Rattle.text.specs.Cubes.{code_of_glyph}
use Rattle.lines.specs.Lines.{content}
use Rattle.lines.specs.Words.{only_number, only_word, blank_from, first_word, after_word}
use Rattle.lines.specs.Gathering.{Says, knows, has, over, bad, Progress}
use Rattle.lines.specs.Gathering as progress_is
use Rattle.pla.specs.declared.Header.{Header}
use Rattle.pla.specs.Header.{unsaid, nothing_said, inputs_said, outputs_said, type_said, products_said, end_said, most_stated, named}
use Rattle.pla.specs.Names.{dot, esop_word, name_of}
use Rattle.pla.specs.Products.{output_of, spelt, product_said, lacking, product}
use Rattle.pla.specs.Pla.{says_before, line_says, in_some, read_through, Pla, made, wrong, finished, at_end, pla_of}
use Rattle.pla_print.specs.Printing.{pla_text}
use Rattle.pla.proofs.Products.{nothing_lacks}
use Rattle.pla_print.proofs.ReadBack.{read_back}
use Rattle.text_promises.specs.TextMeaning.{text_value, Below, FineMap}
use Rattle.text_promises.proofs.Meaning.{what_a_text_means}
use Rattle.text_promises.proofs.Gathered.{by_test, After, Throughout, gathered_keeps}

-- ---- what a line with a product spells

-- a product over n variables, with outputs below m alone
abbrev Spells : ℕ → ℕ → Option Shared → Type 0
Spells n m (Some s) = Good n s.cube × Below m s
Spells n m None = Unit {0}

-- one more output, which is the next bit
output_next : (o y j i : ℕ) → o < 2 ^ j → y < 2 → i ≡ j + 1 → o + y * 2 ^ j < 2 ^ i
output_next o y j i h l e =
    let once : y ≤ 1 = omega arith in
    rw e (omega (arith, pow-add 2 j 1, mul-le-mul_right (2 ^ j) once, one-mul (2 ^ j)))

module _ (n m : ℕ) (few : n ≤ most_variables) where
  spelt_fine : (k : ℕ) (c : Cube) (o : ℕ) (l : List ℕ) → k ≤ n + m → Good n c → o < 2 ^ (k - n) → Spells n m (spelt n m k c o l)
  unfolding spelt
  spelt_fine k c o [] h g b =
      by_test (Spells n m) (eqb k (n + m))
      (λ e. let all : k - n ≡ m = omega (arith, eqb-true k (n + m) e) in (g, subst (λ (j : ℕ). o < 2 ^ j) all b))
      (λ e. tt)
  spelt_fine k c o (x ∷ l) h g b =
      by_test (Spells n m) (blank x) (λ e. spelt_fine k c o l h g b)
      (λ e. by_test (Spells n m) (ltb k n)
      (λ i. by_test (Spells n m) (ltb (code_of_glyph x) 3)
      (λ y. spelt_fine (k + 1) (with_code c k (code_of_glyph x)) o l (omega (arith, ltb-true k n i)) (coded k c (code_of_glyph x) (ltb-true k n i) (ltb-true (code_of_glyph x) 3 y) g)
      (none k o (ltb-true k n i) b))
      (λ y. tt))
      (λ i. by_test (Spells n m) (ltb k (n + m))
      (λ j. by_test (Spells n m) (ltb (output_of x) 2)
      (λ y. spelt_fine (k + 1) c (o + output_of x * 2 ^ (k - n)) l (omega (arith, ltb-true k (n + m) j)) g
      (output_next o (output_of x) (k - n) (k + 1 - n) b (ltb-true (output_of x) 2 y) (omega (arith, ltb-false k n i))))
      (λ y. tt))
      (λ j. tt)))
    where
      coded : (k : ℕ) (c : Cube) (y : ℕ) → k < n → y < 3 → Good n c → Good n (with_code c k y)
      coded k c y h l g = subst (Good n) (sym (with_put c k y (omega arith))) (put_good n c k y g h l)

      none : (k o : ℕ) → k < n → o < 2 ^ (k - n) → o < 2 ^ (k + 1 - n)
      none k o h b = let e : k + 1 - n ≡ k - n = omega arith in rw e b

-- ---- what the products so far have to be, by what is known

-- a product that was read where this was known, and stays as it is: the inputs and the outputs can't be said again
record Stays (h : Header) (s : Shared) : Type 0 where
  inputs : h.inputs ≤ 32
  outputs : h.outputs ≤ 32
  fine : Fine h.inputs s
  below : Below h.outputs s

record Onto (h h' : Header) : Type 0 where
  stays : (s : Shared) → Stays h s → Stays h' s
  some : 1 ≤ h.outputs → 1 ≤ h'.outputs

-- what a line says keeps it so
abbrev Keeps : Header → Says Header Shared → Type 0
Keeps h (knows h') = Onto h h'
Keeps h (has h' s) = Onto h h' × (in_some s ≡ true → Stays h' s)
Keeps h over = Unit {0}
Keeps h (bad number) = Unit {0}

-- ---- line by line

module _ (h : Header) where
  -- the inputs and the outputs are as they were
  same_onto : (esop : Bool) (stated line products : ℕ)
      → Onto h (record { inputs = h.inputs; outputs = h.outputs; esop = esop; stated = stated; line = line; products = products })
  same_onto esop stated line products = record {
    stays = λ s k. record { inputs = k.inputs; outputs = k.outputs; fine = k.fine; below = k.below };
    some = λ y. y;
  }

  inputs_keep : (x : Option ℕ) → Keeps h (inputs_said h x)
  inputs_keep (Some x) =
      by_test (Keeps h) (eqb h.inputs unsaid)
      (λ e. record { stays = λ s k. absurd (omega (arith, eqb-true h.inputs unsaid e, k.inputs)); some = λ y. y })
      (λ e. tt)
  inputs_keep None = tt

  outputs_keep : (x : Option ℕ) → Keeps h (outputs_said h x)
  outputs_keep (Some x) =
      by_test (Keeps h) (leb 1 x && eqb h.outputs unsaid)
      (λ e.
      let p = both_true (leb 1 x) (eqb h.outputs unsaid) e in
      record { stays = λ s k. absurd (omega (arith, eqb-true h.outputs unsaid p.1, k.outputs)); some = λ y. leb-true 1 x p.0 })
      (λ e. tt)
  outputs_keep None = tt

  type_keeps : (t : Bool) → Keeps h (type_said h t)
  type_keeps true = same_onto true h.stated h.line h.products
  type_keeps false = tt

  products_keep : (k : ℕ) (x : Option ℕ) → Keeps h (products_said k h x)
  products_keep k (Some x) = by_test (Keeps h) (eqb h.stated unsaid) (λ e. same_onto h.esop x k h.products) (λ e. tt)
  products_keep k None = tt

  end_keeps : (t : Bool) → Keeps h (end_said t)
  end_keeps true = tt
  end_keeps false = tt

  nothing_keeps : Keeps h (knows h)
  nothing_keeps = record { stays = λ s k. k; some = λ y. y }

  named_keeps : (k name : ℕ) (l : List ℕ) → Keeps h (named k h name l)
  unfolding named
  named_keeps k name l =
      by_test (Keeps h) (eqb name 1) (λ e. inputs_keep (only_number most_variables l))
      (λ e. by_test (Keeps h) (eqb name 2) (λ e. outputs_keep (only_number output_count l))
      (λ e. by_test (Keeps h) (eqb name 3) (λ e. type_keeps (only_word esop_word l))
      (λ e. by_test (Keeps h) (eqb name 4) (λ e. products_keep k (only_number most_stated l))
      (λ e. by_test (Keeps h) (eqb name 5) (λ e. nothing_keeps)
      (λ e. by_test (Keeps h) (eqb name 6) (λ e. end_keeps (blank_from l 0)) (λ e. tt))))))

  spelt_keeps : h.inputs ≤ 32 → h.outputs ≤ 32 → (x : Option Shared) → Spells h.inputs h.outputs x → Keeps h (product_said h x)
  spelt_keeps i o (Some s) g = (
    same_onto h.esop h.stated h.line (h.products + 1),
    λ e. record {
      inputs = i;
      outputs = o;
      fine = record { good = g.0; some = eqb-false s.outputs 0 (not-true (eqb s.outputs 0) e) };
      below = g.1;
    },
  )
  spelt_keeps i o None g = tt

  product_keeps : (l : List ℕ) → Keeps h (product h l)
  unfolding product
  product_keeps l =
      by_test (Keeps h) (eqb (lacking h) 0)
      (λ e.
      let p = nothing_lacks h (eqb-true (lacking h) 0 e) in
      spelt_keeps p.0 p.1 (spelt h.inputs h.outputs 0 one 0 l)
      (spelt_fine h.inputs h.outputs p.0 0 one 0 l (omega arith) (one_good h.inputs) (pow_pos (0 - h.inputs))))
      (λ e. tt)

  line_keeps : (k : ℕ) (l : List ℕ) → Keeps h (line_says k h l)
  unfolding line_says says_before
  line_keeps k l =
      let c : List ℕ = content l in
      by_test (Keeps h) (blank_from c 0) (λ e. nothing_keeps)
      (λ e. by_test (Keeps h) (eqb (get_or c (blanks c) 0) dot) (λ e. named_keeps k (name_of (first_word c)) (after_word c)) (λ e. product_keeps c))

-- ---- the whole text

module _ (room : ℕ) where
  record Kept (h : Header) (l : List Shared) : Type 0 where
    some : 1 ≤ h.outputs
    stay : All (Stays h) l
    short : length l ≤ room

  onto_kept : {h h' : Header} {l : List Shared} → Onto h h' → Kept h l → Kept h' l
  onto_kept {h} {h'} {l} o r = record { some = o.some r.some; stay = all_each (Stays h) (Stays h') o.stays l r.stay; short = r.short }

  one_more : {h : Header} {l : List Shared} {s : Shared} → Kept h l → Stays h s → length l < room → Kept h (l ++ (s ∷ []))
  one_more {h} {l} {s} r t more =
      record { some = r.some; stay = all_snoc (Stays h) l s r.stay t; short = omega (arith, length-append l (s ∷ [])) }

  by_line_lem : (h : Header) (l : List Shared) → Kept h l → (s : Says Header Shared) → Keeps h s → After in_some room Kept l s
  by_line_lem h l r (knows h') o = onto_kept o r
  by_line_lem h l r (has h' s) o = (λ e more. one_more (onto_kept o.0 r) (o.1 e) more, λ e. onto_kept o.0 r)
  by_line_lem h l r over o = tt
  by_line_lem h l r (bad number) o = tt

  whole_text : (t : List ℕ) → Throughout Kept (read_through room t)
  unfolding read_through
  whole_text t =
      gathered_keeps line_says in_some 31 room Kept (λ k h l r x. by_line_lem h l r (line_says k h x) (line_keeps h k x)) 36 nothing_said t
      (record { some = omega arith; stay = tt; short = omega arith })

  -- ---- at the end

  abbrev IsFine : Pla → Type 0
  IsFine (made n m l) = FineMap room n m l
  IsFine (wrong number k) = Unit {0}

  finished_fine : (h : Header) (l : List Shared) (k : ℕ) → Kept h l → IsFine (finished h l k)
  finished_fine h l k r =
      by_test IsFine (eqb (lacking h) 0)
      (λ e. by_test IsFine (eqb h.stated unsaid || eqb h.stated h.products)
      (λ f.
      let p = nothing_lacks h (eqb-true (lacking h) 0 e) in
      record {
        few = p.0;
        some = r.some;
        low = p.1;
        short = r.short;
        fine = all_each (Stays h) (Fine h.inputs) (λ s t. t.fine) l r.stay;
        below = all_each (Stays h) (Below h.outputs) (λ s t. t.below) l r.stay;
      })
      (λ f. tt))
      (λ e. tt)

  end_fine : (p : Progress Header Shared) → Throughout Kept p → IsFine (at_end p)
  end_fine (progress_is.before h l k) r = finished_fine h l k r
  end_fine (progress_is.ended h l k) r = finished_fine h l k r
  end_fine (progress_is.refused_by number k) r = tt

  text_fine : (t : List ℕ) → IsFine (pla_of room t)
  unfolding pla_of
  text_fine t = end_fine (read_through room t) (whole_text t)

-- ---- the promises

module _ (room : ℕ) (t : List ℕ) (n m : ℕ) (l : List Shared) (read : pla_of room t ≡ made n m l) where
  -- A map that is read is within every limit: at most 32 inputs, 1 to 32 outputs, no more products than there is room for, each over the inputs and in some output, and in none
  -- that the map does not have.
  pub accepted_is_fine : FineMap room n m l
  accepted_is_fine = subst (IsFine room) read (text_fine room t)

  module _ (most : room ≤ most_records) where
    few_products : length l ≤ most_records
    few_products = le_trans accepted_is_fine.short most

    -- So its bytes pass `check` of shared products, with as many products as were read.
    pub accepted_passes : check_shared n (flat shares.enc l) ≡ accepted (length l ∷ [])
    accepted_passes =
        let f = accepted_is_fine in
        let b : List ℕ = flat shares.enc l in
        let long : length b ≡ shared_width * length l = length_flat shares.enc shared_width shared_lawful.len l in
        let many : length b / shared_width ≡ length l = omega arith in
        accepts_shared n b (record {
          few = f.few;
          whole = omega arith;
          short = omega (arith, few_products);
          good = subst (All (Fine n)) (sym (shares_flat l)) f.fine;
        })
        ∙ ap (λ (k : ℕ). accepted (k ∷ [])) many

    -- And printed it is a text that reads as the same map: the same inputs and outputs, and the same products in their order.
    pub read_again : pla_of room (pla_text n m l) ≡ made n m l
    read_again =
        let f = accepted_is_fine in
        read_back n m room l f.few f.some f.low f.fine f.below f.short few_products

    -- So the two texts mean the same value of each output at each assignment.
    pub means_the_same : (k a : ℕ) → text_value room k (pla_text n m l) a ≡ text_value room k t a
    means_the_same k a = what_a_text_means room (pla_text n m l) n m l read_again k a ∙ sym (what_a_text_means room t n m l read k a)
