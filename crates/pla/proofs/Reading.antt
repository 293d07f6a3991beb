-- A text read line by line: what the loop over its lines keeps, what each line does to it, and what is answered and left in the buffer at the end.
-- Assumes nothing.
use mathlib.Core.Path.{◌≡◌, refl, sym, ap, ◌∙◌, subst}
use mathlib.Core.Bool.{Bool, true, false, cond, ◌&&◌, ◌||◌}
use mathlib.Core.List.{List, [], ◌∷◌, ◌++◌}
use Prim.Native.Nat.{ℕ, suc, ◌+◌, ◌-◌, ◌*◌, ◌/◌, ◌≤◌, ◌<◌}
use native.Mathlib.Nat.{sub-zero, mul-le-mul_left}
use native.Mathlib.Omega.{arith}
use lib.Dec.{eqb, leb}
use lib.ListN.{length, get_or, take, drop, length-append}
use borrow.Author.Tests.{eq-eqb, ne_eqb}
use Rattle.std.specs.Prelude.{Result, Ok, Err, Option, Some, None}
use Rattle.lines.specs.Bytes.{index_of}
use Rattle.pla.specs.declared.MapSize.{MapSize}
use Rattle.records.specs.declared.Refusal.{Refusal}
use Rattle.records.specs.declared.reason.Reason.{Reason}
use Rattle.records.specs.Reasons.{number_of}
use Rattle.records.specs.Records.{image, filled, stored, zeros, Holds}
use Rattle.records.specs.Answers.{Outcome, accepted, refused, refusal}
use Rattle.records.proofs.Filling.{length_zeros}
use Rattle.records.proofs.Records.{length_stored, holds_push, room_place, capacity_fits}
use Rattle.cube.specs.Cubes.{one}
use Rattle.cube.specs.Lists.{most_variables, most_records}
use Rattle.shared.specs.declared.Shared.{Shared}
use Rattle.shared.specs.SharedRecord.{shares, shared_width, shared_capacity}
use Rattle.shared.proofs.SharedRecord.{shared_lawful}
use Rattle.shared.specs.Outputs.{output_count}
use Rattle.text.specs.Blanks.{blanks}
use Rattle.lines.specs.Lines.{newline, lines, content}
use Rattle.lines.specs.Words.{only_number, only_word, blank_from, first_word, after_word}
use Rattle.lines.specs.Gathering.{most_text, Says, knows, has, over, bad, Progress, before, ended, refused_by, through}
use Rattle.lines.proofs.Gathering.{Gathering, gathered_long, gathered_whole, gathering_none, gathering_end, gathering_knows, gathering_over, gathering_bad, gathering_passes, gathering_takes, gathering_full}
use Rattle.pla.specs.declared.Header.{Header}
use Rattle.pla.specs.declared.Line.{Line}
use Rattle.pla.specs.declared.Line.TheVariants as line_variants
use Rattle.pla.specs.Header.{unsaid, nothing_said, inputs_said, outputs_said, type_said, products_said, end_said, most_stated, named}
use Rattle.pla.specs.Names.{dot, esop_word, name_of}
use Rattle.pla.specs.Products.{product_said, lacking, product, spelt}
use Rattle.pla.specs.Pla.{says_before, line_says, in_some, read_through, Pla, made, wrong, finished, at_end, pla_of, told_of, products_of, pla_outcome, pla_after, line_is, read_pla}
use Rattle.pla.specs.Reading.{KeptOf, Kept}

-- ---- a line adds at most one product to those that were counted

-- whatever is known after a line, there are at most so many products
abbrev Upto : ℕ → Says Header Shared → Type 0
Upto most (knows h) = h.products ≤ most
Upto most (has h s) = h.products ≤ most
Upto most over = Unit {0}
Upto most (bad number) = Unit {0}

either : (P : Says Header Shared → Type 0) (s : Bool) {x y : Says Header Shared} → P x → P y → P (cond s x y)
either P true f g = f
either P false f g = g

module _ (h : Header) where
  abbrev Next : Says Header Shared → Type 0
  Next s = Upto (h.products + 1) s

  inputs_next : (x : Option ℕ) → Next (inputs_said h x)
  inputs_next (Some v) = either Next (eqb h.inputs unsaid) (omega arith) tt
  inputs_next None = tt

  outputs_next : (x : Option ℕ) → Next (outputs_said h x)
  outputs_next (Some v) = either Next (leb 1 v && eqb h.outputs unsaid) (omega arith) tt
  outputs_next None = tt

  type_next : (t : Bool) → Next (type_said h t)
  type_next true = omega arith
  type_next false = tt

  products_next : (k : ℕ) (x : Option ℕ) → Next (products_said k h x)
  products_next k (Some v) = either Next (eqb h.stated unsaid) (omega arith) tt
  products_next k None = tt

  end_next : (t : Bool) → Next (end_said t)
  end_next true = tt
  end_next false = tt

  named_next : (k name : ℕ) (l : List ℕ) → Next (named k h name l)
  unfolding named
  named_next k name l =
      either Next (eqb name 1) (inputs_next (only_number most_variables l))
      (either Next (eqb name 2) (outputs_next (only_number output_count l))
      (either Next (eqb name 3) (type_next (only_word esop_word l))
      (either Next (eqb name 4) (products_next k (only_number most_stated l))
      (either Next (eqb name 5) (omega arith)
      (either Next (eqb name 6) (end_next (blank_from l 0)) tt)))))

  spelt_next : (s : Option Shared) → Next (product_said h s)
  spelt_next (Some s) = omega arith
  spelt_next None = tt

  product_next : (l : List ℕ) → Next (product h l)
  unfolding product
  product_next l = either Next (eqb (lacking h) 0) (spelt_next (spelt h.inputs h.outputs 0 one 0 l)) tt

  line_next : (k : ℕ) (l : List ℕ) → Next (line_says k h l)
  unfolding line_says says_before
  line_next k l =
      let c : List ℕ = content l in
      either Next (blank_from c 0) (omega arith)
      (either Next (eqb (get_or c (blanks c) 0) dot) (named_next k (name_of (first_word c)) (after_word c)) (product_next c))

-- ---- the answer at the end

module _ (h : Header) {x : ℕ} (d : x ≡ lacking h) (k count : ℕ) where
  -- of a list of so many products
  abbrev Answers : Outcome → Type 0
  Answers o = (l : List Shared) → length l ≡ count → o ≡ told_of (finished h l k)

  pub finish_lacks : (x ≡ 0 → ⊥) → {r : Refusal} → r ≡ refusal x k → Answers (refused r)
  finish_lacks ne e l c = ap refused e ∙ simp (sym d, ne_eqb x 0 ne)

  module _ (z : x ≡ 0) where
    pub finish_unsaid : h.stated ≡ unsaid → Answers (accepted (h.inputs ∷ h.outputs ∷ count ∷ []))
    finish_unsaid u l c = simp (sym d, eq-eqb x 0 z, eq-eqb h.stated unsaid u, c)

    module _ (ne : h.stated ≡ unsaid → ⊥) where
      pub finish_differs : (h.stated ≡ h.products → ⊥) → {r : Refusal} → r ≡ refusal 32 h.line → Answers (refused r)
      finish_differs o e l c = ap refused e ∙ simp (sym d, eq-eqb x 0 z, ne_eqb h.stated unsaid ne, ne_eqb h.stated h.products o)

      pub finish_stated : h.stated ≡ h.products → Answers (accepted (h.inputs ∷ h.outputs ∷ count ∷ []))
      finish_stated o l c = simp (sym d, eq-eqb x 0 z, ne_eqb h.stated unsaid ne, eq-eqb h.stated h.products o, c)

-- ---- what is left in the buffer

-- an empty list leaves zeros
none_image : (n : ℕ) → image shares n [] ≡ zeros n
unfolding image filled
none_image n = ap zeros (sub-zero n)

-- the products, where none is refused at the end
kept_finished : (h : Header) (l : List Shared) (k bytes : ℕ) (b : List ℕ) → b ≡ image shares bytes l → length b ≡ bytes → KeptOf bytes (finished h l k) b
kept_finished h l k bytes b e n = go (eqb (lacking h) 0) (eqb h.stated unsaid || eqb h.stated h.products)
  where
    go : (s t : Bool) → KeptOf bytes (cond s (cond t (made h.inputs h.outputs l) (wrong 32 h.line)) (wrong (lacking h) k)) b
    go true true = e
    go true false = n
    go false t = n

-- ---- what the loop over the lines keeps

pub record Reading (t : List ℕ) (bytes : ℕ) (h : Header) (count at line : ℕ) (b : List ℕ) : Type 0 where
  pub items : List Shared
  pub gathering : Gathering line_says in_some 31 (shared_capacity bytes) nothing_said t at h items (line + 1)
  pub counted : length items ≡ count
  pub holds : Holds shares b items
  pub long : length b ≡ bytes
  pub few : h.products ≤ line

pub reading_none : (t b : List ℕ) → b ≡ zeros (length b) → Reading t (length b) nothing_said 0 0 0 b
unfolding Holds
reading_none t b e = record {
  items = [];
  gathering = gathering_none line_says in_some 31 (shared_capacity (length b)) nothing_said t;
  counted = refl;
  holds = e ∙ sym (none_image (length b));
  long = refl;
  few = omega arith;
}

-- the end of a text: what is answered, and what is in the buffer
abbrev Ends : List ℕ → ℕ → Outcome → List ℕ → Type 0
Ends t bytes o b = (o ≡ pla_outcome t bytes) × Kept t bytes b

module _ (t : List ℕ) (bytes : ℕ) (short : length t ≤ most_text) where
  ending : {o : Outcome} (b : List ℕ) (p : Progress Header Shared)
      → through line_says in_some 31 (shared_capacity bytes) (before nothing_said [] 1) (lines t) ≡ p
      → o ≡ told_of (at_end p) → KeptOf bytes (at_end p) b → Ends t bytes o b
  unfolding pla_outcome pla_of read_through
  ending b p e d k =
      let is : pla_of (shared_capacity bytes) t ≡ at_end p = ap at_end (gathered_whole line_says in_some 31 (shared_capacity bytes) 36 nothing_said t short ∙ e) in
      (d ∙ sym (ap told_of is), subst (λ (q : Pla). KeptOf bytes q b) (sym is) k)

module _ {t : List ℕ} {bytes : ℕ} {h : Header} {count at line : ℕ} {b : List ℕ} (g : Reading t bytes h count at line b) where
  image_is : b ≡ image shares bytes g.items
  unfolding Holds
  image_is = g.holds ∙ ap (λ (n : ℕ). image shares n g.items) g.long

  -- a place for one more
  module _ {room : ℕ} (e : room ≡ shared_capacity bytes) (r : count < room) where
    fits : 12 * suc count ≤ length b
    fits =
        let below : suc count ≤ shared_capacity bytes = omega (arith, e) in
        omega (arith, g.long, capacity_fits shares most_records bytes, mul-le-mul_left 12 below)

    pub reading_place : count < length b / shared_width
    reading_place = room_place 12 (length b) count shared_lawful.wide fits

  -- the text is at its end
  pub reading_end : length t ≤ most_text → length t ≤ at → (r : Result MapSize Refusal) → ((l : List Shared) → length l ≡ count → read_pla r ≡ told_of (finished h l (line + 1)))
      → Ends t bytes (read_pla r) b
  reading_end short o r f =
      ending t bytes short b (before h g.items (line + 1)) (gathering_end line_says in_some 31 (shared_capacity bytes) g.gathering o) (f g.items g.counted)
      (kept_finished h g.items (line + 1) bytes b image_is g.long)

  -- the line at the place
  module _ (o : at < length t) {end : ℕ} (e : end ≡ at + index_of newline (drop at t)) (said : Result Line Reason) (d : line_is said ≡ line_says (line + 1) h (take (end - at) (drop at t))) where
    says : {s : Result Line Reason} → said ≡ s → line_says (line + 1) h (take (end - at) (drop at t)) ≡ line_is s
    says y = sym d ∙ ap line_is y

    pub reading_bad : length t ≤ most_text → {why : Reason} → said ≡ Err why → {r : Refusal} → r ≡ refusal (number_of why) (line + 1) → Ends t bytes (refused r) b
    reading_bad short {why} y f =
        ending t bytes short b (refused_by (number_of why) (line + 1)) (gathering_bad line_says in_some 31 (shared_capacity bytes) g.gathering o e (says y)) (ap refused f) g.long

    pub reading_over : length t ≤ most_text → {x : Line} → said ≡ Ok x → x ≡ line_variants.Over → (r : Result MapSize Refusal)
        → ((l : List Shared) → length l ≡ count → read_pla r ≡ told_of (finished h l (line + 1))) → Ends t bytes (read_pla r) b
    reading_over short v w r f =
        let y : said ≡ Ok line_variants.Over = v ∙ ap Ok w in
        ending t bytes short b (ended h g.items (line + 1)) (gathering_over line_says in_some 31 (shared_capacity bytes) g.gathering o e (says y)) (f g.items g.counted)
        (kept_finished h g.items (line + 1) bytes b image_is g.long)

    pub reading_knows : {x : Line} {h' : Header} → said ≡ Ok x → x ≡ line_variants.Knows h' → Reading t bytes h' count (end + 1) (line + 1) b
    reading_knows {h' = h'} v w =
        let y : said ≡ Ok (line_variants.Knows h') = v ∙ ap Ok w in
        let next : h'.products ≤ h.products + 1 = subst (λ (s : Says Header Shared). Upto (h.products + 1) s) (says y) (line_next h (line + 1) (take (end - at) (drop at t))) in
        record {
          items = g.items;
          gathering = gathering_knows line_says in_some 31 (shared_capacity bytes) g.gathering o e (says y);
          counted = g.counted;
          holds = g.holds;
          long = g.long;
          few = omega (arith, g.few);
        }

    module _ {x : Line} {h' : Header} {s : Shared} (v : said ≡ Ok x) (w : x ≡ line_variants.Has h' s) where
      y : said ≡ Ok (line_variants.Has h' s)
      y = v ∙ ap Ok w

      next : h'.products ≤ line + 1
      next = omega (arith, g.few, subst (λ (z : Says Header Shared). Upto (h.products + 1) z) (says y) (line_next h (line + 1) (take (end - at) (drop at t))))

      pub reading_passes : s.outputs ≡ 0 → Reading t bytes h' count (end + 1) (line + 1) b
      reading_passes z = record {
        items = g.items;
        gathering = gathering_passes line_says in_some 31 (shared_capacity bytes) g.gathering o e (says y) (simp (eq-eqb s.outputs 0 z));
        counted = g.counted;
        holds = g.holds;
        long = g.long;
        few = next;
      }

      module _ (z : s.outputs ≡ 0 → ⊥) {room : ℕ} (c : room ≡ shared_capacity bytes) where
        some : in_some s ≡ true
        some = simp (ne_eqb s.outputs 0 z)

        pub reading_full : length t ≤ most_text → room ≤ count → {r : Refusal} → r ≡ refusal 31 (line + 1) → Ends t bytes (refused r) b
        reading_full short l f =
            ending t bytes short b (refused_by 31 (line + 1))
            (gathering_full line_says in_some 31 (shared_capacity bytes) g.gathering o e (says y) some (omega (arith, c, g.counted))) (ap refused f) g.long

        pub reading_takes : count < room → {b' : List ℕ} → b' ≡ stored shares b count s → Reading t bytes h' (count + 1) (end + 1) (line + 1) b'
        reading_takes l {b'} f =
            let at_end_lem : stored shares b (length g.items) s ≡ b' = ap (λ (n : ℕ). stored shares b n s) g.counted ∙ sym f in
            let room_for : 12 * suc (length g.items) ≤ length b = subst (λ (n : ℕ). 12 * suc n ≤ length b) (sym g.counted) (fits c l) in
            record {
              items = g.items ++ (s ∷ []);
              gathering = gathering_takes line_says in_some 31 (shared_capacity bytes) g.gathering o e (says y) some (omega (arith, c, g.counted));
              counted = length-append g.items (s ∷ []) ∙ omega (arith, g.counted);
              holds = subst (λ (z : List ℕ). Holds shares z (g.items ++ (s ∷ []))) at_end_lem (holds_push shares shared_lawful b g.items g.holds s room_for);
              long = ap length f ∙ length_stored shares b count s ∙ g.long;
              few = next;
            }

-- ---- the whole call

pub cleared : (n : ℕ) {b : List ℕ} → b ≡ zeros n → b ≡ zeros (length b)
cleared n e = e ∙ ap zeros (sym (ap length e ∙ length_zeros n))

module _ (t : List ℕ) (bytes : ℕ) where
  -- a text that is too long
  pub too_long : most_text < length t → {r : Refusal} → r ≡ refusal 36 0 → {b : List ℕ} → b ≡ zeros bytes → (refused r ≡ pla_outcome t bytes) × (b ≡ pla_after t bytes)
  unfolding pla_outcome pla_after pla_of read_through
  too_long l e d =
      let is : pla_of (shared_capacity bytes) t ≡ wrong 36 0 = ap at_end (gathered_long line_says in_some 31 (shared_capacity bytes) 36 nothing_said t l) in
      (ap refused e ∙ sym (ap told_of is), d ∙ sym (ap (λ (p : Pla). image shares bytes (products_of p)) is ∙ none_image bytes))

  after_refusal : {r : Refusal} (b : List ℕ) (p : Pla) → refused r ≡ told_of p → KeptOf bytes p b → zeros (length b) ≡ image shares bytes (products_of p)
  after_refusal b (made n m l) e k = let z : ◌≡◌ {A = ℕ} 0 1 = cc in absurd (omega arith)
  after_refusal b (wrong number k) e d = ap zeros d ∙ sym (none_image bytes)

  after_reading : {n m count : ℕ} (b : List ℕ) (p : Pla) → accepted (n ∷ m ∷ count ∷ []) ≡ told_of p → KeptOf bytes p b → b ≡ image shares bytes (products_of p)
  after_reading b (made n m l) e k = k
  after_reading b (wrong number k) e d = let z : ◌≡◌ {A = ℕ} 0 1 = cc in absurd (omega arith)

  -- what the loop left, in a buffer that was cleared
  module _ {b₀ : List ℕ} (b : List ℕ) (z : b₀ ≡ zeros bytes) (k : Kept t (length b₀) b) where
    many : length b₀ ≡ bytes
    many = ap length z ∙ length_zeros bytes

    pub read_refused : {r : Refusal} → refused r ≡ pla_outcome t (length b₀) → {b' : List ℕ} → b' ≡ zeros (length b) → (refused r ≡ pla_outcome t bytes) × (b' ≡ pla_after t bytes)
    unfolding pla_outcome pla_after
    read_refused e d =
        (rw many at e, d ∙ after_refusal b (pla_of (shared_capacity bytes) t) (rw many at e) (rw many at k))

    pub read_accepted : {n m count : ℕ} → accepted (n ∷ m ∷ count ∷ []) ≡ pla_outcome t (length b₀)
        → (accepted (n ∷ m ∷ count ∷ []) ≡ pla_outcome t bytes) × (b ≡ pla_after t bytes)
    unfolding pla_outcome pla_after
    read_accepted e = (rw many at e, after_reading b (pla_of (shared_capacity bytes) t) (rw many at e) (rw many at k))
