-- A step's bytes as two numbers of four: compared and copied so, they stand for the step's record.
-- Assumes nothing.
use mathlib.Core.Path.{◌≡◌, refl, sym, ap, ap₂, ◌∙◌, subst}
use mathlib.Core.Bool.{Bool, true, false, cond, ◌&&◌}
use mathlib.Core.List.{List, [], ◌∷◌}
use Prim.Native.Nat.{ℕ, zero, suc, ◌+◌, ◌-◌, ◌*◌, ◌/◌, ◌<◌}
use native.Mathlib.Nat.{add-zero}
use native.Mathlib.Omega.{arith}
use borrow.Author.Tests.{eqb-true, eq-eqb, ne_eqb, lt-ltb, le-ltb}
use borrow.Rule.Slice.PartMut.{put_mid}
use lib.Dec.{eqb, ltb}
use lib.ListN.{length, get_or, take, drop}
use lib.Seq.{sets}
use Rattle.bits.proofs.Bools.{both_true, true_both, same_bool}
use Rattle.records.specs.Numbers.{bytes_of, number_at}
use Rattle.records.specs.Records.{stored}
use Rattle.records.proofs.Fields.{Fields, fields_lawful, fields_part, fields_in, stored_both}
use Rattle.records.proofs.Records.{Lawful, list_at, stored_part}
use Rattle.records.proofs.Widths.{number_lt, number_parts}
use Rattle.steps.specs.declared.StepRecord.{StepRecord}
use Rattle.steps.specs.Steps.{Step, meaning, meaning_by}
use Rattle.script.specs.Scripts.{step_records, step_width, place_size, record_of}
use Rattle.script.proofs.Scripts.{step_fields}
use Rattle.compactor.specs.declared.Halves.{Halves}
use Rattle.compactor.specs.Compact.{equal_records, step_pair}
use Rattle.compactor.specs.StepBytes.{half_records, record_at, halves_at, operation_of, equal_halves, join_of, half_pair}
use Rattle.compactor.proofs.Pairs.{equal_same}

-- ---- read and stored

half_fields : Fields (4 ∷ 4 ∷ []) (λ (h : Halves). h.low ∷ h.high ∷ []) (λ xs. record { low = get_or xs 0 0; high = get_or xs 1 0 })
half_fields = record { wide = refl; some = omega arith; many = λ h. refl; back = λ h. refl; there = λ b base. refl; none = refl }

halves_lawful : Lawful half_records
halves_lawful = fields_lawful _ _ _ half_fields

pub both_read : (b : List ℕ) (x y : ℕ) → x ≡ number_at 4 b 0 → y ≡ number_at 4 b 4 → record { low = x; high = y } ≡ half_records.read b 0
both_read b x y ex ey = λ t. record { low = ex t; high = ey t }

pub both_stored : (h : Halves) (b b₁ b₂ : List ℕ) → b₁ ≡ sets b 0 (bytes_of 4 h.low) → b₂ ≡ sets b₁ 4 (bytes_of 4 h.high) → b₂ ≡ sets b 0 (half_records.enc h)
both_stored h b b₁ b₂ e₁ e₂ = e₂ ∙ rw e₁ (stored_both 4 h.low h.high b 0)

module _ (b : List ℕ) (k : ℕ) (inside : k < length b / step_width) where
  pub halves_in : (h : Halves) → h ≡ half_records.read (take (step_width * k + step_width - step_width * k) (drop (step_width * k) b)) 0 → h ≡ halves_at b k
  halves_in h e = e ∙ fields_in _ _ _ half_fields b k half_records.none inside

  pub halves_stored : (h : Halves) (part : List ℕ) → part ≡ sets (take (step_width * k + step_width - step_width * k) (drop (step_width * k) b)) 0 (half_records.enc h)
      → put_mid (step_width * k) (step_width * k + step_width - step_width * k) b part ≡ stored half_records b k h
  halves_stored h part e = stored_part half_records halves_lawful b k h inside part e

-- ---- the halves of a record

abbrev pub halves_of : StepRecord → Halves
halves_of r = record { low = r.op + 256 * r.v + 65536 * r.i; high = r.j + 65536 * r.literal + 16777216 * r.zero }

-- what a record that was read is: its places are numbers of two bytes, its other fields but the last one, which stands highest, of one
pub record Small (r : StepRecord) : Type 0 where
  pub op_lt : r.op < 256
  pub v_lt : r.v < 256
  pub i_lt : r.i < 65536
  pub j_lt : r.j < 65536
  pub literal_lt : r.literal < 256

-- a number of four bytes, by numbers of one, one and two
low_parts : (b : List ℕ) (p : ℕ) → number_at 4 b p ≡ number_at 1 b p + 256 * number_at 1 b (p + 1) + 65536 * number_at 2 b (p + 2)
low_parts b p =
    omega (arith, number_parts 1 1 b p (number_at 1 b p) (number_at 1 b (p + 1)) refl refl, number_parts 2 2 b p (number_at 2 b p) (number_at 2 b (p + 2)) refl refl)

-- and of two, one and one
high_parts : (b : List ℕ) (p : ℕ) → number_at 4 b p ≡ number_at 2 b p + 65536 * number_at 1 b (p + 2) + 16777216 * number_at 1 b (p + 3)
high_parts b p =
    let q : p + 2 + 1 ≡ p + 3 = omega arith in
    omega (
      arith,
      number_parts 2 2 b p (number_at 2 b p) (number_at 2 b (p + 2)) refl refl,
      number_parts 1 1 b (p + 2) (number_at 1 b (p + 2)) (number_at 1 b (p + 3)) refl (ap (number_at 1 b) (sym q)),
    )

module _ (b : List ℕ) (k : ℕ) (inside : k < length b / step_width) where
  record_is : record_at b k ≡ step_records.read b k
  record_is = list_at step_records b k step_records.none inside

  -- the halves of a step are those of its record
  pub at_halves : halves_at b k ≡ halves_of (record_at b k)
  at_halves =
      let p : ℕ = 8 * k in
      let p₆ : p + 4 + 2 ≡ p + 6 = omega arith in
      let p₇ : p + 4 + 3 ≡ p + 7 = omega arith in
      list_at half_records b k half_records.none inside
      ∙ (λ t. record {
        low = (ap (number_at 4 b) (add-zero p) ∙ low_parts b p
            ∙ ap (λ (q : ℕ). number_at 1 b q + 256 * number_at 1 b (p + 1) + 65536 * number_at 2 b (p + 2)) (sym (add-zero p))) t;
        high = (high_parts b (p + 4) ∙ ap₂ (λ (q r : ℕ). number_at 2 b (p + 4) + 65536 * number_at 1 b q + 16777216 * number_at 1 b r) p₆ p₇) t;
      })
      ∙ ap halves_of (sym record_is)

  pub at_small : ((i : ℕ) → get_or b i 0 < 256) → Small (record_at b k)
  at_small small =
      let p : ℕ = 8 * k in
      subst Small (sym record_is) (record {
        op_lt = omega (arith, number_lt b small 1 (p + 0));
        v_lt = omega (arith, number_lt b small 1 (p + 1));
        i_lt = omega (arith, number_lt b small 2 (p + 2));
        j_lt = omega (arith, number_lt b small 2 (p + 4));
        literal_lt = omega (arith, number_lt b small 1 (p + 6));
      })

-- ---- compared

-- a pair, by the operation of its first step
module _ (count : ℕ) (x y : Halves) (o : ℕ) (is : o ≡ operation_of x) where
  by_split : Bool → Bool
  by_split t = cond t (equal_halves (join_of count x) y) (ltb 3 (operation_of x) && equal_halves x y)

  pub pair_split : o ≡ 3 → (j : Halves) → j ≡ join_of count x → (r : Bool) → r ≡ equal_halves j y → r ≡ half_pair count x y
  unfolding half_pair by_split
  pair_split h j ej r er =
      er ∙ ap (λ (z : Halves). equal_halves z y) ej ∙ sym (ap by_split (eq-eqb (operation_of x) 3 (sym is ∙ h)))

  pub pair_other : (o ≡ 3 → ⊥) → (r : Bool) → r ≡ equal_halves x y → (ltb 3 o && r) ≡ half_pair count x y
  unfolding half_pair by_split
  pair_other h r er = ap₂ (λ (k : ℕ) (t : Bool). ltb 3 k && t) is er ∙ sym (ap by_split (ne_eqb (operation_of x) 3 (λ e. h (is ∙ e))))

-- records are equal exactly where their halves are
equal_halves_lem : (r s : StepRecord) → Small r → Small s → equal_halves (halves_of r) (halves_of s) ≡ equal_records r s
unfolding equal_records
equal_halves_lem r s a c = same_bool _ _ (λ e. there (both_true _ _ e)) (λ e. back (equal_same r s e))
  where
    there : (eqb (halves_of r).low (halves_of s).low ≡ true) × (eqb (halves_of r).high (halves_of s).high ≡ true) → equal_records r s ≡ true
    there e =
        let low : (halves_of r).low ≡ (halves_of s).low = eqb-true _ _ e.0 in
        let high : (halves_of r).high ≡ (halves_of s).high = eqb-true _ _ e.1 in
        true_both (eq-eqb r.op s.op (omega (arith, low, a, c)))
        (true_both (eq-eqb r.v s.v (omega (arith, low, a, c)))
        (true_both (eq-eqb r.i s.i (omega (arith, low, a, c)))
        (true_both (eq-eqb r.j s.j (omega (arith, high, a, c)))
        (true_both (eq-eqb r.literal s.literal (omega (arith, high, a, c))) (eq-eqb r.zero s.zero (omega (arith, high, a, c)))))))

    back : r ≡ s → equal_halves (halves_of r) (halves_of s) ≡ true
    back e = true_both (eq-eqb _ _ (ap (λ (x : StepRecord). (halves_of x).low) e)) (eq-eqb _ _ (ap (λ (x : StepRecord). (halves_of x).high) e))

-- the operation of a record's halves is the record's
pub operation_is : (r : StepRecord) → Small r → operation_of (halves_of r) ≡ r.op
operation_is r a = omega (arith, a)

-- a pair of steps, by the halves of their records
pub half_pair_lem : (count : ℕ) → count < place_size → (r s : StepRecord) → Small r → Small s → record_of (meaning r) ≡ r → record_of (meaning s) ≡ s
    → half_pair count (halves_of r) (halves_of s) ≡ step_pair count (meaning r) (meaning s)
unfolding step_pair meaning record_of
half_pair_lem count h r s a c er es = by r.op refl
  where
    x : Halves
    x = halves_of r

    y : Halves
    y = halves_of s

    means : (op : ℕ) → r.op ≡ op → meaning r ≡ meaning_by op r
    means op e = ap (λ (k : ℕ). meaning_by k r) e

    op_is : (op : ℕ) → r.op ≡ op → op ≡ operation_of x
    op_is op e = sym (operation_is r a ∙ e)

    none : (op : ℕ) → r.op ≡ op → op < 3 → step_pair count (meaning_by op r) (meaning s) ≡ false → half_pair count x y ≡ step_pair count (meaning r) (meaning s)
    none op e l f =
        sym (pair_other count x y op (op_is op e) (λ z. omega arith) (equal_halves x y) refl) ∙ ap (λ (t : Bool). t && equal_halves x y) (le-ltb 3 op (omega arith))
        ∙ sym (ap (λ (z : Step). step_pair count z (meaning s)) (means op e) ∙ f)

    -- a turn and an L step are undone by themselves
    itself : (op : ℕ) → r.op ≡ op → 3 < op → step_pair count (meaning_by op r) (meaning s) ≡ equal_records (record_of (meaning_by op r)) (record_of (meaning s))
        → half_pair count x y ≡ step_pair count (meaning r) (meaning s)
    itself op e l f =
        sym (pair_other count x y op (op_is op e) (λ z. omega arith) (equal_halves x y) refl) ∙ ap (λ (t : Bool). t && equal_halves x y) (lt-ltb 3 op l)
        ∙ equal_halves_lem r s a c
        ∙ sym (subst (λ (z : Step). step_pair count z (meaning s) ≡ equal_records (record_of z) (record_of (meaning s))) (sym (means op e)) f ∙ ap₂ equal_records er es)

    -- a split by the join
    joined : StepRecord
    joined = record { op = 2; v = 0; i = r.i; j = count; literal = 0; zero = 0 }

    joined_low : x.low / 65536 * 65536 + 2 ≡ (halves_of joined).low
    joined_low = omega (arith, a)

    joined_high : count ≡ (halves_of joined).high
    joined_high = omega arith

    of_split : r.op ≡ 3 → half_pair count x y ≡ step_pair count (meaning r) (meaning s)
    of_split e =
        sym (pair_split count x y 3 (op_is 3 e) refl (join_of count x) refl (equal_halves (join_of count x) y) refl)
        ∙ ap₂ (λ (p q : ℕ). eqb p y.low && eqb q y.high) joined_low joined_high
        ∙ equal_halves_lem joined s (record { op_lt = omega arith; v_lt = omega arith; i_lt = a.i_lt; j_lt = h; literal_lt = omega arith }) c
        ∙ ap (equal_records joined) (sym es) ∙ sym (ap (λ (z : Step). step_pair count z (meaning s)) (means 3 e))

    by : (op : ℕ) → r.op ≡ op → half_pair count x y ≡ step_pair count (meaning r) (meaning s)
    by zero e = none 0 e (omega arith) refl
    by (suc zero) e = none 1 e (omega arith) refl
    by (suc (suc zero)) e = none 2 e (omega arith) refl
    by (suc (suc (suc zero))) e = of_split e
    by (suc (suc (suc (suc zero)))) e = itself 4 e (omega arith) refl
    by (suc (suc (suc (suc (suc op))))) e = itself (suc (suc (suc (suc (suc op))))) e (omega arith) refl

-- ---- copied

-- a step's halves stored are its record stored: the bytes of both are those of its part of the script
pub halves_copied : (b : List ℕ) (k : ℕ) → k < length b / step_width → ((i : ℕ) → get_or b i 0 < 256) → (out : List ℕ) (t : ℕ)
    → stored half_records out t (halves_at b k) ≡ stored step_records out t (record_at b k)
unfolding stored
halves_copied b k inside small out t =
    ap (λ (bytes : List ℕ). cond (ltb t (length out / 8)) (sets out (8 * t) bytes) out)
    (ap half_records.enc (list_at half_records b k half_records.none inside) ∙ fields_part _ _ _ half_fields b small k inside
    ∙ sym (ap step_records.enc (record_is b k inside) ∙ fields_part _ _ _ step_fields b small k inside))
