-- The number of a line of digits by the reader of numbers: it reads the line to its end, or the line is bad; and a line's number is at most what it may be.
-- Assumes nothing.
use mathlib.Core.Path.{◌≡◌, refl, sym, subst, ap, ◌∙◌}
use mathlib.Core.Bool.{Bool, true, false, cond, ◌&&◌}
use mathlib.Core.List.{List, [], ◌∷◌, append-nil}
use Rattle.std.proofs.Common.{Option, Some, None, Ok, Err}
use Prim.Native.Nat.{ℕ, suc, ◌+◌, ◌*◌, ◌-◌, ◌≤◌, ◌<◌}
use native.Mathlib.Omega.{arith}
use lib.Dec.{leb, eqb}
use lib.ListN.{length}
use borrow.Author.Tests.{le-leb, lt-leb, leb-true, leb-false, eq-eqb, ne_eqb}
use Rattle.bits.proofs.Bools.{both_true}
use Rattle.cube.specs.Lists.{most_variables}
use Rattle.text.specs.declared.Read.{Read}
use Rattle.text.specs.declared.WrongAt.{WrongAt}
use Rattle.text.specs.Numbers.{is_digit, decimal}
use Rattle.text.specs.Reading.{Reading, digits_from, number_in}
use Rattle.text.proofs.ReadBack.{number_back}
use Rattle.program.specs.Lines.{all_digits, decimal_after, decimal_of, line_number, variables_line}

-- ---- digits after x

-- a number grows with its digits
decimal_grows : (x : ℕ) (l : List ℕ) → x ≤ decimal_after x l
unfolding decimal_after
decimal_grows x [] = omega arith
decimal_grows x (b ∷ l) = omega (arith, decimal_grows (x * 10 + (b - 48)) l)

-- the digits after x, where they are digits alone and the number is at most `most`
digits_line : ℕ → ℕ → List ℕ → Option ℕ
digits_line most x l = cond (all_digits l && leb (decimal_after x l) most) (Some (decimal_after x l)) None

-- no line goes on from a number that is above `most`
above_bad : (most x : ℕ) (l : List ℕ) → most < x → None ≡ digits_line most x l
unfolding digits_line
above_bad most x l h = rw (lt-leb (decimal_after x l) most (omega (arith, decimal_grows x l))) (bad (all_digits l))
  where
    bad : (t : Bool) → None ≡ cond (t && false) (Some (decimal_after x l)) None
    bad true = refl
    bad false = refl

-- what a line of so many bytes says, by what is read at its front
said : ℕ → Reading ℕ → Option ℕ
said end (Ok a) = cond (eqb a.next end) (Some a.value) None
said end (Err w) = None

module _ (most b : ℕ) (l : List ℕ) (p x : ℕ) where
  -- a byte more, by the reader's two tests
  digit_said : (s t : Bool) → is_digit b ≡ s → leb (x * 10 + (b - 48)) most ≡ t
      → (x * 10 + (b - 48) ≤ most → said (p + 1 + length l) (digits_from most l (p + 1) (x * 10 + (b - 48))) ≡ digits_line most (x * 10 + (b - 48)) l)
      → said (p + suc (length l)) (digits_from most (b ∷ l) p x) ≡ digits_line most x (b ∷ l)
  unfolding said digits_from digits_line all_digits decimal_after
  digit_said true true d e more =
      let long : p + 1 + length l ≡ p + suc (length l) = omega arith in
      simp (d, e) (rw long at (more (leb-true (x * 10 + (b - 48)) most e)))
  digit_said true false d e more = simp (d, e) (above_bad most (x * 10 + (b - 48)) l (leb-false (x * 10 + (b - 48)) most e))
  digit_said false t d e more = simp (d, ne_eqb p (p + suc (length l)) (λ k. omega arith))

digits_said : (most : ℕ) (l : List ℕ) (p x : ℕ) → x ≤ most → said (p + length l) (digits_from most l p x) ≡ digits_line most x l
unfolding said digits_from digits_line all_digits decimal_after
digits_said most [] p x h = simp (eq-eqb p (p + 0) (omega arith), le-leb x most h)
digits_said most (b ∷ l) p x h =
    digit_said most b l p x (is_digit b) (leb (x * 10 + (b - 48)) most) refl refl (digits_said most l (p + 1) (x * 10 + (b - 48)))

-- ---- a whole line

first_said : (digits most b : ℕ) (l : List ℕ) → suc (length l) ≤ digits → (s : Bool) → is_digit b ≡ s
    → said (suc (length l)) (number_in most (b ∷ l) 0) ≡ line_number digits most (b ∷ l)
unfolding said number_in line_number digits_line all_digits
first_said digits most b l h true d =
    let long : 0 + suc (length l) ≡ suc (length l) = omega arith in
    simp (d, le-leb 1 (suc (length l)) (omega arith), le-leb (suc (length l)) digits h) (simp (d, long) at (digits_said most (b ∷ l) 0 0 (omega arith)))
first_said digits most b l h false d = simp (d, le-leb 1 (suc (length l)) (omega arith), le-leb (suc (length l)) digits h)

line_said : (digits most : ℕ) (l : List ℕ) → length l ≤ digits → said (length l) (number_in most l 0) ≡ line_number digits most l
unfolding said number_in line_number
line_said digits most [] h = refl
line_said digits most (b ∷ l) h = first_said digits most b l h (is_digit b) refl

pub line_long : (digits most : ℕ) (l : List ℕ) → digits < length l → None ≡ line_number digits most l
unfolding line_number
line_long digits most l h = simp (le-leb 1 (length l) (omega arith), lt-leb (length l) digits h)

module _ {r : Reading ℕ} (digits most : ℕ) (l : List ℕ) (h : length l ≤ digits) (e : r ≡ number_in most l 0) where
  line_by : {q : Reading ℕ} → r ≡ q → said (length l) q ≡ line_number digits most l
  line_by k = ap (said (length l)) (sym k ∙ e) ∙ line_said digits most l h

  pub line_wrong : {w : WrongAt} → r ≡ Err w → None ≡ line_number digits most l
  unfolding said
  line_wrong k = line_by k

  pub line_read : {a : Read ℕ} → r ≡ Ok a → a.next ≡ length l → Some a.value ≡ line_number digits most l
  unfolding said
  line_read {a} k end = simp (eq-eqb a.next (length l) end) at (line_by k)

  pub line_part : {a : Read ℕ} → r ≡ Ok a → (a.next ≡ length l → ⊥) → None ≡ line_number digits most l
  unfolding said
  line_part {a} k more = simp (ne_eqb a.next (length l) more) at (line_by k)

-- ---- for readers: a number in decimal is the number of its line

pub decimal_line : (digits most x : ℕ) → x ≤ most → length (decimal x) ≤ digits → line_number digits most (decimal x) ≡ Some x
decimal_line digits most x h k =
    let end : 0 + length (decimal x) ≡ length (decimal x) = omega arith in
    sym (line_read digits most (decimal x) k refl (number_back most x h (decimal x) [] 0 refl (sym (append-nil (decimal x)))) end)

-- ---- for callers: how great a line's number is

-- a number of at most `most`, where there is one
abbrev AtMost : ℕ → Option ℕ → Type 0
AtMost most (Some n) = n ≤ most
AtMost most None = Unit {0}

tests_most : (a b c : Bool) (most n : ℕ) (t : Bool) → (a && (b && (c && leb n most))) ≡ t → AtMost most (cond t (Some n) None)
tests_most a b c most n true e = leb-true n most (both_true c _ (both_true b _ (both_true a _ e).1).1).1
tests_most a b c most n false e = tt

line_most : (digits most : ℕ) (l : List ℕ) → AtMost most (line_number digits most l)
unfolding line_number
line_most digits most l = tests_most (leb 1 (length l)) (leb (length l) digits) (all_digits l) most (decimal_of l) _ refl

pub number_most : {r : Option ℕ} {n : ℕ} (digits most : ℕ) (l : List ℕ) → r ≡ line_number digits most l → r ≡ Some n → n ≤ most
number_most digits most l e h = subst (AtMost most) (sym e ∙ h) (line_most digits most l)

-- a line that gives a number of variables gives one that a list can have
pub variables_few : {r : Option ℕ} {n : ℕ} (l : List ℕ) → r ≡ variables_line l → r ≡ Some n → n ≤ most_variables
unfolding variables_line
variables_few l e h = number_most 2 most_variables l e h
