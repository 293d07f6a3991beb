-- Two outcomes that satisfy the contract of a public function of this crate are equal.
-- Assumes nothing.
use mathlib.Core.Path.{◌≡◌, refl, ap}
use mathlib.Core.List.{List}
use Prim.Native.Nat.{ℕ}
use lib.ListN.{get_or}
use Rattle.std.specs.Prelude.{Result}
use denote.RattleType.{RattleType}
use denote.Builtin.{u64}
use denote.Param.Laws.{Laws, IsCopy}
use mir.Syntax.{Dict}
use Rattle.std.specs.declared.clone.Clone as clone
use Rattle.bits.specs.declared.passes.Bits as bits
use Rattle.bits.specs.contracts.packed.Packed.{the_row}
use Rattle.bits.specs.contracts.passes.U64Bits.TheImpl.{ghosts}
use Rattle.bits.specs.contracts.passes.PackedBits.TheImpl.{ghosts as four_words}
use Rattle.bits.specs.Packed.{alone}
use Rattle.bits.specs.declared.packed.Packed.{Packed}
use Rattle.bits.specs.Outcomes.{Determined}
use Rattle.bits.proofs.Determined.{same, same_told}
use Rattle.trees.specs.declared.WrittenTree.{WrittenTree}
use Rattle.records.specs.declared.Refusal.{Refusal}
use Rattle.records.proofs.Answers.{answer_back, answer_known}
use Rattle.records.specs.Answers.{Outcome}
use Rattle.trees.specs.Calls.{listed}
use Rattle.trees.proofs.node.first_half.Kinds as first_half_kinds
use Rattle.trees.proofs.node.first_half.Reads as first_half_reads
use Rattle.trees.proofs.node.second_half.Kinds as second_half_kinds
use Rattle.trees.proofs.node.second_half.Reads as second_half_reads
use Rattle.trees.proofs.node.first_cube.Kinds as first_cube_kinds
use Rattle.trees.proofs.node.first_cube.Reads as first_cube_reads
use Rattle.trees.proofs.node.second_cube.Kinds as second_cube_kinds
use Rattle.trees.proofs.node.second_cube.Reads as second_cube_reads
use Rattle.trees.proofs.tree.put_leaf.Kinds as put_leaf_kinds
use Rattle.trees.proofs.tree.put_leaf.Reads as put_leaf_reads
use Rattle.trees.proofs.tree.count_tree.Kinds as count_tree_kinds
use Rattle.trees.proofs.tree.count_tree.Reads as count_tree_reads
use Rattle.trees.proofs.tree.put_list.Kinds as put_list_kinds
use Rattle.trees.proofs.tree.put_list.Reads as put_list_reads
use Rattle.trees.proofs.tree.write_tree.Kinds as write_tree_kinds
use Rattle.trees.proofs.tree.write_tree.Reads as write_tree_reads

-- the answer, read back
pub listed_value : List ℕ → WrittenTree
listed_value v = record { products = get_or v 0 0; cost = get_or v 1 0 }

pub listed_back : Outcome → Result WrittenTree Refusal
listed_back = answer_back listed_value

pub listed_known : (r : Result WrittenTree Refusal) → listed_back (listed r) ≡ r
unfolding listed_value listed_back
listed_known = answer_known _ listed_value (λ a. refl)

-- for the bits of every type that are told apart by what they show in four words, as those in one word are (`alone`), and those in four, which show themselves
module _ (B : RattleType) (laws : Laws B) (copies : IsCopy B) (shows : bits.Ghosts B.Denot) (bits : Dict) (clones : clone.Ghosts B.Denot) (clone : Dict)
    (apart : (x y : B.Denot) → shows.shown x ≡ shows.shown y → x ≡ y) where
  pub first_half_determined : Determined 1 (first_half_kinds.ps B laws copies) (first_half_kinds.r B laws copies) (first_half_reads.Learnt B laws copies shows bits clones clone)
  first_half_determined κs a z z' ws ws' p q = (apart z z' (same p q), refl)

  pub second_half_determined : Determined 1 (second_half_kinds.ps B laws copies) (second_half_kinds.r B laws copies) (second_half_reads.Learnt B laws copies shows bits clones clone)
  second_half_determined κs a z z' ws ws' p q = (apart z z' (same p q), refl)

-- so in one word, whose bits are those of the first of four
one_word : Packed → ℕ
one_word w = w.a

word_apart : (x y : ℕ) → alone x ≡ alone y → x ≡ y
unfolding one_word
word_apart x y e = ap one_word e

module _ (laws : Laws u64) (copies : IsCopy u64) (bits : Dict) (clones : clone.Ghosts ℕ) (clone : Dict) where
  pub word_first_half_determined : Determined 1 (first_half_kinds.ps u64 laws copies) (first_half_kinds.r u64 laws copies)
      (first_half_reads.Learnt u64 laws copies ghosts bits clones clone)
  word_first_half_determined = first_half_determined u64 laws copies ghosts bits clones clone word_apart

  pub word_second_half_determined : Determined 1 (second_half_kinds.ps u64 laws copies) (second_half_kinds.r u64 laws copies)
      (second_half_reads.Learnt u64 laws copies ghosts bits clones clone)
  word_second_half_determined = second_half_determined u64 laws copies ghosts bits clones clone word_apart

-- and in four
module _ (laws : Laws the_row) (copies : IsCopy the_row) (bits : Dict) (clones : clone.Ghosts Packed) (clone : Dict) where
  pub four_words_first_half_determined : Determined 1 (first_half_kinds.ps the_row laws copies) (first_half_kinds.r the_row laws copies)
      (first_half_reads.Learnt the_row laws copies four_words bits clones clone)
  four_words_first_half_determined = first_half_determined the_row laws copies four_words bits clones clone (λ x y e. e)

  pub four_words_second_half_determined : Determined 1 (second_half_kinds.ps the_row laws copies) (second_half_kinds.r the_row laws copies)
      (second_half_reads.Learnt the_row laws copies four_words bits clones clone)
  four_words_second_half_determined = second_half_determined the_row laws copies four_words bits clones clone (λ x y e. e)

pub first_cube_determined : Determined 0 first_cube_kinds.ps first_cube_kinds.r first_cube_reads.Learnt
first_cube_determined κs a z z' ws ws' p q = (same p q, refl)

pub second_cube_determined : Determined 0 second_cube_kinds.ps second_cube_kinds.r second_cube_reads.Learnt
second_cube_determined κs a z z' ws ws' p q = (same p q, refl)

pub put_leaf_determined : Determined 1 put_leaf_kinds.ps put_leaf_kinds.r put_leaf_reads.Learnt
put_leaf_determined κs a z z' ws ws' p q = (same p.0 q.0, ap (λ (b : List ℕ). (tt, (tt, (b, (tt, tt))))) (same p.1 q.1))

pub put_list_determined : Determined 2 put_list_kinds.ps put_list_kinds.r put_list_reads.Learnt
put_list_determined κs a z z' ws ws' p q = (same p.0 q.0, ap (λ (b : List ℕ). (tt, (tt, (b, tt)))) (same p.1 q.1))

pub count_tree_determined : Determined 1 count_tree_kinds.ps count_tree_kinds.r count_tree_reads.Learnt
count_tree_determined κs a z z' ws ws' p q = (same p q, refl)

pub write_tree_determined : Determined 2 write_tree_kinds.ps write_tree_kinds.r write_tree_reads.Learnt
write_tree_determined κs a z z' ws ws' p q =
    (same_told listed listed_back listed_known p.0 q.0, ap (λ (b : List ℕ). (tt, (tt, (b, tt)))) (same p.1 q.1))
