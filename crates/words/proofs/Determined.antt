-- Two outcomes that satisfy the contract of a public function of this crate are equal: the answer's words, the starts of an index, and the numbers of a map's lists.
-- Assumes nothing.
use mathlib.Core.Path.{refl, ap, ap₂}
use mathlib.Core.List.{List}
use Prim.Native.Nat.{ℕ}
use Rattle.bits.specs.Outcomes.{Determined}
use Rattle.bits.proofs.Determined.{same}
use denote.RattleType.{RattleType}
use denote.Param.Laws.{Laws, IsCopy}
use mir.Syntax.{Dict}
use Rattle.std.specs.declared.clone.Clone as clone
use Rattle.words.specs.declared.answers.Answer as answer
use Rattle.words.proofs.put_answer.Kinds as put_answer_kinds
use Rattle.words.proofs.put_answer.Reads as put_answer_reads
use Rattle.words.proofs.answers.Answer.words.Kinds as words_kinds
use Rattle.words.proofs.answers.Answer.words.Reads as words_reads
use Rattle.words.proofs.put_indexed.Kinds as put_indexed_kinds
use Rattle.words.proofs.put_indexed.Reads as put_indexed_reads
use Rattle.words.proofs.start_at.Kinds as start_at_kinds
use Rattle.words.proofs.start_at.Reads as start_at_reads
use Rattle.words.proofs.put_group.Kinds as put_group_kinds
use Rattle.words.proofs.put_group.Reads as put_group_reads
use Rattle.words.proofs.put_map_answer.Kinds as put_map_answer_kinds
use Rattle.words.proofs.put_map_answer.Reads as put_map_answer_reads
use Rattle.words.proofs.put_each.Kinds as put_each_kinds
use Rattle.words.proofs.put_each.Reads as put_each_reads

-- for every answer that has values
pub words_determined : (A : RattleType) (laws : Laws A) (copies : IsCopy A) (values : answer.Ghosts A.Denot) (words : Dict) (clones : clone.Ghosts A.Denot) (clone : Dict)
    → Determined 1 (words_kinds.ps A laws copies) (words_kinds.r A laws copies) (words_reads.Learnt A laws copies values words clones clone)
words_determined A laws copies values words clones clone κs a z z' ws ws' p q = (same p q, refl)

pub put_answer_determined : (A : RattleType) (laws : Laws A) (copies : IsCopy A) (values : answer.Ghosts A.Denot) (words : Dict)
    (clones : clone.Ghosts A.Denot) (clone : Dict)
    → Determined 2 (put_answer_kinds.ps A laws copies) (put_answer_kinds.r A laws copies)
    (put_answer_reads.Learnt A laws copies values words clones clone)
put_answer_determined A laws copies values words clones clone κs a z z' ws ws' p q = (refl, ap (λ (w : List ℕ). (w, (tt, tt))) (same p q))

pub put_indexed_determined : Determined 2 put_indexed_kinds.ps put_indexed_kinds.r put_indexed_reads.Learnt
put_indexed_determined κs a z z' ws ws' p q = (refl, ap₂ (λ (w d : List ℕ). (w, (d, (tt, tt)))) (same p.0 q.0) (same p.1 q.1))

pub start_at_determined : Determined 0 start_at_kinds.ps start_at_kinds.r start_at_reads.Learnt
start_at_determined κs a z z' ws ws' p q = (same p q, refl)

pub put_group_determined : Determined 1 put_group_kinds.ps put_group_kinds.r put_group_reads.Learnt
put_group_determined κs a z z' ws ws' p q = (refl, ap (λ (w : List ℕ). (w, (tt, (tt, tt)))) (same p q))

pub put_map_answer_determined : Determined 1 put_map_answer_kinds.ps put_map_answer_kinds.r put_map_answer_reads.Learnt
put_map_answer_determined κs a z z' ws ws' p q = (refl, ap (λ (w : List ℕ). (w, (tt, tt))) (same p q))

pub put_each_determined : Determined 1 put_each_kinds.ps put_each_kinds.r put_each_reads.Learnt
put_each_determined κs a z z' ws ws' p q = (refl, ap (λ (w : List ℕ). (w, (tt, tt))) (same p q))
