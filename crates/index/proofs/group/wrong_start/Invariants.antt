-- `group::wrong_start` meets its contract: the loop keeps `Agreeing`.
-- Assumes nothing.
use Rattle.index.specs.Index.{group_count}
use Rattle.index.proofs.Apart.{Agreeing}
use Rattle.index.proofs.group.wrong_start.Given as goal

abbrev pub invariant-loop-m : goal.invariant-loop-m
invariant-loop-m l = Agreeing group_count l.starts l.right l.m
