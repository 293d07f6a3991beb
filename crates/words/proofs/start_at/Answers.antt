-- `start_at` meets its contract.
-- Assumes nothing.
use mathlib.Core.Path.{◌≡◌, sym}
use native.Mathlib.Omega.{arith}
use lib.ListN.{length, get_or-eq_default}
use borrow.Author.Rules.{rules}
use Rattle.index.specs.Index.{group_count}
use Rattle.words.proofs.start_at.Goals as goal

pub returns-then-m-ge-GROUPS : goal.returns-then-m-ge-GROUPS
returns-then-m-ge-GROUPS c =
    let long : length c.args.starts ≡ group_count = search rules in
    sym (get_or-eq_default c.args.starts 0 (omega (arith, long)))
