-- `place::word_at` meets its contract. The invariant: what is read from here on is what is read of the whole; the measure is how many letters are left.
-- Assumes nothing.
use Rattle.text.proofs.Reading.{matching_none, word_short, word_other, word_more, word_end}
use borrow.Author.Rules.{rules}
use native.Mathlib.Omega.{arith}
use Rattle.std.proofs.lemmas.Option.{gets}
use Rattle.text.proofs.place.word_at.Goals as goal

pub loop-letter-init : goal.loop-letter-init
loop-letter-init c = search (matching_none, rules)

pub returns-in_default-2 : goal.returns-in_default-2
returns-in_default-2 c = let none = c.get.ensures.lookup in let past = c.in_default.is in word_short c.loop-letter.invariant c.loop-letter-test.true (grind (arith, gets))

pub returns-in_default : goal.returns-in_default
returns-in_default c = let found = c.in-Some.ensures.lookup in word_other c.loop-letter.invariant c.loop-letter-test.true (grind (arith, gets)) (λ e. grind (arith, gets))

pub loop-letter-preserved : goal.loop-letter-preserved
loop-letter-preserved c = search (word_more, rules)

pub returns : goal.returns
returns c = search (word_end, rules)
