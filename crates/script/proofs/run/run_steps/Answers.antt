-- The steps of a script on a list of cubes.
-- Assumes nothing.
use mathlib.Core.Path.{◌≡◌, sym, ◌∙◌, subst}
use mathlib.Core.Bool.{true}
use Prim.Native.Nat.{ℕ}
use Rattle.bits.specs.Sums.{All}
use Rattle.cube.specs.Cubes.{good, Good}
use Rattle.cube.specs.Lists.{cubes}
use Rattle.cube.proofs.Codes.{good_parts, parts_good}
use Rattle.records.specs.Records.{list_of}
use Rattle.steps.specs.Steps.{meaning, step}
use Rattle.script.specs.Scripts.{step_records, fits, steps_of}
use Rattle.script.proofs.Carrying.{ready_carries}
use Rattle.script.proofs.run.Checked.{pend_script}
use Rattle.script.proofs.run.Finishing.{stepping_mean, stepping_same}
use Rattle.script.proofs.run.run_steps.Goals as goal

pub of-requires : goal.of-requires
of-requires c = let a = c.args in record { ready = ready_carries cubes (good a.n) (Good a.n) a.n a.first a.cap a.work.now (parts_good a.n) c.requires.ready }

pub run_steps-requires-clause-all : goal.run_steps-requires-clause-all
run_steps-requires-clause-all c = subst (λ (n : ℕ). All (λ r. fits n r ≡ true) (list_of step_records c.args.script.now)) (sym c.of.ensures.variables) c.requires.all

pub returns : goal.returns
unfolding steps_of
returns c =
    let a = c.args in
    let o = c.of.ensures in
    stepping_mean cubes (step a.n a.cap) meaning (λ b. good a.n b ≡ true) (Good a.n) (good_parts a.n) a.n a.cap a.first (list_of step_records a.script.now) _ _ a.work.now _
    (pend_script a.n a.script.now c.requires.all) _
    (stepping_same cubes (λ f b. f b) (λ n cap x l. step n cap (meaning x) l) good (list_of step_records a.script.now) _ c.run_steps.new.self.buffer.now
    _ a.n _ a.cap _ a.first _ a.work.now _ c.run_steps.result o.variables o.capacity o.count o.bytes
    (sym (c.work-1.given.1.1 (sym (c.run_steps.ensures.same_reference ∙ o.same_reference)))) c.run_steps.ensures.stepping)
