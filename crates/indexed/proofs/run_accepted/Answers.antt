-- `run_accepted` meets its contract.
-- Assumes nothing.
use mathlib.Core.Path.{◌≡◌, refl, sym, ap, ap₂, ◌∙◌, subst}
use mathlib.Core.Bool.{true}
use mathlib.Core.List.{List}
use Prim.Native.Nat.{ℕ, ◌/◌, ◌≤◌, ◌<◌}
use native.Mathlib.Omega.{arith}
use lib.ListN.{length, get_or}
use Rattle.std.specs.Prelude.{Result, Ok, Err}
use Rattle.bits.specs.Sums.{All}
use Rattle.records.specs.Records.{records, list_of, zeros, image}
use Rattle.records.specs.Places.{places}
use Rattle.records.proofs.Records.{length_records, capacity_most}
use Rattle.cube.specs.Cubes.{good}
use Rattle.cube.specs.Lists.{cubes, record_width, most_records}
use Rattle.steps.specs.Steps.{meaning, step}
use Rattle.script.specs.declared.Ended.{Ended}
use Rattle.records.specs.declared.Refusal.{Refusal}
use Rattle.script.specs.Scripts.{step_records, fits}
use Rattle.script.specs.Progress.{Answered}
use Rattle.script.proofs.run.Finishing.{stepping_same}
use Rattle.index.specs.Index.{list_index}
use Rattle.index.specs.Counting.{ClearBehind}
use Rattle.indexed.specs.Keeping.{IndexKept}
use Rattle.indexed.proofs.Keeping.{clear_all, carried_here, built_long, index_kept}
use Rattle.indexed.proofs.Finishing.{first_carries, first_long, first_few, script_each, stopped_is, ended_orders, ended_carries, ended_is, indexed_done, indexed_stopped}
use Rattle.indexed.proofs.run_accepted.Goals as goal

pub rebuild-first_starts-requires : goal.rebuild-first_starts-requires
rebuild-first_starts-requires c =
    let a = c.args in
    let small : (i : ℕ) → get_or a.list.now i 0 < 256 = λ i. omega (arith, c.type_inv.list i) in
    let k = first_carries a.n a.list.now a.script.now a.work.now c.requires.accepts small _ c.fill.ensures _ c.capacity-cap.ensures in
    let few = first_few a.n a.list.now a.script.now a.work.now c.requires.accepts small in
    record {
      count_in_bounds = (carried_here a.n _ _ _ k, omega (arith, few, capacity_most cubes most_records (length a.work.now)));
      count_in_bounds_2 = omega (arith, few, c.requires.work_in_bounds, c.index-1.given);
      in_bounds = (omega arith, clear_all c.clear.new.buf (length a.index.now) c.clear.ensures c.index-1.given);
    }

pub of-cubes-requires : goal.of-cubes-requires
of-cubes-requires c =
    let a = c.args in
    let small : (i : ℕ) → get_or a.list.now i 0 < 256 = λ i. omega (arith, c.type_inv.list i) in
    record { ready = first_carries a.n a.list.now a.script.now a.work.now c.requires.accepts small _ c.fill.ensures _ c.capacity-cap.ensures }

pub run_steps-requires : goal.run_steps-requires
run_steps-requires c =
    let a = c.args in
    let o = c.of-cubes.ensures in
    let small : (i : ℕ) → get_or a.list.now i 0 < 256 = λ i. omega (arith, c.type_inv.list i) in
    let few = first_few a.n a.list.now a.script.now a.work.now c.requires.accepts small in
    let most = capacity_most cubes most_records (length a.work.now) in
    let k = index_kept c.of-cubes.result.n c.of-cubes.result.count c.of-cubes.result.cap c.of-cubes.result.buffer.now c.of-cubes.result.ready (length c.clear.new.buf)
    (omega (arith, few, o.count, o.capacity, c.capacity-cap.ensures)) (omega (arith, o.capacity, c.capacity-cap.ensures, most))
    (omega (arith, o.capacity, c.capacity-cap.ensures, c.requires.work_in_bounds, c.index-1.given)) c.rebuild-first_starts.new.index
    (c.rebuild-first_starts.ensures.index_after
    ∙ sym (ap₂ (λ (k : ℕ) (b : List ℕ). image places (length c.clear.new.buf) (list_index (records cubes k b))) o.count o.bytes)) in
    record {
      all = subst (λ (n : ℕ). All (λ r. fits n r ≡ true) (list_of step_records a.script.now)) (sym o.variables) (script_each a.n a.list.now a.script.now a.work.now c.requires.accepts small);
      kept = k;
    }

pub undo-requires-clause-orders : goal.undo-requires-clause-orders
undo-requires-clause-orders c =
    let a = c.args in
    let o = c.of-cubes.ensures in
    let small : (i : ℕ) → get_or a.list.now i 0 < 256 = λ i. omega (arith, c.type_inv.list i) in
    let s = stepping_same cubes (λ f b. f b) (λ n cap x l. step n cap (meaning x) l) good (list_of step_records a.script.now) _ c.run_steps.new.self.buffer.now
    _ a.n _ c.capacity-cap.result _ _ _ c.fill.new.buf _ (Ok c.in-Ok.ended) o.variables o.capacity o.count o.bytes refl c.in-Ok.ensures.stepping in
    ended_orders a.n a.list.now a.script.now a.work.now c.requires.accepts small _ c.fill.ensures _ c.capacity-cap.ensures a.work.now c.run_steps.new.self.buffer.now c.in-Ok.ended s

pub rebuild-starts-requires : goal.rebuild-starts-requires
rebuild-starts-requires c =
    let a = c.args in
    let o = c.of-cubes.ensures in
    let small : (i : ℕ) → get_or a.list.now i 0 < 256 = λ i. omega (arith, c.type_inv.list i) in
    let s = stepping_same cubes (λ f b. f b) (λ n cap x l. step n cap (meaning x) l) good (list_of step_records a.script.now) _ c.run_steps.new.self.buffer.now
    _ a.n _ c.capacity-cap.result _ _ _ c.fill.new.buf _ (Ok c.in-Ok.ended) o.variables o.capacity o.count o.bytes refl c.in-Ok.ensures.stepping in
    let w = c.run_steps.new.self.buffer.now in
    let carries = ended_carries a.n a.list.now a.script.now a.work.now c.requires.accepts small _ c.fill.ensures _ c.capacity-cap.ensures a.work.now w c.in-Ok.ended s in
    let kept : IndexKept c.capacity-cap.result (records cubes c.in-Ok.ended.count w) c.run_steps.new.beside =
    subst (λ (cap : ℕ). IndexKept cap (records cubes c.in-Ok.ended.count w) c.run_steps.new.beside) o.capacity c.in-Ok.ensures.kept in
    let many = length_records cubes c.in-Ok.ended.count w in
    let left = c.work-in-Ok-1.given.1.1 (sym (c.undo.ensures.same_reference ∙ c.run_steps.ensures.same_reference ∙ o.same_reference)) in
    let here = carried_here a.n c.in-Ok.ended.count c.capacity-cap.result w carries in
    record {
      count_in_bounds = (subst (λ (k : ℕ). c.in-Ok.ended.count ≤ k / record_width) (sym (ap length left ∙ c.undo.ensures.length)) here, omega (arith, many, kept.few, kept.most));
      count_in_bounds_2 = omega (arith, many, kept.few, kept.fits);
      in_bounds = (omega (arith, many, kept.few, kept.fits), subst (λ (m : ℕ). ClearBehind m c.run_steps.new.beside) many kept.behind);
    }

pub returns-in-Err-clause-answered_indexed : goal.returns-in-Err-clause-answered_indexed
returns-in-Err-clause-answered_indexed c =
    let a = c.args in
    let o = c.of-cubes.ensures in
    let small : (i : ℕ) → get_or a.list.now i 0 < 256 = λ i. omega (arith, c.type_inv.list i) in
    let s = stepping_same cubes (λ f b. f b) (λ n cap x l. step n cap (meaning x) l) good (list_of step_records a.script.now) _ c.run_steps.new.self.buffer.now
    _ a.n _ c.capacity-cap.result _ _ _ c.fill.new.buf _ (Err c.in-Err.r) o.variables o.capacity o.count o.bytes refl c.in-Err.ensures.stepping in
    let built = built_long a.n _ c.capacity-cap.result _ (first_carries a.n a.list.now a.script.now a.work.now c.requires.accepts small _ c.fill.ensures _ c.capacity-cap.ensures)
    (length c.clear.new.buf) (omega (arith, first_few a.n a.list.now a.script.now a.work.now c.requires.accepts small, c.capacity-cap.ensures))
    (omega (arith, c.capacity-cap.ensures, c.requires.work_in_bounds, c.index-1.given)) _ c.rebuild-first_starts.ensures.index_after in
    let left = c.in-Err.work-in-Err-1-own.given.1.1 (sym (c.run_steps.ensures.same_reference ∙ o.same_reference)) in
    let stopped = stopped_is a.n a.list.now a.script.now a.work.now c.requires.accepts small _ c.fill.ensures _ c.capacity-cap.ensures c.run_steps.new.self.buffer.now c.in-Err.r s in
    indexed_stopped a.n a.list.now a.script.now a.work.now a.index.now _ c.in-Err.r
    (subst (λ (b : List ℕ). Answered a.n a.list.now a.script.now a.work.now b (Err c.in-Err.r)) (sym left) stopped) c.run_steps.new.beside
    (c.in-Err.ensures.cleared ∙ ap zeros (built ∙ c.index-1.given))

pub returns-in-Ok-clause-answered_indexed : goal.returns-in-Ok-clause-answered_indexed
returns-in-Ok-clause-answered_indexed c =
    let a = c.args in
    let o = c.of-cubes.ensures in
    let small : (i : ℕ) → get_or a.list.now i 0 < 256 = λ i. omega (arith, c.type_inv.list i) in
    let s = stepping_same cubes (λ f b. f b) (λ n cap x l. step n cap (meaning x) l) good (list_of step_records a.script.now) _ c.run_steps.new.self.buffer.now
    _ a.n _ c.capacity-cap.result _ _ _ c.fill.new.buf _ (Ok c.in-Ok.ended) o.variables o.capacity o.count o.bytes refl c.in-Ok.ensures.stepping in
    let w = c.run_steps.new.self.buffer.now in
    let e = c.in-Ok.ended in
    let carries = ended_carries a.n a.list.now a.script.now a.work.now c.requires.accepts small _ c.fill.ensures _ c.capacity-cap.ensures a.work.now w e s in
    let built = built_long a.n _ c.capacity-cap.result _ (first_carries a.n a.list.now a.script.now a.work.now c.requires.accepts small _ c.fill.ensures _ c.capacity-cap.ensures)
    (length c.clear.new.buf) (omega (arith, first_few a.n a.list.now a.script.now a.work.now c.requires.accepts small, c.capacity-cap.ensures))
    (omega (arith, c.capacity-cap.ensures, c.requires.work_in_bounds, c.index-1.given)) _ c.rebuild-first_starts.ensures.index_after in
    let left = c.work-in-Ok-1.given.1.1 (sym (c.undo.ensures.same_reference ∙ c.run_steps.ensures.same_reference ∙ o.same_reference)) in
    let answered = ended_is a.n a.list.now a.script.now a.work.now c.requires.accepts small _ c.fill.ensures _ c.capacity-cap.ensures c.undo.new.self.buffer.now w e s c.run_steps.new.self.count c.in-Ok.ensures.count (c.run_steps.ensures.length ∙ ap length o.bytes) c.undo.ensures.bytes in
    let here = carried_here a.n e.count c.capacity-cap.result w carries in
    indexed_done a.n a.list.now a.script.now a.work.now a.index.now c.work-in-Ok-1.given.0 e.count e.peak
    (subst (λ (b : List ℕ). Answered a.n a.list.now a.script.now a.work.now b (Ok (record { count = e.count; peak = e.peak }))) (sym left) answered)
    (subst (λ (k : ℕ). e.count ≤ k / record_width) (sym (ap length left ∙ c.undo.ensures.length)) here)
    (c.work-in-Ok-1.given.1.0 ∙ first_long a.n a.list.now a.script.now a.work.now c.requires.accepts small _ c.fill.ensures)
    c.rebuild-starts.new.index c.rebuild-starts.result
    (c.rebuild-starts.ensures.index_after
    ∙ ap (λ (k : ℕ). image places k (list_index (records cubes e.count c.work-in-Ok-1.given.0))) (c.run_steps.ensures.beside_length ∙ built ∙ c.index-1.given))
    c.rebuild-starts.ensures.value
