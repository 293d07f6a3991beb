-- `NarrowCubes::write` meets its contract: a good cube of few variables fits, and its masks are stored one after the other.
-- Assumes nothing.
use mathlib.Core.Path.{ap, ◌∙◌}
use mathlib.Core.List.{List}
use Prim.Native.Nat.{ℕ}
use lib.Seq.{sets}
use Rattle.records.specs.Numbers.{bytes_of}
use Rattle.records.proofs.Fields.{stored_both}
use Rattle.records.proofs.Items.{item_whole}
use Rattle.cube.proofs.Codes.{good_seen, good_value}
use Rattle.converters.specs.NarrowRecord.{narrow_mask, narrow_cubes, narrow_variables}
use Rattle.converters.specs.Kinds.{narrow_laws}
use Rattle.converters.proofs.narrow.NarrowCubesKind.write.Goals as goal

pub overflow_cast-item : goal.overflow_cast-item
overflow_cast-item c = record { fits = good_seen narrow_variables _ c.requires.fits }

pub overflow_cast-item-2 : goal.overflow_cast-item-2
overflow_cast-item-2 c = record { fits = good_value narrow_variables _ c.requires.fits }

pub returns : goal.returns
returns c =
    let a = c.args in
    c.put_number2-2.ensures
    ∙ ap (λ (b : List ℕ). sets b narrow_mask (bytes_of narrow_mask a.item.value)) c.put_number2.ensures
    ∙ stored_both narrow_mask a.item.seen a.item.value a.bytes.now 0
    ∙ item_whole narrow_cubes narrow_laws a.bytes.now a.item c.requires.width
