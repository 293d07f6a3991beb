-- What an accepted run with an index leaves. Document 02, Eight: "After each step, and after the undoing, the index kept up equals the one built afresh, zeros after it".
-- Assumes nothing.
use Rattle.std.specs.Prelude.{◌≡◌, List, ℕ, length}
use Rattle.records.specs.Records.{image}
use Rattle.records.specs.Places.{places}
use Rattle.cube.specs.declared.Cube.{Cube}
use Rattle.cube.specs.Lists.{cubes}
use Rattle.index.specs.Index.{list_index, list_starts}

-- the work buffer has a list of so many cubes and zeros after it, the index buffer that list's index and zeros after it, and the starts are that list's
pub record Kept (room index_room count : ℕ) (work index starts : List ℕ) : Type 0 where
  pub list : List Cube
  pub count_is : count ≡ length list
  pub work_is : work ≡ image cubes room list
  pub index_is : index ≡ image places index_room (list_index list)
  pub starts_are : starts ≡ list_starts list
