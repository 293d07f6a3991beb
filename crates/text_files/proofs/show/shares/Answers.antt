-- `show::shares` is safe: the buffer has room for the text of every list that is not too long.
-- Assumes nothing.
use native.Mathlib.Omega.{arith}
use Rattle.records.proofs.Records.{length_list}
use Rattle.shared.specs.SharedRecord.{shares}
use Rattle.text_files.proofs.show.shares.Goals as goal

pub spell_map-end-requires-clause-list_len_bound : goal.spell_map-end-requires-clause-list_len_bound
spell_map-end-requires-clause-list_len_bound g c = omega (arith, length_list shares c.args.list.now)
