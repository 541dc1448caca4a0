use Rattle.std.proofs.Common.{◌≡◌, Ok, take}
use Rattle.gb_defs.specs.Outcome.{find_columns}
use Rattle.gb_rows.specs.Lent.{keys_in}
use Rattle.gb_frame.specs.Agg.{names_of}
use Rattle.gb_frame.proofs.checks.find_keys.Given as goal

abbrev pub invariant-loop-name : goal.invariant-loop-name
invariant-loop-name l = find_columns l.frame (names_of (take l.name-index l.by)) ≡ Ok (keys_in l.keys.items)
