use Rattle.std.proofs.Common.{◌≡◌, map, take}
use Rattle.gb_defs.specs.Column.{content, taken}
use Rattle.gb_rows.specs.Lent.{keys_in}
use Rattle.gb_frame.specs.Grouping.{contents_of}
use Rattle.gb_frame.proofs.columns.keys_at.Given as goal

abbrev pub invariant-loop-key : goal.invariant-loop-key
invariant-loop-key l = contents_of l.columns.items ≡ map (λ key. content (taken l.rows key)) (keys_in (take l.key-index l.keys))
