use Rattle.std.proofs.Common.{◌≡◌, All, take}
use Rattle.gb_rows.specs.Lent.{keys_in}
use Rattle.gb_defs.specs.Notes.{valued_keys}
use Rattle.gb_paths.specs.Tuples.{IsNullUnlessValued}
use Rattle.gb_paths.proofs.by_keys.valued_keys.Given as goal

abbrev pub invariant-loop-key : goal.invariant-loop-key
invariant-loop-key l = record {
  valued : keys_in l.valued.items ≡ valued_keys (keys_in (take l.key-index l.keys));
  nulls : All IsNullUnlessValued (keys_in (take l.key-index l.keys));
}
