use Rattle.std.proofs.Common.{◌≡◌, true, None, length, drop, map}
use Rattle.gb_defs.specs.Column.{all_have_length}
use Rattle.gb_row_hash.specs.Hashes.{combined_all}
use Rattle.gb_row_hash.specs.Rows.{first_key_fault}
use Rattle.gb_series.specs.Series.{value_of}
use Rattle.gb_row_hash.proofs.series_hash.combine_all.Given as goal

-- with the columns that are left the hashes come to the same
abbrev pub invariant-loop-key : goal.invariant-loop-key
invariant-loop-key g l =
    let left = map value_of (drop l.key-index l.keys) in
    let seed = g.M.Mixer.seed_of l.mixer in
    let mix = g.M.Mixer.mix_of l.mixer in
    record {
      same : combined_all seed mix left l.hashes ≡ combined_all seed mix (map value_of l.keys) l.fn.hashes;
      long : all_have_length (length l.hashes) left ≡ true;
      flat : first_key_fault left ≡ None;
    }
