use Rattle.std.proofs.Common.{◌≡◌, ◌∙◌, ◌+◌, ◌≤◌, length, drop, map, ap, sym}
use Rattle.std.proofs.lemmas.List.{drop_all}
use Rattle.gb_defs.specs.Column.{all_have_length}
use Rattle.gb_row_hash.specs.Hashes.{combined_all}
use Rattle.gb_row_hash.proofs.RowLemmas.{next_combined, next_fits, next_long, others_fit}
use Rattle.gb_series.specs.Series.{value_of}
use Rattle.gb_row_hash.proofs.series_hash.combine_all.Goals as goal

pub combine_key-requires : goal.combine_key-requires
combine_key-requires g c =
    let keys = c.args.keys.now in
    let loop = c.loop-key in
    record {
      long = sym (next_long value_of keys loop.key-index c.key-item.result c.loop-key-test.true c.key-item.is (length loop.hashes) loop.invariant.long).0;
      flat = next_fits value_of keys loop.key-index c.key-item.result c.loop-key-test.true c.key-item.is loop.invariant.flat;
    }

pub loop-key-preserved : goal.loop-key-preserved
loop-key-preserved g c =
    let keys = c.args.keys.now in
    let loop = c.loop-key in
    let i = loop.key-index in
    let lt = c.loop-key-test.true in
    let next = c.combine_key.new.hashes in
    record {
      same = next_combined value_of keys i c.key-item.result lt c.key-item.is (g.M.Mixer.seed_of c.args.mixer) (g.M.Mixer.mix_of c.args.mixer) loop.hashes next c.combine_key.ensures ∙ loop.invariant.same;
      long = ap (λ n. all_have_length n (map value_of (drop (i + 1) keys))) c.combine_key.auto.hashes ∙ (next_long value_of keys i c.key-item.result lt c.key-item.is (length loop.hashes) loop.invariant.long).1;
      flat = others_fit value_of keys i c.key-item.result lt c.key-item.is loop.invariant.flat;
    }

pub returns : goal.returns
returns g c =
    let keys = c.args.keys.now in
    let loop = c.loop-key in
    let seed = g.M.Mixer.seed_of c.args.mixer in
    let mix = g.M.Mixer.mix_of c.args.mixer in
    sym (ap (λ ks. combined_all seed mix (map value_of ks) loop.hashes) (drop_all loop.key-index keys c.loop-key-test.false)) ∙ loop.invariant.same
