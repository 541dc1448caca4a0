use Rattle.std.proofs.Common.{◌∙◌, Vec, Global, ap, arith, sym}
use Rattle.std.specs.Borrow.{Bor}
use Rattle.std.proofs.lemmas.Simd.{map-map}
use Rattle.gb_defs.specs.Column.{ColumnValue, content, taken}
use Rattle.gb_defs.proofs.PartitionLemmas.{map_flat_map}
use Rattle.gb_flat.proofs.ShareLemmas.{shares_joined}
use Rattle.gb_series.specs.Series.{value_of}
use Rattle.gb_series.specs.declared.series.Series.{Series}
use Rattle.gb_frame.specs.Grouping.{contents_of, taken_at}
use Rattle.gb_frame.proofs.columns.keys_by_workers.Goals as goal

pub returns-clause-ok : goal.returns-clause-ok
returns-clause-ok g c =
    let keys = c.args.keys.now in
    let rows = c.args.rows.now in
    let made = c.in_ok-made.made.items in
    let m = c.min-workers.result in
    ap contents_of c.in_ok-columns.ensures ∙ map_flat_map (λ (s : Series). content (value_of s)) (λ (share : Vec Series Global). share.items) made
    ∙ shares_joined (λ (share : Vec Series Global). contents_of share.items) (taken_at rows) keys m made (omega arith) c.in_ok-made.ensures.len
    (λ k d lt. (c.in_ok-made.ensures.each k d lt).1.0)
    ∙ sym (map-map (λ (key : ColumnValue). content (taken rows key)) (λ (lent : Bor Series). value_of lent.now) keys)
