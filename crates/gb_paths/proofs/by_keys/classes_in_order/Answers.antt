use Rattle.std.proofs.Common.{◌≡◌, ◌∙◌, ap, sym, true}
use Rattle.gb_defs.specs.Path.{Table, Threaded, code_count, path_groups}
use Rattle.gb_base.specs.Pool.{partitions_of, seed_of}
use Rattle.gb_base.specs.Sorted.{flag_of}
use Rattle.gb_series.specs.Series.{value_of}
use Rattle.gb_paths.specs.Classes.{grouping_of}
use Rattle.gb_paths.specs.Keys.{key_rows}
use Rattle.gb_paths.specs.Tuples.{column_path, ordered, path_value, tuples_on}
use Rattle.gb_paths.specs.declared.path.KeyOrder.{KeyOrder}
use Rattle.gb_paths.proofs.FormLemmas.{path_formed}
use Rattle.gb_paths.proofs.OrderLemmas.{detected_true}
use Rattle.gb_paths.proofs.TupleLemmas.{ordered_rows}
use Rattle.gb_paths.proofs.by_keys.classes_in_order.Goals as goal

pub path_of-path-requires : goal.path_of-path-requires
path_of-path-requires g c = record {
  holds = detected_true (flag_of c.detect_sorted.result) (value_of c.args.key.now) c.detect_sorted.ensures;
}

pub group_series-requires-clause-holds : goal.group_series-requires-clause-holds
group_series-requires-clause-holds g c κs within =
    detected_true (flag_of c.detect_sorted.result) (value_of c.args.key.now) c.detect_sorted.ensures

pub returns-in_ok-made-in-Threaded-clause-ok : goal.returns-in_ok-made-in-Threaded-clause-ok
returns-in_ok-made-in-Threaded-clause-ok g c =
    let order : KeyOrder = record { sorted = c.detect_sorted.result; whole = true } in
    let column = value_of c.args.key.now in
    let key = ordered order column in
    let pool = c.args.pool.now in
    let sorted = c.args.sorted in
    let way : column_path key c.args.multithreaded pool ≡ Threaded = sym c.path_of-path.ensures.path ∙ ap path_value c.in-Threaded.is in
    let same : tuples_on Threaded column sorted pool ≡ tuples_on Threaded key sorted pool =
    ap (λ rows. path_groups Threaded rows (code_count column.dtype) (partitions_of pool) sorted) (ordered_rows (seed_of pool) order column) in
    let here : grouping_of c.in_ok-made-in-Threaded.made ≡ tuples_on Threaded column sorted pool = c.in_ok-made-in-Threaded.ensures.ok in
    record {
      flag = flag_of c.detect_sorted.result;
      ordered = c.detect_sorted.ensures;
      groups_are = here ∙ same ∙ ap (λ p. tuples_on p key sorted pool) (sym way);
      path_is = c.path_of-path.ensures.path;
    }

pub returns-in_ok-made-in-Table-clause-formed : goal.returns-in_ok-made-in-Table-clause-formed
returns-in_ok-made-in-Table-clause-formed g c =
    let pool = c.args.pool.now in
    let column = value_of c.args.key.now in
    rw c.in_ok-made-in-Table.ensures.ok (path_formed Table (key_rows (seed_of pool) column) (code_count column.dtype) (partitions_of pool) c.args.sorted)

pub returns-in_ok-made-in-Threaded-clause-formed : goal.returns-in_ok-made-in-Threaded-clause-formed
returns-in_ok-made-in-Threaded-clause-formed g c =
    let pool = c.args.pool.now in
    let column = value_of c.args.key.now in
    rw c.in_ok-made-in-Threaded.ensures.ok (path_formed Threaded (key_rows (seed_of pool) column) (code_count column.dtype) (partitions_of pool) c.args.sorted)
