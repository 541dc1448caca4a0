use Rattle.std.proofs.Common.{◌∙◌, ap, sym}
use Rattle.gb_defs.specs.Path.{path_groups}
use Rattle.gb_base.specs.Pool.{partitions_of, seed_of}
use Rattle.gb_paths.specs.Keys.{rows_of_keys}
use Rattle.gb_paths.specs.Tuples.{key_path_value}
use Rattle.gb_paths.proofs.PartLemmas.{numbers_path}
use Rattle.gb_paths.proofs.classes.classes_of_keys.Goals as goal

pub returns-then-sorted-clause-ok : goal.returns-then-sorted-clause-ok
returns-then-sorted-clause-ok g c =
    let rows = rows_of_keys (seed_of c.args.pool.now) c.args.keys.now in
    let by = numbers_path rows c.args.path c.args.pool.now c.in_ok-numbers.numbers c.in_ok-numbers.ensures.ok in
    by.groups ∙ ap (path_groups (key_path_value c.args.path) rows 0 (partitions_of c.args.pool.now)) (sym c.if-sorted.true)

pub returns-then-sorted-clause-all : goal.returns-then-sorted-clause-all
returns-then-sorted-clause-all g c =
    let rows = rows_of_keys (seed_of c.args.pool.now) c.args.keys.now in
    let by = numbers_path rows c.args.path c.args.pool.now c.in_ok-numbers.numbers c.in_ok-numbers.ensures.ok in
    record { wanted = c.if-by_numbers.true; many = by.many }
