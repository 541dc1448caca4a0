use Rattle.std.proofs.Common.{◌∙◌, ap, arith}
use Rattle.gb_flat.proofs.RangeLemmas.{ranges_filtered}
use Rattle.gb_runs.specs.Codes.{rows_in}
use Rattle.gb_runs.specs.Runs.{begins_run, run_starts}
use Rattle.gb_paths.proofs.run_groups.find_starts.Goals as goal

pub returns-clause-starts : goal.returns-clause-starts
returns-clause-starts g c =
    let rows = rows_in (g.C.SeriesTrait.value c.args.column.now).slots in
    let count = c.len-count.result in
    c.in_ok-starts.ensures
    ∙ ranges_filtered (λ share. share.items) (begins_run rows.slot) count c.max-workers.result c.in_ok-made.made.items (omega arith) c.in_ok-made.ensures.len (λ k d lt. (c.in_ok-made.ensures.each k d lt).1.0)
    ∙ ap (λ n. run_starts (record rows { count = n })) c.len-count.ensures.value
