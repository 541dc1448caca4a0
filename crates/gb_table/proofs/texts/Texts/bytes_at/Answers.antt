use Rattle.std.proofs.Common.{◌≡◌, ◌<◌, ℕ, List, [], get_or, length, ◌∙◌, ap, arith}
use Rattle.gb_table.specs.Pieces.{pieces_from}
use Rattle.gb_table.proofs.PieceLemmas.{pieces_length, value_fits, value_high, value_is, value_low}
use Rattle.gb_table.proofs.texts.Texts.bytes_at.Goals as goal

in_ends : (bytes ends : List ℕ) (pieces : List (List ℕ)) (i : ℕ) → pieces_from 0 ends bytes ≡ pieces → i < length pieces → i < length ends
in_ends bytes ends pieces i view lt = omega (arith, ap length view, pieces_length 0 ends bytes, lt)

pub bounds-start-requires : goal.bounds-start-requires
bounds-start-requires c = in_ends _ _ _ _ c.self.view_is c.requires

pub slice_bounds-result-count : goal.slice_bounds-result-count
slice_bounds-result-count c = rw (c.bounds-start.ensures.start, c.bounds-start.ensures.end) (value_low c.self.invariant c.args.i (in_ends _ _ _ _ c.self.view_is c.requires))

pub slice_bounds-result-start : goal.slice_bounds-result-start
slice_bounds-result-start c =
    let lt : c.args.i < length c.self.inside.ends.items = in_ends _ _ _ _ c.self.view_is c.requires in
    omega (arith, c.bounds-start.ensures.start, c.bounds-start.ensures.end, value_low c.self.invariant c.args.i lt, value_high c.self.invariant c.args.i lt, ap length c.as_slice.ensures.value)

pub slice_bounds-result-end : goal.slice_bounds-result-end
slice_bounds-result-end c =
    let lt : c.args.i < length c.self.inside.ends.items = in_ends _ _ _ _ c.self.view_is c.requires in
    omega (arith, c.bounds-start.ensures.start, c.bounds-start.ensures.end, value_low c.self.invariant c.args.i lt, value_high c.self.invariant c.args.i lt, ap length c.as_slice.ensures.value)

pub returns-clause-value : goal.returns-clause-value
returns-clause-value c =
    rw (c.as_slice.ensures.value, c.bounds-start.ensures.start, c.bounds-start.ensures.end)
    (value_is c.self.invariant c.args.i (in_ends _ _ _ _ c.self.view_is c.requires) ∙ ap (λ pieces. get_or pieces c.args.i []) c.self.view_is)

pub returns-clause-utf8 : goal.returns-clause-utf8
returns-clause-utf8 c =
    rw (c.as_slice.ensures.value, c.bounds-start.ensures.start, c.bounds-start.ensures.end) (value_fits c.self.invariant c.args.i (in_ends _ _ _ _ c.self.view_is c.requires))
