use Rattle.std.proofs.Common.{◌≡◌, ◌<◌, ◌∙◌, ℕ, All, List, ap, arith, get_or, length, subst, sym}
use Rattle.std.specs.List.{AllByRecursion}
use Rattle.std.proofs.lemmas.List.Elements.{All-from_recursion, recursion_from_All}
use Rattle.gb_groups.proofs.NumberLemmas.{refilled}
use Rattle.gb_paths.specs.Leaders.{put_parts}
use Rattle.gb_paths.specs.declared.leaders.LedRows.{LedRows}
use Rattle.gb_paths.proofs.LeaderLemmas.{IsInside, IsRight, parts_length, parts_put}
use Rattle.gb_paths.proofs.number_partitions.join_leaders.Goals as goal

-- what holds of all rows of all parts, either way
inside_all : (P : ℕ → Type 0) (parts : List LedRows) → All (λ part. All P part.rows.items) parts → AllByRecursion (λ part. AllByRecursion P part.rows.items) parts
inside_all P parts all = recursion_from_All (λ part. AllByRecursion P part.rows.items) parts (λ k d lt. recursion_from_All P (get_or parts k d).rows.items (all k d lt))

back_all : (P : ℕ → Type 0) (parts : List LedRows) → AllByRecursion (λ part. AllByRecursion P part.rows.items) parts → All (λ part. All P part.rows.items) parts
back_all P parts all k d lt = All-from_recursion P (get_or parts k d).rows.items (All-from_recursion (λ part. AllByRecursion P part.rows.items) parts all k d lt)

zeros_many : (zeros lent : List ℕ) (rows : ℕ) → lent ≡ zeros → length lent ≡ rows → length zeros ≡ rows
zeros_many zeros lent rows is many = ap length (sym is) ∙ many

pub returns-clause-length : goal.returns-clause-length
returns-clause-length c =
    let made = c.put_all.ensures ∙ ap (λ xs. put_parts xs c.args.parts.now) c.as_mut_slice.ensures.value in
    let long = ap length made ∙ parts_length (λ row. row) c.args.parts.now c.in_ok-leaders.leaders.items in
    ap length (refilled c.in_ok-leaders.leaders.len c.put_all.new.all _ (omega (arith, long))) ∙ long ∙ zeros_many c.in_ok-leaders.leaders.items c.as_mut_slice.result.now c.args.rows c.as_mut_slice.ensures.value (omega (arith, c.in_ok-leaders.ensures.len, c.as_mut_slice.ensures.len))

pub returns-clause-each : goal.returns-clause-each
returns-clause-each c leader right =
    let parts = c.args.parts.now in
    let zeros = c.in_ok-leaders.leaders.items in
    let many = zeros_many zeros c.as_mut_slice.result.now c.args.rows c.as_mut_slice.ensures.value (omega (arith, c.in_ok-leaders.ensures.len, c.as_mut_slice.ensures.len)) in
    let made = c.put_all.ensures ∙ ap (λ xs. put_parts xs parts) c.as_mut_slice.ensures.value in
    let long = ap length made ∙ parts_length leader parts zeros in
    let is = refilled c.in_ok-leaders.leaders.len c.put_all.new.all _ (omega (arith, long)) ∙ made in
    let inside : AllByRecursion (IsInside (length zeros)) parts = subst (λ n. AllByRecursion (IsInside n) parts) (sym many) (inside_all (λ row. row < c.args.rows) parts c.requires.inside) in
    let put = parts_put leader parts zeros (recursion_from_All (IsRight leader) parts right) inside in
    subst (λ xs. All (λ part. All (λ row. get_or xs row 0 ≡ leader row) part.rows.items) parts) (sym is) (back_all (λ row. get_or (put_parts zeros parts) row 0 ≡ leader row) parts put)
