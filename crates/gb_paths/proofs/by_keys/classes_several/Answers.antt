use Rattle.std.proofs.Common.{rules, ◌≡◌, ◌∙◌, ◌<◌, [], All, Bool, ap, arith, length, subst, sym, true}
use Rattle.std.proofs.lemmas.List.{length-map}
use Rattle.gb_defs.specs.Classes.{agree_by, rows_below}
use Rattle.gb_defs.specs.Column.{Frame, frame_height}
use Rattle.gb_defs.specs.Groups.{IsWellFormed}
use Rattle.gb_defs.specs.Path.{hashed_path, run_groups}
use Rattle.gb_base.specs.Pool.{threshold_of, workers_of}
use Rattle.gb_paths.specs.Classes.{NumberAll, grouping_of}
use Rattle.gb_series.specs.Series.{value_of}
use Rattle.gb_rows.specs.Lent.{keys_in}
use Rattle.gb_rows.specs.Rows.{AreOfOneLength}
use Rattle.gb_rows.specs.Told.{AreToldByRows}
use Rattle.gb_paths.specs.Keys.{HasValues, null_rows}
use Rattle.gb_defs.specs.Notes.{path_by_keys, valued_keys}
use Rattle.gb_paths.specs.Numbering.{AreNumbersUnder}
use Rattle.gb_paths.specs.Tuples.{slots_of, tuples_by, tuples_of_bytes}
use Rattle.gb_paths.proofs.SeveralLemmas.{first_lent, none_lent, some_path, tuples_by_bytes, tuples_by_none, tuples_by_numbers, valued_have, valued_height, valued_length}
use Rattle.gb_paths.proofs.by_keys.classes_several.Goals as goal

pub returns-then-is_empty-clause-ok : goal.returns-then-is_empty-clause-ok
returns-then-is_empty-clause-ok g c =
    let lent = c.args.keys.now in
    let keys = keys_in lent in
    let items = c.in_ok-valued.valued.items in
    let first = c.index-keys-0-then-is_empty.result in
    let none : length items ≡ 0 = search rules in
    let valued : valued_keys keys ≡ [] = sym c.in_ok-valued.ensures.valued ∙ none_lent items none in
    let many : 1 < length keys = rw (length-map lent (λ key. value_of key.now)) c.requires.several in
    let rows = c.len.ensures.value ∙ ap (λ key. length (value_of key.now).slots) c.index-keys-0-then-is_empty.is ∙ first_lent lent first (omega (arith, c.requires.several)) in
    c.in_ok-groups.ensures.ok ∙ ap (λ n. run_groups (null_rows n)) rows
    ∙ tuples_by_none keys many c.requires.aligned c.in_ok-valued.ensures.nulls c.args.multithreaded c.args.sorted c.args.pool.now valued

pub returns-then-is_empty-clause-path : goal.returns-then-is_empty-clause-path
returns-then-is_empty-clause-path g c =
    let keys = keys_in c.args.keys.now in
    let items = c.in_ok-valued.valued.items in
    let pool = c.args.pool.now in
    let none : length items ≡ 0 = search rules in
    let valued : valued_keys keys ≡ [] = sym c.in_ok-valued.ensures.valued ∙ none_lent items none in
    sym (ap (λ ks. path_by_keys ks (frame_height keys) c.args.multithreaded (workers_of pool) (threshold_of pool)) valued)

pub number_several-requires-clause-some : goal.number_several-requires-clause-some
number_several-requires-clause-some g c κs within =
    let items = c.in_ok-valued.valued.items in
    let some : 0 < length items = search rules in
    rw c.deref.ensures.value some

pub number_several-requires-clause-aligned : goal.number_several-requires-clause-aligned
number_several-requires-clause-aligned g c κs within =
    let keys = keys_in c.args.keys.now in
    let items = c.in_ok-valued.valued.items in
    let valued = c.in_ok-valued.ensures.valued in
    let some : 0 < length items = search rules in
    let some_keys : 0 < length (valued_keys keys) = subst (λ ks. 0 < length ks) valued (rw (length-map items (λ key. value_of key.now)) some) in
    subst AreOfOneLength (sym (ap keys_in c.deref.ensures.value ∙ valued)) (valued_length keys c.requires.aligned some_keys)

pub number_several-requires-clause-few : goal.number_several-requires-clause-few
number_several-requires-clause-few g c κs within =
    let keys = keys_in c.args.keys.now in
    let items = c.in_ok-valued.valued.items in
    let valued = c.in_ok-valued.ensures.valued in
    let some : 0 < length items = search rules in
    let some_keys : 0 < length (valued_keys keys) = subst (λ ks. 0 < length ks) valued (rw (length-map items (λ key. value_of key.now)) some) in
    subst (λ ks. frame_height ks < 4294967296) (sym (ap keys_in c.deref.ensures.value ∙ valued)) (rw (valued_height keys c.requires.aligned some_keys) c.requires.few)

pub number_several-requires-clause-valued : goal.number_several-requires-clause-valued
number_several-requires-clause-valued g c κs within =
    let keys = keys_in c.args.keys.now in
    subst (λ (ks : Frame). All HasValues ks) (sym (ap keys_in c.deref.ensures.value ∙ c.in_ok-valued.ensures.valued)) (valued_have keys)

pub returns-in-Some-clause-ok : goal.returns-in-Some-clause-ok
returns-in-Some-clause-ok g c =
    let lent = c.args.keys.now in
    let keys = keys_in lent in
    let items = c.in_ok-valued.valued.items in
    let valued = c.in_ok-valued.ensures.valued in
    let pool = c.args.pool.now in
    let m = c.args.multithreaded in
    let numbers = c.in-Some.numbers in
    let some : 0 < length items = search rules in
    let some_keys : 0 < length (valued_keys keys) = subst (λ ks. 0 < length ks) valued (rw (length-map items (λ key. value_of key.now)) some) in
    let many : 1 < length keys = rw (length-map lent (λ key. value_of key.now)) c.requires.several in
    let rows = c.len-2.ensures.value ∙ ap (λ key. length (value_of key.now).slots) c.index-keys-0-2.is ∙ first_lent lent c.index-keys-0-2.result (omega (arith, c.requires.several)) in
    let are : AreNumbersUnder (agree_by (slots_of (keys_in c.deref.result.now))) (rows_below (frame_height (keys_in c.deref.result.now))) numbers = rw c.in-Some.is at c.in_ok-numbers.ensures.ok in
    let made = tuples_by_numbers keys many c.requires.aligned c.in_ok-valued.ensures.nulls m c.args.sorted pool some_keys c.choose_path-path.result numbers
    (c.choose_path-path.ensures ∙ ap (λ n. hashed_path true n m (workers_of pool) (threshold_of pool)) rows)
    (subst (λ (ks : Frame). AreNumbersUnder (agree_by (slots_of ks)) (rows_below (frame_height ks)) numbers) (ap keys_in c.deref.ensures.value ∙ valued) are) in
    made.groups ∙ ap (λ (b : Bool). tuples_by keys m b pool) (sym c.if-sorted.true)

pub returns-in-Some-clause-formed : goal.returns-in-Some-clause-formed
returns-in-Some-clause-formed g c =
    let lent = c.args.keys.now in
    let keys = keys_in lent in
    let items = c.in_ok-valued.valued.items in
    let valued = c.in_ok-valued.ensures.valued in
    let pool = c.args.pool.now in
    let m = c.args.multithreaded in
    let numbers = c.in-Some.numbers in
    let some : 0 < length items = search rules in
    let some_keys : 0 < length (valued_keys keys) = subst (λ ks. 0 < length ks) valued (rw (length-map items (λ key. value_of key.now)) some) in
    let many : 1 < length keys = rw (length-map lent (λ key. value_of key.now)) c.requires.several in
    let rows = c.len-2.ensures.value ∙ ap (λ key. length (value_of key.now).slots) c.index-keys-0-2.is ∙ first_lent lent c.index-keys-0-2.result (omega (arith, c.requires.several)) in
    let are : AreNumbersUnder (agree_by (slots_of (keys_in c.deref.result.now))) (rows_below (frame_height (keys_in c.deref.result.now))) numbers = rw c.in-Some.is at c.in_ok-numbers.ensures.ok in
    let made = tuples_by_numbers keys many c.requires.aligned c.in_ok-valued.ensures.nulls m c.args.sorted pool some_keys c.choose_path-path.result numbers
    (c.choose_path-path.ensures ∙ ap (λ n. hashed_path true n m (workers_of pool) (threshold_of pool)) rows)
    (subst (λ (ks : Frame). AreNumbersUnder (agree_by (slots_of ks)) (rows_below (frame_height ks)) numbers) (ap keys_in c.deref.ensures.value ∙ valued) are) in
    made.formed

pub returns-in-Some-clause-all : goal.returns-in-Some-clause-all
returns-in-Some-clause-all g c =
    let lent = c.args.keys.now in
    let keys = keys_in lent in
    let items = c.in_ok-valued.valued.items in
    let valued = c.in_ok-valued.ensures.valued in
    let pool = c.args.pool.now in
    let m = c.args.multithreaded in
    let numbers = c.in-Some.numbers in
    let some : 0 < length items = search rules in
    let some_keys : 0 < length (valued_keys keys) = subst (λ ks. 0 < length ks) valued (rw (length-map items (λ key. value_of key.now)) some) in
    let many : 1 < length keys = rw (length-map lent (λ key. value_of key.now)) c.requires.several in
    let rows = c.len-2.ensures.value ∙ ap (λ key. length (value_of key.now).slots) c.index-keys-0-2.is ∙ first_lent lent c.index-keys-0-2.result (omega (arith, c.requires.several)) in
    let are : AreNumbersUnder (agree_by (slots_of (keys_in c.deref.result.now))) (rows_below (frame_height (keys_in c.deref.result.now))) numbers = rw c.in-Some.is at c.in_ok-numbers.ensures.ok in
    let made = tuples_by_numbers keys many c.requires.aligned c.in_ok-valued.ensures.nulls m c.args.sorted pool some_keys c.choose_path-path.result numbers
    (c.choose_path-path.ensures ∙ ap (λ n. hashed_path true n m (workers_of pool) (threshold_of pool)) rows)
    (subst (λ (ks : Frame). AreNumbersUnder (agree_by (slots_of ks)) (rows_below (frame_height ks)) numbers) (ap keys_in c.deref.ensures.value ∙ valued) are) in
    record { wanted = c.if-by_numbers.true; many = made.long }

pub classes_of_row_bytes-requires-clause-aligned : goal.classes_of_row_bytes-requires-clause-aligned
classes_of_row_bytes-requires-clause-aligned g c κs within =
    let keys = keys_in c.args.keys.now in
    let items = c.in_ok-valued.valued.items in
    let valued = c.in_ok-valued.ensures.valued in
    let some : 0 < length items = search rules in
    let some_keys : 0 < length (valued_keys keys) = subst (λ ks. 0 < length ks) valued (rw (length-map items (λ key. value_of key.now)) some) in
    subst AreOfOneLength (sym (ap keys_in c.deref-2.ensures.value ∙ valued)) (valued_length keys c.requires.aligned some_keys)

pub classes_of_row_bytes-requires-clause-few : goal.classes_of_row_bytes-requires-clause-few
classes_of_row_bytes-requires-clause-few g c κs within =
    let keys = keys_in c.args.keys.now in
    let items = c.in_ok-valued.valued.items in
    let valued = c.in_ok-valued.ensures.valued in
    let some : 0 < length items = search rules in
    let some_keys : 0 < length (valued_keys keys) = subst (λ ks. 0 < length ks) valued (rw (length-map items (λ key. value_of key.now)) some) in
    subst (λ ks. frame_height ks < 4294967296) (sym (ap keys_in c.deref-2.ensures.value ∙ valued)) (rw (valued_height keys c.requires.aligned some_keys) c.requires.few)

pub returns-clause-ok : goal.returns-clause-ok
returns-clause-ok g c =
    let lent = c.args.keys.now in
    let keys = keys_in lent in
    let items = c.in_ok-valued.valued.items in
    let valued = c.in_ok-valued.ensures.valued in
    let bytes = ap keys_in c.deref-2.ensures.value ∙ valued in
    let some : 0 < length items = search rules in
    let some_keys : 0 < length (valued_keys keys) = subst (λ ks. 0 < length ks) valued (rw (length-map items (λ key. value_of key.now)) some) in
    let many : 1 < length keys = rw (length-map lent (λ key. value_of key.now)) c.requires.several in
    c.in_ok-made.ensures.ok ∙ ap (λ ks. tuples_of_bytes ks c.args.multithreaded c.args.sorted c.args.pool.now) bytes
    ∙ tuples_by_bytes keys many c.requires.aligned c.in_ok-valued.ensures.nulls c.args.multithreaded c.args.sorted c.args.pool.now some_keys (subst AreToldByRows bytes c.in_ok-made.ensures.told)

pub returns-clause-path : goal.returns-clause-path
returns-clause-path g c =
    let lent = c.args.keys.now in
    let keys = keys_in lent in
    let items = c.in_ok-valued.valued.items in
    let valued = c.in_ok-valued.ensures.valued in
    let pool = c.args.pool.now in
    let m = c.args.multithreaded in
    let some : 0 < length items = search rules in
    let some_keys : 0 < length (valued_keys keys) = subst (λ ks. 0 < length ks) valued (rw (length-map items (λ key. value_of key.now)) some) in
    let rows = c.len-2.ensures.value ∙ ap (λ key. length (value_of key.now).slots) c.index-keys-0-2.is ∙ first_lent lent c.index-keys-0-2.result (omega (arith, c.requires.several)) in
    c.from-2.ensures ∙ c.choose_path-path.ensures
    ∙ ap (λ n. hashed_path true n m (workers_of pool) (threshold_of pool)) rows
    ∙ sym (some_path (valued_keys keys) (frame_height keys) m (workers_of pool) (threshold_of pool) some_keys)

pub returns-clause-formed : goal.returns-clause-formed
returns-clause-formed g c =
    let keys = keys_in c.args.keys.now in
    let items = c.in_ok-valued.valued.items in
    let valued = c.in_ok-valued.ensures.valued in
    let some : 0 < length items = search rules in
    let some_keys : 0 < length (valued_keys keys) = subst (λ ks. 0 < length ks) valued (rw (length-map items (λ key. value_of key.now)) some) in
    let high = ap frame_height (ap keys_in c.deref-2.ensures.value ∙ valued) ∙ valued_height keys c.requires.aligned some_keys in
    subst (λ n. IsWellFormed n (grouping_of c.in_ok-made.made).pairs) high c.in_ok-made.ensures.formed

pub returns-clause-all : goal.returns-clause-all
returns-clause-all g c =
    let keys = keys_in c.args.keys.now in
    let items = c.in_ok-valued.valued.items in
    let valued = c.in_ok-valued.ensures.valued in
    let some : 0 < length items = search rules in
    let some_keys : 0 < length (valued_keys keys) = subst (λ ks. 0 < length ks) valued (rw (length-map items (λ key. value_of key.now)) some) in
    let high = ap frame_height (ap keys_in c.deref-2.ensures.value ∙ valued) ∙ valued_height keys c.requires.aligned some_keys in
    subst (λ n. NumberAll c.args.by_numbers n c.in_ok-made.made) high c.in_ok-made.ensures.all
