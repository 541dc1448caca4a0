-- A group of the zip is the first row and the list at its place.
use Rattle.std.proofs.Common.{arith, ◌≡◌, ◌<◌, ℕ, List, [], length, sym, ◌∙◌, ap, zip, get_or}
use Rattle.std.proofs.lemmas.List.{length-map, get_or-map, get_or_default}
use Rattle.std.proofs.lemmas.Slice.Zip.{length-zip, get_or-zip}
use Rattle.smallvec.specs.SmallVec.{SmallVec}
use Rattle.gb_groups.specs.Groups.{lists_of}
use Rattle.gb_groups.proofs.groups_idx.GroupsIdx.get.Goals as goal

inside_zip : (first : List ℕ) (all : List (SmallVec ℕ)) (k : ℕ) → k < length (zip first (lists_of all)) → k < length first
inside_zip first all k lt = omega (arith, lt, length-zip first (lists_of all))

pair_at : (first : List ℕ) (all : List (SmallVec ℕ)) (k f : ℕ) (rows : SmallVec ℕ) → k < length first → k < length all → f ≡ get_or first k f → rows ≡ get_or all k rows → (f, rows.items) ≡ get_or (zip first (lists_of all)) k (0, [])
pair_at first all k f rows in_first in_all f_is rows_is =
    let in_lists : k < length (lists_of all) = omega (arith, in_all, length-map all (λ (r : SmallVec ℕ). r.items)) in
    let left : get_or first k 0 ≡ f = get_or_default first k 0 f in_first ∙ sym f_is in
    let right : get_or (lists_of all) k [] ≡ rows.items = get_or-map (λ (r : SmallVec ℕ). r.items) all k rows [] in_all ∙ ap (λ (r : SmallVec ℕ). r.items) (sym rows_is) in
    rw (get_or-zip first (lists_of all) k (0, []) in_first in_lists, left, right)

pub index-requires : goal.index-requires
index-requires c =
    let within : c.args.index < length c.self.inside.first.items = inside_zip _ _ _ (rw (← c.self.view_is) at c.requires) in
    omega (arith, within)

pub index-requires-2 : goal.index-requires-2
index-requires-2 c =
    let within : c.args.index < length c.self.inside.first.items = inside_zip _ _ _ (rw (← c.self.view_is) at c.requires) in
    omega (arith, within, c.self.invariant.0)

pub returns : goal.returns
returns c =
    let within : c.args.index < length c.self.inside.first.items = inside_zip _ _ _ (rw (← c.self.view_is) at c.requires) in
    let within_all : c.args.index < length c.self.inside.all.items = omega (arith, within, c.self.invariant.0) in
    rw (← c.self.view_is) (pair_at c.self.inside.first.items c.self.inside.all.items c.args.index _ _ within within_all c.index.ensures c.index-2.ensures)
