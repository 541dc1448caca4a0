use Rattle.std.proofs.Common.{◌≡◌, ◌∷◌, [], ℕ, All, arith, length, refl, subst, sym, true}
use Rattle.std.proofs.lemmas.List.Elements.{All-map}
use Rattle.gb_defs.specs.Classes.{agree_by, groups, rows_below}
use Rattle.gb_defs.specs.Groups.{AreMembers, IsWellFormed, lists_in, rows_of_pair}
use Rattle.gb_groups.specs.GroupsType.{groups_of}
use Rattle.gb_paths.specs.Classes.{NumberAll, grouping_of}
use Rattle.gb_paths.specs.declared.classes.Classes.TheVariants.{Numbers}
use Rattle.gb_series.specs.Series.{value_of}
use Rattle.gb_agg.specs.Distinct.{AreClasses, AreNumbered}
use Rattle.gb_agg.proofs.ClassLemmas.{classes_few, classes_numbered, numbers_of_classes}
use Rattle.gb_agg.proofs.distinct.column_classes.Goals as goal

pub class_numbers-requires-clause-rows : goal.class_numbers-requires-clause-rows
class_numbers-requires-clause-rows g c =
    let slots = (value_of c.args.column.now).slots in
    let groups = groups_of c.in-Groups.groups in
    let formed : IsWellFormed (length slots) groups.pairs = rw c.in-Groups.is at c.in_ok-classes.ensures.formed in
    subst (λ (n : ℕ). All (AreMembers n) (lists_in groups)) (sym c.len.ensures.value)
    (All-map (AreMembers (length slots)) rows_of_pair groups.pairs (λ k d lt. (formed.fit k d lt).members))

pub class_numbers-requires-clause-few : goal.class_numbers-requires-clause-few
class_numbers-requires-clause-few g c =
    let slots = (value_of c.args.column.now).slots in
    let is : (groups_of c.in-Groups.groups).pairs ≡ groups (agree_by (slots ∷ [])) (rows_below (length slots)) = rw c.in-Groups.is at (c.in_ok-classes.ensures.classes refl) in
    let few = classes_few (agree_by (slots ∷ [])) (length slots) (groups_of c.in-Groups.groups).pairs is in
    omega (arith, few, c.requires)

pub returns-in-Numbers-clause-ok : goal.returns-in-Numbers-clause-ok
returns-in-Numbers-clause-ok g c =
    let slots = (value_of c.args.column.now).slots in
    let made = c.in-Numbers.numbers in
    let is : (grouping_of (Numbers made)).pairs ≡ groups (agree_by (slots ∷ [])) (rows_below (length slots)) = rw c.in-Numbers.is at (c.in_ok-classes.ensures.classes refl) in
    let all : NumberAll true (length slots) (Numbers made) = rw c.in-Numbers.is at c.in_ok-classes.ensures.all in
    let count : length made.first.items ≡ c.len-count.result = omega (arith, c.len-count.ensures) in
    subst (λ (n : ℕ). AreClasses slots n made.of_rows.items) count (classes_numbered slots made is all.many)

pub returns-in_ok-numbers-in-Groups-clause-ok : goal.returns-in_ok-numbers-in-Groups-clause-ok
returns-in_ok-numbers-in-Groups-clause-ok g c =
    let slots = (value_of c.args.column.now).slots in
    let groups = groups_of c.in-Groups.groups in
    let numbers = c.in_ok-numbers-in-Groups.numbers.items in
    let are = subst (λ (n : ℕ). AreNumbered n (lists_in groups) numbers) c.len.ensures.value c.in_ok-numbers-in-Groups.ensures in
    subst (λ (n : ℕ). AreClasses slots n numbers) (sym c.len-in-Groups.ensures) (numbers_of_classes slots groups.pairs (rw c.in-Groups.is at (c.in_ok-classes.ensures.classes refl)) numbers are)
