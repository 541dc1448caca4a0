-- Methods as contracts see them.
use Rattle.std.specs.Prelude.{ℕ, Bool, List, codes, false, true}
use Rattle.gb_defs.specs.Fold as fold
use Rattle.gb_agg.specs.declared.method.GroupByMethod.{GroupByMethod}
use Rattle.gb_agg.specs.declared.method.GroupByMethod.TheVariants.{Min, Max, First, Last, Sum, Groups, NUnique, Count, Implode}

abbrev pub method_of : GroupByMethod → fold.Method
method_of Min = fold.Min
method_of Max = fold.Max
method_of First = fold.First
method_of Last = fold.Last
method_of Sum = fold.Sum
method_of Groups = fold.Groups
method_of NUnique = fold.NUnique
method_of (Count all) = fold.Count all
method_of Implode = fold.Implode

-- whether a method needs nothing of a column but its slots at the rows of some groups: one does not that counts
-- the column's classes
abbrev pub goes_by_parts : GroupByMethod → Bool
goes_by_parts NUnique = false
goes_by_parts _ = true

-- whether what is made of the rows of a group can be made from the number of each row's group alone, in one pass
abbrev pub goes_by_numbers : GroupByMethod → Bool
goes_by_numbers Groups = false
goes_by_numbers NUnique = false
goes_by_numbers Implode = false
goes_by_numbers _ = true

-- the word of a method
abbrev pub method_word : GroupByMethod → List ℕ
method_word Min = codes "min"
method_word Max = codes "max"
method_word First = codes "first"
method_word Last = codes "last"
method_word Sum = codes "sum"
method_word Groups = codes "groups"
method_word NUnique = codes "n_unique"
method_word (Count all) = codes "count"
method_word Implode = codes "list"
