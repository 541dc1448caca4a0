-- When groups are the same: the same pairs in the same form, flagged alike.
use Rattle.std.specs.Prelude.{ℕ, Bool, true, false, ◌&&◌, ◌==◌, nat_eq, List}
use Rattle.std.specs.Bool.{beq}
use Rattle.std.specs.Cmp.{IsEquivalence, and_equiv, bool_eq_equiv, nat_eq_equiv, on_equiv}
use Rattle.std.specs.Cmp.Lexicographic.{lists_equiv, nat_list_eq_equiv, pointwise}
use Rattle.gb_defs.specs.Groups.{Grouping, GroupsForm, Idx, Slice, first_of, rows_of_pair}

abbrev pub form_number : GroupsForm → ℕ
form_number Idx = 0
form_number (Slice false) = 1
form_number (Slice true) = 2

abbrev pub same_pair : ℕ × List ℕ → ℕ × List ℕ → Bool
same_pair one other = (first_of one == first_of other) && pointwise nat_eq (rows_of_pair one) (rows_of_pair other)

abbrev pub same_groups : Grouping → Grouping → Bool
same_groups one other =
    (form_number one.form == form_number other.form) && (beq one.flagged other.flagged && pointwise same_pair one.pairs other.pairs)

pub same_equiv : IsEquivalence same_groups
same_equiv =
    and_equiv
    (on_equiv (λ (g : Grouping). form_number g.form) nat_eq_equiv)
    (and_equiv (on_equiv (λ (g : Grouping). g.flagged) bool_eq_equiv)
    (on_equiv (λ (g : Grouping). g.pairs) (lists_equiv (and_equiv (on_equiv first_of nat_eq_equiv) (on_equiv rows_of_pair nat_list_eq_equiv)))))
