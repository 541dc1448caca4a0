-- Columns that are stored by their names.
use Rattle.std.proofs.Common.{◌≡◌, ◌∙◌, ◌∷◌, ℕ, Bool, true, false, cond, List, Option, Some, None, Bor, ap, option_map, refl}
use Rattle.std.specs.BTreeMap.{BTreeMap, get_by}
use Rattle.std.specs.Cmp.Lexicographic.{slice_cmp}
use Rattle.std.specs.Ordering.{is_eq, nat_cmp}
use Rattle.std.specs.Str.{bytes_eq}
use Rattle.std.proofs.lemmas.Map.Text.{is_eq-slice_cmp}
use Rattle.gb_defs.specs.Column.{ColumnValue, Frame, find_column}
use Rattle.gb_frame.specs.NamedColumns.{AreStored, stored_under}
use Rattle.gb_series.specs.Series.{value_of}
use Rattle.gb_series.specs.declared.series.Series.{Series}

abbrev Stored : Type 0
Stored = BTreeMap (Bor (List ℕ)) (Bor Series)

abbrev under : Stored → List ℕ → Option (Bor Series)
under stored name = get_by (λ key. slice_cmp nat_cmp name key.now) stored

abbrev lent : Option (Bor Series) → Option ColumnValue
lent = option_map (λ s. value_of s.now)

lent_cond : (b : Bool) (s : Bor Series) (rest : Option (Bor Series)) → lent (cond b (Some s) rest) ≡ cond b (Some (value_of s.now)) (lent rest)
lent_cond true s rest = refl
lent_cond false s rest = refl

-- one column more, in front of those that are stored
pub stored_more : (frame : Frame) (c : ColumnValue) (before after : Stored) (key : List ℕ) (s : Bor Series) → key ≡ c.name → value_of s.now ≡ c
    → ((name : List ℕ) → under after name ≡ cond (is_eq (slice_cmp nat_cmp key name)) (Some s) (under before name)) → AreStored frame before → AreStored (c ∷ frame) after
stored_more frame c before after key s named is puts has = λ name.
    ap lent (puts name) ∙ lent_cond (is_eq (slice_cmp nat_cmp key name)) s (under before name)
    ∙ ap (λ b. cond b (Some (value_of s.now)) (stored_under before name)) (is_eq-slice_cmp key name ∙ ap (λ n. bytes_eq n name) named)
    ∙ ap (λ v. cond (bytes_eq c.name name) (Some v) (stored_under before name)) is ∙ ap (cond (bytes_eq c.name name) (Some c)) (has name)
