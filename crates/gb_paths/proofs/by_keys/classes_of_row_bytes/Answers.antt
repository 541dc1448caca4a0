use Rattle.std.proofs.Common.{◌∙◌, ap, length, subst, sym}
use Rattle.std.proofs.lemmas.Result.{IfOk-weaker}
use Rattle.gb_defs.specs.Groups.{Grouping, HasRowNumbers, IsWellFormed}
use Rattle.gb_paths.specs.Classes.{NumberAll, grouping_of}
use Rattle.gb_rows.specs.Lent.{keys_in}
use Rattle.gb_paths.proofs.FormLemmas.{path_formed}
use Rattle.gb_paths.proofs.RowBytesLemmas.{rows_many}
use Rattle.gb_paths.proofs.by_keys.classes_of_row_bytes.Goals as goal

pub classes_of_keys-requires-clause-few : goal.classes_of_keys-requires-clause-few
classes_of_keys-requires-clause-few g c κs within =
    let many = ap (λ v. length v.slots) c.in_ok-bytes.ensures.ok ∙ rows_many (keys_in c.args.keys.now) in
    subst HasRowNumbers (sym many) c.requires.few

pub returns-clause-formed : goal.returns-clause-formed
returns-clause-formed g c =
    let many = ap (λ v. length v.slots) c.in_ok-bytes.ensures.ok ∙ rows_many (keys_in c.args.keys.now) in
    IfOk-weaker c.classes_of_keys.result _ _ (λ groups h. subst (λ n. IsWellFormed n (grouping_of groups).pairs) many
    (subst (λ (made : Grouping). IsWellFormed (length c.in_ok-bytes.bytes.slots) made.pairs) (sym h) (path_formed _ _ 0 _ _))) c.classes_of_keys.ensures.ok

pub returns-clause-all : goal.returns-clause-all
returns-clause-all g c =
    let many = ap (λ v. length v.slots) c.in_ok-bytes.ensures.ok ∙ rows_many (keys_in c.args.keys.now) in
    IfOk-weaker c.classes_of_keys.result _ _ (λ made h. subst (λ n. NumberAll c.args.by_numbers n made) many h) c.classes_of_keys.ensures.all
