use Rattle.std.proofs.Common.{◌∙◌, List, ℕ, ap}
use Rattle.std.specs.List.{list_any}
use Rattle.std.specs.Str.{bytes_eq}
use Rattle.gb_base.proofs.NameSetLemmas.{has_name}
use Rattle.gb_base.proofs.name_set.NameSet.contains.Goals as goal

pub returns : goal.returns
returns c =
    let name = c.args.name.now in
    c.contains.ensures ∙ has_name name c.self.inside.names.keys ∙ ap (λ (names : List (List ℕ)). list_any (bytes_eq name) names) c.self.view_is
