use Rattle.std.proofs.Common.{ℕ, List, ◌||◌, not, ap, sym, ◌∙◌}
use Rattle.std.specs.List.{list_any}
use Rattle.std.specs.Str.{bytes_eq}
use Rattle.gb_base.proofs.NameSetLemmas.{has_more, has_name}
use Rattle.gb_base.proofs.name_set.NameSet.insert.Goals as goal

pub returns-clause-new : goal.returns-clause-new
returns-clause-new c =
    let name = c.args.name.now in
    c.in-Ok.ensures.added ∙ ap not (has_name name c.self.inside.names.keys) ∙ ap (λ (names : List (List ℕ)). not (list_any (bytes_eq name) names)) c.self.view_is

pub returns-clause-names : goal.returns-clause-names
returns-clause-names c = λ other.
    let name = c.args.name.now in
    sym (has_name other c.insert.new.self.keys) ∙ c.in-Ok.ensures.updates.0 (record { ref_ptr = (0, 0); now = other }) ∙ has_more name other c.self.inside.names.keys
    ∙ ap (λ (names : List (List ℕ)). bytes_eq name other || list_any (bytes_eq other) names) c.self.view_is
