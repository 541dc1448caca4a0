use Rattle.std.proofs.Common.{◌≡◌, ◌∙◌, ap, sym}
use Rattle.gb_text.specs.Builder.{built, slots_in}
use Rattle.gb_text.proofs.BuilderLemmas.{checked_in, checked_joined}
use Rattle.gb_text.proofs.table.builder.ColumnBuilder.append.Goals as goal

pub returns-in-Some-Some : goal.returns-in-Some-Some
returns-in-Some-Some c =
    let own = slots_in c.self.inside.cells in
    let others = slots_in c.other.inside.cells in
    let self : c.args.self.now ≡ checked_in own c.in-Some-Some.count = sym c.self.view_is ∙ ap (built c.self.inside.cells) c.in-Some-Some.is-0 in
    let other : c.args.other ≡ checked_in others c.in-Some-Some.more = sym c.other.view_is ∙ ap (built c.other.inside.cells) c.in-Some-Some.is-1 in
    rw (self, other) (checked_joined own others c.in-Some-Some.count c.in-Some-Some.more)
