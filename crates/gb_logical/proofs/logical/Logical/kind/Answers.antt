use Rattle.std.proofs.Common.{subst}
use Rattle.gb_defs.specs.Column.{ColumnValue}
use Rattle.gb_cols.specs.Column.{ReadsCells}
use Rattle.gb_logical.proofs.LogicalLemmas.{reads_numbers}
use Rattle.gb_logical.proofs.logical.Logical.kind.Goals as goal

pub returns-clause-reads : goal.returns-clause-reads
returns-clause-reads g c =
    subst (λ (v : ColumnValue). ReadsCells v.dtype) c.self.view_is (reads_numbers _ (g.met.K.LogicalKind.stands c.self.inside.kind).kind)
