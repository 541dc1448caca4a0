use Rattle.std.proofs.Common.{false, ap, ◌∙◌}
use Rattle.gb_defs.specs.Groups.{idx_groups}
use Rattle.gb_flat.specs.Buffers.{joined}
use Rattle.gb_groups.proofs.ItemLemmas.{apart}
use Rattle.gb_groups.proofs.groups_idx.GroupsIdx.from_parts.Goals as goal

pub returns-then-workers-lt2-clause-ok : goal.returns-then-workers-lt2-clause-ok
returns-then-workers-lt2-clause-ok g c =
    c.new.ensures ∙ ap (λ pairs. idx_groups pairs false) (rw (c.in_ok-first.ensures.ok.first_rows, c.in_ok-first.ensures.ok.row_lists) (apart (joined c.args.parts.items)))

pub returns-clause-ok : goal.returns-clause-ok
returns-clause-ok g c =
    c.new-2.ensures ∙ ap (λ pairs. idx_groups pairs false) (rw (c.in_ok-first-2.ensures.ok.first_rows, c.in_ok-first-2.ensures.ok.row_lists) (apart (joined c.args.parts.items)))
