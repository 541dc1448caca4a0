use Rattle.std.proofs.Common.{false, ap, ◌∙◌}
use Rattle.gb_defs.specs.Groups.{idx_groups}
use Rattle.gb_groups.proofs.ItemLemmas.{put_into}
use Rattle.gb_groups.proofs.groups_idx.GroupsIdx.from_items.Goals as goal

pub returns-clause-ok : goal.returns-clause-ok
returns-clause-ok c =
    c.new.ensures ∙ ap (λ pairs. idx_groups pairs false) (put_into c.args.items.items _ _ _ _ c.in_ok-first.ensures.items c.in_ok-all.ensures.items c.push_items.ensures.first_rows c.push_items.ensures.lists)
