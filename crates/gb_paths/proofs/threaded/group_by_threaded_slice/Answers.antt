use Rattle.gb_paths.proofs.threaded.group_by_threaded_slice.Goals as goal

pub returns-clause-ok : goal.returns-clause-ok
returns-clause-ok g c = rw (c.new-rows.ensures.keys, c.new-rows.ensures.mixer) at c.group_by_threaded_iter.ensures.ok
