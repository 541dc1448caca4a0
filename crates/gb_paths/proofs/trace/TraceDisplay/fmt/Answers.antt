use Rattle.std.proofs.Common.{◌≡◌, ◌∙◌, ◌++◌, ℕ, List, append_assoc, subst, sym}
use Rattle.std.specs.Prelude.{codes}
use Rattle.std.specs.Fmt.{HasWritten, decimal}
use Rattle.gb_defs.specs.Notes.{path_name}
use Rattle.gb_paths.specs.Tuples.{path_value}
use Rattle.gb_paths.proofs.trace.TraceDisplay.fmt.Goals as goal

spread : (a b c d e : List ℕ) → (((a ++ b) ++ c) ++ d) ++ e ≡ a ++ (b ++ (c ++ (d ++ e)))
spread a b c d e = append_assoc ((a ++ b) ++ c) d e ∙ append_assoc (a ++ b) c (d ++ e) ∙ append_assoc a b (c ++ (d ++ e))

pub returns-clause-writes : goal.returns-clause-writes
returns-clause-writes g c =
    let trace = c.args.self.now in
    let name = path_name (path_value trace.path) in
    λ plain ok. subst (λ (text : List ℕ). HasWritten {W = g.row.W.Denot} g.W.Write.write_str_gives c.args.f.now (codes "path " ++ text) c.write.new.self)
    (sym (spread name (codes ", groups ") (decimal trace.groups) (codes ", keys read ") (decimal trace.keys_read))) (c.write.ensures.writes plain ok)
