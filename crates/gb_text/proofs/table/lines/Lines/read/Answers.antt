use Rattle.csv.specs.Records.{fields_of}
use Rattle.gb_text.specs.Asked.{names_in}
use Rattle.gb_text.proofs.table.lines.Lines.read.Goals as goal

pub read_lines-requires-clause-start : goal.read_lines-requires-clause-start
read_lines-requires-clause-start c = record {
  names = names_in c.args.self.now.names.now;
  header = fields_of c.args.self.now.header.now;
  start = c.in_ok-columns.ensures.ok;
}
