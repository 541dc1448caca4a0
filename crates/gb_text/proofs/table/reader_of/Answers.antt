use Rattle.gb_text.proofs.TakingLemmas.{records_given}
use Rattle.gb_text.proofs.table.reader_of.Goals as goal

pub returns : goal.returns
returns c =
    let made = c.from_reader.ensures in
    record {
      gives = records_given c.new.result c.has_headers.result.now c.flexible.result.now c.from_reader.result c.has_headers.ensures c.flexible.ensures c.new.ensures.config c.new.ensures.trim
          made.config made.trim made.has_headers made.flexible made.headers;
      source = made.source;
      state = made.state;
    }
