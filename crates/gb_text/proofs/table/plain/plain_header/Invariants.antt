use Rattle.std.proofs.Common.{◌≡◌, []}
use Rattle.csv.specs.declared.parser.State.TheVariants as st
use Rattle.csv.specs.Machine.{next_record}
use Rattle.csv.specs.Reading.{default_config}
use Rattle.csv.specs.Records.{fields_of, partial_of}
use Rattle.gb_text.specs.Plain.{IsBehind}
use Rattle.gb_text.proofs.table.plain.plain_header.Given as goal

abbrev pub invariant-loop : goal.invariant-loop
invariant-loop l = record {
  whole : partial_of l.fields ≡ [];
  reads : next_record default_config st.StartField [] [] l.fn.text ≡ next_record default_config st.StartField (fields_of l.fields) [] l.left;
  behind : IsBehind l.fn.text l.left;
}
