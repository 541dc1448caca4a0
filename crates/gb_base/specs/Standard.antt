-- How often the standard streams have failed.
use Rattle.std.specs.Prelude.{ℕ}
use Rattle.gb_base.specs.declared.standard.StdinSource.{StdinSource}
use Rattle.gb_base.specs.declared.standard.StdoutSink.{StdoutSink}
use Rattle.gb_base.specs.declared.standard.StderrSink.{StderrSink}

abbrev pub source_faults : StdinSource → ℕ
source_faults s = s.faults

abbrev pub output_faults : StdoutSink → ℕ
output_faults s = s.faults

abbrev pub error_faults : StderrSink → ℕ
error_faults s = s.faults
