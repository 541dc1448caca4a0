use Rattle.std.specs.Int.{w64}
use Rattle.std.proofs.lemmas.Int.{to_z-of_z}
use Rattle.gb_flat_series.proofs.series.FlatSeriesSeriesTrait.slice.Goals as goal
use Rattle.gb_flat_series.proofs.series.FlatSeriesSeriesTrait.slice.Goals.{in-Null+in_ok-slice-in-Null, in-Boolean+in_ok-slice-in-Boolean, in-UInt8+in_ok-slice-in-UInt8, in-UInt16+in_ok-slice-in-UInt16, in-UInt32+in_ok-slice-in-UInt32, in-UInt64+in_ok-slice-in-UInt64, in-Int8+in_ok-slice-in-Int8, in-Int16+in_ok-slice-in-Int16, in-Int32+in_ok-slice-in-Int32, in-Int64+in_ok-slice-in-Int64, in-Int128+in_ok-slice-in-Int128, in-Decimal+in_ok-slice-in-Decimal, in-Date+in_ok-slice-in-Date, in-Datetime+in_ok-slice-in-Datetime, in-Duration+in_ok-slice-in-Duration, in-Time+in_ok-slice-in-Time, in-String+in_ok-slice-in-String, in-Binary+in_ok-slice-in-Binary, in-BinaryOffset+in_ok-slice-in-BinaryOffset, in-Categorical+in_ok-slice-in-Categorical}

pub returns-clause-ok : goal.returns-clause-ok
returns-clause-ok c =
    let back = to_z-of_z w64 c.args.offset c.ranges.offset in
    elim c.match-self.branch [
      | in-Null+in_ok-slice-in-Null w ↦ let ok = rw back at w.in_ok-slice-in-Null.ensures.ok in rw (w.result-is, w.in-Null.is) ok
      | in-Boolean+in_ok-slice-in-Boolean w ↦ let ok = rw back at w.in_ok-slice-in-Boolean.ensures.ok in rw (w.result-is, w.in-Boolean.is) ok
      | in-UInt8+in_ok-slice-in-UInt8 w ↦ let ok = rw back at w.in_ok-slice-in-UInt8.ensures.ok in rw (w.result-is, w.in-UInt8.is) ok
      | in-UInt16+in_ok-slice-in-UInt16 w ↦ let ok = rw back at w.in_ok-slice-in-UInt16.ensures.ok in rw (w.result-is, w.in-UInt16.is) ok
      | in-UInt32+in_ok-slice-in-UInt32 w ↦ let ok = rw back at w.in_ok-slice-in-UInt32.ensures.ok in rw (w.result-is, w.in-UInt32.is) ok
      | in-UInt64+in_ok-slice-in-UInt64 w ↦ let ok = rw back at w.in_ok-slice-in-UInt64.ensures.ok in rw (w.result-is, w.in-UInt64.is) ok
      | in-Int8+in_ok-slice-in-Int8 w ↦ let ok = rw back at w.in_ok-slice-in-Int8.ensures.ok in rw (w.result-is, w.in-Int8.is) ok
      | in-Int16+in_ok-slice-in-Int16 w ↦ let ok = rw back at w.in_ok-slice-in-Int16.ensures.ok in rw (w.result-is, w.in-Int16.is) ok
      | in-Int32+in_ok-slice-in-Int32 w ↦ let ok = rw back at w.in_ok-slice-in-Int32.ensures.ok in rw (w.result-is, w.in-Int32.is) ok
      | in-Int64+in_ok-slice-in-Int64 w ↦ let ok = rw back at w.in_ok-slice-in-Int64.ensures.ok in rw (w.result-is, w.in-Int64.is) ok
      | in-Int128+in_ok-slice-in-Int128 w ↦ let ok = rw back at w.in_ok-slice-in-Int128.ensures.ok in rw (w.result-is, w.in-Int128.is) ok
      | in-Decimal+in_ok-slice-in-Decimal w ↦ let ok = rw back at w.in_ok-slice-in-Decimal.ensures.ok in rw (w.result-is, w.in-Decimal.is) ok
      | in-Date+in_ok-slice-in-Date w ↦ let ok = rw back at w.in_ok-slice-in-Date.ensures.ok in rw (w.result-is, w.in-Date.is) ok
      | in-Datetime+in_ok-slice-in-Datetime w ↦ let ok = rw back at w.in_ok-slice-in-Datetime.ensures.ok in rw (w.result-is, w.in-Datetime.is) ok
      | in-Duration+in_ok-slice-in-Duration w ↦ let ok = rw back at w.in_ok-slice-in-Duration.ensures.ok in rw (w.result-is, w.in-Duration.is) ok
      | in-Time+in_ok-slice-in-Time w ↦ let ok = rw back at w.in_ok-slice-in-Time.ensures.ok in rw (w.result-is, w.in-Time.is) ok
      | in-String+in_ok-slice-in-String w ↦ let ok = rw back at w.in_ok-slice-in-String.ensures.ok in rw (w.result-is, w.in-String.is) ok
      | in-Binary+in_ok-slice-in-Binary w ↦ let ok = rw back at w.in_ok-slice-in-Binary.ensures.ok in rw (w.result-is, w.in-Binary.is) ok
      | in-BinaryOffset+in_ok-slice-in-BinaryOffset w ↦ let ok = rw back at w.in_ok-slice-in-BinaryOffset.ensures.ok in rw (w.result-is, w.in-BinaryOffset.is) ok
      | in-Categorical+in_ok-slice-in-Categorical w ↦ let ok = rw back at w.in_ok-slice-in-Categorical.ensures.ok in rw (w.result-is, w.in-Categorical.is) ok
    ]
