use Rattle.std.specs.Int.{w64}
use Rattle.std.proofs.lemmas.Int.{to_z-of_z}
use Rattle.std.proofs.Common.{◌∙◌, ◌-◌, FitsSigned, ap, arith, length, map, max, pos, List, subst, sym, rules}
use Rattle.gb_defs.specs.Column.{sliced}
use Rattle.gb_defs.specs.Slices.{between, slice_end, slice_start}
use Rattle.gb_series.specs.Series.{value_of}
use Rattle.gb_values.specs.Array.{start_of}
use Rattle.gb_series.proofs.ListLemmas.{end_high, sliced_listed, sliced_view, start_low}
use Rattle.std.specs.List.{All}
use Rattle.gb_defs.specs.Slot.{Slot}
use Rattle.gb_series.specs.Arrays.{HasWidth}
use Rattle.gb_series.proofs.ArrayLemmas.{array_sliced}
use Rattle.gb_series.proofs.+slice.Goals.{series::SeriesSeriesTrait::slice-in-Flat+in_ok-slice-in-Flat, series::SeriesSeriesTrait::slice-in-List+in_ok-slice-in-List+in_ok-new-in-List, series::SeriesSeriesTrait::slice-in-Array+in_ok-slice-in-Array+in_ok-new-in-Array, series::SeriesSeriesTrait::slice-in-Struct+in_ok-slice-in-Struct+in_ok-new-in-Struct}
use Rattle.gb_series.proofs.StructLemmas.{slice_high as struct_high, slice_low as struct_low, sliced_struct, sliced_view as struct_sliced_view}
use Rattle.gb_series.proofs.+slice.Goals as goal

pub series::SeriesSeriesTrait::slice-returns-clause-ok : goal.series::SeriesSeriesTrait::slice-returns-clause-ok
series::SeriesSeriesTrait::slice-returns-clause-ok t c =
    let back = to_z-of_z w64 c.args.offset c.ranges.offset in
    elim c.match-self.branch [
      | series::SeriesSeriesTrait::slice-in-Flat+in_ok-slice-in-Flat w ↦ let ok = rw back at w.in_ok-slice-in-Flat.ensures.ok in rw (w.result-is, w.in-Flat.is) ok
      | series::SeriesSeriesTrait::slice-in-List+in_ok-slice-in-List+in_ok-new-in-List w ↦ let ok = rw back at w.in_ok-slice-in-List.ensures.ok in rw (w.result-is, w.in-List.is) (search (rules, w.in_ok-new-in-List.ensures.ok, ok))
      | series::SeriesSeriesTrait::slice-in-Array+in_ok-slice-in-Array+in_ok-new-in-Array w ↦ let ok = rw back at w.in_ok-slice-in-Array.ensures.ok in rw (w.result-is, w.in-Array.is) (search (rules, w.in_ok-new-in-Array.ensures.ok, ok))
      | series::SeriesSeriesTrait::slice-in-Struct+in_ok-slice-in-Struct+in_ok-new-in-Struct w ↦ let ok = rw back at w.in_ok-slice-in-Struct.ensures.ok in rw (w.result-is, w.in-Struct.is) (search (rules, w.in_ok-new-in-Struct.ensures.ok, ok))
    ]

pub nested::list::ListChunkedSeriesTrait::slice-overflow_sub-end : goal.nested::list::ListChunkedSeriesTrait::slice-overflow_sub-end
nested::list::ListChunkedSeriesTrait::slice-overflow_sub-end t c =
    let own = c.self.inside in
    let items = value_of own.items in
    let offset = c.args.offset in
    let len = c.args.len in
    let back = to_z-of_z w64 offset c.ranges.offset in
    let count = c.len.ensures.value in
    let from = (rw back at c.slice_bounds-from.ensures.start) ∙ ap (λ n. slice_start n offset) count in
    let to = c.max-to.ensures ∙ ap (λ e. max e c.slice_bounds-from.result.0) ((rw back at c.slice_bounds-from.ensures.end) ∙ ap (λ n. slice_end n offset len) count)
    ∙ ap (max (slice_end (length own.rows.slots) offset len)) from in
    let start = c.start_at-start.ensures ∙ ap (λ es. start_of 0 es c.slice_bounds-from.result.0) c.deref.ensures.value in
    let end = c.start_at-end.ensures ∙ ap (λ es. start_of 0 es c.max-to.result) c.deref-2.ensures.value in
    start_low own.rows own.present.items own.ends.items items c.self.invariant offset len _ _ _ _ from to start end

pub nested::list::ListChunkedSeriesTrait::slice-overflow_cast-start : goal.nested::list::ListChunkedSeriesTrait::slice-overflow_cast-start
nested::list::ListChunkedSeriesTrait::slice-overflow_cast-start t c =
    let own = c.self.inside in
    let items = value_of own.items in
    let offset = c.args.offset in
    let len = c.args.len in
    let back = to_z-of_z w64 offset c.ranges.offset in
    let count = c.len.ensures.value in
    let from = (rw back at c.slice_bounds-from.ensures.start) ∙ ap (λ n. slice_start n offset) count in
    let to = c.max-to.ensures ∙ ap (λ e. max e c.slice_bounds-from.result.0) ((rw back at c.slice_bounds-from.ensures.end) ∙ ap (λ n. slice_end n offset len) count)
    ∙ ap (max (slice_end (length own.rows.slots) offset len)) from in
    let start = c.start_at-start.ensures ∙ ap (λ es. start_of 0 es c.slice_bounds-from.result.0) c.deref.ensures.value in
    let end = c.start_at-end.ensures ∙ ap (λ es. start_of 0 es c.max-to.result) c.deref-2.ensures.value in
    let low = start_low own.rows own.present.items own.ends.items items c.self.invariant offset len _ _ _ _ from to start end in
    let high = end_high own.rows own.present.items own.ends.items items c.self.invariant offset len _ _ _ _ from to start end in
    omega (arith, low, high, c.len-2.ensures.small, c.len-2.ensures.value)

pub nested::list::ListChunkedSeriesTrait::slice-invariant_of-result : goal.nested::list::ListChunkedSeriesTrait::slice-invariant_of-result
nested::list::ListChunkedSeriesTrait::slice-invariant_of-result t c =
    let own = c.self.inside in
    let items = value_of own.items in
    let offset = c.args.offset in
    let len = c.args.len in
    let back = to_z-of_z w64 offset c.ranges.offset in
    let count = c.len.ensures.value in
    let from = (rw back at c.slice_bounds-from.ensures.start) ∙ ap (λ n. slice_start n offset) count in
    let to = c.max-to.ensures ∙ ap (λ e. max e c.slice_bounds-from.result.0) ((rw back at c.slice_bounds-from.ensures.end) ∙ ap (λ n. slice_end n offset len) count)
    ∙ ap (max (slice_end (length own.rows.slots) offset len)) from in
    let start = c.start_at-start.ensures ∙ ap (λ es. start_of 0 es c.slice_bounds-from.result.0) c.deref.ensures.value in
    let end = c.start_at-end.ensures ∙ ap (λ es. start_of 0 es c.max-to.result) c.deref-2.ensures.value in
    let low = start_low own.rows own.present.items own.ends.items items c.self.invariant offset len _ _ _ _ from to start end in
    let high = end_high own.rows own.present.items own.ends.items items c.self.invariant offset len _ _ _ _ from to start end in
    let fits : FitsSigned w64 (pos c.start_at-start.result) = omega (arith, low, high, c.len-2.ensures.small, c.len-2.ensures.value) in
    let made = rw back at c.in_ok-slice.ensures.ok in
    let flags = c.in_ok-from_slice.ensures.items ∙ ap (between c.slice_bounds-from.result.0 c.max-to.result) c.as_slice.ensures.value in
    let ends = c.in_ok-ends_behind.ensures
    ∙ ap (λ es. map (λ e. e - c.start_at-start.result) (between c.slice_bounds-from.result.0 c.max-to.result es)) c.as_slice-2.ensures.value in
    let inner = rw (to_z-of_z w64 (pos c.start_at-start.result) fits) at c.in_ok-slice-2.ensures.ok in
    sliced_listed own.rows own.present.items own.ends.items items c.self.invariant offset len _ _ _ _ from to start end _ _ _ _ made flags ends inner

pub nested::list::ListChunkedSeriesTrait::slice-returns-clause-ok : goal.nested::list::ListChunkedSeriesTrait::slice-returns-clause-ok
nested::list::ListChunkedSeriesTrait::slice-returns-clause-ok t c =
    let own = c.self.inside in
    let items = value_of own.items in
    let offset = c.args.offset in
    let len = c.args.len in
    let back = to_z-of_z w64 offset c.ranges.offset in
    let count = c.len.ensures.value in
    let from = (rw back at c.slice_bounds-from.ensures.start) ∙ ap (λ n. slice_start n offset) count in
    let to = c.max-to.ensures ∙ ap (λ e. max e c.slice_bounds-from.result.0) ((rw back at c.slice_bounds-from.ensures.end) ∙ ap (λ n. slice_end n offset len) count)
    ∙ ap (max (slice_end (length own.rows.slots) offset len)) from in
    let start = c.start_at-start.ensures ∙ ap (λ es. start_of 0 es c.slice_bounds-from.result.0) c.deref.ensures.value in
    let end = c.start_at-end.ensures ∙ ap (λ es. start_of 0 es c.max-to.result) c.deref-2.ensures.value in
    let low = start_low own.rows own.present.items own.ends.items items c.self.invariant offset len _ _ _ _ from to start end in
    let high = end_high own.rows own.present.items own.ends.items items c.self.invariant offset len _ _ _ _ from to start end in
    let fits : FitsSigned w64 (pos c.start_at-start.result) = omega (arith, low, high, c.len-2.ensures.small, c.len-2.ensures.value) in
    let made = rw back at c.in_ok-slice.ensures.ok in
    let flags = c.in_ok-from_slice.ensures.items ∙ ap (between c.slice_bounds-from.result.0 c.max-to.result) c.as_slice.ensures.value in
    let ends = c.in_ok-ends_behind.ensures
    ∙ ap (λ es. map (λ e. e - c.start_at-start.result) (between c.slice_bounds-from.result.0 c.max-to.result es)) c.as_slice-2.ensures.value in
    let inner = rw (to_z-of_z w64 (pos c.start_at-start.result) fits) at c.in_ok-slice-2.ensures.ok in
    sliced_view own.rows own.present.items own.ends.items items c.self.invariant offset len _ _ _ _ from to start end _ _ _ _ made flags ends inner
    ∙ ap (sliced offset len) c.self.view_is

pub nested::array::ArrayChunkedSeriesTrait::slice-invariant_of-result : goal.nested::array::ArrayChunkedSeriesTrait::slice-invariant_of-result
nested::array::ArrayChunkedSeriesTrait::slice-invariant_of-result t c =
    let own = c.self.inside in
    let made = rw (to_z-of_z w64 c.args.offset c.ranges.offset) at c.in_ok-slice.ensures.ok in
    array_sliced own.width own.lists c.args.offset c.args.len _ c.self.invariant made

pub nested::structs::StructChunkedSeriesTrait::slice-overflow_cast-from : goal.nested::structs::StructChunkedSeriesTrait::slice-overflow_cast-from
nested::structs::StructChunkedSeriesTrait::slice-overflow_cast-from t c =
    let own = c.self.inside in
    let frame = map value_of own.fields.items in
    let offset = c.args.offset in
    let len = c.args.len in
    let back = to_z-of_z w64 offset c.ranges.offset in
    let count = c.len.ensures.value in
    let from = (rw back at c.slice_bounds-from.ensures.start) ∙ ap (λ n. slice_start n offset) count in
    let to = c.max-to.ensures ∙ ap (λ e. max e c.slice_bounds-from.result.0) ((rw back at c.slice_bounds-from.ensures.end) ∙ ap (λ n. slice_end n offset len) count)
    ∙ ap (max (slice_end (length own.rows.slots) offset len)) from in
    let low = struct_low own.rows own.present.items frame c.self.invariant offset len _ _ from to in
    let high = struct_high own.rows own.present.items frame c.self.invariant offset len _ _ from to in
    omega (arith, low, high, c.self.invariant.flags, c.len.ensures.small, c.len.ensures.value)

pub nested::structs::StructChunkedSeriesTrait::slice-invariant_of-result : goal.nested::structs::StructChunkedSeriesTrait::slice-invariant_of-result
nested::structs::StructChunkedSeriesTrait::slice-invariant_of-result t c =
    let own = c.self.inside in
    let frame = map value_of own.fields.items in
    let offset = c.args.offset in
    let len = c.args.len in
    let back = to_z-of_z w64 offset c.ranges.offset in
    let count = c.len.ensures.value in
    let from = (rw back at c.slice_bounds-from.ensures.start) ∙ ap (λ n. slice_start n offset) count in
    let to = c.max-to.ensures ∙ ap (λ e. max e c.slice_bounds-from.result.0) ((rw back at c.slice_bounds-from.ensures.end) ∙ ap (λ n. slice_end n offset len) count)
    ∙ ap (max (slice_end (length own.rows.slots) offset len)) from in
    let made = rw back at c.in_ok-slice.ensures.ok in
    let flags = c.in_ok-from_slice.ensures.items ∙ ap (between c.slice_bounds-from.result.0 c.max-to.result) c.as_slice.ensures.value in
    let low = struct_low own.rows own.present.items frame c.self.invariant offset len _ _ from to in
    let high = struct_high own.rows own.present.items frame c.self.invariant offset len _ _ from to in
    let fits : FitsSigned w64 (pos c.slice_bounds-from.result.0) = omega (arith, low, high, c.self.invariant.flags, c.len.ensures.small, c.len.ensures.value) in
    let inner = rw (to_z-of_z w64 (pos c.slice_bounds-from.result.0) fits) at c.in_ok-slice_fields.ensures.ok in
    sliced_struct own.rows own.present.items frame c.self.invariant offset len _ _ from to _ _ _ made flags inner

pub nested::structs::StructChunkedSeriesTrait::slice-returns-clause-ok : goal.nested::structs::StructChunkedSeriesTrait::slice-returns-clause-ok
nested::structs::StructChunkedSeriesTrait::slice-returns-clause-ok t c =
    let own = c.self.inside in
    let frame = map value_of own.fields.items in
    let offset = c.args.offset in
    let len = c.args.len in
    let back = to_z-of_z w64 offset c.ranges.offset in
    let count = c.len.ensures.value in
    let from = (rw back at c.slice_bounds-from.ensures.start) ∙ ap (λ n. slice_start n offset) count in
    let to = c.max-to.ensures ∙ ap (λ e. max e c.slice_bounds-from.result.0) ((rw back at c.slice_bounds-from.ensures.end) ∙ ap (λ n. slice_end n offset len) count)
    ∙ ap (max (slice_end (length own.rows.slots) offset len)) from in
    let made = rw back at c.in_ok-slice.ensures.ok in
    let flags = c.in_ok-from_slice.ensures.items ∙ ap (between c.slice_bounds-from.result.0 c.max-to.result) c.as_slice.ensures.value in
    let low = struct_low own.rows own.present.items frame c.self.invariant offset len _ _ from to in
    let high = struct_high own.rows own.present.items frame c.self.invariant offset len _ _ from to in
    let fits : FitsSigned w64 (pos c.slice_bounds-from.result.0) = omega (arith, low, high, c.self.invariant.flags, c.len.ensures.small, c.len.ensures.value) in
    let inner = rw (to_z-of_z w64 (pos c.slice_bounds-from.result.0) fits) at c.in_ok-slice_fields.ensures.ok in
    struct_sliced_view own.rows own.present.items frame c.self.invariant offset len _ _ from to _ _ _ made flags inner ∙ ap (sliced offset len) c.self.view_is
