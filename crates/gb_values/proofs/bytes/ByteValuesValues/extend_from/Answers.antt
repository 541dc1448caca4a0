use Rattle.std.proofs.Common.{◌≡◌, ◌≤◌, ◌<◌, ◌+◌, ◌-◌, ◌++◌, ℕ, List, take, drop, map, length, ◌∙◌, sym, ap, arith}
use Rattle.std.proofs.lemmas.List.{drop-map, length-map, map-append, take-map}
use Rattle.gb_defs.specs.ColumnType.{FlatType, FitsBytes}
use Rattle.gb_defs.specs.Slot.{Slot, Bytes}
use Rattle.gb_values.specs.Array.{ArePieces, pieces_from, start_of}
use Rattle.gb_values.proofs.ExtendLemmas.{all_extended, ends_fit, extended_length, extended_pieces, extended_rises, from_below, shifted, to_inside}
use Rattle.gb_values.proofs.PieceLemmas.{pieces_length}
use Rattle.gb_values.proofs.bytes.ByteValuesValues.extend_from.Goals as goal

abbrev slot_of : List ℕ → Slot
slot_of piece = Bytes piece

inside : (bytes ends : List ℕ) (texts : List (List ℕ)) (n : ℕ) → pieces_from 0 ends bytes ≡ texts → n ≤ length (map (λ piece. Bytes piece) texts) → n ≤ length ends
inside bytes ends texts n view le = omega (arith, ap length view, pieces_length 0 ends bytes, length-map texts (λ piece. Bytes piece), le)

-- the bytes and the ends with some of the other's
module _ {t : FlatType} (bytes ends others theirs new_bytes new_ends : List ℕ) (start count from to : ℕ) (own : ArePieces t bytes ends) (their : ArePieces t others theirs) (le : start + count ≤ length theirs) (from_is : from ≡ start_of 0 theirs start) (to_is : to ≡ start_of 0 theirs (start + count)) (grown : new_bytes ≡ bytes ++ take (to - from) (drop from others)) (shift : new_ends ≡ ends ++ shifted (length bytes) from (take count (drop start theirs))) where
  view : pieces_from 0 new_ends new_bytes ≡ pieces_from 0 ends bytes ++ take count (drop start (pieces_from 0 theirs others))
  view = rw (grown, shift, from_is, to_is) (extended_pieces bytes ends others theirs start count own.rises their.rises le)

  are : ArePieces t new_bytes new_ends
  are = record {
    rises = rw (grown, shift, from_is, to_is) (extended_rises bytes ends others theirs start count own.rises their.rises le);
    fitting = rw view (all_extended (FitsBytes t) (pieces_from 0 ends bytes) (pieces_from 0 theirs others) start count own.fitting their.fitting);
  }

pub start_at-from-requires : goal.start_at-from-requires
start_at-from-requires g c = omega (arith, inside c.other.inside.bytes.items c.other.inside.ends.items _ _ c.other.view_is c.requires)

pub overflow_add-start : goal.overflow_add-start
overflow_add-start g c = omega (arith, inside c.other.inside.bytes.items c.other.inside.ends.items _ _ c.other.view_is c.requires, c.other.inside.ends.ok.0)

pub start_at-to-requires : goal.start_at-to-requires
start_at-to-requires g c = inside c.other.inside.bytes.items c.other.inside.ends.items _ _ c.other.view_is c.requires

pub slice_bounds-extend_from_slice-count : goal.slice_bounds-extend_from_slice-count
slice_bounds-extend_from_slice-count g c =
    let le = inside c.other.inside.bytes.items c.other.inside.ends.items _ _ c.other.view_is c.requires in
    rw (c.start_at-from.ensures, c.start_at-to.ensures)
    (from_below c.self.inside.bytes.items c.self.inside.ends.items c.other.inside.bytes.items c.other.inside.ends.items c.args.start c.args.count c.self.invariant.rises c.other.invariant.rises le)

pub slice_bounds-extend_from_slice-start : goal.slice_bounds-extend_from_slice-start
slice_bounds-extend_from_slice-start g c =
    let le = inside c.other.inside.bytes.items c.other.inside.ends.items _ _ c.other.view_is c.requires in
    omega
    (arith, c.start_at-from.ensures, c.start_at-to.ensures, ap length c.as_slice.ensures.value, from_below c.self.inside.bytes.items c.self.inside.ends.items c.other.inside.bytes.items c.other.inside.ends.items c.args.start c.args.count c.self.invariant.rises c.other.invariant.rises le, to_inside c.self.inside.bytes.items c.self.inside.ends.items c.other.inside.bytes.items c.other.inside.ends.items c.args.start c.args.count c.self.invariant.rises c.other.invariant.rises le)

pub slice_bounds-extend_from_slice-end : goal.slice_bounds-extend_from_slice-end
slice_bounds-extend_from_slice-end g c =
    let le = inside c.other.inside.bytes.items c.other.inside.ends.items _ _ c.other.view_is c.requires in
    omega
    (arith, c.start_at-from.ensures, c.start_at-to.ensures, ap length c.as_slice.ensures.value, from_below c.self.inside.bytes.items c.self.inside.ends.items c.other.inside.bytes.items c.other.inside.ends.items c.args.start c.args.count c.self.invariant.rises c.other.invariant.rises le, to_inside c.self.inside.bytes.items c.self.inside.ends.items c.other.inside.bytes.items c.other.inside.ends.items c.args.start c.args.count c.self.invariant.rises c.other.invariant.rises le)

pub overflow_add-more : goal.overflow_add-more
overflow_add-more g c = omega (arith, inside c.other.inside.bytes.items c.other.inside.ends.items _ _ c.other.view_is c.requires, c.other.inside.ends.ok.0)

pub offset_bounds-as_slice-start : goal.offset_bounds-as_slice-start
offset_bounds-as_slice-start g c =
    omega (arith, inside c.other.inside.bytes.items c.other.inside.ends.items _ _ c.other.view_is c.requires, c.other.inside.ends.ok.0, c.other.inside.ends.small)

pub slice_bounds-more-end : goal.slice_bounds-more-end
slice_bounds-more-end g c =
    omega (arith, inside c.other.inside.bytes.items c.other.inside.ends.items _ _ c.other.view_is c.requires, ap length c.as_slice-2.ensures.value)

pub push_shifted-requires-clause-fits : goal.push_shifted-requires-clause-fits
push_shifted-requires-clause-fits g c =
    let bytes = c.self.inside.bytes.items in
    let ends = c.self.inside.ends.items in
    let others = c.other.inside.bytes.items in
    let theirs = c.other.inside.ends.items in
    let start = c.args.start in
    let count = c.args.count in
    let le = inside others theirs _ _ c.other.view_is c.requires in
    let few : (start + count) - start ≡ count = omega arith in
    let base = c.len-base.ensures ∙ c.self.inside.bytes.ok.0 in
    let grown = c.in_ok-extend_from_slice.ensures.items ∙ ap (λ bs. bytes ++ take (c.start_at-to.result - c.start_at-from.result) (drop c.start_at-from.result bs)) c.as_slice.ensures.value
    ∙ ap (λ n. bytes ++ take (c.start_at-to.result - n) (drop n others)) c.start_at-from.ensures
    ∙ ap (λ n. bytes ++ take (n - start_of 0 theirs start) (drop (start_of 0 theirs start) others)) c.start_at-to.ensures in
    let long = extended_length bytes ends others theirs start count c.self.invariant.rises c.other.invariant.rises le in
    let below : length bytes + (start_of 0 theirs (start + count) - start_of 0 theirs start) < 18446744073709551616 =
    omega (arith, ap length grown, long, c.extend_from_slice.new.self.ok.0, c.extend_from_slice.new.self.small) in
    rw (c.as_slice-2.ensures.value, few, c.start_at-from.ensures, base)
    (ends_fit bytes ends others theirs start count c.self.invariant.rises c.other.invariant.rises le 18446744073709551616 below)

pub invariant_of-self-2 : goal.invariant_of-self-2
invariant_of-self-2 g c =
    let bytes = c.self.inside.bytes.items in
    let ends = c.self.inside.ends.items in
    let others = c.other.inside.bytes.items in
    let theirs = c.other.inside.ends.items in
    let start = c.args.start in
    let count = c.args.count in
    let from = c.start_at-from.result in
    let to = c.start_at-to.result in
    let le = inside others theirs _ _ c.other.view_is c.requires in
    let few : (start + count) - start ≡ count = omega arith in
    let base = c.len-base.ensures ∙ c.self.inside.bytes.ok.0 in
    let grown = c.in_ok-extend_from_slice.ensures.items ∙ ap (λ bs. bytes ++ take (to - from) (drop from bs)) c.as_slice.ensures.value in
    let shift = c.push_shifted.ensures
    ∙ ap (λ es. es ++ shifted c.len-base.result from (take ((start + count) - start) (drop start c.as_slice-2.result.now))) c.in_ok-reserve.ensures.items
    ∙ ap (λ ts. ends ++ shifted c.len-base.result from (take ((start + count) - start) (drop start ts))) c.as_slice-2.ensures.value
    ∙ ap (λ n. ends ++ shifted c.len-base.result from (take n (drop start theirs))) few
    ∙ ap (λ n. ends ++ shifted n from (take count (drop start theirs))) base in
    are bytes ends others theirs _ _ start count from to c.self.invariant c.other.invariant le c.start_at-from.ensures c.start_at-to.ensures grown shift

pub returns-clause-ok : goal.returns-clause-ok
returns-clause-ok g c =
    let bytes = c.self.inside.bytes.items in
    let ends = c.self.inside.ends.items in
    let others = c.other.inside.bytes.items in
    let theirs = c.other.inside.ends.items in
    let start = c.args.start in
    let count = c.args.count in
    let from = c.start_at-from.result in
    let to = c.start_at-to.result in
    let own = c.args.self.now in
    let other = c.args.other.now in
    let le = inside others theirs _ _ c.other.view_is c.requires in
    let few : (start + count) - start ≡ count = omega arith in
    let base = c.len-base.ensures ∙ c.self.inside.bytes.ok.0 in
    let grown = c.in_ok-extend_from_slice.ensures.items ∙ ap (λ bs. bytes ++ take (to - from) (drop from bs)) c.as_slice.ensures.value in
    let shift = c.push_shifted.ensures
    ∙ ap (λ es. es ++ shifted c.len-base.result from (take ((start + count) - start) (drop start c.as_slice-2.result.now))) c.in_ok-reserve.ensures.items
    ∙ ap (λ ts. ends ++ shifted c.len-base.result from (take ((start + count) - start) (drop start ts))) c.as_slice-2.ensures.value
    ∙ ap (λ n. ends ++ shifted c.len-base.result from (take n (drop start theirs))) few
    ∙ ap (λ n. ends ++ shifted n from (take count (drop start theirs))) base in
    let pieces = view bytes ends others theirs _ _ start count from to c.self.invariant c.other.invariant le c.start_at-from.ensures c.start_at-to.ensures grown shift
    ∙ ap (λ ps. ps ++ take count (drop start (pieces_from 0 theirs others))) c.self.view_is ∙ ap (λ ps. own ++ take count (drop start ps)) c.other.view_is in
    ap (map slot_of) pieces ∙ map-append slot_of own (take count (drop start other))
    ∙ ap (λ ss. map slot_of own ++ ss) (sym (take-map slot_of count (drop start other)) ∙ ap (take count) (sym (drop-map slot_of start other)))
