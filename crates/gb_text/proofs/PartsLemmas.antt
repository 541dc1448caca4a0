-- The parts of a text between cuts, whose columns are joined one part after another.
use Rattle.std.proofs.Common.{◌≡◌, ℕ, suc, ◌+◌, ◌-◌, ◌<◌, ◌≤◌, List, [], ◌∷◌, length, map, drop, slice_index, slice_index_or, refl, ap, arith, Option, Some, None, Result, Ok, Err, All, IfSome, Vec}
use Rattle.std.proofs.lemmas.List.{length-drop}
use Rattle.csv.specs.Records.{fields_of}
use Rattle.gb_text.specs.Asked.{names_in}
use Rattle.gb_text.specs.Building.{Building, in_one_chunk}
use Rattle.gb_text.specs.Part.{AreCuts, HasFew, HasPart, IsHeaderRefused, IsWith, ReadsPart, emptied, last_cut}
use Rattle.gb_text.specs.declared.status.TableError.{TableError}
use Rattle.gb_text.specs.declared.table.lines.Lines.{Lines}
use Rattle.gb_text.proofs.LinesLemmas.{few_back, part_alike, part_few, part_join}

module _ {A : Type 0} (l : Lines) (cuts : List ℕ) where
  -- the columns of the first parts, so many
  abbrev pub HasFront : ℕ → Option (Vec Building A) → Type 0
  HasFront i None = i ≡ 0
  HasFront i (Some before) = HasPart l (slice_index cuts 0) (slice_index cuts i) before.items

  -- these parts are still to be joined
  pub record IsSoFar (all : Option (Vec Building A)) (rest : List (Result (Option (Vec Building A)) TableError)) : Type 0 where
    pub i : ℕ
    pub count : i + length rest + 1 ≡ length cuts
    pub each : (k : ℕ) (d : Result (Option (Vec Building A)) TableError) → k < length rest → ReadsPart l cuts (i + k) (slice_index_or rest k d)
    pub front : HasFront i all

  pub so_far_none : (parts : List (Result (Option (Vec Building A)) TableError)) → length parts + 1 ≡ length cuts
      → ((k : ℕ) (d : Result (Option (Vec Building A)) TableError) → k < length parts → ReadsPart l cuts k (slice_index_or parts k d)) → IsSoFar None parts
  so_far_none parts long each = record {
    i = 0;
    count = omega (arith, long);
    each = λ k d lt. let same : 0 + k ≡ k = omega arith in rw same (each k d lt);
    front = refl;
  }

  module _ (all : Option (Vec Building A)) (part : Result (Option (Vec Building A)) TableError) (rest : List (Result (Option (Vec Building A)) TableError)) (s : IsSoFar all (part ∷ rest)) where
    here : ReadsPart l cuts s.i part
    here = let same : s.i + 0 ≡ s.i = omega arith in rw same at (s.each 0 part (omega arith))

    pub part_refused : (e : TableError) → part ≡ Err e → IsHeaderRefused l e
    part_refused e is = rw is at here.err

    module _ (columns : Vec Building A) (is : part ≡ Ok (Some columns)) where
      own : HasPart l (slice_index cuts s.i) (slice_index cuts (s.i + 1)) columns.items
      own = rw is at here.ok

      module _ (few : length l.text.now ≤ 4294967295) where
        few_in : (from to : ℕ) (columns : List Building) → HasPart l from to columns → All HasFew columns
        few_in from to columns p =
            few_back columns (part_few (names_in l.names.now) l.null_word.now (fields_of l.header.now) (drop from l.text.now) (drop to l.text.now) (map in_one_chunk columns) p
            (omega (arith, few, length-drop from l.text.now)))

        pub columns_few : All HasFew columns.items
        columns_few = few_in (slice_index cuts s.i) (slice_index cuts (s.i + 1)) columns.items own

        pub before_few : IfSome all (λ before. All HasFew before.items)
        before_few = of all s.front
          where
            of : (o : Option (Vec Building A)) → HasFront s.i o → IfSome o (λ before. All HasFew before.items)
            of None none = tt
            of (Some before) p = few_in (slice_index cuts 0) (slice_index cuts s.i) before.items p

      pub before_alike : IfSome all (λ before. map emptied before.items ≡ map emptied columns.items)
      before_alike = of all s.front
        where
          of : (o : Option (Vec Building A)) → HasFront s.i o → IfSome o (λ before. map emptied before.items ≡ map emptied columns.items)
          of None none = tt
          of (Some before) p =
              part_alike (names_in l.names.now) l.null_word.now (fields_of l.header.now) (drop (slice_index cuts 0) l.text.now) (drop (slice_index cuts s.i) l.text.now) (drop (slice_index cuts (s.i + 1)) l.text.now)
              before.items columns.items p own

      joined_front : (o : Option (Vec Building A)) (new : List Building) → HasFront s.i o → IsWith o columns.items new → HasPart l (slice_index cuts 0) (slice_index cuts (s.i + 1)) new
      joined_front None new none e =
          let first = rw none at own in
          let next : s.i + 1 ≡ 0 + 1 = ap (λ n. n + 1) none in
          rw (e, next) first
      joined_front (Some before) new p e =
          part_join (names_in l.names.now) l.null_word.now (fields_of l.header.now) (drop (slice_index cuts 0) l.text.now) (drop (slice_index cuts s.i) l.text.now) (drop (slice_index cuts (s.i + 1)) l.text.now)
          before.items columns.items p own new e

      pub so_far_more : (new : Vec Building A) → IsWith all columns.items new.items → IsSoFar (Some new) rest
      so_far_more new e = record {
        i = s.i + 1;
        count = omega (arith, s.count);
        each = λ k d lt.
            let next : s.i + 1 + k ≡ s.i + suc k = omega arith in
            rw next (s.each (suc k) d (omega (arith, lt)));
        front = joined_front all new.items s.front e;
      }

  pub so_far_all : (all : Option (Vec Building A)) → IsSoFar all [] → AreCuts (length l.text.now) cuts → IfSome all (λ columns. HasPart l 0 (last_cut cuts) columns.items)
  so_far_all None s c = tt
  so_far_all (Some columns) s c =
      let last : s.i ≡ length cuts - 1 = omega (arith, s.count) in
      rw (c.front, last) at s.front
