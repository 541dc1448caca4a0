-- Lines of a part of a text in the columns of a header: one line more, and parts that are joined.
use Rattle.std.proofs.Common.{◌≡◌, ◌≢◌, ℕ, ◌+◌, ◌-◌, ◌<◌, ◌≤◌, suc, ◌⊎◌, Bool, inl, inr, List, [], ◌∷◌, ◌++◌, append_assoc, length, map, get_or, set, take, drop, refl, sym, ◌∙◌, ap, arith, Ok, All}
use Rattle.std.proofs.lemmas.Bool.{cases_lt}
use Rattle.std.proofs.lemmas.List.{append-nil, drop_all, drop_more, drop-set-lt, length-drop, length-map, map-append, take_all, take_more_set}
use Rattle.std.proofs.lemmas.List.Elements.{All-from_recursion}
use Rattle.csv.specs.declared.parser.Config.{Config}
use Rattle.csv.specs.declared.parser.State.{State}
use Rattle.csv.specs.declared.parser.State.TheVariants as st
use Rattle.csv.specs.Machine.{next_record}
use Rattle.csv.specs.Reading.{Reached, default_config}
use Rattle.csv.proofs.ReadFacts.{reached-more}
use Rattle.gb_defs.specs.Column.{fresh_column}
use Rattle.gb_defs.specs.Slot.{Slot, slot_at}
use Rattle.gb_defs.specs.Table.{Head, heads_of, onto, record_slots, row_onto, rows_from, slots_of_column}
use Rattle.gb_text.specs.Asked.{is_asked}
use Rattle.gb_text.specs.Building.{Building, IsRoomy, in_one_chunk, kept_slot}
use Rattle.gb_text.specs.Part.{HasFew, IsPart, emptied, joined, joined_to}
use Rattle.gb_text.specs.Plain.{GoesOn, IsBehind, TakesLine}
use Rattle.gb_text.specs.Table.{built_from, built_of, columns_of_header, head_in, taken_each}
use Rattle.gb_text.proofs.BuiltLemmas.{all_back, one_built}
use Rattle.gb_text.proofs.PlainLemmas.{begins, blank, goes_here, goes_same}
use Rattle.gb_text.proofs.ReadingLemmas.{ok_parts}
use Rattle.gb_text.proofs.RecordLemmas.{records_few}
use Rattle.gb_text.proofs.TableLemmas.{columns_more, few_columns, heads_in_built, record_length, roomy_columns, row_parts, rows_length, rows_more, slots_any}

-- ---- where a text goes on

-- what stands behind some bytes is known by its length
pub behind_at : (text left : List ℕ) (to : ℕ) → IsBehind text left → to ≤ length text → length left ≡ length text - to → left ≡ drop to text
behind_at text left to b within long =
    let long_drop : length left ≡ length text - b.count = ap length b.is ∙ length-drop b.count text in
    elim (cases_lt (length text) b.count) [
      | inl past ↦
          let end : to ≡ length text = omega (arith, past, within, long, long_drop) in
          b.is ∙ drop_all b.count text (omega (arith, past)) ∙ sym (drop_all to text (omega (arith, end)))
      | inr few ↦ let same : b.count ≡ to = omega (arith, few, within, long, long_drop) in b.is ∙ ap (λ n. drop n text) same
    ]

-- ---- columns and their chunks

pub few_back : (bs : List Building) → All HasFew (map in_one_chunk bs) → All HasFew bs
few_back bs h = all_back HasFew (λ b few. few) bs h

emptied_built : (asked : List ℕ → Bool) (k : ℕ) (heads : List Head) (rows : List (List Slot)) → map emptied (built_from asked k heads rows) ≡ built_from asked k heads []
emptied_built asked k [] rows = refl
emptied_built asked k (head ∷ heads) rows = ap (λ bs. built_of (asked head.name) head [] ∷ bs) (emptied_built asked (suc k) heads rows)

emptied_one : (bs : List Building) → map emptied (map in_one_chunk bs) ≡ map emptied bs
emptied_one [] = refl
emptied_one (b ∷ bs) = ap (λ es. emptied b ∷ es) (emptied_one bs)

-- ---- columns that are joined

pub joined_one : (bs ds : List Building) → map in_one_chunk (joined bs ds) ≡ map in_one_chunk (joined (map in_one_chunk bs) (map in_one_chunk ds))
joined_one [] ds = refl
joined_one (b ∷ bs) [] = refl
joined_one (b ∷ bs) (d ∷ ds) = ap (λ cs. in_one_chunk (joined_to b d) ∷ cs) (joined_one bs ds)

column_join : (keeps : Bool) (k : ℕ) (head : Head) (rows more : List (List Slot))
    → in_one_chunk (joined_to (built_of keeps head (slots_of_column k rows)) (built_of keeps head (slots_of_column k more))) ≡ built_of keeps head (slots_of_column k (rows ++ more))
column_join keeps k head rows more =
    let front = slots_of_column k rows in
    let back = slots_of_column k more in
    let same : map (kept_slot keeps) front ++ map (kept_slot keeps) back ≡ map (kept_slot keeps) (slots_of_column k (rows ++ more)) =
    sym (map-append (kept_slot keeps) front back) ∙ ap (map (kept_slot keeps)) (sym (map-append (λ row. slot_at row k) rows more)) in
    ap (λ slots. record { keeps = keeps; column = fresh_column head.name head.dtype slots }) same

columns_join : (asked : List ℕ → Bool) (k : ℕ) (heads : List Head) (rows more : List (List Slot))
    → map in_one_chunk (joined (built_from asked k heads rows) (built_from asked k heads more)) ≡ built_from asked k heads (rows ++ more)
columns_join asked k [] rows more = refl
columns_join asked k (head ∷ heads) rows more = rw (column_join (asked head.name) k head rows more, columns_join asked (suc k) heads rows more) refl

-- ---- records in turn

pub reached_join : (cfg : Config) (s t u : State) (xs ys zs : List ℕ) (rows more : List (List (List ℕ))) → Reached cfg s xs rows t ys → Reached cfg t ys more u zs → Reached cfg s xs (rows ++ more) u zs
unfolding Reached
reached_join cfg s t u xs ys zs [] more r q = rw (r.0, r.1) q
reached_join cfg s t u xs ys zs (row ∷ rows) more r q = (r.0, r.1, r.2, reached_join cfg r.0.1 t u r.0.2 ys zs rows more r.3 q)

-- records that go on where others have ended, in whatever state
pub record ReachesBoth (xs : List ℕ) (rows : List (List (List ℕ))) (rest : List ℕ) : Type 0 where
  pub state : State
  pub left : List ℕ
  pub reached : Reached default_config st.StartRecord xs rows state left
  pub goes_on : GoesOn state left rest

module _ (xs mid rest : List ℕ) (rows : List (List (List ℕ))) (s t : State) (ys zs : List ℕ) (r : Reached default_config st.StartRecord xs rows s ys) (first : GoesOn s ys mid) where
  pub reached_both : (more : List (List (List ℕ))) → Reached default_config st.StartRecord mid more t zs → GoesOn t zs rest → ReachesBoth xs (rows ++ more) rest
  unfolding Reached
  reached_both [] q second = record {
    state = s;
    left = ys;
    reached = rw (append-nil rows) r;
    goes_on = record {
      always = λ m. first.always m ∙ (let same = second.always m in rw (← q.0, ← q.1) at same);
      some = λ h. first.some (let k = second.some h in rw (← q.1) at k);
    };
  }
  reached_both (row ∷ more) q second =
      let here : Reached default_config s ys (row ∷ more) t zs = (q.0, goes_same s ys mid first ∙ q.1, q.2, q.3) in
      record { state = t; left = zs; reached = reached_join default_config st.StartRecord s t xs ys zs rows (row ∷ more) r here; goes_on = second }

rows_join : (null_word : List ℕ) (heads : List Head) (row : ℕ) (rows more : List (List (List ℕ))) (ahead behind : List (List Slot)) → rows_from null_word row heads rows ≡ Ok ahead
    → ((n : ℕ) → rows_from null_word n heads more ≡ Ok behind) → rows_from null_word row heads (rows ++ more) ≡ Ok (ahead ++ behind)
rows_join null_word heads row [] more ahead behind e h = let none : ahead ≡ [] = cc in rw none (h row)
rows_join null_word heads row (first ∷ rows) more ahead behind e h =
    let p = row_parts (record_slots null_word row heads first) (rows_from null_word (suc row) heads rows) ahead e in
    let rest = rows_join null_word heads (suc row) rows more p.1 behind p.3 h in
    ap (λ r. row_onto r (rows_from null_word (suc row) heads (rows ++ more))) p.2 ∙ ap (onto p.0) rest ∙ ap (λ xs. Ok (xs ++ behind)) (sym p.4)

-- ---- parts

module _ (names : List (List ℕ)) (null_word : List ℕ) (header : List (List ℕ)) where
  pub part_start : (text : List ℕ) (columns : List Building) → columns_of_header (is_asked names) header ≡ Ok columns → IsPart names null_word header text text columns
  unfolding Reached
  part_start text columns e =
      let p = ok_parts (λ heads. built_from (is_asked names) 0 heads []) (heads_of header) columns e in
      record { heads = p.0; rows = []; slots = []; state = st.StartRecord; left = text; heads_are = p.1; reached = (refl, refl); goes_on = goes_here text; slots_are = λ row. refl; columns_are = p.2 }

  module _ (text mid : List ℕ) (columns : List Building) (now : IsPart names null_word header text mid columns) where
    pub part_more : (next : List Building) (rest : List ℕ) → 0 < length mid → get_or mid 0 0 ≢ 10 → get_or mid 0 0 ≢ 13 → TakesLine null_word columns next mid rest
        → IsPart names null_word header text rest next
    part_more next rest some feed return t =
        let heads = ap (map head_in) now.columns_are ∙ heads_in_built (is_asked names) 0 now.heads now.slots in
        let p = ok_parts (taken_each columns) (record_slots null_word 0 (map head_in columns) t.fields) next (t.takes 0) in
        let here : record_slots null_word 0 now.heads t.fields ≡ Ok p.0 = ap (λ hs. record_slots null_word 0 hs t.fields) (sym heads) ∙ p.1 in
        record {
          heads = now.heads;
          rows = now.rows ++ t.fields ∷ [];
          slots = now.slots ++ p.0 ∷ [];
          state = t.begins.state;
          left = t.begins.left;
          heads_are = now.heads_are;
          reached = reached-more default_config st.StartRecord now.state text now.left now.rows (t.fields, t.begins.state, t.begins.left) now.reached (goes_same now.state now.left mid now.goes_on ∙ begins mid some feed return ∙ t.begins.reads);
          goes_on = t.begins.goes_on;
          slots_are = λ row. rows_more null_word now.heads row now.rows t.fields now.slots p.0 (now.slots_are row) (slots_any null_word 0 (length now.rows + row) now.heads t.fields p.0 here);
          columns_are = p.2 ∙ ap (λ cs. taken_each cs p.0) now.columns_are
              ∙ columns_more (is_asked names) 0 now.heads now.slots [] p.0 refl (record_length null_word 0 now.heads t.fields p.0 here);
        }

    -- a line end where a record would begin is passed over
    pub part_blank : 0 < length mid → (get_or mid 0 0 ≡ 10) ⊎ (get_or mid 0 0 ≡ 13) → IsPart names null_word header text (drop 1 mid) columns
    part_blank some which = record {
      heads = now.heads;
      rows = now.rows;
      slots = now.slots;
      state = now.state;
      left = now.left;
      heads_are = now.heads_are;
      reached = now.reached;
      goes_on = record {
        always = λ more.
            now.goes_on.always more ∙ ap (λ xs. next_record default_config st.StartRecord [] [] (xs ++ more)) (drop_more mid 0 0 some)
            ∙ blank (get_or mid 0 0) (drop 1 mid ++ more) which;
        some = λ _. now.goes_on.some some;
      };
      slots_are = now.slots_are;
      columns_are = now.columns_are;
    }

    few_rows : length now.slots ≤ length text
    few_rows =
        omega (arith, records_few default_config st.StartRecord text now.rows now.state now.left now.reached, rows_length null_word now.heads 1 now.rows now.slots (now.slots_are 1))

    pub part_roomy : length text ≤ 4294967295 → All IsRoomy columns
    part_roomy h = rw now.columns_are (All-from_recursion IsRoomy _ (roomy_columns (is_asked names) 0 now.heads now.slots (omega (arith, few_rows, h))))

    pub part_few : length text ≤ 4294967295 → All HasFew columns
    part_few h = rw now.columns_are (All-from_recursion HasFew _ (few_columns (is_asked names) 0 now.heads now.slots (omega (arith, few_rows, h))))

    pub part_one : IsPart names null_word header text mid (map in_one_chunk columns)
    part_one = record {
      heads = now.heads;
      rows = now.rows;
      slots = now.slots;
      state = now.state;
      left = now.left;
      heads_are = now.heads_are;
      reached = now.reached;
      goes_on = now.goes_on;
      slots_are = now.slots_are;
      columns_are = ap (map in_one_chunk) now.columns_are ∙ one_built (is_asked names) 0 now.heads now.slots;
    }

  same_heads : (heads other : List Head) → heads_of header ≡ Ok heads → heads_of header ≡ Ok other → heads ≡ other
  same_heads heads other e f = cc

  module _ (text mid rest : List ℕ) (columns others : List Building) (p : IsPart names null_word header text mid (map in_one_chunk columns)) (q : IsPart names null_word header mid rest (map in_one_chunk others)) where
    built_other : map in_one_chunk others ≡ built_from (is_asked names) 0 p.heads q.slots
    built_other = q.columns_are ∙ ap (λ heads. built_from (is_asked names) 0 heads q.slots) (same_heads q.heads p.heads q.heads_are p.heads_are)

    pub part_alike : map emptied columns ≡ map emptied others
    part_alike =
        sym (emptied_one columns) ∙ ap (map emptied) p.columns_are ∙ emptied_built (is_asked names) 0 p.heads p.slots
        ∙ sym (emptied_built (is_asked names) 0 p.heads q.slots) ∙ ap (map emptied) (sym built_other) ∙ emptied_one others

    both : ReachesBoth text (p.rows ++ q.rows) rest
    both = reached_both text mid rest p.rows p.state q.state p.left q.left p.reached p.goes_on q.rows q.reached q.goes_on

    pub part_join : (all : List Building) → map in_one_chunk all ≡ map in_one_chunk (joined columns others) → IsPart names null_word header text rest (map in_one_chunk all)
    part_join all e = record {
      heads = p.heads;
      rows = p.rows ++ q.rows;
      slots = p.slots ++ q.slots;
      state = both.state;
      left = both.left;
      heads_are = p.heads_are;
      reached = both.reached;
      goes_on = both.goes_on;
      slots_are = λ row. rows_join null_word p.heads row p.rows q.rows p.slots q.slots (p.slots_are row)
          (λ n. ap (λ heads. rows_from null_word n heads q.rows) (same_heads p.heads q.heads p.heads_are q.heads_are) ∙ q.slots_are n);
      columns_are = e ∙ joined_one columns others ∙ ap (λ bs. map in_one_chunk (joined bs (map in_one_chunk others))) p.columns_are
          ∙ ap (λ bs. map in_one_chunk (joined (built_from (is_asked names) 0 p.heads p.slots) bs)) built_other ∙ columns_join (is_asked names) 0 p.heads p.slots q.slots;
    }

-- ---- one column after the other

module _ (initial others : List Building) where
  -- the columns before the i-th have the others' slots behind, and the rest waits
  pub record IsJoining (i : ℕ) (now rest : List Building) : Type 0 where
    pub so_far : map in_one_chunk (joined initial others) ≡ map in_one_chunk (take i now) ++ map in_one_chunk (joined (drop i now) rest)
    pub same : map emptied (drop i now) ≡ map emptied rest

  pub joining_none : map emptied initial ≡ map emptied others → IsJoining 0 initial others
  joining_none e = record { so_far = refl; same = e }

  module _ (i : ℕ) (now rest : List Building) (s : IsJoining i now rest) where
    first_parts : (b d : Building) (bs ds : List Building) → b ∷ bs ≡ d ∷ ds → (b ≡ d) × (bs ≡ ds)
    first_parts b d bs ds e = (cc, cc)

    module _ (b d : Building) (more : List Building) (is : rest ≡ d ∷ more) (lt : i < length now) (at : b ≡ get_or now i b) where
      here : drop i now ≡ b ∷ drop (i + 1) now
      here = drop_more now i b lt ∙ ap (λ x. x ∷ drop (i + 1) now) (sym at)

      alike_here : (emptied b ≡ emptied d) × (map emptied (drop (i + 1) now) ≡ map emptied more)
      alike_here =
          let e = rw (here, is) at s.same in
          first_parts (emptied b) (emptied d) (map emptied (drop (i + 1) now)) (map emptied more) e

      pub joining_alike : emptied b ≡ emptied d
      joining_alike = alike_here.0

      pub joining_more : (new : Building) → in_one_chunk new ≡ in_one_chunk (joined_to b d) → IsJoining (i + 1) (set now i new) more
      joining_more new e =
          let so_far = rw (here, is) at s.so_far in
          record {
            so_far = rw (take_more_set now i new lt, drop-set-lt (i + 1) now i new (omega arith), map-append in_one_chunk (take i now) (new ∷ []), e)
                (so_far ∙ sym (append_assoc (map in_one_chunk (take i now)) (in_one_chunk (joined_to b d) ∷ []) (map in_one_chunk (joined (drop (i + 1) now) more))));
            same = rw (drop-set-lt (i + 1) now i new (omega arith)) alike_here.1;
          }

    pub joining_short : i < length now → length rest ≡ 0 → ⊥
    joining_short lt none =
        let long : length (map emptied (drop i now)) ≡ length (map emptied rest) = ap length s.same in
        omega (arith, lt, none, long, length-map (drop i now) emptied, length-map rest emptied, length-drop i now)

    pub joining_all : length now ≤ i → map in_one_chunk now ≡ map in_one_chunk (joined initial others)
    joining_all few = sym (s.so_far ∙ (rw (drop_all i now few, take_all i now few, append-nil) refl))
