-- Lists of rows, one more, and the slots there.
use Rattle.std.proofs.Common.{◌≡◌, ◌∙◌, ℕ, suc, ◌<◌, ◌++◌, ◌∷◌, [], All, List, ap, arith, length, map, refl, subst, sym}
use Rattle.std.specs.List.{flat_map}
use Rattle.std.proofs.lemmas.Grind.{flat_map-append}
use Rattle.std.proofs.lemmas.List.{append-nil}
use Rattle.std.proofs.lemmas.List.Elements.{All-append}
use Rattle.std.proofs.lemmas.Simd.{map-map}
use Rattle.gb_defs.specs.Column.{ColumnValue, fresh_column, taken}
use Rattle.gb_defs.specs.ColumnType.{ColumnType, ListOf, uint32}
use Rattle.gb_defs.specs.Fold.{Groups, Implode, fold_of, fold_picked, number_slot}
use Rattle.gb_defs.specs.Groups.{AreMembers, HasRowNumbers}
use Rattle.gb_defs.specs.Slot.{Slot, slot_at}
use Rattle.gb_values.specs.Array.{Rises}
use Rattle.gb_series.specs.Rows.{list_slot, lists_of, pieces_to}
use Rattle.gb_series.proofs.PieceLemmas.{piece_pushed, pieces_mapped, rises_pushed}
use Rattle.gb_agg.specs.Folds.{fold_column, folded, list_of_rows}
use Rattle.gb_agg.specs.Lists.{AreListed, HaveNumbers}

pub listed_none : AreListed [] [] []
listed_none = record { joined = refl; rises = refl; pieces = refl }

pub listed_more : (lists lists' : List (List ℕ)) (more rows rows' ends ends' : List ℕ) → AreListed lists rows ends → lists' ≡ lists ++ more ∷ [] → rows' ≡ rows ++ more → ends' ≡ ends ++ length rows' ∷ []
    → AreListed lists' rows' ends'
listed_more lists lists' more rows rows' ends ends' are longer row_more end_more =
    let last : ends' ≡ ends ++ length (rows ++ more) ∷ [] = end_more ∙ ap (λ (rs : List ℕ). ends ++ length rs ∷ []) row_more in
    record {
      joined =
          row_more ∙ ap (λ rs. rs ++ more) are.joined ∙ ap (λ rs. flat_map (λ list. list) lists ++ rs) (sym (append-nil more))
          ∙ sym (ap (flat_map (λ list. list)) longer ∙ flat_map-append (λ list. list) lists (more ∷ []));
      rises =
          subst (λ (rs : List ℕ). Rises 0 ends' (length rs)) (sym row_more)
          (subst (λ (es : List ℕ). Rises 0 es (length (rows ++ more))) (sym last) (rises_pushed ends rows more are.rises));
      pieces =
          ap (λ es. pieces_to 0 es rows') last ∙ ap (pieces_to 0 (ends ++ length (rows ++ more) ∷ [])) row_more ∙ piece_pushed ends rows more are.rises
          ∙ ap (λ ls. ls ++ more ∷ []) are.pieces ∙ sym longer;
    }

-- what holds of the rows of each list holds of all
all_joined : (P : ℕ → Type 0) (lists : List (List ℕ)) → All (All P) lists → All P (flat_map (λ list. list) lists)
all_joined P [] h = λ k d lt. absurd (omega (arith, lt))
all_joined P (list ∷ lists) h = All-append P list (flat_map (λ list. list) lists) (h 0 [] (omega arith)) (all_joined P lists (λ k d lt. h (suc k) d (omega (arith, lt))))

pub rows_inside : (n : ℕ) (lists : List (List ℕ)) (rows ends : List ℕ) → All (AreMembers n) lists → AreListed lists rows ends → All (λ row. row < n) rows
rows_inside n lists rows ends members are = subst (All (λ row. row < n)) (sym are.joined) (all_joined (λ row. row < n) lists (λ k d lt. (members k d lt).below))

pub rows_numbered : (n : ℕ) (lists : List (List ℕ)) → HasRowNumbers n → All (AreMembers n) lists → All HaveNumbers lists
rows_numbered n lists short members = λ k d lt i e inside. let below = (members k d lt).below i e inside in omega (arith, below, short)

-- ---- columns

-- the slots at the rows of each list
pub slots_listed : (c : ColumnValue) (lists : List (List ℕ)) (rows ends : List ℕ) → AreListed lists rows ends → lists_of c.name ends (taken rows c) ≡ folded Implode c lists
unfolding fold_picked
slots_listed c lists rows ends are =
    ap (λ ls. fresh_column c.name (ListOf c.dtype) (map list_slot ls)) (pieces_mapped (slot_at c.slots) 0 ends rows ∙ ap (map (map (slot_at c.slots))) are.pieces)
    ∙ ap (fresh_column c.name (ListOf c.dtype)) (map-map list_slot (map (slot_at c.slots)) lists)

-- the rows of each list
pub rows_listed : (name : List ℕ) (items : ColumnValue) (lists : List (List ℕ)) (rows ends : List ℕ) → items.dtype ≡ uint32 → items.slots ≡ map number_slot rows
    → AreListed lists rows ends → lists_of name ends items ≡ fold_column name (ListOf uint32) list_of_rows lists
rows_listed name items lists rows ends typed numbers are =
    ap (λ (d : ColumnType). fresh_column name (ListOf d) (map list_slot (pieces_to 0 ends items.slots))) typed
    ∙ ap (λ (ss : List Slot). fresh_column name (ListOf uint32) (map list_slot (pieces_to 0 ends ss))) numbers
    ∙ ap (λ ls. fresh_column name (ListOf uint32) (map list_slot ls)) (pieces_mapped number_slot 0 ends rows ∙ ap (map (map number_slot)) are.pieces)
    ∙ ap (fresh_column name (ListOf uint32)) (map-map list_slot (map number_slot) lists)

-- they are the fold of any column
pub row_fold : (t : ColumnType) (slots : List Slot) → list_of_rows ≡ fold_of Groups t slots
unfolding fold_picked
row_fold t slots = refl
