-- Cells and records of plain text, as csv's machine reads them.
use Rattle.std.proofs.Common.{◌≡◌, ◌≢◌, ◌==◌, ℕ, ◌+◌, ◌<◌, ◌≤◌, zero, suc, ◌⊎◌, inl, inr, Bool, true, false, List, [], ◌∷◌, ◌++◌, length, get_or, take, drop, refl, sym, ◌∙◌, ap, arith, Some}
use Rattle.std.specs.Str.{IsAscii}
use Rattle.std.proofs.lemmas.Bool.{cases_eq, ne_eqb}
use Rattle.std.proofs.lemmas.List.{append-nil, take_all, drop-drop, drop_all, drop_more, take_more}
use Rattle.std.proofs.lemmas.Str.{IsAscii-append, IsAscii-drop}
use Rattle.std.proofs.lemmas.Str.Ascii.{IsAscii-nil}
use Rattle.csv.specs.declared.parser.State.{State}
use Rattle.csv.specs.declared.parser.State.TheVariants as st
use Rattle.csv.specs.Machine.{next_record}
use Rattle.csv.specs.Reading.{default_config}
use Rattle.gb_text.specs.Plain.{GoesOn, IsBehind, IsClosed, IsCut, IsReturned}
use Rattle.gb_text.proofs.PushLemmas.{ascii_take}

-- ---- one byte

-- the state in a cell, once it has a byte
abbrev pub state_at : Bool → State
state_at true = st.InField
state_at false = st.StartField

module _ (fields : List (List ℕ)) (field : List ℕ) where
  next_joins : (begun : Bool) (c : ℕ) (rest : List ℕ) → (c == 44) ≡ false → (c == 13) ≡ false → (c == 10) ≡ false → (begun ≡ false → (c == 34) ≡ false)
      → next_record default_config (state_at begun) fields field (c ∷ rest) ≡ next_record default_config st.InField fields (field ++ c ∷ []) rest
  unfolding next_record
  next_joins true c rest e f g h = rw (e, f, g)
  next_joins false c rest e f g h = rw (h refl, e, f, g)

  next_comma : (begun : Bool) (rest : List ℕ) → next_record default_config (state_at begun) fields field (44 ∷ rest) ≡ next_record default_config st.StartField (fields ++ field ∷ []) [] rest
  unfolding next_record
  next_comma true rest = refl
  next_comma false rest = refl

  next_feed : (begun : Bool) (rest : List ℕ) → next_record default_config (state_at begun) fields field (10 ∷ rest) ≡ Some (fields ++ field ∷ [], st.StartRecord, rest)
  unfolding next_record
  next_feed true rest = refl
  next_feed false rest = refl

  next_return : (begun : Bool) (rest : List ℕ) → next_record default_config (state_at begun) fields field (13 ∷ rest) ≡ Some (fields ++ field ∷ [], st.AfterCr, rest)
  unfolding next_record
  next_return true rest = refl
  next_return false rest = refl

  next_end : (begun : Bool) → next_record default_config (state_at begun) fields field [] ≡ Some (fields ++ field ∷ [], st.StartRecord, [])
  unfolding next_record
  next_end true = refl
  next_end false = refl

  -- ---- between quotes

  quote_opens : (rest : List ℕ) → next_record default_config st.StartField fields [] (34 ∷ rest) ≡ next_record default_config st.InQuoted fields [] rest
  unfolding next_record
  quote_opens rest = refl

  quote_joins : (c : ℕ) (rest : List ℕ) → (c == 34) ≡ false → next_record default_config st.InQuoted fields field (c ∷ rest) ≡ next_record default_config st.InQuoted fields (field ++ c ∷ []) rest
  unfolding next_record
  quote_joins c rest e = rw e refl

  quote_closes : (rest : List ℕ) → next_record default_config st.InQuoted fields field (34 ∷ rest) ≡ next_record default_config st.AfterQuote fields field rest
  unfolding next_record
  quote_closes rest = refl

  quote_doubles : (rest : List ℕ) → next_record default_config st.AfterQuote fields field (34 ∷ rest) ≡ next_record default_config st.InQuoted fields (field ++ 34 ∷ []) rest
  unfolding next_record
  quote_doubles rest = refl

  close_comma : (rest : List ℕ) → next_record default_config st.AfterQuote fields field (44 ∷ rest) ≡ next_record default_config st.StartField (fields ++ field ∷ []) [] rest
  unfolding next_record
  close_comma rest = refl

  close_feed : (rest : List ℕ) → next_record default_config st.AfterQuote fields field (10 ∷ rest) ≡ Some (fields ++ field ∷ [], st.StartRecord, rest)
  unfolding next_record
  close_feed rest = refl

  close_return : (rest : List ℕ) → next_record default_config st.AfterQuote fields field (13 ∷ rest) ≡ Some (fields ++ field ∷ [], st.AfterCr, rest)
  unfolding next_record
  close_return rest = refl

  close_end : next_record default_config st.AfterQuote fields field [] ≡ Some (fields ++ field ∷ [], st.StartRecord, [])
  unfolding next_record
  close_end = refl

pub begins : (text : List ℕ) → 0 < length text → get_or text 0 0 ≢ 10 → get_or text 0 0 ≢ 13
    → next_record default_config st.StartRecord [] [] text ≡ next_record default_config st.StartField [] [] text
unfolding next_record
begins [] some e f = absurd (omega (arith, some))
begins (c ∷ text) some e f = rw (ne_eqb c 10 e, ne_eqb c 13 f)

-- ---- a blank line

pub blank : (c : ℕ) (rest : List ℕ) → (c ≡ 10) ⊎ (c ≡ 13) → next_record default_config st.StartRecord [] [] (c ∷ rest) ≡ next_record default_config st.StartRecord [] [] rest
unfolding next_record
blank c rest (inl feed) = rw feed refl
blank c rest (inr return) = rw return refl

-- ---- where a text goes on

-- what is left reads as the rest does, with nothing behind both
pub goes_same : (state : State) (left rest : List ℕ) → GoesOn state left rest → next_record default_config state [] [] left ≡ next_record default_config st.StartRecord [] [] rest
goes_same state left rest g = let h = g.always [] in rw (append-nil left, append-nil rest) at h

pub goes_here : (rest : List ℕ) → GoesOn st.StartRecord rest rest
goes_here rest = record { always = λ more. refl; some = λ h. h }

-- behind a carriage return a record begins, but for a line feed
after_return : (text : List ℕ) → next_record default_config st.AfterCr [] [] text ≡ next_record default_config st.StartRecord [] [] text
unfolding next_record
after_return [] = refl
after_return (c ∷ text) = elim (cases_eq c 10) [ inl e ↦ rw e refl | inr e ↦ rw (ne_eqb c 10 e) refl ]

returned_end : IsReturned [] []
returned_end = record { behind = record { count = 0; is = refl }; goes_on = record { always = after_return; some = λ h. h } }

pub returned_feed : (rest : List ℕ) → IsReturned (10 ∷ rest) rest
unfolding next_record
returned_feed rest = record { behind = record { count = 1; is = refl }; goes_on = record { always = λ more. refl; some = λ h. omega arith } }

pub returned_other : (c : ℕ) (rest : List ℕ) → IsReturned (c ∷ rest) (c ∷ rest)
returned_other c rest = record { behind = record { count = 0; is = refl }; goes_on = record { always = λ more. after_return ((c ∷ rest) ++ more); some = λ h. h } }

pub returned_none : (left : List ℕ) → length left ≡ 0 → IsReturned left left
returned_none [] none = returned_end
returned_none (c ∷ left) none = absurd (omega (arith, none))

pub behind_more : (text left rest : List ℕ) → IsBehind text left → IsBehind left rest → IsBehind text rest
behind_more text left rest a b = record { count = a.count + b.count; is = b.is ∙ ap (drop b.count) a.is ∙ drop-drop b.count a.count text }

-- ---- a cell

-- the bytes before the i-th are those of the first cell so far
pub record IsScanning (text : List ℕ) (i : ℕ) : Type 0 where
  pub begun : Bool
  pub front : begun ≡ false → i ≡ 0
  pub so_far : (fields : List (List ℕ)) → next_record default_config st.StartField fields [] text ≡ next_record default_config (state_at begun) fields (take i text) (drop i text)

pub scan_none : (text : List ℕ) → IsScanning text 0
scan_none text = record { begun = false; front = λ _. refl; so_far = λ fields. refl }

module _ (text : List ℕ) (i : ℕ) (s : IsScanning text i) where
  module _ (lt : i < length text) where
    at_hand : (fields : List (List ℕ)) (c : ℕ) → get_or text i 0 ≡ c
        → next_record default_config st.StartField fields [] text ≡ next_record default_config (state_at s.begun) fields (take i text) (c ∷ drop (i + 1) text)
    at_hand fields c e =
        s.so_far fields ∙ ap (next_record default_config (state_at s.begun) fields (take i text)) (drop_more text i 0 lt ∙ ap (λ b. b ∷ drop (i + 1) text) e)

    pub scan_more : get_or text i 0 ≢ 44 → get_or text i 0 ≢ 13 → get_or text i 0 ≢ 10 → (i ≡ 0 → get_or text i 0 ≢ 34) → IsScanning text (i + 1)
    scan_more e f g h = record {
      begun = true;
      front = λ none. cc;
      so_far = λ fields.
          at_hand fields (get_or text i 0) refl ∙ next_joins fields (take i text) s.begun (get_or text i 0) (drop (i + 1) text) (ne_eqb _ 44 e) (ne_eqb _ 13 f) (ne_eqb _ 10 g)
          (λ none. ne_eqb _ 34 (h (s.front none)))
          ∙ ap (λ field. next_record default_config st.InField fields field (drop (i + 1) text)) (sym (take_more text i 0 lt));
    }

    pub cut_comma : get_or text i 0 ≡ 44 → IsCut text (take i text) (drop (i + 1) text) false
    cut_comma e = record {
      ascii = ascii_take i text;
      behind = record { count = i + 1; is = refl };
      state = st.StartRecord;
      left = drop (i + 1) text;
      goes_on = goes_here (drop (i + 1) text);
      reads = λ fields. at_hand fields 44 e ∙ next_comma fields (take i text) s.begun (drop (i + 1) text);
    }

    pub cut_feed : get_or text i 0 ≡ 10 → IsCut text (take i text) (drop (i + 1) text) true
    cut_feed e = record {
      ascii = ascii_take i text;
      behind = record { count = i + 1; is = refl };
      state = st.StartRecord;
      left = drop (i + 1) text;
      goes_on = goes_here (drop (i + 1) text);
      reads = λ fields. at_hand fields 10 e ∙ next_feed fields (take i text) s.begun (drop (i + 1) text);
    }

    pub cut_return : (rest : List ℕ) → get_or text i 0 ≡ 13 → IsReturned (drop (i + 1) text) rest → IsCut text (take i text) rest true
    cut_return rest e r = record {
      ascii = ascii_take i text;
      behind = behind_more text (drop (i + 1) text) rest (record { count = i + 1; is = refl }) r.behind;
      state = st.AfterCr;
      left = drop (i + 1) text;
      goes_on = r.goes_on;
      reads = λ fields. at_hand fields 13 e ∙ next_return fields (take i text) s.begun (drop (i + 1) text);
    }

  pub cut_end : length text ≤ i → IsCut text text [] true
  cut_end short = record {
    ascii = λ a. a;
    behind = record { count = i; is = sym (drop_all i text short) };
    state = st.StartRecord;
    left = [];
    goes_on = goes_here [];
    reads = λ fields. s.so_far fields ∙ (rw (take_all i text short, drop_all i text short) (next_end fields text s.begun));
  }

-- bytes past the comma are no end of a cell
pub scan_high : (text : List ℕ) (n : ℕ) → n ≤ length text → ((k : ℕ) → k < n → 44 < get_or text k 0) → IsScanning text n
scan_high text zero few high = scan_none text
scan_high text (suc n) few high =
    let before = scan_high text n (omega (arith, few)) (λ k lt. high k (omega (arith, lt))) in
    let byte = high n (omega arith) in
    let next : n + 1 ≡ suc n = omega arith in
    rw next at (scan_more text n before (omega (arith, few)) (omega (arith, byte)) (omega (arith, byte)) (omega (arith, byte)) (λ _. omega (arith, byte)))

-- ---- behind a quote that closes a cell

closed_end : IsClosed [] [] true
closed_end = record { skipped = record { count = 0; is = refl }; state = st.StartRecord; left = []; goes_on = goes_here []; reads = λ fields field. close_end fields field }

pub closed_none : (behind : List ℕ) → length behind ≡ 0 → IsClosed behind behind true
closed_none [] none = closed_end
closed_none (c ∷ behind) none = absurd (omega (arith, none))

pub closed_comma : (rest : List ℕ) → IsClosed (44 ∷ rest) rest false
closed_comma rest = record { skipped = record { count = 1; is = refl }; state = st.StartRecord; left = rest; goes_on = goes_here rest; reads = λ fields field. close_comma fields field rest }

pub closed_feed : (rest : List ℕ) → IsClosed (10 ∷ rest) rest true
closed_feed rest = record { skipped = record { count = 1; is = refl }; state = st.StartRecord; left = rest; goes_on = goes_here rest; reads = λ fields field. close_feed fields field rest }

pub closed_return : (left rest : List ℕ) → IsReturned left rest → IsClosed (13 ∷ left) rest true
closed_return left rest r = record {
  skipped = behind_more (13 ∷ left) left rest (record { count = 1; is = refl }) r.behind;
  state = st.AfterCr;
  left = left;
  goes_on = r.goes_on;
  reads = λ fields field. close_return fields field left;
}

-- ---- a cell between quotes, of which this is the text behind the first

-- the state behind a quote that ends the cell or is the first of two, and else between quotes
abbrev pub quote_state : Bool → State
quote_state true = st.AfterQuote
quote_state false = st.InQuoted

-- the cell so far, with the second of two quotes alone
pub record IsUnquoting (body : List ℕ) (i : ℕ) (half : Bool) (cell : List ℕ) : Type 0 where
  pub ascii : IsAscii body → IsAscii cell
  pub so_far : (fields : List (List ℕ)) → next_record default_config st.StartField fields [] (34 ∷ body) ≡ next_record default_config (quote_state half) fields cell (drop i body)

pub unquoting_none : (body : List ℕ) → IsUnquoting body 0 false []
unquoting_none body = record { ascii = λ _. IsAscii-nil; so_far = λ fields. quote_opens fields [] body }

module _ (body : List ℕ) (i : ℕ) (half : Bool) (cell : List ℕ) (s : IsUnquoting body i half cell) where
  module _ (lt : i < length body) where
    unquoted_at : (fields : List (List ℕ)) (c : ℕ) → get_or body i 0 ≡ c → next_record default_config st.StartField fields [] (34 ∷ body) ≡ next_record default_config (quote_state half) fields cell (c ∷ drop (i + 1) body)
    unquoted_at fields c e = s.so_far fields ∙ ap (next_record default_config (quote_state half) fields cell) (drop_more body i 0 lt ∙ ap (λ b. b ∷ drop (i + 1) body) e)

    pub unquoting_half : get_or body i 0 ≡ 34 → half ≡ false → IsUnquoting body (i + 1) true cell
    unquoting_half e h = record {
      ascii = s.ascii;
      so_far = λ fields. unquoted_at fields 34 e ∙ ap (λ b. next_record default_config (quote_state b) fields cell (34 ∷ drop (i + 1) body)) h ∙ quote_closes fields cell (drop (i + 1) body);
    }

    pub unquoting_more : (c : ℕ) → get_or body i 0 ≡ c → ((c ≡ 34) × (half ≡ true)) ⊎ ((c ≢ 34) × (half ≡ false)) → IsUnquoting body (i + 1) false (cell ++ c ∷ [])
    unquoting_more c e which = record {
      ascii = λ a. IsAscii-append cell (c ∷ []) (s.ascii a) (one_ascii a);
      so_far = λ fields. unquoted_at fields c e ∙ joins fields which;
    }
      where
        one_ascii : IsAscii body → IsAscii (c ∷ [])
        one_ascii a = λ k. first k
          where
            first : (k : ℕ) → get_or (c ∷ []) k 0 < 128
            first zero = rw (← e) (a i)
            first (suc k) = omega arith

        joins : (fields : List (List ℕ)) → ((c ≡ 34) × (half ≡ true)) ⊎ ((c ≢ 34) × (half ≡ false))
            → next_record default_config (quote_state half) fields cell (c ∷ drop (i + 1) body) ≡ next_record default_config (quote_state false) fields (cell ++ c ∷ []) (drop (i + 1) body)
        joins fields (inl w) = rw (w.0, w.1) (quote_doubles fields cell (drop (i + 1) body))
        joins fields (inr w) = rw w.1 (quote_joins fields cell c (drop (i + 1) body) (ne_eqb c 34 w.0))

  pub unquoted_closed : (rest : List ℕ) (last : Bool) → half ≡ true → IsClosed (drop i body) rest last → IsCut (34 ∷ body) cell rest last
  unquoted_closed rest last h c = record {
    ascii = λ a. s.ascii (IsAscii-drop (34 ∷ body) 1 a);
    behind = behind_more (34 ∷ body) (drop i body) rest (record { count = suc i; is = refl }) c.skipped;
    state = c.state;
    left = c.left;
    goes_on = c.goes_on;
    reads = λ fields. s.so_far fields ∙ (rw h (c.reads fields cell));
  }

-- no quote is among the bytes before the i-th, which are the cell
abbrev pub IsWithin : List ℕ → ℕ → Type 0
IsWithin body i = IsUnquoting body i false (take i body)

pub within_more : (body : List ℕ) (i : ℕ) → IsWithin body i → i < length body → get_or body i 0 ≢ 34 → IsWithin body (i + 1)
within_more body i s lt e = rw (take_more body i 0 lt) (unquoting_more body i false (take i body) s lt (get_or body i 0) refl (inr (e, refl)))

pub within_closed : (body : List ℕ) (i : ℕ) (rest : List ℕ) (last : Bool) → IsWithin body i → i < length body → get_or body i 0 ≡ 34 → IsClosed (drop (i + 1) body) rest last → IsCut (34 ∷ body) (take i body) rest last
within_closed body i rest last s lt e c = unquoted_closed body (i + 1) true (take i body) (unquoting_half body i false (take i body) s lt e refl) rest last refl c

-- ---- what is known of a cell, and of what stands behind it

module _ (text cell rest : List ℕ) (last : Bool) (c : IsCut text cell rest last) (ascii : IsAscii text) where
  pub cell_ascii : IsAscii cell
  cell_ascii = c.ascii ascii

  pub rest_ascii : IsAscii rest
  rest_ascii = rw c.behind.is (IsAscii-drop text c.behind.count ascii)
