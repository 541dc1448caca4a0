-- A round of aggregates, one after another.
use Rattle.std.proofs.Common.{◌≡◌, ℕ, suc, ◌+◌, ◌<◌, ◌≤◌, List, [], ◌∷◌, ◌++◌, None, Ok, Err, Result, ap, arith, get_or, length, subst, sym, take, ◌∙◌}
use Rattle.std.specs.Prelude.{IfErr, IfOk, OnOk}
use Rattle.std.proofs.lemmas.List.{get_or_default, map-append}
use Rattle.gb_defs.specs.Answer.{aggregated}
use Rattle.gb_defs.specs.Column.{Frame, content, find_column}
use Rattle.gb_defs.specs.Fault.{unfit_fault}
use Rattle.gb_defs.specs.Groups.{lists_in}
use Rattle.gb_base.specs.PlSmallStr.{name_of}
use Rattle.gb_base.specs.PolarsError.{Explains, cause_of}
use Rattle.gb_base.specs.declared.error.PolarsError.{PolarsError}
use Rattle.gb_series.specs.Series.{value_of}
use Rattle.gb_series.specs.declared.series.Series.{Series}
use Rattle.gb_agg.specs.Over.{grouping_over}
use Rattle.gb_agg.specs.declared.over.Over.{Over}
use Rattle.gb_frame.specs.Agg.{agg_of, aggs_of}
use Rattle.gb_frame.specs.Grouping.{AreMadeTo, MakesAt, contents_of, unfit_cause}
use Rattle.gb_frame.specs.declared.agg.Agg.{Agg}
use Rattle.gb_frame.proofs.AggLemmas.{unfit_is}
use Rattle.gb_frame.proofs.CauseLemmas.{causes_at, causes_more}
use Rattle.gb_frame.proofs.PartLemmas.{parts_more}

some_agg : (aggs : List Agg) (at : ℕ) → at < length aggs → Agg
some_agg [] at lt = absurd (omega (arith, lt))
some_agg (agg ∷ aggs) at lt = agg

-- the aggregates that are made, and what was found of the others up to a place
pub record IsPushedTo (frame : Frame) (over : Over) (aggs : List Agg) (to : ℕ) (columns : List Series) (left : List (Result Series PolarsError)) : Type 0 where
  pub at : ℕ
  pub within : at + length left ≡ to
  pub inside : to ≤ length aggs
  pub found : (k : ℕ) (d : Result Series PolarsError) → k < length left → MakesAt frame over aggs (at + k) (get_or left k d)
  pub so_far : AreMadeTo frame over aggs at columns

pub none_pushed : (frame : Frame) (over : Over) (aggs : List Agg) (first count : ℕ) (columns : List Series) (found : List (Result Series PolarsError)) → first + count ≤ length aggs → length found ≡ count
    → ((k : ℕ) (d : Result Series PolarsError) → k < length found → MakesAt frame over aggs (first + k) (get_or found k d)) → AreMadeTo frame over aggs first columns
    → IsPushedTo frame over aggs (first + count) columns found
none_pushed frame over aggs first count columns found inside many each before = record {
  at = first;
  within = omega (arith, many);
  inside = inside;
  found = each;
  so_far = before;
}

pub all_pushed : (frame : Frame) (over : Over) (aggs : List Agg) (to : ℕ) (columns : List Series) (left : List (Result Series PolarsError)) → IsPushedTo frame over aggs to columns left → left ≡ []
    → AreMadeTo frame over aggs to columns
all_pushed frame over aggs to columns left s none =
    let long : length left ≡ 0 = ap length none in
    let end : s.at ≡ to = let within = s.within in omega (arith, within, long) in
    rw end at s.so_far

module _ (frame : Frame) (over : Over) (aggs : List Agg) (to : ℕ) (columns : List Series) (one : Result Series PolarsError) (left : List (Result Series PolarsError)) (s : IsPushedTo frame over aggs to columns (one ∷ left)) where
  next_is : MakesAt frame over aggs s.at one
  next_is = let same : s.at + 0 ≡ s.at = omega arith in rw same at (s.found 0 one (omega arith))

  next_inside : s.at < length aggs
  next_inside = let within = s.within in let inside = s.inside in omega (arith, within, inside)

  abbrev agg : Agg
  agg = get_or aggs s.at (some_agg aggs s.at next_inside)

  agg_read : agg ≡ get_or aggs s.at agg
  agg_read = get_or_default aggs s.at (some_agg aggs s.at next_inside) agg next_inside

  abbrev IsMadeOf : Agg → Series → Type 0
  IsMadeOf a made = content (value_of made) ≡ aggregated (agg_of a) (find_column frame (name_of a.column)) (lists_in (grouping_over over))

  -- the first that is refused is so for the first cause
  pub next_refused : (e : PolarsError) → one ≡ Err e → Explains e (unfit_fault frame (aggs_of aggs))
  next_refused e is =
      let why = subst (λ (r : Result Series PolarsError). IfErr r (λ e. Explains e (unfit_cause frame (get_or aggs s.at agg)))) is (next_is.err agg) in
      rw (unfit_is frame aggs) (causes_at (unfit_cause frame) aggs s.at agg next_inside (sym (unfit_is frame (take s.at aggs)) ∙ s.so_far.fit) (cause_of e) why)

  -- one that is made is put behind those before
  pub next_pushed : (made : Series) → one ≡ Ok made → (more : List Series) → more ≡ columns ++ made ∷ [] → IsPushedTo frame over aggs to more left
  next_pushed made is more pushed =
      let lists = lists_in (grouping_over over) in
      let part = λ (s : Series). content (value_of s) in
      let made_here = subst (λ (r : Result Series PolarsError). IfOk r (IsMadeOf (get_or aggs s.at agg))) is (next_is.ok agg) in
      record {
        at = s.at + 1;
        within = let within = s.within in omega (arith, within);
        inside = s.inside;
        found = λ k d lt. let same : s.at + 1 + k ≡ s.at + suc k = omega arith in rw same (s.found (suc k) d (omega (arith, lt)));
        so_far = record {
          parts = ap contents_of pushed ∙ map-append part columns (made ∷ [])
              ∙ parts_more frame [] [] lists aggs s.at agg next_inside agg_read (contents_of columns) (part made) s.so_far.parts
              (subst (λ (a : Agg). IsMadeOf a made) (sym agg_read) made_here);
          fit = unfit_is frame (take (s.at + 1) aggs)
              ∙ causes_more (unfit_cause frame) aggs s.at agg next_inside (sym (unfit_is frame (take s.at aggs)) ∙ s.so_far.fit) (subst (λ (r : Result Series PolarsError). OnOk r (unfit_cause frame (get_or aggs s.at agg) ≡ None)) is (next_is.fits agg));
        };
      }
