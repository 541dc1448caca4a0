use Rattle.gb_defs.specs.TypeWord.{type_words}
use Rattle.gb_text.proofs.HeadLemmas.{apart}
use Rattle.gb_text.proofs.type_word.dtype_of.Goals as goal

pub returns-in_default-clause-value : goal.returns-in_default-clause-value
unfolding type_words
returns-in_default-clause-value c = rw (
  apart _ _ c.in_default.not-null,
  apart _ _ c.in_default.not-bool,
  apart _ _ c.in_default.not-u8,
  apart _ _ c.in_default.not-u16,
  apart _ _ c.in_default.not-u32,
  apart _ _ c.in_default.not-u64,
  apart _ _ c.in_default.not-i8,
  apart _ _ c.in_default.not-i16,
  apart _ _ c.in_default.not-i32,
  apart _ _ c.in_default.not-i64,
  apart _ _ c.in_default.not-i128,
  apart _ _ c.in_default.not-date,
  apart _ _ c.in_default.not-time,
  apart _ _ c.in_default.not-datetime_ns,
  apart _ _ c.in_default.not-datetime_us,
  apart _ _ c.in_default.not-datetime_ms,
  apart _ _ c.in_default.not-duration_ns,
  apart _ _ c.in_default.not-duration_us,
  apart _ _ c.in_default.not-duration_ms,
  apart _ _ c.in_default.not-str,
  apart _ _ c.in_default.not-bin,
  apart _ _ c.in_default.not-cat,
  apart _ _ c.in_default.not-lexcat,
) c.decimal_type.ensures.value
