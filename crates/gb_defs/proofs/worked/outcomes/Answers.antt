use Rattle.std.proofs.Common.{refl}
use Rattle.csv.specs.Machine.{next_record}
use Rattle.csv.specs.Reading.{records_from, strip_bom}
use Rattle.csv.specs.Writing.{escaped, fields_text, is_blank}
use Rattle.std.specs.Int.{int_wrap}
use Rattle.std.specs.Str.{chars, is_utf8}
use Rattle.std.specs.Fmt.{digits}
use lib.Utf8.{encode}
use Rattle.gb_defs.specs.Answer.{answer}
use Rattle.gb_defs.specs.Cell.{cell_slot}
use Rattle.gb_defs.specs.Classes.{class, firsts, is_first}
use Rattle.gb_defs.specs.Fault.{fault}
use Rattle.gb_defs.specs.Fold.{fold_picked}
use Rattle.gb_defs.specs.Outcome.{grouped_by, outcome}
use Rattle.gb_defs.specs.Table.{head_of, table}
use Rattle.gb_defs.specs.Text.{frame_text}
use Rattle.gb_defs.specs.TypeWord.{type_words}
use Rattle.gb_defs.proofs.worked.outcomes.Goals as goal

pub returns-clause-sums_and_counts : goal.returns-clause-sums_and_counts
unfolding outcome grouped_by table records_from next_record strip_bom head_of type_words cell_slot is_utf8 fault answer firsts is_first class fold_picked frame_text int_wrap escaped fields_text is_blank chars encode digits
returns-clause-sums_and_counts c = refl

pub returns-clause-wide_keys : goal.returns-clause-wide_keys
unfolding outcome grouped_by table records_from next_record strip_bom head_of type_words cell_slot is_utf8 fault answer firsts is_first class fold_picked frame_text int_wrap escaped fields_text is_blank chars encode digits
returns-clause-wide_keys c = refl

pub returns-clause-sum_wraps : goal.returns-clause-sum_wraps
unfolding outcome grouped_by table records_from next_record strip_bom head_of type_words cell_slot is_utf8 fault answer firsts is_first class fold_picked frame_text int_wrap escaped fields_text is_blank chars encode digits
returns-clause-sum_wraps c = refl

pub returns-clause-flag_keys : goal.returns-clause-flag_keys
unfolding outcome grouped_by table records_from next_record strip_bom head_of type_words cell_slot is_utf8 fault answer firsts is_first class fold_picked frame_text int_wrap escaped fields_text is_blank chars encode digits
returns-clause-flag_keys c = refl

pub returns-clause-nulls_as_keys : goal.returns-clause-nulls_as_keys
unfolding outcome grouped_by table records_from next_record strip_bom head_of type_words cell_slot is_utf8 fault answer firsts is_first class fold_picked frame_text int_wrap escaped fields_text is_blank chars encode digits
returns-clause-nulls_as_keys c = refl

pub returns-clause-hundredths : goal.returns-clause-hundredths
unfolding outcome grouped_by table records_from next_record strip_bom head_of type_words cell_slot is_utf8 fault answer firsts is_first class fold_picked frame_text int_wrap escaped fields_text is_blank chars encode digits
returns-clause-hundredths c = refl

pub returns-clause-null_is_a_group : goal.returns-clause-null_is_a_group
unfolding outcome grouped_by table records_from next_record strip_bom head_of type_words cell_slot is_utf8 fault answer firsts is_first class fold_picked frame_text int_wrap escaped fields_text is_blank chars encode digits
returns-clause-null_is_a_group c = refl

pub returns-clause-number_key : goal.returns-clause-number_key
unfolding outcome grouped_by table records_from next_record strip_bom head_of type_words cell_slot is_utf8 fault answer firsts is_first class fold_picked frame_text int_wrap escaped fields_text is_blank chars encode digits
returns-clause-number_key c = refl

pub returns-clause-no_rows : goal.returns-clause-no_rows
unfolding outcome grouped_by table records_from next_record strip_bom head_of type_words cell_slot is_utf8 fault answer firsts is_first class fold_picked frame_text int_wrap escaped fields_text is_blank chars encode digits
returns-clause-no_rows c = refl

pub returns-clause-sums_wrap : goal.returns-clause-sums_wrap
unfolding outcome grouped_by table records_from next_record strip_bom head_of type_words cell_slot is_utf8 fault answer firsts is_first class fold_picked frame_text int_wrap escaped fields_text is_blank chars encode digits
returns-clause-sums_wrap c = refl

pub returns-clause-quoted : goal.returns-clause-quoted
unfolding outcome grouped_by table records_from next_record strip_bom head_of type_words cell_slot is_utf8 fault answer firsts is_first class fold_picked frame_text int_wrap escaped fields_text is_blank chars encode digits
returns-clause-quoted c = refl

pub returns-clause-bad_cell : goal.returns-clause-bad_cell
unfolding outcome grouped_by table records_from next_record strip_bom head_of type_words cell_slot is_utf8 fault answer firsts is_first class fold_picked frame_text int_wrap escaped fields_text is_blank chars encode digits
returns-clause-bad_cell c = refl

pub returns-clause-ragged : goal.returns-clause-ragged
unfolding outcome grouped_by table records_from next_record strip_bom head_of type_words cell_slot is_utf8 fault answer firsts is_first class fold_picked frame_text int_wrap escaped fields_text is_blank chars encode digits
returns-clause-ragged c = refl

pub returns-clause-same_name : goal.returns-clause-same_name
unfolding outcome grouped_by table records_from next_record strip_bom head_of type_words cell_slot is_utf8 fault answer firsts is_first class fold_picked frame_text int_wrap escaped fields_text is_blank chars encode digits
returns-clause-same_name c = refl

pub returns-clause-no_header : goal.returns-clause-no_header
unfolding outcome grouped_by table records_from next_record strip_bom head_of type_words cell_slot is_utf8 fault answer firsts is_first class fold_picked frame_text int_wrap escaped fields_text is_blank chars encode digits
returns-clause-no_header c = refl

pub returns-clause-categories : goal.returns-clause-categories
unfolding outcome grouped_by table records_from next_record strip_bom head_of type_words cell_slot is_utf8 fault answer firsts is_first class fold_picked frame_text int_wrap escaped fields_text is_blank chars encode digits
returns-clause-categories c = refl

pub returns-clause-other_word : goal.returns-clause-other_word
unfolding outcome grouped_by table records_from next_record strip_bom head_of type_words cell_slot is_utf8 fault answer firsts is_first class fold_picked frame_text int_wrap escaped fields_text is_blank chars encode digits
returns-clause-other_word c = refl

pub returns-clause-missing_key : goal.returns-clause-missing_key
unfolding outcome grouped_by table records_from next_record strip_bom head_of type_words cell_slot is_utf8 fault answer firsts is_first class fold_picked frame_text int_wrap escaped fields_text is_blank chars encode digits
returns-clause-missing_key c = refl

pub returns-clause-text_sum : goal.returns-clause-text_sum
unfolding outcome grouped_by table records_from next_record strip_bom head_of type_words cell_slot is_utf8 fault answer firsts is_first class fold_picked frame_text int_wrap escaped fields_text is_blank chars encode digits
returns-clause-text_sum c = refl

pub returns-clause-missing_column : goal.returns-clause-missing_column
unfolding outcome grouped_by table records_from next_record strip_bom head_of type_words cell_slot is_utf8 fault answer firsts is_first class fold_picked frame_text int_wrap escaped fields_text is_blank chars encode digits
returns-clause-missing_column c = refl

pub returns-clause-header_from_the_left : goal.returns-clause-header_from_the_left
unfolding outcome grouped_by table records_from next_record strip_bom head_of type_words cell_slot is_utf8 fault answer firsts is_first class fold_picked frame_text int_wrap escaped fields_text is_blank chars encode digits
returns-clause-header_from_the_left c = refl

pub returns-clause-first_bad_row : goal.returns-clause-first_bad_row
unfolding outcome grouped_by table records_from next_record strip_bom head_of type_words cell_slot is_utf8 fault answer firsts is_first class fold_picked frame_text int_wrap escaped fields_text is_blank chars encode digits
returns-clause-first_bad_row c = refl

pub returns-clause-two_keys : goal.returns-clause-two_keys
unfolding outcome grouped_by table records_from next_record strip_bom head_of type_words cell_slot is_utf8 fault answer firsts is_first class fold_picked frame_text int_wrap escaped fields_text is_blank chars encode digits
returns-clause-two_keys c = refl

pub returns-clause-null_key_beside : goal.returns-clause-null_key_beside
unfolding outcome grouped_by table records_from next_record strip_bom head_of type_words cell_slot is_utf8 fault answer firsts is_first class fold_picked frame_text int_wrap escaped fields_text is_blank chars encode digits
returns-clause-null_key_beside c = refl

pub returns-clause-key_twice : goal.returns-clause-key_twice
unfolding outcome grouped_by table records_from next_record strip_bom head_of type_words cell_slot is_utf8 fault answer firsts is_first class fold_picked frame_text int_wrap escaped fields_text is_blank chars encode digits
returns-clause-key_twice c = refl

pub returns-clause-ends : goal.returns-clause-ends
unfolding outcome grouped_by table records_from next_record strip_bom head_of type_words cell_slot is_utf8 fault answer firsts is_first class fold_picked frame_text int_wrap escaped fields_text is_blank chars encode digits
returns-clause-ends c = refl

pub returns-clause-lists : goal.returns-clause-lists
unfolding outcome grouped_by table records_from next_record strip_bom head_of type_words cell_slot is_utf8 fault answer firsts is_first class fold_picked frame_text int_wrap escaped fields_text is_blank chars encode digits
returns-clause-lists c = refl
