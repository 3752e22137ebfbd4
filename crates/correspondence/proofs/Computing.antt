-- `unfolding computing` lets a worked example compute: every definition of the model that is shut by itself is open there.
-- Assumes nothing. Met again in CaseA, Examples, Refusals and Conventions.
use Rattle.model.specs.Lists.{numbers_from, all_from, lowest_failing, written_over}
use Rattle.model.specs.CaseFile.{field, kind_of, chain, chains, find_line, find_thread}
use Rattle.model.specs.Accept.{kind_rule, verdict}
use Rattle.model.specs.Line.{local_name, guard_name, name_of_a, name_of_b, name_of_target, guard_true, apply, expression, guarded_in_value, guarded_out_value, value_by, unrun_value, stops, breaks, stray_input, unrun_stray}
use Rattle.model.specs.Machine.{look, put_local, put_item, run_block, stray_left, first_stray_left, run_blocks, run}
use Rattle.model.specs.Assignment.{assignment_of, was_run}
use Rattle.model.specs.Copies.{latest, copy_of, value_before, read_local, read_item, read_name, read_after, walk_back}
use Rattle.model.specs.Table.{follow_row, stay_rows, line_order_rows, order_rows, demand_rows, value_rows, all_order_rows, all_value_rows, item_rows, block_rows, run_rows, table, numbers_of}
use Rattle.model.specs.Holds.{demand_met, from_record, some_breaks, some_thread_breaks, holds, first_failing}
use Rattle.model.specs.Schedule.{input_lines, all_input_lines, value_given, steps_of, lengths_fit, run_of, lines_in_block, decoded_values, all_decoded_values, decode}
use Rattle.model.specs.Fill.{fill, late_after, late_in, first_late}
use Rattle.model.specs.Answers.{on_case, encoded, encoded_into, checked, decoded, decoded_into, replayed, replayed_into, filled, filled_into}
use Rattle.model.specs.Listing.{digits_of, decimal, numbers_line, row_lines, listing_text, listed, listed_into}

unfoldable pub computing : Type 0
unfolding numbers_from all_from lowest_failing written_over
    field kind_of chain chains find_line find_thread
    kind_rule verdict
    local_name guard_name name_of_a name_of_b name_of_target guard_true apply expression guarded_in_value guarded_out_value value_by unrun_value stops breaks stray_input unrun_stray
    look put_local put_item run_block stray_left first_stray_left run_blocks run
    assignment_of was_run
    latest copy_of value_before read_local read_item read_name read_after walk_back
    follow_row stay_rows line_order_rows order_rows demand_rows value_rows all_order_rows all_value_rows item_rows block_rows run_rows table numbers_of
    demand_met from_record some_breaks some_thread_breaks holds first_failing
    input_lines all_input_lines value_given steps_of lengths_fit run_of lines_in_block decoded_values all_decoded_values decode
    fill late_after late_in first_late
    on_case encoded encoded_into checked decoded decoded_into replayed replayed_into filled filled_into
    digits_of decimal numbers_line row_lines listing_text listed listed_into
computing = Unit
