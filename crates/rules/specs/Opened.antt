-- One name that opens every definition: a statement that is proved by computation says `unfolding opened`. (Written by
-- tools/unfold, as a line for each file of definitions.)
use Rattle.std.proofs.Math.Bool.{xor}
use mathlib.Core.List.{flat_map}
use Rattle.std.specs.Float.Ieee.{neg, mul, div, eq, of_int, of_fields, of_bits, to_bits, size}
use Rattle.rules.specs.Examples.{on, refusal, refusal_of, records, ran, verdict_on, floats, examples, deep, also, prints_as, prints, printed, rewrites, rewritten, check_on, does_on, mixed}
use Rattle.rules.specs.Examples.{readings, made_in, ran_in, records_in, rewrites_in, modes, refused_at, offsets, spans_on, with_two, underlined, demanded, Holds, AllHold}
use Rattle.rules.specs.Face.Demands.{sign_angle, Rise, Walk}
use Rattle.rules.specs.Face.Plain.{plain_written, plain_found, plain_prepared, mode_of, direction_of, plain_verdict, plain_check, plain_ran, plain_outcome}
use Rattle.rules.specs.Face.Shown.{counted, refusal_text, offset_text, or_refused, called, signed_place, two_places, four_places, pass_text, verdict_text, verdict_line, both_checks, shown_checks}
use Rattle.rules.specs.Face.Shown.{heading, headed, shown_steps, translated_line, shown}
use Rattle.rules.specs.Operators.Adapt.{place_in, axis, ending, word_of, word, word_given, position, output_of, angles, combined, between, is_code, is_adapt, angle, factor, post, mult}
use Rattle.rules.specs.Operators.Adapt.{output, sets, stays, noop, adapted_if, adapted, letter, ending_of, from_word, to_word}
use Rattle.rules.specs.Operators.Arguments.{value_of, is_given, arg, places, is_place, is_distinct, is_order, wholes, spelling, listing, key_value}
use Rattle.rules.specs.Operators.Axisswap.{order, swap_from, unswap_from, reordered, swapped}
use Rattle.rules.specs.Operators.Descriptions.{choose}
use Rattle.rules.specs.Operators.Documented.{input_at, output_by_axis, carries_angle, angle_by_axis, combined_by_axis, is_pair, two_alike, is_documented, sends_back, adapted_by_axis, code_from}
use Rattle.rules.specs.Operators.Documented.{letters_for, letters_from, letter_of, code_of, from_by_axis, to_by_axis, adapt_in, combined_in, is_adapt_in, adapted_in}
use Rattle.rules.specs.Operators.Keys.{flag, numbered, worded, kind_in}
use Rattle.rules.specs.Operators.Numbers.{number, put, turn}
use Rattle.rules.specs.Operators.PushPop.{is_rising, axis_keys, flagged, axes, flag_of}
use Rattle.rules.specs.Operators.Stack.{is_places, is_roll, is_nothing, rolling, unrolling, action_keys, actions, action_then, actions_given, exactly_one}
use Rattle.rules.specs.Operators.Table.{operators, number_of, with_number, operator_of, is_args, other_mode, is_of_mode, forward, inverse, names, name_in, name_of}
use Rattle.rules.specs.Pipeline.Check.{place, put_place, turn_place, adapting, any_adapt, verdict, only, foretold, span_at, answered, checked, check}
use Rattle.rules.specs.Pipeline.Columns.{rolled_once, rolled, swapped_top, pushed, popped, topped, flipped, moved, takes, too_few, after, depths, deepest}
use Rattle.rules.specs.Pipeline.Keys.{every_key, own_keys, kind_of, is_lacking, unknown, misspelt, too_long}
use Rattle.rules.specs.Pipeline.Offsets.{cut_text, fault_in, is_fault, fault_at, faults, earliest, offset_by}
use Rattle.rules.specs.Pipeline.Prepare.{mark, record_of, recorded, own_rule, judged14, judged11, named, judged10, judged, offset_of, offset_in, at_step, prepare_step, prepare_steps}
use Rattle.rules.specs.Pipeline.Prepare.{prepare_split, prepare_in, prepare, prepare_as}
use Rattle.rules.specs.Pipeline.Record.{reading_number, reading_of, span_end, step_with, in_reading, spanned, spanless, with_spans, operator, args, unused, is_set, of_mode, nine_digits, made}
use Rattle.rules.specs.Pipeline.Record.{good_span, table_reading, good_in, first_bad, refusal18, blank, listed}
use Rattle.rules.specs.Pipeline.Run.{count_from, count, passes64, bad_list, store_after, refused, finished, unless16, unless15, unless18, runs}
use Rattle.rules.specs.Pipeline.Running.{opposite, turns, directed, act_of, act, omitted, ordered, running_from, running}
use Rattle.rules.specs.Pipeline.Tuples.{tuples, numbers, column, stored, drained, stomped, starved, acted_if, acted, counts_none, counts}
use Rattle.rules.specs.Pipeline.Write.{name_word, arg_words, operator_words, mark_word, mark_words, step_words, writing, table_writing, spans_in_turn, written_spans, written_unless18, write}
use Rattle.rules.specs.Proj.Translate.{is_inv, not_inv, is_pipeline, pipeline_words, pipeline, init_first, only_inv, first_fault, at_position1, with_globals, exchanged_mark, without_inv, marked}
use Rattle.rules.specs.Proj.Translate.{step_of, is_written, in_order, translation, translated, translate}
use Rattle.rules.specs.Proj.Words.{unplussed, is_step, cut_at_step, without_noise, proj_steps, is_proj, first_proj, in_its_place, exchanged, has_key, last_of, without_last, composed, ellipsoid}
use Rattle.rules.specs.Proj.Words.{scale, tidied}
use Rattle.rules.specs.Text.Ascii.{ascii}
use Rattle.rules.specs.Text.Bytes.{white, subscript, in_domain, same, starts, contains, replace_from, replace, trim_start, trim_end, trimmed, before, behind, onto, cut, words, after_each}
use Rattle.rules.specs.Text.Bytes.{joined_by, joined}
use Rattle.rules.specs.Text.Comments.{newlines, uncommented, lined, stripped}
use Rattle.rules.specs.Text.Decimal.{digit, digits_to, spelled, plain_form, plain, decimal, pieces, number_then, all_numbers, series, is_number, broken_from, is_whole, signed, minus, whole_of}
use Rattle.rules.specs.Text.Lists.{any_of, all_of, kept, place_of, non_empty, is_none}
use Rattle.rules.specs.Text.Normal.{run, becomes, subscript_becomes, replacements, squeezed, continued, normal, normalise}
use Rattle.rules.specs.Text.Numerals.{digit_at, digits_from, digits}
use Rattle.rules.specs.Text.Parameters.{parameter, name, elements, precedes, entered_by, entered_all_by, table_of, step_table, text_table, parameters_of, value_in, placed_word, placed_name}
use Rattle.rules.specs.Text.Parameters.{placed_words, placed_elements, placed_table, parameter_line, parameters}
use Rattle.rules.specs.Text.Reader.{found, next, walked, spans_from, spans_of, definition, spans, define}
use Rattle.rules.specs.Text.Refusal.{and_then, tested, lent, outcome, written, prepared}
use Rattle.rules.specs.Text.Split.{modifier, only_modifiers, leading, following, turned, steps_of, steps, step_text, split_steps, line, split}

unfoldable pub opened : Unit {0}
unfolding xor flat_map neg mul div eq of_int of_fields of_bits to_bits size on refusal refusal_of records ran verdict_on
    floats examples deep also prints_as prints printed rewrites rewritten check_on does_on mixed readings made_in ran_in
    records_in rewrites_in modes refused_at offsets spans_on with_two underlined demanded Holds AllHold sign_angle Rise
    Walk plain_written plain_found plain_prepared mode_of direction_of plain_verdict plain_check plain_ran plain_outcome
    counted refusal_text offset_text or_refused called signed_place two_places four_places pass_text verdict_text
    verdict_line both_checks shown_checks heading headed shown_steps translated_line shown place_in axis ending word_of
    word word_given position output_of angles combined between is_code is_adapt angle factor post mult output sets stays
    noop adapted_if adapted letter ending_of from_word to_word value_of is_given arg places is_place is_distinct is_order
    wholes spelling listing key_value order swap_from unswap_from reordered swapped choose input_at output_by_axis
    carries_angle angle_by_axis combined_by_axis is_pair two_alike is_documented sends_back adapted_by_axis code_from letters_for
    letters_from letter_of code_of from_by_axis to_by_axis adapt_in combined_in is_adapt_in adapted_in flag numbered worded
    kind_in number put turn is_rising axis_keys flagged axes flag_of is_places is_roll is_nothing rolling unrolling
    action_keys actions action_then actions_given exactly_one operators number_of with_number operator_of is_args other_mode
    is_of_mode forward inverse names name_in name_of place put_place turn_place adapting any_adapt verdict only foretold
    span_at answered checked check rolled_once rolled swapped_top pushed popped topped flipped moved takes too_few after
    depths deepest every_key own_keys kind_of is_lacking unknown misspelt too_long cut_text fault_in is_fault fault_at faults
    earliest offset_by mark record_of recorded own_rule judged14 judged11 named judged10 judged offset_of offset_in
    at_step prepare_step prepare_steps prepare_split prepare_in prepare prepare_as reading_number reading_of span_end
    step_with in_reading spanned spanless with_spans operator args unused is_set of_mode nine_digits made good_span
    table_reading good_in first_bad refusal18 blank listed count_from count passes64 bad_list store_after refused finished
    unless16 unless15 unless18 runs opposite turns directed act_of act omitted ordered running_from running tuples
    numbers column stored drained stomped starved acted_if acted counts_none counts name_word arg_words operator_words
    mark_word mark_words step_words writing table_writing spans_in_turn written_spans written_unless18 write is_inv not_inv
    is_pipeline pipeline_words pipeline init_first only_inv first_fault at_position1 with_globals exchanged_mark without_inv
    marked step_of is_written in_order translation translated translate unplussed is_step cut_at_step without_noise
    proj_steps is_proj first_proj in_its_place exchanged has_key last_of without_last composed ellipsoid scale tidied ascii
    white subscript in_domain same starts contains replace_from replace trim_start trim_end trimmed before behind onto
    cut words after_each joined_by joined newlines uncommented lined stripped digit digits_to spelled plain_form plain
    decimal pieces number_then all_numbers series is_number broken_from is_whole signed minus whole_of any_of all_of kept
    place_of non_empty is_none run becomes subscript_becomes replacements squeezed continued normal normalise digit_at
    digits_from digits parameter name elements precedes entered_by entered_all_by table_of step_table text_table
    parameters_of value_in placed_word placed_name placed_words placed_elements placed_table parameter_line parameters found
    next walked spans_from spans_of definition spans define and_then tested lent outcome written prepared modifier
    only_modifiers leading following turned steps_of steps step_text split_steps line split
opened = tt
