-- `unfolding computing` opens every definition, for examples that compute. Written by tools/computing.py. Assumes nothing.
use Rattle.bitset.specs.Sets.{bit, member, from_bits, tabulate, set_of, count_below, all_below, meet, inserted, removed, union_of}
use Rattle.bitset.specs.Sets.{intersection_of, symmetric_difference_of, difference_of, copy_of, emptied, complement_of, within, meets, equal}
use Rattle.bitset.specs.Sets.{count, bit_byte, mask_of}
use Rattle.bitset.specs.Relations.{joined, relation, granted}
use Rattle.lexer.specs.Class.{class_of, all_go_on, is_part, all_parts, parts, has_good_parts, is_name}
use Rattle.lexer.specs.Forms.{build, frames_at, forms_of, trim, closes, balanced, names_good}
use Rattle.lexer.specs.Scan.{scan_from, scan}
use Rattle.lexer.specs.Token.{tokens_from, tokens_at, tokens, token_at}
use Rattle.policy.specs.Basics.{same, any, every, each, each_of, gather, is_in, is_among, differ, index_of, lookup, le, unle}
use Rattle.policy.specs.Statements.{names_of, family_names, class_names, permissions, count as count-of-Statements, declarations, sets_for}
use Rattle.policy.specs.Statements.{transitions, constrains, relabels, size, need}
use Rattle.policy.specs.Meaning.{of_s, count_in, union_of as unionOf-of-Meaning, nested, final, stands, related, holds}
use Rattle.policy.specs.Deciding.{is_object, valid_by, first_failing, decide, declared_context, declared_question, asks_role, may_become, ruled_by}
use Rattle.policy.specs.Deciding.{decide_relabel, declared_relabel, ruled_relabel}
use Rattle.policy.specs.Answer.{answer, relabel_answer}
use Rattle.policy.specs.Words.{reserved, is_reserved, dotless, keyword_of, set_word, expression_word, op_of, component_of}
use Rattle.policy.specs.Grammar.{operand_row, operands, set_in, expressions, expression_in, row_of, parts_alone}
use Rattle.policy.specs.Names.{full, outward, tries, first_hit, first_from, environment_of, refer, number_in}
use Rattle.policy.specs.Scopes.{scoped_in, blocks_in}
use Rattle.policy.specs.Reading.{refer_s, refer_e, row_count, judge, read_from, read_policy}
use Rattle.policy.specs.Faults.{mentions_s, mentions, attributes_in, below, mentioned_by, reach, on_cycle, places, first_cycle, cycle, clashes}
use Rattle.policy.specs.Faults.{first_clash, clash}
use Rattle.policy.specs.Rows.{rows_of, run, balanced as balanced-of-Rows}
use Rattle.policy.specs.Image.{mask_of as maskOf-of-Image, image_of}
use Rattle.policy.specs.Encode.{permission_entries, entries_from, entries, constraint_records, bodies, pairs, encode}
use Rattle.policy.specs.Sound.{good_from, well_formed, body_lengths, split_bodies, bodies_in, pieces, entries_in, group, same_numbers, names_at}
use Rattle.policy.specs.Sound.{assign_rows, assign_relabels, image_in}
use Rattle.policy.specs.Questions.{valid, change, relabel, first_transition, new_role, name_from, name_of, record_from, entry_of, valid_on, new_role_on}
use Rattle.policy.specs.Questions.{name_on, entry_on, change_on, relabel_on}
use Rattle.policy.specs.Outcome.{accept, policy_of, compiled, line_feeds, refusal_of, outcome, after}
use Rattle.policy.specs.Roll.{digits, roll_lines, roll_of, printed}

-- to unfold this is to unfold all of them
unfoldable pub computing : Unit {0}
unfolding bit member from_bits tabulate set_of count_below all_below meet inserted removed union_of intersection_of symmetric_difference_of difference_of
    copy_of emptied complement_of within meets equal count bit_byte mask_of joined relation granted class_of all_go_on is_part all_parts parts
    has_good_parts is_name build frames_at forms_of trim closes balanced names_good scan_from scan tokens_from tokens_at tokens token_at same any every
    each each_of gather is_in is_among differ index_of lookup le unle names_of family_names class_names permissions count-of-Statements declarations
    sets_for transitions constrains relabels size need of_s count_in unionOf-of-Meaning nested final stands related holds is_object valid_by
    first_failing decide declared_context declared_question asks_role may_become ruled_by decide_relabel declared_relabel ruled_relabel answer
    relabel_answer reserved is_reserved dotless keyword_of set_word expression_word op_of component_of operand_row operands set_in expressions
    expression_in row_of parts_alone full outward tries first_hit first_from environment_of refer number_in scoped_in blocks_in refer_s refer_e row_count
    judge read_from read_policy mentions_s mentions attributes_in below mentioned_by reach on_cycle places first_cycle cycle clashes first_clash clash
    rows_of run balanced-of-Rows maskOf-of-Image image_of permission_entries entries_from entries constraint_records bodies pairs encode good_from
    well_formed body_lengths split_bodies bodies_in pieces entries_in group same_numbers names_at assign_rows assign_relabels image_in valid change
    relabel first_transition new_role name_from name_of record_from entry_of valid_on new_role_on name_on entry_on change_on relabel_on accept policy_of
    compiled line_feeds refusal_of outcome after digits roll_lines roll_of printed
computing = tt
