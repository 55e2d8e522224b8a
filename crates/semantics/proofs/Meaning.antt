-- The definitions opened at once, a module of specs/ at a time, all but `requests` and some of `Run`: what a proof says that computes them.
use Rattle.semantics.specs.Book.{lane, book_image, book_offered, book_refusal, book_tried, unless_wrong, book_settled, book_listed, turn, told, kept, book_session}
use Rattle.semantics.specs.Bytes.{u16, u32, u64, le_bytes, all_of, implies, every, some_below, lowest, satisfying, table, entries, bit, mask, with_bit}
use Rattle.semantics.specs.Calls.{packed, unless_refused, check, start_rules, start, clerk_rules, offered_mask, tried, settled, handed_in, call_rules, performed, called, offered_bits, called_all, session}
use Rattle.semantics.specs.Cases.{agree, all_agree, start_image, tared_image, cases}
use Rattle.semantics.specs.Code.{instruction, decode, operate, operator_pops, operator_pushes, perform, ran, guard_holds, acted, owned_by, shared_in, declared, allowed, pops, pushes, depth_after, deeper, depth, final_depth, ends_at, span_ok}
use Rattle.semantics.specs.Image.{head, value_bytes, image, with_marks, marks_of, configuration_of, oracle_byte, head_matches, location_ok, last_port_ok, value_ok, configuration_ok, mark_ok, marks_ok, length_rule, image_rules}
use Rattle.semantics.specs.Load.{list_rules, passable, blocked, entry_allowed, stops_at, completes}
use Rattle.semantics.specs.Log.{log_of, cause_rules, cause_from, passes, cause, right, walked, log_rules, check_log, log_index}
use Rattle.semantics.specs.Move.{ready, chosen, chosen_in, enabled, outranked, eligible, acted_below, fired, letter, next_states, judged, after, state_in_range, oracles_in_range, lowest_verdict, reaches, good, tolerable, leads, leads_above, safe, dominated, may_commit, safe_move, replay, initial_state, initial}
use Rattle.semantics.specs.Plan.{oracle_states, states_before, section_size, section_start, takes_part, below, verdict, next}
use Rattle.semantics.specs.Refusal.{unless, refusal}
use Rattle.semantics.specs.Rules.{within, head_ok, state_count_ok, oracle_counts_ok, counts_ok, layout_ok, component_ok, variable_ok, transition_ok, port_ok, interaction_ok, rank_ok, verdict_ok, follower_ok, oracle_ok, table_ok, transition_code, interaction_code, proposition_code, code_ok, plan_rules, plan_refusal}
use Rattle.semantics.specs.Run.{is_run, enabled_above, level, levels, tries_of, tried_answers, committed_moves, no_commit, crosses, some_crosses}
use Rattle.semantics.specs.Sample.{joined, places, sections, counts, offsets, written, scale, sample, ranked, weighed_at_start, still, underflow, added_counts, with_oracle, judged_by, one_oracle_more, added_broken, guarded, tare_bad, in_several}
use Rattle.semantics.specs.Signed.{signed, residue, saturate, add, subtract, extend, equal_z, at_least, holds, truth}

unfoldable pub in_book : Unit {0}
unfolding lane book_image book_offered book_refusal book_tried unless_wrong book_settled book_listed turn told kept book_session
in_book = tt

unfoldable pub in_bytes : Unit {0}
unfolding u16 u32 u64 le_bytes all_of implies every some_below lowest satisfying table entries bit mask with_bit
in_bytes = tt

unfoldable pub in_calls : Unit {0}
unfolding packed unless_refused check start_rules start clerk_rules offered_mask tried settled handed_in call_rules performed called offered_bits called_all session
in_calls = tt

unfoldable pub in_cases : Unit {0}
unfolding agree all_agree start_image tared_image cases
in_cases = tt

unfoldable pub in_code : Unit {0}
unfolding instruction decode operate operator_pops operator_pushes perform ran guard_holds acted owned_by shared_in declared allowed pops pushes depth_after deeper depth final_depth ends_at span_ok
in_code = tt

unfoldable pub in_image : Unit {0}
unfolding head value_bytes image with_marks marks_of configuration_of oracle_byte head_matches location_ok last_port_ok value_ok configuration_ok mark_ok marks_ok length_rule image_rules
in_image = tt

unfoldable pub in_load : Unit {0}
unfolding list_rules passable blocked entry_allowed stops_at completes
in_load = tt

unfoldable pub in_log : Unit {0}
unfolding log_of cause_rules cause_from passes cause right walked log_rules check_log log_index
in_log = tt

unfoldable pub in_move : Unit {0}
unfolding ready chosen chosen_in enabled outranked eligible acted_below fired letter next_states judged after state_in_range oracles_in_range lowest_verdict reaches good tolerable leads leads_above safe dominated may_commit safe_move replay initial_state initial
in_move = tt

unfoldable pub in_plan : Unit {0}
unfolding oracle_states states_before section_size section_start takes_part below verdict next
in_plan = tt

unfoldable pub in_refusal : Unit {0}
unfolding unless refusal
in_refusal = tt

unfoldable pub in_rules : Unit {0}
unfolding within head_ok state_count_ok oracle_counts_ok counts_ok layout_ok component_ok variable_ok transition_ok port_ok interaction_ok rank_ok verdict_ok follower_ok oracle_ok table_ok transition_code interaction_code proposition_code code_ok plan_rules plan_refusal
in_rules = tt

unfoldable pub in_run : Unit {0}
unfolding is_run enabled_above level levels tries_of tried_answers committed_moves no_commit crosses some_crosses
in_run = tt

unfoldable pub in_sample : Unit {0}
unfolding joined places sections counts offsets written scale sample ranked weighed_at_start still underflow added_counts with_oracle judged_by one_oracle_more added_broken guarded tare_bad in_several
in_sample = tt

unfoldable pub in_signed : Unit {0}
unfolding signed residue saturate add subtract extend equal_z at_least holds truth
in_signed = tt
