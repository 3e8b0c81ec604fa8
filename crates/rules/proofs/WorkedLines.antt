-- The worked lines hold, by computation.
use mathlib.Core.Path.{◌≡◌, refl}
use mathlib.Core.Bool.{Bool, true}
use mathlib.Core.List.{List, flat_map}
use Rattle.rules.specs.Octets.{text, same, less, begins, all_zero, padded, paste, chunks, four_bytes, little_endian, big_endian, big_from, field}
use Rattle.rules.specs.Octets.{pack_from, pack, bits_at, digits_before, decimal, is_digit, all_digits, value_from, plain_form, number, number_in}
use Rattle.rules.specs.Octets.{signed}
use Rattle.rules.specs.Domain.{domain_of, is_control}
use Rattle.rules.specs.Path.{name_byte, all_bytes, is_name, all_names, glued, split, introduce_name, release_name, special_of, checked, after_slash}
use Rattle.rules.specs.Path.{given, names_in, is_full, base, slashed, path_text, short_names, fits, beyond, is_below}
use Rattle.rules.specs.Entries.{is_empty, lowest, free_count, has, without}
use Rattle.rules.specs.Node.{root, fresh_table, node_at, is_child, child_from, child, reach_from, reach, heir, new_node, last_value, made, with_value}
use Rattle.rules.specs.Node.{with_entries, within, cleared_from, removed, insert, has_parent, children_from, children, path_up, path_of, owned_below}
use Rattle.rules.specs.Node.{owned_by, without_all}
use Rattle.rules.specs.Rights.{named, access_of, may_read, may_write, may_own, readable}
use Rattle.rules.specs.Payload.{before, ended, strings, first_string, access_letter, entry_of, entries_of, names_of, place_of, on_root, proper, asking}
use Rattle.rules.specs.Payload.{plain, writing, setting, setting_all, depth_for, watching_to, watch_payload, unwatch_payload, introducing_of}
use Rattle.rules.specs.Payload.{introduce_payload, of_domain, bare, start_payload, end_payload, parse}
use Rattle.rules.specs.Answer.{errno_text, OK, access_text, entry_text, permissions, name_list, listing, listed, unchanged, changed, absent, looked}
use Rattle.rules.specs.Answer.{sized, stocked, room, created, written, directory_made, taken, may_set, permitted, answered, answer}
use Rattle.rules.specs.Event.{place_text, lineage, events_of, deep_enough, may_hear, hears_at, hears, mask_of, any_bit, kept, heard_event}
use Rattle.rules.specs.Event.{heard_change, heard, is_event, heard_of, only_from, first_heard}
use Rattle.rules.specs.Layout.{text_at, entry_bits, node_bits, slot_bytes, entry_at, node_of, slot_of, table_bytes, table_of, domain_bytes, domain_in}
use Rattle.rules.specs.Layout.{domains_bytes, domains_of, is_relative, depth_bits, watch_bits, watch_bytes, place_in, watch_at, watch_in, watches_bytes}
use Rattle.rules.specs.Layout.{watches_of, change_bits, change_bytes, transaction_bytes, change_in, transaction_at, transaction_in, transactions_bytes}
use Rattle.rules.specs.Layout.{transactions_of, mask_bits, record_bytes}
use Rattle.rules.specs.Sound.{good_entries, reaches_root, good_name, good_node, good_nodes, good_root, clash, distinct, good_table, sound_table}
use Rattle.rules.specs.Sound.{introduced, known, good_domains, sound_domains, no_nul, strictly_below, event_depth, good_place, twin, watched}
use Rattle.rules.specs.Sound.{good_watch, good_watches, sound_watches, good_removal, good_change, good_changes, good_transactions}
use Rattle.rules.specs.Sound.{sound_transactions}
use Rattle.rules.specs.World.{fresh_world, staled, staled_if, without_transactions, without_watches, speaks_for, left, to, on_store, transaction_of}
use Rattle.rules.specs.World.{in_transaction, copy_of, asked, place_fits, watching, unwatching, starting, closing, committing, ending, introducing}
use Rattle.rules.specs.World.{removal_of, releasing, resetting, for_control, for_place, introduced_text, handle}
use Rattle.rules.specs.Call.{call_number, is_handled, sized_tables, sound, world_of, tables_of, fresh_call, type_of, tx_of, len_of, payload_of}
use Rattle.rules.specs.Call.{frame_verdict, request_verdict, reply_type, reply_payload, reply_to, outcome_of, outcome, turned_away, delivered}
use Rattle.rules.specs.Call.{request_by, request_call}
use Rattle.rules.specs.Worked.{Line, starred, added, same_tables, is_seen, all_seen, steps_hold, line_holds, all_hold, message, string}

-- all that a call computes with, opened
computed : List Line → Bool
unfolding domain_of is_control flat_map text same less begins all_zero padded paste chunks four_bytes little_endian big_endian big_from field
    pack_from pack bits_at digits_before decimal is_digit all_digits value_from plain_form number number_in signed name_byte all_bytes is_name
    all_names glued split introduce_name release_name special_of checked after_slash given names_in is_full base slashed path_text short_names fits
    beyond is_below is_empty lowest free_count has without root fresh_table node_at is_child child_from child reach_from reach heir new_node
    last_value made with_value with_entries within cleared_from removed insert has_parent children_from children path_up path_of owned_below owned_by
    without_all named access_of may_read may_write may_own readable before ended strings first_string access_letter entry_of entries_of names_of
    place_of on_root proper asking plain writing setting setting_all depth_for watching_to watch_payload unwatch_payload introducing_of
    introduce_payload of_domain bare start_payload end_payload parse errno_text OK access_text entry_text permissions name_list listing listed
    unchanged changed absent looked sized stocked room created written directory_made taken may_set permitted answered answer place_text lineage
    events_of deep_enough may_hear hears_at hears mask_of any_bit kept heard_event heard_change heard is_event heard_of only_from first_heard text_at
    entry_bits node_bits slot_bytes entry_at node_of slot_of table_bytes table_of domain_bytes domain_in domains_bytes domains_of is_relative
    depth_bits watch_bits watch_bytes place_in watch_at watch_in watches_bytes watches_of change_bits change_bytes transaction_bytes change_in
    transaction_at transaction_in transactions_bytes transactions_of mask_bits record_bytes good_entries reaches_root good_name good_node good_nodes
    good_root clash distinct good_table sound_table introduced known good_domains sound_domains no_nul strictly_below event_depth good_place twin
    watched good_watch good_watches sound_watches good_removal good_change good_changes good_transactions sound_transactions fresh_world staled
    staled_if without_transactions without_watches speaks_for left to on_store transaction_of in_transaction copy_of asked place_fits watching
    unwatching starting closing committing ending introducing removal_of releasing resetting for_control for_place introduced_text handle call_number
    is_handled sized_tables sound world_of tables_of fresh_call type_of tx_of len_of payload_of frame_verdict request_verdict reply_type reply_payload
    reply_to outcome_of outcome turned_away delivered request_by request_call same_tables is_seen all_seen steps_hold line_holds all_hold message
    string
computed ls = all_hold ls

-- every starred line of document 01 holds
pub worked : all_hold starred ≡ true
unfolding computed starred
worked = refl

-- and every line that shuts out a shortcut
pub shut_out : all_hold added ≡ true
unfolding computed added
shut_out = refl
