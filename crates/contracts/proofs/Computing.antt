-- The definitions by which a call computes: `unfolding computing` opens them all, where a closed case is proved by computation.
use Rattle.refusals.specs.Order.{first_of}
use Rattle.record.specs.Record.{record_bytes, complete_at, allowed}
use Rattle.extent.specs.Extent.{header_at, payloads_from, sizes}
use Rattle.metadata.specs.Layout.{area}
use Rattle.metadata.specs.Metadata.{sizes_ok, listed, metadata_bytes, all_below, rules, value_of, number_of}
use Rattle.table.specs.Next.{next_of}
use Rattle.slots.specs.Entries.{among, distinct, rising, leading}
use Rattle.free.specs.Word.{word, count, lowest, is_free}
use Rattle.scan.specs.Scan.{extents_in, all_begin, joined, tail_of_extents, place_of, head_in_first, extents_ok, open_number, scan}
use Rattle.state.specs.Change.{zero_state}
use Rattle.well.specs.Well.{list_ok, below_second, head_ok, marks_ok, place_ok, pending_ok, roll_ok, unused_ok, well_formed}
use Rattle.outcome.specs.Outcome.{outcome}
use Rattle.outcome.specs.Enter.{sized, enter_number}
use Rattle.outcome.specs.Rest.{rest_outcome}
use Rattle.counts.specs.Counts.{counts_number, counts_of}
use Rattle.create.specs.Create.{fresh_state, fresh_image, create_image}
use Rattle.recovery.specs.Recovery.{open_answer, mark_outcome}
use Rattle.append.specs.Append.{append_rules, append_number, append_outcome}
use Rattle.roll.specs.Begin.{roll_begin_rules, roll_begin_number, roll_begin_outcome}
use Rattle.roll.specs.Write.{roll_write_rules, roll_write_number, roll_write_outcome}
use Rattle.roll.specs.List.{roll_list_outcome}
use Rattle.head.specs.Finish.{head_finish_outcome}
use Rattle.head.specs.Start.{head_start_rules, head_start_number, head_start_outcome}
use Rattle.walk.specs.Walk.{live_rule}
use Rattle.tail.specs.Start.{tail_start_rules, tail_start_number, tail_start_outcome}
use Rattle.close.specs.Close.{close_outcome}
use Rattle.read.specs.Read.{read_rules, number_of_read, read_answer}

unfoldable pub computing : Unit {0}
unfolding
    first_of record_bytes complete_at allowed header_at payloads_from sizes
    area sizes_ok listed metadata_bytes all_below rules value_of number_of
    among distinct rising leading word count lowest is_free
    extents_in all_begin joined tail_of_extents place_of head_in_first extents_ok open_number scan next_of
    list_ok below_second head_ok marks_ok place_ok pending_ok roll_ok unused_ok well_formed outcome sized enter_number
    zero_state fresh_state fresh_image create_image open_answer rest_outcome mark_outcome append_rules append_number append_outcome head_finish_outcome close_outcome
    roll_begin_rules roll_begin_number roll_begin_outcome roll_write_rules roll_write_number roll_write_outcome roll_list_outcome head_start_rules head_start_number head_start_outcome
    live_rule tail_start_rules tail_start_number tail_start_outcome read_rules number_of_read read_answer counts_number counts_of
computing = tt
