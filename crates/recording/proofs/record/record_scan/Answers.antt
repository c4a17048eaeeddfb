-- `recording::record::record_scan` meets its contract: its node, then its items.
use Rattle.recording.proofs.RecordLaws.{still_below, node_and_items}
use Rattle.recording.proofs.record.record_scan.Goals as goal

pub record_items-requires : goal.record_items-requires
record_items-requires c = search still_below

pub returns : goal.returns
returns c = search node_and_items
