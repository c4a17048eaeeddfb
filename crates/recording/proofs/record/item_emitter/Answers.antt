-- `recording::record::item_emitter` meets its contract: a child or an element.
use Rattle.recording.proofs.ItemLaws.{an_element, a_child}
use Rattle.recording.proofs.record.item_emitter.Goals as goal

pub returns-then-elements : goal.returns-then-elements
returns-then-elements c = search an_element

pub returns : goal.returns
returns c = search a_child
