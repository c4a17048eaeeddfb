-- `hex_lines::lines::line_at` meets its contract: the search for the line's end.
use Rattle.hex_lines.proofs.ScanLaws.{end_from, line_past, line_is}
use Rattle.hex_lines.proofs.lines.line_at.Goals as goal

pub returns-then-text-at : goal.returns-then-text-at
returns-then-text-at c = search line_past

pub slice_bounds-result-count-2 : goal.slice_bounds-result-count-2
slice_bounds-result-count-2 c = search end_from

pub slice_bounds-result-start-2 : goal.slice_bounds-result-start-2
slice_bounds-result-start-2 c = search end_from

pub returns : goal.returns
returns c = search line_is
