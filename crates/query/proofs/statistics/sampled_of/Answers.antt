-- `query::statistics::sampled_of` meets its contract: its fields, where there is a frame.
use Rattle.query.specs.Statistics.{sampled_of}
use Rattle.query.proofs.FrameViews.{no_frame, settings_read}
use Rattle.query.proofs.statistics.sampled_of.Goals as goal

pub returns-then-frame-eq0 : goal.returns-then-frame-eq0
returns-then-frame-eq0 c = no_frame sampled_of c.args.frame.now c.if-frame-eq0.true

pub returns : goal.returns
returns c = search settings_read
