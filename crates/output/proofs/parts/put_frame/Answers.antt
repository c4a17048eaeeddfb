-- `output::parts::put_frame` meets its contract: as many bytes as the kind and n say, then the end.
use Rattle.output.proofs.PutLaws.{frame_near, frame_put}
use Rattle.output.proofs.parts.put_frame.Goals as goal

pub put_end-requires : goal.put_end-requires
put_end-requires c = search frame_near

pub returns : goal.returns
returns c = search frame_put
