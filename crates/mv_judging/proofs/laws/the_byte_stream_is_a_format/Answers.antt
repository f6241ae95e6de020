use Rattle.mv_judging.proofs.Streams.{stream-format}
use Rattle.mv_judging.proofs.laws.the_byte_stream_is_a_format.Goals as goal

pub returns : goal.returns
returns c = stream-format
