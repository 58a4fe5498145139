use Rattle.mq_stream.proofs.Onward.{reads-on}
use Rattle.mq_stream.proofs.laws.one_stream.Goals as goal

pub returns : goal.returns
returns c = reads-on
