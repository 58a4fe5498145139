use Rattle.row_laws.proofs.laws.messages_wait.Goals as goal
use Rattle.row_laws.proofs.Retaining.{plan-wins, plan-others}
use Rattle.row_laws.proofs.Moments.{plan-moments}
use Rattle.row_laws.proofs.Waiting.{plan-messages, plan-handed, plan-retained, plan-waits}

pub returns : goal.returns
returns c = record {
  all = plan-messages;
  handed = plan-handed;
  moments = plan-moments;
  retained = plan-retained;
  wins = λ g c S d plan m planned. plan-wins g c S d plan planned m;
  others = λ g c S d plan t planned. plan-others g c S d plan planned t;
  waiting = λ g c S d plan flush apart planned. plan-waits g c S d plan planned flush apart;
}
