use Rattle.std.proofs.Common.{◌≡◌, ◌++◌, OnOk, subst}
use Rattle.rep_log.specs.Kept.{of_acks}
use Rattle.rep_log.specs.Origins.{ranges_in}
use Rattle.rep_log.proofs.acks.Acks.push_to.Goals as goal

pub returns : goal.returns
returns c = subst (λ os. OnOk c.push_origins.result (c.push_origins.new.kept.items ≡ c.args.kept.now.items ++ of_acks c.args.client.now (ranges_in os))) c.self.view_is c.push_origins.ensures
