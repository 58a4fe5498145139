use Rattle.std.proofs.Common.{refl}
use Rattle.put_laws.proofs.Handing.{handed-all, handed-only, handed-few, handed-ascend}
use Rattle.put_laws.proofs.Retaining.{step-retained, step-handed, tick-retained, tick-handed, gateway-wins, gateway-others}
use Rattle.put_laws.proofs.laws.retained_is_handed.Goals as goal

pub returns : goal.returns
returns c = record {
  frames = step-retained;
  ticks = tick-retained;
  wins = λ g S plan m. gateway-wins g S plan m;
  others = λ g S plan t. gateway-others g S plan t;
  handed = step-handed;
  ticks_hand = tick-handed;
  exact = λ S asked qos waiting. refl;
  all = λ S asked qos waiting t k. handed-all S asked qos waiting t k;
  only = λ S asked qos waiting m. handed-only S asked qos waiting m;
  few = handed-few;
  ascending = handed-ascend;
}
