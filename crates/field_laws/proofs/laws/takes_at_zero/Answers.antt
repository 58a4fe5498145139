use Rattle.field_laws.proofs.Takes.{listed-takes, taken-takes, kept-takes}
use Rattle.field_laws.proofs.laws.takes_at_zero.Goals as goal

pub returns : goal.returns
returns c = record {
  listed = λ configs events answers field delta run there. listed-takes configs events answers field run delta there;
  taken = λ configs events answers field gateway run there. taken-takes configs events answers field run gateway there;
  kept = λ configs events answers field gateway kept c stamp counter change run there keeps e.
      kept-takes configs events answers field run gateway kept there keeps c stamp counter change e;
}
