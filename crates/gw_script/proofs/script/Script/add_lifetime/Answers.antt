use Rattle.std.proofs.Common.{refl, sym}
use Rattle.std.proofs.lemmas.Option.{slice_get_read}
use Rattle.gw_script.proofs.Growth.{lasts, has_none}
use Rattle.gw_script.proofs.script.Script.add_lifetime.Goals as goal

pub returns-clause-ok : goal.returns-clause-ok
returns-clause-ok c =
    let silent = has_none c.args.self.now.events c.is_empty.result c.is_empty.ensures c.if-not-is_empty.false in
    let at = rw c.as_slice.ensures at c.in-Some.ensures.place in
    let within = rw c.as_slice.ensures at c.in-Some.ensures.within in
    let is = rw c.as_slice-2.ensures at c.index-as_slice-place.is in
    lasts c.args.self.now c.args.number c.args.seconds c.in-Some.place c.index-as_slice-place.result c.in_ok-config.config c.replace.new.self
    silent (sym at) (slice_get_read c.args.self.now.configs _ c.in-Some.place c.index-as_slice-place.result refl within is)
    c.in_ok-config.ensures c.replace.ensures
