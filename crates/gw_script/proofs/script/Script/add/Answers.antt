use Rattle.gw_script.proofs.script.Script.add.Goals as goal

pub returns-in-Predefine-clause-refused : goal.returns-in-Predefine-clause-refused
returns-in-Predefine-clause-refused c = rw c.in-Predefine.is c.add_predefined.ensures.refused

pub returns-in-Lifetime-clause-refused : goal.returns-in-Lifetime-clause-refused
returns-in-Lifetime-clause-refused c = rw c.in-Lifetime.is c.add_lifetime.ensures.refused
