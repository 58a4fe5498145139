use Rattle.std.proofs.Common.{rules}
use Rattle.std.proofs.lemmas.Fn.{filter_same}
use Rattle.sn_local.specs.WillDialogs.{is_elsewhere}
use Rattle.sn_local.proofs.will_dialogs.end_dialog.Goals as goal

pub returns-clause-items : goal.returns-clause-items
returns-clause-items c =
    filter_same _ (is_elsewhere c.args.address) _ (λ dialog kept after called. search rules) _ _ c.retain.ensures.filtered
