-- From which addresses a will is awaited: a CONNECT with a will is a dialog of several frames
-- (MQTT-SN 1.2 section 6.2).
use Rattle.std.specs.Prelude.{Bool, not, if◌then◌else◌, nat_le, List, [], ◌∷◌, ◌++◌, filter, fold, length, Option, Some, None}
use Rattle.sn_local.specs.declared.config.Addr.{Addr}
use Rattle.sn_local.specs.declared.local.WillDialog.{WillDialog}
use Rattle.sn_local.specs.declared.local.LocalChange.{LocalChange}
use Rattle.sn_local.specs.declared.local.LocalChange.TheVariants.{Ask, EndDialog}
use Rattle.sn_local.specs.declared.will_dialogs.TheConstants.{MAX_DIALOGS}
use Rattle.sn_local.specs.Bindings.{same_address}

-- whether a dialog is with another address
abbrev pub is_elsewhere : Addr → WillDialog → Bool
is_elsewhere a dialog = not (same_address dialog.request.address a)

-- the dialogs of all other addresses
abbrev pub dialogs_elsewhere : Addr → List WillDialog → List WillDialog
dialogs_elsewhere a dialogs = filter (is_elsewhere a) dialogs

-- the will dialogs with this one, which replaces any other of its address
abbrev pub asked : WillDialog → List WillDialog → List WillDialog
asked dialog dialogs = dialogs_elsewhere dialog.request.address dialogs ++ dialog ∷ []

-- the will dialogs after this change; only `Ask` and `EndDialog` change them
abbrev pub dialog_change : List WillDialog → LocalChange → List WillDialog
dialog_change dialogs (Ask dialog) = asked dialog dialogs
dialog_change dialogs (EndDialog a) = dialogs_elsewhere a dialogs
dialog_change dialogs change = dialogs

-- the dialogs after these changes
abbrev pub dialogs_after : List WillDialog → List LocalChange → List WillDialog
dialogs_after dialogs changes = fold dialog_change dialogs changes

-- the dialog of an address
abbrev pub dialog_at : Addr → List WillDialog → Option WillDialog
dialog_at a [] = None
dialog_at a (dialog ∷ rest) =
    if same_address dialog.request.address a then Some dialog else dialog_at a rest

-- whether 1,024 other addresses have a dialog, so that there is no room for one more
abbrev pub is_crowded : Addr → List WillDialog → Bool
is_crowded a dialogs = nat_le MAX_DIALOGS (length (dialogs_elsewhere a dialogs))
