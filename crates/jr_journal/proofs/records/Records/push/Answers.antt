use Rattle.std.proofs.Common.{◌∷◌, [], ◌++◌, ap, ◌∙◌}
use Rattle.jr_journal.proofs.Several.{more_are, more_in}
use Rattle.jr_journal.proofs.records.Records.push.Goals as goal

-- the record stands behind the others
pub invariant_of-self-2 : goal.invariant_of-self-2
invariant_of-self-2 c =
    let old = c.self.inside.bytes.items in
    more_are old c.append_bytes.new.out.items c.args.delta.now c.self.invariant c.in_ok-record.ensures.readable
    (c.in_ok-append_bytes.ensures.ok ∙ ap (λ xs. old ++ xs) (c.deref.ensures.value ∙ c.in_ok-record.ensures.ok))

pub returns-clause-ok : goal.returns-clause-ok
returns-clause-ok c =
    let old = c.self.inside.bytes.items in
    more_in old c.append_bytes.new.out.items c.args.delta.now c.self.invariant c.in_ok-record.ensures.readable
    (c.in_ok-append_bytes.ensures.ok ∙ ap (λ xs. old ++ xs) (c.deref.ensures.value ∙ c.in_ok-record.ensures.ok))
    ∙ ap (λ ds. ds ++ c.args.delta.now ∷ []) c.self.view_is
