use Rattle.std.proofs.Common.{◌≡◌, ℕ, List, ◌++◌, subst, ◌∙◌, length}
use Rattle.std.specs.Io.KnownBytes.{Appends}
use Rattle.std.proofs.lemmas.Result.{IfErr-weaker}
use Rattle.gw_net.specs.Messages.{message_spelling}
use Rattle.gw_net.specs.Writing.{IsCutShort}
use Rattle.gw_net.specs.inner.Writing.{IsCutBehind}
use Rattle.gw_net.proofs.Sending.{headed, cut_first, cut_second}
use Rattle.gw_net.proofs.outgoing.link_out.Goals as goal

pub returns-in-Err-clause-fault : goal.returns-in-Err-clause-fault
returns-in-Err-clause-fault g c =
    let K = g.W.Write.contents in
    let old = K c.args.writer.now in
    let new = K c.write_behind.new.writer in
    let body = c.in_ok-body.body.items in
    let head = c.in_ok-head.head.items in
    let whole : head ++ body ≡ message_spelling c.args.message.now = headed c.args.message.now head body c.len.result c.in_ok-body.ensures (c.len.ensures ∙ c.in_ok-body.body.ok.0) c.in_ok-head.ensures in
    let cut = subst (λ (t : List ℕ). IsCutBehind 0 old new t c.in-Err.fault) c.as_slice.ensures.value c.in-Err.ensures.fault in
    subst (λ (t : List ℕ). IsCutShort old new t c.in-Err.fault) whole (cut_first old new head body c.in-Err.fault cut)

pub returns-clause-fault : goal.returns-clause-fault
returns-clause-fault g c =
    let K = g.W.Write.contents in
    let old = K c.args.writer.now in
    let mid = K c.write_behind.new.writer in
    let new = K c.write_behind-in-Ok.new.writer in
    let body = c.in_ok-body.body.items in
    let head = c.in_ok-head.head.items in
    let whole : head ++ body ≡ message_spelling c.args.message.now = headed c.args.message.now head body c.len.result c.in_ok-body.ensures (c.len.ensures ∙ c.in_ok-body.body.ok.0) c.in_ok-head.ensures in
    let first = subst (λ (t : List ℕ). Appends old mid t) c.as_slice.ensures.value c.in-Ok.ensures.ok in
    let size : c.len-in-Ok.result ≡ length head = c.len-in-Ok.ensures ∙ c.in_ok-head.head.ok.0 in
    IfErr-weaker c.write_behind-in-Ok.result _ _
    (λ fault cut. subst (λ (t : List ℕ). IsCutShort old new t fault) whole (cut_second old mid new head body fault first
    (subst (λ (n : ℕ). IsCutBehind n mid new body fault) size (subst (λ (t : List ℕ). IsCutBehind c.len-in-Ok.result mid new t fault) c.as_slice-in-Ok.ensures.value cut))))
    c.write_behind-in-Ok.ensures.fault
