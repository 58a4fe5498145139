use Rattle.std.proofs.Common.{◌≡◌, ℕ, List, arith, subst, ap, ◌∙◌, take, drop}
use Rattle.file_disk.specs.Files.{FileState, file_grown}
use Rattle.file_disk.proofs.Growing.{grown_more}
use Rattle.file_disk.proofs.cutting.write_front.Goals as goal

pub loop-written-preserved : goal.loop-written-preserved
loop-written-preserved g c =
    let S = g.F.SlotFile.state in
    let bytes = c.args.bytes.now in
    let n = c.loop-written.written in
    let m = c.write_once-more.result in
    let old = S c.args.file.now in
    let mid = S c.loop-written.file in
    let new = S c.write_once-more.new.file in (
      omega (arith, c.write_once-more.ensures.within, c.split_at.ensures.back_len, c.loop-written.invariant.0),
      (λ h. subst (λ (t : List ℕ). new ≡ file_grown mid (take m t)) c.split_at.ensures.back (c.write_once-more.ensures.grown h) ∙ (ap (λ (s : FileState). file_grown s (take m (drop n bytes))) (c.loop-written.invariant.1 h) ∙ grown_more old n m bytes)),
    )
