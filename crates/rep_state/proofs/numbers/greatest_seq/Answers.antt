use Rattle.std.proofs.Common.{ℕ, max, sym, ap, ◌∙◌}
use Rattle.rep_model.specs.Fresh.{largest}
use Rattle.rep_entry.specs.inner.Numbers.{seq_from}
use Rattle.rep_state.proofs.Reading.{largest_row}
use Rattle.rep_state.proofs.numbers.greatest_seq.Goals as goal

pub returns : goal.returns
returns c =
    λ client.
    let g = c.args.gateway in
    c.larger.ensures
    ∙ (λ i. max ((c.greatest_put-sent.ensures ∙ ap (largest (seq_from g)) c.as_slice.ensures) i) ((c.greatest_end-taken.ensures ∙ ap (largest (λ (range : ℕ × ℕ). range.1)) c.numbers.ensures.numbers) i))
    ∙ sym (largest_row client g c.args.entry.now c.numbers.ensures.origins)
