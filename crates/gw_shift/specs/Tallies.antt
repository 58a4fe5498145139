-- How many calls of each kind a history has, by answer.
use Rattle.std.specs.Prelude.{ℕ, ◌==◌, ◌&&◌, Bool, List, Result, Ok, Err, count_by, flat_map, map}
use Rattle.gw_answer.specs.Answers.{refusal_number}
use Rattle.gw_answer.specs.declared.out.Out.{Out}
use Rattle.gw_answer.specs.declared.refusal.Refusal.{Refusal}
use Rattle.gw_answer.specs.declared.step.Step.{Step}
use Rattle.gw_answer.specs.declared.step.Step.TheVariants as steps
use Rattle.gw_report.specs.declared.label.CallAnswer.{CallAnswer}
use Rattle.gw_report.specs.declared.label.CallKind.{CallKind}
use Rattle.gw_report.specs.declared.label.CallKind.TheVariants as kinds
use Rattle.gw_report.specs.declared.label.Label.TheVariants as labels
use Rattle.gw_report.specs.declared.label.TheConstants.{KINDS as all_kinds, ANSWERS as all_answers}
use Rattle.gw_report.specs.declared.numbers.Sample.{Sample}
use Rattle.gw_report.specs.Labels.{call_number, answer_number}
use Rattle.gw_shift.specs.Calls.{Call}

-- the kind of a call
abbrev pub call_kind : Step → CallKind
call_kind (steps.Frame from bytes moment) = kinds.Frame
call_kind (steps.Take delta) = kinds.Take
call_kind (steps.Tick moment) = kinds.Tick
call_kind (steps.View client) = kinds.View
call_kind steps.Digest = kinds.Digest
call_kind (steps.Answer digest) = kinds.Answer
call_kind steps.Compact = kinds.Compact
call_kind steps.Reopen = kinds.Reopen

-- the number of an answer: 0 for a call that was done, else the number of the refusal
abbrev pub reply_number : Result Out Refusal → ℕ
reply_number (Ok out) = 0
reply_number (Err refusal) = refusal_number refusal

-- whether a call is of this kind, and was answered so
abbrev pub is_call : CallKind → CallAnswer → Call → Bool
is_call kind answer call =
    (call_number (call_kind call.step) == call_number kind)
    && (reply_number call.answer == answer_number answer)

-- how many calls of a history are of this kind, and were answered so
abbrev pub sample_of : List Call → CallKind → CallAnswer → Sample
sample_of history kind answer = record {
  label = labels.Call kind answer;
  value = count_by (is_call kind answer) history;
}

-- the calls of a kind, by answer
abbrev pub samples_of_kind : List Call → List CallAnswer → CallKind → List Sample
samples_of_kind history answers kind = map (sample_of history kind) answers

-- all calls of a history, by kind and answer
abbrev pub samples_of : List Call → List Sample
samples_of history = flat_map (samples_of_kind history all_answers) all_kinds
