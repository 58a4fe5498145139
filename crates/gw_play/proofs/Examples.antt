-- The definitions on worked examples.
use Rattle.std.proofs.Common.{◌≡◌, ◌++◌, [], ◌∷◌, None, Some, refl, false}
use Rattle.std.specs.Prelude.{codes, Ok, Err}
use Rattle.std.specs.Fmt.{digits}
use Rattle.hex.specs.Hex.{encode_with}
use Rattle.gw_answer.specs.declared.refusal.Refusal.TheVariants as refusals
use Rattle.gw_answer.specs.Answers.{only_sends}
use Rattle.gw_world.specs.declared.world.WorldFault.TheVariants as world_faults
use Rattle.sn_frame.specs.declared.fault.FrameFault.TheVariants as frame_faults
use Rattle.gw_play.specs.Texts.{line_end}
use Rattle.gw_play.specs.Printing.{send_line, refusal_text, said_text, put_line, client_text, retained_line}
use Rattle.gw_play.specs.inner.Printing.{world_fault_line, bad_line_text, bad_call_text}

-- a CONNACK for port 7
datagram : send_line (record { to = record { host = 0; port = 7 }; bytes = 3 ∷ 5 ∷ 0 ∷ [] }) ≡ codes "to 7 030500" ++ line_end
unfolding digits encode_with
datagram = refl

-- the second delta, and a step that did nothing
delta : said_text 1 (Ok (record (only_sends []) { made = Some [] })) ≡ codes "delta 2" ++ line_end
unfolding digits
delta = refl

nothing : said_text 1 (Ok (only_sends [])) ≡ codes "quiet" ++ line_end
nothing = refl

-- a CONNECT that came to nothing, since the journal could not be written
failed : said_text 1 (Err (refusals.Disk (only_sends (record { to = record { host = 0; port = 7 }; bytes = 3 ∷ 5 ∷ 1 ∷ [] } ∷ []))))
    ≡ codes "to 7 030501" ++ line_end ++ codes "refused N3" ++ line_end
unfolding digits encode_with
failed = refl

-- a datagram of no octet
no_frame : refusal_text (refusals.Frame frame_faults.Empty) ≡ codes "refused N1 F1" ++ line_end
unfolding digits
no_frame = refl

-- a message of no octet
waiting : put_line (record { origin = 2; seq = 1; topic = codes "ab"; qos = 0; retain = false; expires = 0; body = [] }) ≡ codes "  put 1.2 0 6162 -" ++ line_end
unfolding digits encode_with
waiting = refl

-- a message that need not wait from second 33 on
lasting : put_line (record { origin = 1; seq = 2; topic = codes "ab"; qos = 1; retain = false; expires = 33; body = codes "y" }) ≡ codes "  put 2.1 1 6162 79 expires 33" ++ line_end
unfolding digits encode_with
lasting = refl

-- a client of which no Take came
unknown : client_text (codes "s1", record { stamp = None; prefix = 0; session = None; pending = [] }) ≡ codes "client 7331 stamp none" ++ line_end
unfolding digits encode_with
unknown = refl

-- a message of one octet that is retained
kept : retained_line (codes "ab", record { clock = 3; gateway = 2; qos = 1; body = codes "x" }) ≡ codes "retain 3.2 1 6162 78" ++ line_end
unfolding digits encode_with
kept = refl

-- why a run has no result
no_gateway : world_fault_line (world_faults.NoGateway 3) ≡ codes "event 3: E1" ++ line_end
unfolding digits
no_gateway = refl

-- a script's third line
third : bad_line_text 3 ≡ codes "line 3: not a command" ++ line_end
unfolding digits
third = refl

-- a script's fourth line, behind one that says that two calls come together
fourth : bad_call_text 4 ≡ codes "line 4: not a call" ++ line_end
unfolding digits
fourth = refl
