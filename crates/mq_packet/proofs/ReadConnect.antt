-- CONNECT: what was read has the octets that it was read from, and each reads as it
use Rattle.std.proofs.Common.{◌≡◌, ℕ, suc, ◌+◌, ◌*◌, ◌/◌, ◌%◌, ◌^◌, ◌<◌, ◌==◌, ◌&&◌, ◌||◌, not, Bool, true, false, cond, ltb, List, [], ◌∷◌, ◌++◌, length, take, drop, Option, Some, None, refl, ap, sym, subst, ◌∙◌, append_assoc, arith}
use Rattle.std.specs.Prelude.{IfSome, is_some}
use Rattle.std.specs.Str.{bytes_eq}
use Rattle.std.proofs.lemmas.Bool.{and_parts, and_from, eqb-true, le-ltb}
use Rattle.std.proofs.lemmas.List.{append-nil, nil_from_length, take-append-drop}
use Rattle.std.proofs.lemmas.Option.{cond_some}
use Rattle.std.proofs.lemmas.Slice.Eq.{bytes_eq-Decides}
use Rattle.byteorder.specs.Endian.{big_bytes}
use Rattle.mq_packet.specs.declared.header.Header.TheVariants as headers
use Rattle.mq_packet.specs.declared.marks.Marks.{Marks}
use Rattle.mq_packet.specs.declared.packet.Login.{Login}
use Rattle.mq_packet.specs.declared.packet.Packet.{Packet}
use Rattle.mq_packet.specs.declared.packet.Packet.TheVariants as packets
use Rattle.mq_packet.specs.declared.packet.Qos.{Qos}
use Rattle.mq_packet.specs.declared.packet.Qos.TheVariants as levels
use Rattle.mq_packet.specs.declared.packet.Will.{Will}
use Rattle.mq_packet.specs.Bodies.{IsLogin, IsAllowedPacket, IsSixteenBits, IsPacketValue, IsWill, bit, packet_body, data_octets, login_bits, login_octets, protocol, will_bits, will_strings}
use Rattle.mq_packet.specs.Text.{IsData, IsText, is_text, is_topic_text}
use Rattle.mq_packet.specs.inner.Reading.{◌>>=◌, ConnectStrings, are_good, connection, has_password, login_made, login_mark_bits, marks_at, marks_octet, number_of_two, past_protocol, read_connect_packet, read_connection, read_data, read_data_if, read_marked, read_marks, read_parts, will_made, will_mark_bits}
use Rattle.mq_packet.proofs.Fields.{bound, data_again, data_if, data_if_again, data_if_taken, data_taken, some_bound}
use Rattle.mq_packet.proofs.Numbers.{IsBytes, chosen, number-fits, number-octets, octets-number, otherwise}
use Rattle.mq_packet.proofs.Standing.{IsOf, Stands, stands_by}
use Rattle.mq_packet.proofs.Texts.{text_from, text_to, topic_from, topic_to}

-- the flags that were read write their octet
marks_taken : (octet : ℕ) (m : Marks) → read_marks octet ≡ Some m → marks_octet m ≡ octet
marks_taken octet m h =
    let found = cond_some (marks_octet (marks_at octet) == octet) (marks_at octet) m h in
    let P : Marks → Type 0 = λ x. marks_octet x ≡ octet in
    subst P found.1 (eqb-true (marks_octet (marks_at octet)) octet found.0)

-- and each flags read as themselves
abbrev marks_of : Bool → Option (Qos × Bool) → Option Bool → Marks
marks_of clean will login = record { clean = clean; will = will; login = login }

marks_again : (clean : Bool) (will : Option (Qos × Bool)) (login : Option Bool) → read_marks (marks_octet (marks_of clean will login)) ≡ Some (marks_of clean will login)
marks_again true None None = refl
marks_again true None (Some true) = refl
marks_again true None (Some false) = refl
marks_again true (Some (levels.Zero, true)) None = refl
marks_again true (Some (levels.Zero, true)) (Some true) = refl
marks_again true (Some (levels.Zero, true)) (Some false) = refl
marks_again true (Some (levels.Zero, false)) None = refl
marks_again true (Some (levels.Zero, false)) (Some true) = refl
marks_again true (Some (levels.Zero, false)) (Some false) = refl
marks_again true (Some (levels.One, true)) None = refl
marks_again true (Some (levels.One, true)) (Some true) = refl
marks_again true (Some (levels.One, true)) (Some false) = refl
marks_again true (Some (levels.One, false)) None = refl
marks_again true (Some (levels.One, false)) (Some true) = refl
marks_again true (Some (levels.One, false)) (Some false) = refl
marks_again false None None = refl
marks_again false None (Some true) = refl
marks_again false None (Some false) = refl
marks_again false (Some (levels.Zero, true)) None = refl
marks_again false (Some (levels.Zero, true)) (Some true) = refl
marks_again false (Some (levels.Zero, true)) (Some false) = refl
marks_again false (Some (levels.Zero, false)) None = refl
marks_again false (Some (levels.Zero, false)) (Some true) = refl
marks_again false (Some (levels.Zero, false)) (Some false) = refl
marks_again false (Some (levels.One, true)) None = refl
marks_again false (Some (levels.One, true)) (Some true) = refl
marks_again false (Some (levels.One, true)) (Some false) = refl
marks_again false (Some (levels.One, false)) None = refl
marks_again false (Some (levels.One, false)) (Some true) = refl
marks_again false (Some (levels.One, false)) (Some false) = refl

-- the octets of the strings that the flags say are there
abbrev strings_octets : Marks → ConnectStrings → List ℕ
strings_octets m p =
    data_octets p.0 ++ (data_if (is_some m.will) p.1 ++ (data_if (is_some m.will) p.2 ++ (data_if (is_some m.login) p.3 ++ data_if (has_password m.login) p.4)))

-- strings that two octets can measure
record AreData (p : ConnectStrings) : Type 0 where
  topic : IsData p.1
  message : IsData p.2
  user : IsData p.3
  password : IsData p.4
  client : IsData p.0

record TakesParts (m : Marks) (payload : List ℕ) (p : ConnectStrings) : Type 0 where
  whole : payload ≡ strings_octets m p
  sizes : AreData p

-- the last string, and nothing after it
last_part : (rest : List ℕ) (p q : ConnectStrings) → cond (length rest == 0) (Some p) None ≡ Some q → (rest ≡ []) × (p ≡ q)
last_part rest p q h =
    let found = cond_some (length rest == 0) p q h in
    (nil_from_length rest (eqb-true (length rest) 0 found.0), found.1)

-- the strings that were read have the octets that they were read from
abbrev with_password : List ℕ → List ℕ → List ℕ → List ℕ → List ℕ × List ℕ → Option ConnectStrings
with_password client topic message user password =
    let parts : ConnectStrings = (client, topic, message, user, password.0) in cond (length password.1 == 0) (Some parts) None

abbrev with_user : Marks → List ℕ → List ℕ → List ℕ → List ℕ × List ℕ → Option ConnectStrings
with_user m client topic message user = read_data_if (has_password m.login) user.1 >>= with_password client topic message user.0

abbrev with_message : Marks → List ℕ → List ℕ → List ℕ × List ℕ → Option ConnectStrings
with_message m client topic message = read_data_if (is_some m.login) message.1 >>= with_user m client topic message.0

abbrev with_topic : Marks → List ℕ → List ℕ × List ℕ → Option ConnectStrings
with_topic m client topic = read_data_if (is_some m.will) topic.1 >>= with_message m client topic.0

abbrev with_client : Marks → List ℕ × List ℕ → Option ConnectStrings
with_client m client = read_data_if (is_some m.will) client.1 >>= with_topic m client.0

joined : (a b c d e r s t u v : List ℕ) → r ≡ a ++ s → s ≡ b ++ t → t ≡ c ++ u → u ≡ d ++ v → v ≡ e ++ [] → r ≡ a ++ (b ++ (c ++ (d ++ e)))
joined a b c d e r s t u v p q x y z = let last = append-nil e in cc

parts_taken : (m : Marks) (payload : List ℕ) (p : ConnectStrings) → IsBytes payload → read_parts m payload ≡ Some p → TakesParts m payload p
parts_taken m payload p b h =
    let client = some_bound (read_data payload) (with_client m) p h in
    let first = data_taken payload client.0 b client.1 in
    let topic = some_bound (read_data_if (is_some m.will) client.0.1) (with_topic m client.0.0) p client.2 in
    let second = data_if_taken (is_some m.will) client.0.1 topic.0 first.rest topic.1 in
    let message = some_bound (read_data_if (is_some m.will) topic.0.1) (with_message m client.0.0 topic.0.0) p topic.2 in
    let third = data_if_taken (is_some m.will) topic.0.1 message.0 second.rest message.1 in
    let user = some_bound (read_data_if (is_some m.login) message.0.1) (with_user m client.0.0 topic.0.0 message.0.0) p message.2 in
    let fourth = data_if_taken (is_some m.login) message.0.1 user.0 third.rest user.1 in
    let password = some_bound (read_data_if (has_password m.login) user.0.1) (with_password client.0.0 topic.0.0 message.0.0 user.0.0) p user.2 in
    let fifth = data_if_taken (has_password m.login) user.0.1 password.0 fourth.rest password.1 in
    let parts : ConnectStrings = (client.0.0, topic.0.0, message.0.0, user.0.0, password.0.0) in
    let last = last_part password.0.1 parts p password.2 in
    let P : List ℕ → Type 0 = λ r. user.0.1 ≡ data_if (has_password m.login) password.0.0 ++ r in
    let ending = subst P last.0 fifth.whole in
    let Q : ConnectStrings → Type 0 = λ q. TakesParts m payload q in
    subst Q last.1 (record {
      whole = joined (data_octets client.0.0) (data_if (is_some m.will) topic.0.0) (data_if (is_some m.will) message.0.0) (data_if (is_some m.login) user.0.0) (data_if (has_password m.login) password.0.0)
          payload client.0.1 topic.0.1 message.0.1 user.0.1 first.whole second.whole third.whole fourth.whole ending;
      sizes = record { topic = second.short; message = third.short; user = fourth.short; password = fifth.short; client = first.short };
    })

-- the parts of CONNECT, from the flags and the strings
will_made-octets : (w : Option (Qos × Bool)) (topic message : List ℕ) → will_strings (will_made w topic message) ≡ data_if (is_some w) topic ++ data_if (is_some w) message
will_made-octets None topic message = refl
will_made-octets (Some w) topic message = refl

login_made-octets : (l : Option Bool) (user password : List ℕ) → login_octets (login_made l user password) ≡ data_if (is_some l) user ++ data_if (has_password l) password
login_made-octets None user password = refl
login_made-octets (Some true) user password = refl
login_made-octets (Some false) user password = refl

will_made-bits : (w : Option (Qos × Bool)) (topic message : List ℕ) → will_bits (will_made w topic message) ≡ will_mark_bits w
will_made-bits None topic message = refl
will_made-bits (Some w) topic message = refl

login_made-bits : (l : Option Bool) (user password : List ℕ) → login_bits (login_made l user password) ≡ login_mark_bits l
login_made-bits None user password = refl
login_made-bits (Some true) user password = refl
login_made-bits (Some false) user password = refl

will_made-good : (w : Option (Qos × Bool)) (topic message : List ℕ) → (not (is_some w) || is_topic_text topic) ≡ true → IsData message → IfSome (will_made w topic message) IsWill
will_made-good None topic message h d = tt
will_made-good (Some w) topic message h d = (topic_from topic h, d)

login_made-good : (l : Option Bool) (user password : List ℕ) → (not (is_some l) || is_text user) ≡ true → IsData password → IfSome (login_made l user password) IsLogin
login_made-good None user password h d = tt
login_made-good (Some true) user password h d = (text_from user h, d)
login_made-good (Some false) user password h d = (text_from user h, tt)

-- the octets after the protocol
abbrev marked_octets : ℕ → ℕ → List ℕ → List ℕ
marked_octets bits keep_alive payload = (bits ∷ big_bytes 2 keep_alive) ++ payload

-- a body by its flags and the octets of its strings
regrouped : (bits keep_alive : ℕ) (client will login : List ℕ)
    → protocol ++ (bits ∷ big_bytes 2 keep_alive) ++ client ++ will ++ login ≡ protocol ++ marked_octets bits keep_alive (client ++ (will ++ login))
regrouped bits keep_alive client will login =
    let front : List ℕ = protocol ++ (bits ∷ big_bytes 2 keep_alive) in
    append_assoc (front ++ client) will login ∙ append_assoc front client (will ++ login)

strings_made : (m : Marks) (p : ConnectStrings) → data_octets p.0 ++ (will_strings (will_made m.will p.1 p.2) ++ login_octets (login_made m.login p.3 p.4)) ≡ strings_octets m p
strings_made m p =
    let w = will_made-octets m.will p.1 p.2 in
    let l = login_made-octets m.login p.3 p.4 in
    let P : List ℕ → List ℕ → Type 0 = λ x y. data_octets p.0 ++ (x ++ y) ≡ strings_octets m p in
    let Q : List ℕ → Type 0 = λ x. P x (login_octets (login_made m.login p.3 p.4)) in
    let R : List ℕ → Type 0 = λ y. P (data_if (is_some m.will) p.1 ++ data_if (is_some m.will) p.2) y in
    subst Q (sym w) (subst R (sym l) (ap (λ r. data_octets p.0 ++ r)
    (append_assoc (data_if (is_some m.will) p.1) (data_if (is_some m.will) p.2) (data_if (is_some m.login) p.3 ++ data_if (has_password m.login) p.4))))

bits_made : (m : Marks) (p : ConnectStrings) → 2 * bit m.clean + will_bits (will_made m.will p.1 p.2) + login_bits (login_made m.login p.3 p.4) ≡ marks_octet m
bits_made m p =
    let w = will_made-bits m.will p.1 p.2 in
    let l = login_made-bits m.login p.3 p.4 in
    cc

-- the body that CONNECT of these flags and strings has
connection-body : (m : Marks) (keep_alive : ℕ) (p : ConnectStrings) → packet_body (connection m keep_alive p) ≡ protocol ++ marked_octets (marks_octet m) keep_alive (strings_octets m p)
connection-body m keep_alive p =
    let bits = bits_made m p in
    let strings = strings_made m p in
    let P : ℕ → Type 0 = λ n. packet_body (connection m keep_alive p) ≡ protocol ++ marked_octets n keep_alive (strings_octets m p) in
    let Q : List ℕ → Type 0 = λ s. packet_body (connection m keep_alive p) ≡ protocol ++ marked_octets (2 * bit m.clean + will_bits (will_made m.will p.1 p.2) + login_bits (login_made m.login p.3 p.4)) keep_alive s in
    subst P bits (subst Q strings (regrouped _ keep_alive (data_octets p.0) (will_strings (will_made m.will p.1 p.2)) (login_octets (login_made m.login p.3 p.4))))

-- strings that were found good
good_parts : (m : Marks) (p : ConnectStrings) → are_good m p ≡ true → (is_text p.0 ≡ true) × ((not (is_some m.will) || is_topic_text p.1) ≡ true) × ((not (is_some m.login) || is_text p.3) ≡ true)
good_parts m p h =
    let both = and_parts (is_text p.0 && (not (is_some m.will) || is_topic_text p.1)) (not (is_some m.login) || is_text p.3) h in
    let first = and_parts (is_text p.0) (not (is_some m.will) || is_topic_text p.1) both.0 in
    (first.0, first.1, both.1)

connection_is : (m : Marks) (keep_alive : ℕ) (payload : List ℕ) (p : ConnectStrings) → keep_alive < 2 ^ 16 → TakesParts m payload p → are_good m p ≡ true
    → IsOf headers.Connect (protocol ++ marked_octets (marks_octet m) keep_alive payload) (connection m keep_alive p)
connection_is m keep_alive payload p fits t h =
    let good = good_parts m p h in
    let P : List ℕ → Type 0 = λ s. packet_body (connection m keep_alive p) ≡ protocol ++ marked_octets (marks_octet m) keep_alive s in (
      (text_from p.0 good.0, will_made-good m.will p.1 p.2 good.1 t.sizes.message, login_made-good m.login p.3 p.4 good.2 t.sizes.password),
      fits,
      refl,
      subst P (sym t.whole) (connection-body m keep_alive p),
    )

connection_at : (test : Bool) (bits high low : ℕ) (payload : List ℕ) (m : Marks) (p : ConnectStrings) → are_good m p ≡ test → marks_octet m ≡ bits → IsBytes (bits ∷ high ∷ low ∷ payload) → TakesParts m payload p
    → Stands headers.Connect (protocol ++ bits ∷ high ∷ low ∷ payload) (cond test (Some (connection m (number_of_two high low) p)) None)
connection_at false bits high low payload m p h e b t = tt
connection_at true bits high low payload m p h e b t =
    let is = connection_is m (number_of_two high low) payload p (number-fits high low (b 1) (b 2)) t h in
    let P : ℕ → Type 0 = λ n. IsOf headers.Connect (protocol ++ (n ∷ big_bytes 2 (number_of_two high low)) ++ payload) (connection m (number_of_two high low) p) in
    let Q : List ℕ → Type 0 = λ two. IsOf headers.Connect (protocol ++ ((bits ∷ two) ++ payload)) (connection m (number_of_two high low) p) in
    subst Q (octets-number high low (b 1) (b 2)) (subst P e is)

connection_stands : (bits high low : ℕ) (payload : List ℕ) → IsBytes (bits ∷ high ∷ low ∷ payload)
    → Stands headers.Connect (protocol ++ bits ∷ high ∷ low ∷ payload) (read_marked (bits ∷ high ∷ low ∷ payload))
connection_stands bits high low payload b =
    let body : List ℕ = protocol ++ bits ∷ high ∷ low ∷ payload in
    stands_by headers.Connect body (read_marks bits) (λ m. read_connection m (number_of_two high low) payload) (λ m e.
    stands_by headers.Connect body (read_parts m payload) (λ p. cond (are_good m p) (Some (connection m (number_of_two high low) p)) None) (λ p d.
    connection_at (are_good m p) bits high low payload m p refl (marks_taken bits m e) b (parts_taken m payload p (λ i. b (suc (suc (suc i)))) d)))

-- what follows the protocol
past_by : (short same : Bool) (body rest : List ℕ) → bytes_eq (take 7 body) protocol ≡ same → cond short None (cond same (Some (drop 7 body)) None) ≡ Some rest → body ≡ protocol ++ rest
past_by true same body rest e h = cc
past_by false false body rest e h = cc
past_by false true body rest e h =
    let front = (bytes_eq-Decides (take 7 body) protocol).0 e in
    let back : drop 7 body ≡ rest = cc in
    let whole = take-append-drop 7 body in
    let P : List ℕ → List ℕ → Type 0 = λ x y. body ≡ x ++ y in
    let Q : List ℕ → Type 0 = λ x. P x (drop 7 body) in
    let R : List ℕ → Type 0 = λ y. P protocol y in
    subst R back (subst Q front (sym whole))

past_taken : (body rest : List ℕ) → past_protocol body ≡ Some rest → body ≡ protocol ++ rest
past_taken body rest h = past_by (ltb (length body) 7) (bytes_eq (take 7 body) protocol) body rest refl h

marked_stands : (rest : List ℕ) → IsBytes rest → Stands headers.Connect (protocol ++ rest) (read_marked rest)
marked_stands [] b = tt
marked_stands (bits ∷ []) b = tt
marked_stands (bits ∷ high ∷ []) b = tt
marked_stands (bits ∷ high ∷ low ∷ payload) b = connection_stands bits high low payload b

pub connect_taken : (body : List ℕ) → IsBytes body → Stands headers.Connect body (read_connect_packet body)
connect_taken body b =
    stands_by headers.Connect body (past_protocol body) read_marked (λ rest e.
    let whole = past_taken body rest e in
    let P : List ℕ → Type 0 = λ x. IsBytes x in
    let bytes : IsBytes (protocol ++ rest) = subst P whole b in
    let Q : List ℕ → Type 0 = λ x. Stands headers.Connect x (read_marked rest) in
    subst Q (sym whole) (marked_stands rest (λ i. bytes (suc (suc (suc (suc (suc (suc (suc i))))))))))

-- CONNECT again: its flags and strings
abbrev will_marks_of : Option Will → Option (Qos × Bool)
will_marks_of None = None
will_marks_of (Some will) = Some (will.qos, will.retain)

abbrev login_marks_of : Option Login → Option Bool
login_marks_of None = None
login_marks_of (Some login) = Some (is_some login.password)

abbrev topic_of : Option Will → List ℕ
topic_of None = []
topic_of (Some will) = will.topic

abbrev message_of : Option Will → List ℕ
message_of None = []
message_of (Some will) = will.message

abbrev user_of : Option Login → List ℕ
user_of None = []
user_of (Some login) = login.user

abbrev octets_or_none : Option (List ℕ) → List ℕ
octets_or_none None = []
octets_or_none (Some octets) = octets

abbrev password_of : Option Login → List ℕ
password_of None = []
password_of (Some login) = octets_or_none login.password

abbrev parts_of : List ℕ → Option Will → Option Login → ConnectStrings
parts_of client will login = (client, topic_of will, message_of will, user_of login, password_of login)

abbrev marks_for : Bool → Option Will → Option Login → Marks
marks_for clean will login = marks_of clean (will_marks_of will) (login_marks_of login)

will_again : (will : Option Will) → will_made (will_marks_of will) (topic_of will) (message_of will) ≡ will
will_again None = refl
will_again (Some will) = refl

login_by : (user : List ℕ) (password : Option (List ℕ)) → cond (is_some password) (Some (octets_or_none password)) None ≡ password
login_by user None = refl
login_by user (Some octets) = refl

login_again : (login : Option Login) → login_made (login_marks_of login) (user_of login) (password_of login) ≡ login
login_again None = refl
login_again (Some login) =
    let e = login_by login.user login.password in
    let P : Option (List ℕ) → Type 0 = λ p. Some (record { user = login.user; password = cond (is_some login.password) (Some (octets_or_none login.password)) None }) ≡ Some (record { user = login.user; password = p }) in
    subst P e refl

-- the strings of a good packet can be measured and are good
password_data : (password : Option (List ℕ)) → IfSome password IsData → IsData (octets_or_none password)
password_data None h = omega arith
password_data (Some octets) h = h

will_data : (will : Option Will) → IfSome will IsWill → IsData (topic_of will) × IsData (message_of will)
will_data None h = (omega arith, omega arith)
will_data (Some will) h = (h.0.0.0.0, h.1)

login_data : (login : Option Login) → IfSome login IsLogin → IsData (user_of login) × IsData (password_of login)
login_data None h = (omega arith, omega arith)
login_data (Some login) h = (h.0.0, password_data login.password h.1)

will_none : (will : Option Will) → is_some (will_marks_of will) ≡ false → (topic_of will ≡ []) × (message_of will ≡ [])
will_none None h = (refl, refl)
will_none (Some will) h = absurd cc

login_none : (login : Option Login) → is_some (login_marks_of login) ≡ false → user_of login ≡ []
login_none None h = refl
login_none (Some login) h = absurd cc

password_by : (password : Option (List ℕ)) → is_some password ≡ false → octets_or_none password ≡ []
password_by None h = refl
password_by (Some octets) h = absurd cc

password_none : (login : Option Login) → has_password (login_marks_of login) ≡ false → password_of login ≡ []
password_none None h = refl
password_none (Some login) h = password_by login.password h

will_good : (will : Option Will) → IfSome will IsWill → (not (is_some (will_marks_of will)) || is_topic_text (topic_of will)) ≡ true
will_good None h = refl
will_good (Some will) h = topic_to will.topic h.0

login_good : (login : Option Login) → IfSome login IsLogin → (not (is_some (login_marks_of login)) || is_text (user_of login)) ≡ true
login_good None h = refl
login_good (Some login) h = text_to login.user h.0

parts_again : (clean : Bool) (client : List ℕ) (will : Option Will) (login : Option Login) → IsText client → IfSome will IsWill → IfSome login IsLogin
    → read_parts (marks_for clean will login) (strings_octets (marks_for clean will login) (parts_of client will login)) ≡ Some (parts_of client will login)
parts_again clean client will login c w l =
    let m : Marks = marks_for clean will login in
    let topic : List ℕ = topic_of will in
    let message : List ℕ = message_of will in
    let user : List ℕ = user_of login in
    let password : List ℕ = password_of login in
    let has_will : Bool = is_some (will_marks_of will) in
    let has_user : Bool = is_some (login_marks_of login) in
    let has_pass : Bool = has_password (login_marks_of login) in
    let wills = will_data will w in
    let logins = login_data login l in
    let rest4 : List ℕ = data_if has_pass password in
    let rest3 : List ℕ = data_if has_user user ++ rest4 in
    let rest2 : List ℕ = data_if has_will message ++ rest3 in
    let rest1 : List ℕ = data_if has_will topic ++ rest2 in
    let whole : Option ConnectStrings = Some (parts_of client will login) in
    let fifth : read_data_if has_pass rest4 ≡ Some (password, []) =
    (let P : List ℕ → Type 0 = λ r. read_data_if has_pass r ≡ Some (password, []) in
    subst P (append-nil rest4) (data_if_again has_pass password [] logins.1 (password_none login))) in
    bound (read_data (data_octets client ++ rest1)) (with_client m) (client, rest1) whole (data_again client rest1 c.0)
    (bound (read_data_if has_will rest1) (with_topic m client) (topic, rest2) whole (data_if_again has_will topic rest2 wills.0 (λ e. (will_none will e).0))
    (bound (read_data_if has_will rest2) (with_message m client topic) (message, rest3) whole (data_if_again has_will message rest3 wills.1 (λ e. (will_none will e).1))
    (bound (read_data_if has_user rest3) (with_user m client topic message) (user, rest4) whole (data_if_again has_user user rest4 logins.0 (login_none login))
    (bound (read_data_if has_pass rest4) (with_password client topic message user) (password, []) whole fifth refl))))

connection_again : (clean : Bool) (keep_alive : ℕ) (client : List ℕ) (will : Option Will) (login : Option Login)
    → connection (marks_for clean will login) keep_alive (parts_of client will login) ≡ packets.Connect clean keep_alive client will login
connection_again clean keep_alive client will login =
    let w = will_again will in
    let l = login_again login in
    cc

past_again : (rest : List ℕ) → past_protocol (protocol ++ rest) ≡ Some rest
past_again rest =
    otherwise (ltb (length (protocol ++ rest)) 7) None _ (le-ltb _ 7 (omega arith)) ∙ chosen (bytes_eq (take 7 (protocol ++ rest)) protocol) (Some rest) None refl

read_again : (clean : Bool) (keep_alive : ℕ) (client : List ℕ) (will : Option Will) (login : Option Login)
    → IsSixteenBits keep_alive → IsText client → IfSome will IsWill → IfSome login IsLogin
    → read_connection (marks_for clean will login) keep_alive (strings_octets (marks_for clean will login) (parts_of client will login)) ≡ Some (packets.Connect clean keep_alive client will login)
read_again clean keep_alive client will login v c w l =
    let m : Marks = marks_for clean will login in
    let p : ConnectStrings = parts_of client will login in
    bound (read_parts m (strings_octets m p)) (λ q. cond (are_good m q) (Some (connection m keep_alive q)) None) p (Some (packets.Connect clean keep_alive client will login)) (parts_again clean client will login c w l)
    (chosen (are_good m p) (Some (connection m keep_alive p)) None (and_from _ _ (and_from _ _ (text_to client c) (will_good will w)) (login_good login l))
    ∙ ap (λ q. Some q) (connection_again clean keep_alive client will login))

pub connect_again : (clean : Bool) (keep_alive : ℕ) (client : List ℕ) (will : Option Will) (login : Option Login)
    → IsPacketValue (packets.Connect clean keep_alive client will login) → IsAllowedPacket (packets.Connect clean keep_alive client will login)
    → read_connect_packet (packet_body (packets.Connect clean keep_alive client will login)) ≡ Some (packets.Connect clean keep_alive client will login)
connect_again clean keep_alive client will login v h =
    let m : Marks = marks_for clean will login in
    let p : ConnectStrings = parts_of client will login in
    let whole : Option Packet = Some (packets.Connect clean keep_alive client will login) in
    let size = number-octets keep_alive v in
    let P : ℕ → Type 0 = λ n. read_connection m n (strings_octets m p) ≡ whole in
    let Q : Packet → Type 0 = λ x. read_connect_packet (packet_body x) ≡ whole in
    let R : List ℕ → Type 0 = λ x. read_connect_packet x ≡ whole in
    subst Q (connection_again clean keep_alive client will login)
    (subst R (sym (connection-body m keep_alive p))
    (bound (past_protocol (protocol ++ marked_octets (marks_octet m) keep_alive (strings_octets m p))) read_marked (marked_octets (marks_octet m) keep_alive (strings_octets m p)) whole
    (past_again (marked_octets (marks_octet m) keep_alive (strings_octets m p)))
    (bound (read_marks (marks_octet m)) (λ x. read_connection x (number_of_two (keep_alive / 256 % 256) (keep_alive % 256)) (strings_octets m p)) m whole
    (marks_again clean (will_marks_of will) (login_marks_of login))
    (subst P (sym size) (read_again clean keep_alive client will login v h.0 h.1 h.2)))))
