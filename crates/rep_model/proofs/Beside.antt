-- A set of clients beside a set of topics: each reader reads one of the two.
use Rattle.std.proofs.Common.{◌≡◌, ℕ, ◌<◌, Bool, true, false, cond, not, ◌&&◌, ◌||◌, nat_lt, if◌then◌else◌, List, [], ◌∷◌, ◌++◌, length, map, filter, filter_map, Option, Some, None, IfSome, Contains, refl, sym, ap, ◌∙◌, subst, true≢false, arith}
use Rattle.std.specs.Prelude.{option_and_then, option_map}
use Rattle.std.specs.List.{AllByRecursion, cons_option, list_any}
use Rattle.std.specs.FinMap.{find}
use Rattle.std.proofs.lemmas.List.{append-nil}
use Rattle.std.proofs.lemmas.List.Elements.{filter_map-append, All-from_recursion, All-contains, Contains-append_left, Contains-append_right}
use Rattle.std.proofs.lemmas.List.Folds.{list_any-append}
use Rattle.sn_session.specs.declared.change.SessionOp.{SessionOp}
use Rattle.rep_op.specs.declared.op.Stamp.{Stamp}
use Rattle.rep_op.specs.declared.op.Put.{Put}
use Rattle.rep_op.specs.declared.op.Retained.{Retained}
use Rattle.rep_op.specs.declared.op.Subject.{Subject}
use Rattle.rep_op.specs.declared.op.Op.{Op}
use Rattle.rep_op.specs.declared.op.Op.TheVariants.{Session as OfSession, Put as OfPut, Ack, Retain as OfRetain}
use Rattle.rep_op.specs.Orders.{stamp_cmp, operation_cmp, put_cmp, client_cmp, topic_name_cmp, clock_of, clock_cmp, is_of_client, AreOfClients, AreOfTopics, subject_of}
use Rattle.rep_op.specs.Sets.{operation_of, operations, operation_at, put_of, puts, put_at, acknowledges, is_acknowledged, retain_of, retains, retain_at, Agrees, Within}
use Rattle.rep_model.specs.declared.fault.Limit.{Limit}
use Rattle.rep_model.specs.declared.fault.Limit.TheVariants.{Clients, Pending, Parked, Exceptions, Retained as OfRetained}
use Rattle.rep_model.specs.declared.fault.TakeFault.{TakeFault}
use Rattle.rep_model.specs.declared.fault.TakeFault.TheVariants.{Conflict, Full, Memory}
use Rattle.rep_model.specs.Views.{greatest, take_stamp, names, visible, history_at, history, session_made, in_order, pending, view, named, clients, names_client, is_named}
use Rattle.rep_model.specs.Topics.{clocks, latest, retained, topic_in, topics, all_retained}
use Rattle.rep_model.specs.Fresh.{largest, one_more, next_epoch, seq_of, next_seq, clock_in, next_clock}
use Rattle.rep_model.specs.Keep.{is_below, is_outdone, keep, IsKeptOf}
use Rattle.rep_model.specs.Limits.{is_parked, parked, range_of, joined, acknowledged, above_a_gap, sum_to, exceptions, any_above, first_passed}
use Rattle.rep_model.specs.Taking.{AllAgree, Fits, IsFaultOf}
use Rattle.rep_model.proofs.Readers.{operation_at_keep, put_at_keep, is_acknowledged_keep, retain_at_keep}
use Rattle.rep_model.proofs.Joins.{all-both}

-- ---- what reads nothing on one side

-- operations that are all of clients, or all of topics
abbrev AreOf : Bool → List Op → Type 0
AreOf side S = AllByRecursion (λ op. is_of_client op ≡ side) S

unread : {X : Type 0} (f : Op → Option X) (side : Bool) → ((op : Op) → is_of_client op ≡ side → f op ≡ None) → (S : List Op) → AreOf side S → filter_map f S ≡ []
unread f side h [] all = refl
unread f side h (op ∷ S) all = ap (λ o. cons_option o (filter_map f S)) (h op all.0) ∙ unread f side h S all.1

unread_any : (p : Op → Bool) (side : Bool) → ((op : Op) → is_of_client op ≡ side → p op ≡ false) → (S : List Op) → AreOf side S → list_any p S ≡ false
unread_any p side h [] all = refl
unread_any p side h (op ∷ S) all = ap (λ b. b || list_any p S) (h op all.0) ∙ unread_any p side h S all.1

unread_largest : (f : Op → ℕ) (side : Bool) → ((op : Op) → is_of_client op ≡ side → f op ≡ 0) → (S : List Op) → AreOf side S → largest f S ≡ 0
unread_largest f side h [] all = refl
unread_largest f side h (op ∷ S) all = omega (arith, h op all.0, unread_largest f side h S all.1)

largest_append : (f : Op → ℕ) (A B : List Op) → largest f B ≡ 0 → largest f (A ++ B) ≡ largest f A
largest_append f [] B h = h
largest_append f (op ∷ A) B h = omega (arith, largest_append f A B h)

largest_behind : (f : Op → ℕ) (A B : List Op) → largest f A ≡ 0 → largest f (A ++ B) ≡ largest f B
largest_behind f [] B h = refl
largest_behind f (op ∷ A) B h =
    let rest = largest_behind f A B (omega (arith, h)) in
    omega (arith, h, rest)

or_false : (b : Bool) → (b || false) ≡ b
or_false true = refl
or_false false = refl

-- ---- each reader reads one side

no_operation : (c : List ℕ) (op : Op) → is_of_client op ≡ false → operation_of c op ≡ None
no_operation c (OfSession d s i o) e = absurd (true≢false e)
no_operation c (OfPut d p) e = refl
no_operation c (Ack d r f l) e = refl
no_operation c (OfRetain t k) e = refl

no_put : (c : List ℕ) (op : Op) → is_of_client op ≡ false → put_of c op ≡ None
no_put c (OfSession d s i o) e = refl
no_put c (OfPut d p) e = absurd (true≢false e)
no_put c (Ack d r f l) e = refl
no_put c (OfRetain t k) e = refl

no_acknowledgement : (c : List ℕ) (name : ℕ × ℕ) (op : Op) → is_of_client op ≡ false → acknowledges c name op ≡ false
no_acknowledgement c name (OfSession d s i o) e = refl
no_acknowledgement c name (OfPut d p) e = refl
no_acknowledgement c name (Ack d r f l) e = absurd (true≢false e)
no_acknowledgement c name (OfRetain t k) e = refl

no_client : (op : Op) → is_of_client op ≡ false → named op ≡ None
no_client (OfSession d s i o) e = absurd (true≢false e)
no_client (OfPut d p) e = absurd (true≢false e)
no_client (Ack d r f l) e = absurd (true≢false e)
no_client (OfRetain t k) e = refl

no_name : (c : List ℕ) (op : Op) → is_of_client op ≡ false → names_client c op ≡ false
no_name c (OfSession d s i o) e = absurd (true≢false e)
no_name c (OfPut d p) e = absurd (true≢false e)
no_name c (Ack d r f l) e = absurd (true≢false e)
no_name c (OfRetain t k) e = refl

no_range : (c : List ℕ) (origin : ℕ) (op : Op) → is_of_client op ≡ false → range_of c origin op ≡ None
no_range c origin (OfSession d s i o) e = refl
no_range c origin (OfPut d p) e = refl
no_range c origin (Ack d r f l) e = absurd (true≢false e)
no_range c origin (OfRetain t k) e = refl

no_seq : (c : List ℕ) (g : ℕ) (op : Op) → is_of_client op ≡ false → seq_of c g op ≡ 0
no_seq c g (OfSession d s i o) e = refl
no_seq c g (OfPut d p) e = absurd (true≢false e)
no_seq c g (Ack d r f l) e = absurd (true≢false e)
no_seq c g (OfRetain t k) e = refl

no_retain : (t : List ℕ) (op : Op) → is_of_client op ≡ true → retain_of t op ≡ None
no_retain t (OfSession d s i o) e = refl
no_retain t (OfPut d p) e = refl
no_retain t (Ack d r f l) e = refl
no_retain t (OfRetain u k) e = absurd (true≢false (sym e))

no_topic : (op : Op) → is_of_client op ≡ true → topic_in op ≡ None
no_topic (OfSession d s i o) e = refl
no_topic (OfPut d p) e = refl
no_topic (Ack d r f l) e = refl
no_topic (OfRetain u k) e = absurd (true≢false (sym e))

no_clock : (t : List ℕ) (op : Op) → is_of_client op ≡ true → clock_in t op ≡ 0
no_clock t (OfSession d s i o) e = refl
no_clock t (OfPut d p) e = refl
no_clock t (Ack d r f l) e = refl
no_clock t (OfRetain u k) e = absurd (true≢false (sym e))

-- ---- a set of topics alone

module _ (S : List Op) (t : AreOfTopics S) (c : List ℕ) where
  pub no_operations : operations c S ≡ []
  no_operations = unread (operation_of c) false (no_operation c) S t

  pub no_puts : puts c S ≡ []
  no_puts = unread (put_of c) false (no_put c) S t

  pub none_acknowledged : (name : ℕ × ℕ) → is_acknowledged c S name ≡ false
  none_acknowledged name = unread_any (acknowledges c name) false (no_acknowledgement c name) S t

-- ---- a set of clients alone

module _ (S : List Op) (c : AreOfClients S) where
  pub no_retains : (t : List ℕ) → retains t S ≡ []
  no_retains t = unread (retain_of t) true (no_retain t) S c

  pub no_topics_of : topics S ≡ []
  no_topics_of = ap (λ es. names (in_order topic_name_cmp es)) (unread topic_in true no_topic S c)

-- ---- two sets

module _ (A T : List Op) where
  front : {X : Type 0} (f : Op → Option X) → ((op : Op) → is_of_client op ≡ false → f op ≡ None) → AreOfTopics T → filter_map f (A ++ T) ≡ filter_map f A
  front f h t = filter_map-append f A T ∙ ap (λ ys. filter_map f A ++ ys) (unread f false h T t) ∙ append-nil (filter_map f A)

  back : {X : Type 0} (f : Op → Option X) → ((op : Op) → is_of_client op ≡ true → f op ≡ None) → AreOfClients A → filter_map f (A ++ T) ≡ filter_map f T
  back f h a = filter_map-append f A T ∙ ap (λ xs. xs ++ filter_map f T) (unread f true h A a)

  module _ (t : AreOfTopics T) where
    pub operations-front : (c : List ℕ) → operations c (A ++ T) ≡ operations c A
    operations-front c = front (operation_of c) (no_operation c) t

    pub puts-front : (c : List ℕ) → puts c (A ++ T) ≡ puts c A
    puts-front c = front (put_of c) (no_put c) t

    pub acknowledged-front : (c : List ℕ) (name : ℕ × ℕ) → is_acknowledged c (A ++ T) name ≡ is_acknowledged c A name
    acknowledged-front c name = list_any-append (acknowledges c name) A T ∙ ap (λ b. is_acknowledged c A name || b) (unread_any (acknowledges c name) false (no_acknowledgement c name) T t) ∙ or_false (is_acknowledged c A name)

    pub view-front : (c : List ℕ) → view c (A ++ T) ≡ view c A
    view-front c = λ i. record {
      stamp = greatest stamp_cmp (filter_map take_stamp (names (operations-front c i)));
      prefix = length (history_at (λ (name : Stamp × ℕ). find operation_cmp name (operations-front c i)) (greatest stamp_cmp (filter_map take_stamp (names (operations-front c i)))));
      session = session_made (history_at (λ (name : Stamp × ℕ). find operation_cmp name (operations-front c i)) (greatest stamp_cmp (filter_map take_stamp (names (operations-front c i)))));
      pending = map (λ e. e.1) (in_order put_cmp (filter (λ (e : (ℕ × ℕ) × Put). not (acknowledged-front c e.0 i)) (puts-front c i)));
    }

    pub clients-front : clients (A ++ T) ≡ clients A
    clients-front = ap (λ es. names (in_order client_cmp es)) (front named no_client t)

    pub is_named-front : (c : List ℕ) → is_named c (A ++ T) ≡ is_named c A
    is_named-front c = list_any-append (names_client c) A T ∙ ap (λ b. is_named c A || b) (unread_any (names_client c) false (no_name c) T t) ∙ or_false (is_named c A)

    pub next_epoch-front : (c : List ℕ) → next_epoch c (A ++ T) ≡ next_epoch c A
    next_epoch-front c = ap (λ es. one_more (largest (λ (name : Stamp × ℕ). name.0.epoch) (names es))) (operations-front c)

    pub next_seq-front : (c : List ℕ) (g : ℕ) → next_seq c g (A ++ T) ≡ next_seq c g A
    next_seq-front c g = ap one_more (largest_append (seq_of c g) A T (unread_largest (seq_of c g) false (no_seq c g) T t))

  module _ (a : AreOfClients A) where
    pub retains-back : (u : List ℕ) → retains u (A ++ T) ≡ retains u T
    retains-back u = back (retain_of u) (no_retain u) a

    pub retained-back : (u : List ℕ) → retained u (A ++ T) ≡ retained u T
    retained-back u = ap (λ (es : List ((ℕ × ℕ) × Retained)). option_and_then (λ (n : ℕ × ℕ). find clock_cmp n es) (greatest clock_cmp (names es))) (retains-back u)

    pub topics-back : topics (A ++ T) ≡ topics T
    topics-back = ap (λ es. names (in_order topic_name_cmp es)) (back topic_in no_topic a)

    pub next_clock-back : (u : List ℕ) → next_clock u (A ++ T) ≡ next_clock u T
    next_clock-back u = ap one_more (largest_behind (clock_in u) A T (unread_largest (clock_in u) true (no_clock u) A a))

    pub all_retained-back : all_retained (A ++ T) ≡ all_retained T
    all_retained-back = λ i. filter_map (λ (u : List ℕ). option_map (λ (k : Retained). (u, k)) (retained-back u i)) (topics-back i)

-- ---- an operation contradicts both where it contradicts the one of its side

module _ (A T : List Op) where
  agrees-front : AreOfTopics T → (op : Op) → is_of_client op ≡ true → Agrees A op → Agrees (A ++ T) op
  agrees-front t (OfSession c s i o) e h = subst (λ (es : List ((Stamp × ℕ) × SessionOp)). IfSome (find operation_cmp (s, i) es) (λ kept. kept ≡ o)) (sym (operations-front A T t c)) h
  agrees-front t (OfPut c p) e h = subst (λ (es : List ((ℕ × ℕ) × Put)). IfSome (find put_cmp (p.seq, p.origin) es) (λ kept. kept ≡ p)) (sym (puts-front A T t c)) h
  agrees-front t (Ack c r f l) e h = tt
  agrees-front t (OfRetain u k) e h = absurd (true≢false (sym e))

  front-agrees : AreOfTopics T → (op : Op) → is_of_client op ≡ true → Agrees (A ++ T) op → Agrees A op
  front-agrees t (OfSession c s i o) e h = subst (λ (es : List ((Stamp × ℕ) × SessionOp)). IfSome (find operation_cmp (s, i) es) (λ kept. kept ≡ o)) (operations-front A T t c) h
  front-agrees t (OfPut c p) e h = subst (λ (es : List ((ℕ × ℕ) × Put)). IfSome (find put_cmp (p.seq, p.origin) es) (λ kept. kept ≡ p)) (puts-front A T t c) h
  front-agrees t (Ack c r f l) e h = tt
  front-agrees t (OfRetain u k) e h = absurd (true≢false (sym e))

  agrees-back : AreOfClients A → (op : Op) → is_of_client op ≡ false → Agrees T op → Agrees (A ++ T) op
  agrees-back a (OfSession c s i o) e h = absurd (true≢false e)
  agrees-back a (OfPut c p) e h = absurd (true≢false e)
  agrees-back a (Ack c r f l) e h = tt
  agrees-back a (OfRetain u k) e h = subst (λ (es : List ((ℕ × ℕ) × Retained)). IfSome (find clock_cmp (clock_of k) es) (λ stood. stood ≡ k)) (sym (retains-back A T a u)) h

  back-agrees : AreOfClients A → (op : Op) → is_of_client op ≡ false → Agrees (A ++ T) op → Agrees T op
  back-agrees a (OfSession c s i o) e h = absurd (true≢false e)
  back-agrees a (OfPut c p) e h = absurd (true≢false e)
  back-agrees a (Ack c r f l) e h = tt
  back-agrees a (OfRetain u k) e h = subst (λ (es : List ((ℕ × ℕ) × Retained)). IfSome (find clock_cmp (clock_of k) es) (λ stood. stood ≡ k)) (retains-back A T a u) h

all_front : (A T : List Op) → AreOfTopics T → (C : List Op) → AreOfClients C → AllAgree A C → AllAgree (A ++ T) C
all_front A T t [] c h = tt
all_front A T t (op ∷ C) c h = (agrees-front A T t op c.0 h.0, all_front A T t C c.1 h.1)

all_back : (A T : List Op) → AreOfClients A → (R : List Op) → AreOfTopics R → AllAgree T R → AllAgree (A ++ T) R
all_back A T a [] r h = tt
all_back A T a (op ∷ R) r h = (agrees-back A T a op r.0 h.0, all_back A T a R r.1 h.1)

of_side : (side : Bool) (S : List Op) → AreOf side S → (op : Op) → Contains S op → is_of_client op ≡ side
of_side side S all op h = All-contains (λ op. is_of_client op ≡ side) S op (All-from_recursion (λ op. is_of_client op ≡ side) S all) h

-- ---- a set in two parts, and a delta in two parts

module _ (A T C R : List Op) (a : AreOfClients A) (t : AreOfTopics T) (c : AreOfClients C) (r : AreOfTopics R) where
  front_both : {X : Type 0} (f : Op → Option X) → ((op : Op) → is_of_client op ≡ false → f op ≡ None) → filter_map f ((A ++ T) ++ (C ++ R)) ≡ filter_map f (A ++ C)
  front_both f h =
      filter_map-append f (A ++ T) (C ++ R) ∙ ap (λ xs. xs ++ filter_map f (C ++ R)) (front A T f h t) ∙ ap (λ ys. filter_map f A ++ ys) (front C R f h r) ∙ sym (filter_map-append f A C)

  back_both : {X : Type 0} (f : Op → Option X) → ((op : Op) → is_of_client op ≡ true → f op ≡ None) → filter_map f ((A ++ T) ++ (C ++ R)) ≡ filter_map f (T ++ R)
  back_both f h =
      filter_map-append f (A ++ T) (C ++ R) ∙ ap (λ xs. xs ++ filter_map f (C ++ R)) (back A T f h a) ∙ ap (λ ys. filter_map f T ++ ys) (back C R f h c) ∙ sym (filter_map-append f T R)

  operations_both : (x : List ℕ) → operations x ((A ++ T) ++ (C ++ R)) ≡ operations x (A ++ C)
  operations_both x = front_both (operation_of x) (no_operation x)

  puts_both : (x : List ℕ) → puts x ((A ++ T) ++ (C ++ R)) ≡ puts x (A ++ C)
  puts_both x = front_both (put_of x) (no_put x)

  acknowledged_both : (x : List ℕ) (name : ℕ × ℕ) → is_acknowledged x ((A ++ T) ++ (C ++ R)) name ≡ is_acknowledged x (A ++ C) name
  acknowledged_both x name =
      list_any-append (acknowledges x name) (A ++ T) (C ++ R)
      ∙ (λ i. acknowledged-front A T t x name i || acknowledged-front C R r x name i)
      ∙ sym (list_any-append (acknowledges x name) A C)

  retains_both : (x : List ℕ) → retains x ((A ++ T) ++ (C ++ R)) ≡ retains x (T ++ R)
  retains_both x = back_both (retain_of x) (no_retain x)

  topics_both : topics ((A ++ T) ++ (C ++ R)) ≡ topics (T ++ R)
  topics_both = ap (λ es. names (in_order topic_name_cmp es)) (back_both topic_in no_topic)

  pub agree_both : AllAgree A C → AllAgree T R → AllAgree (A ++ T) (C ++ R)
  agree_both ac tr = all-both (Agrees (A ++ T)) C R (all_front A T t C c ac) (all_back A T a R r tr)

  -- what must be kept of all is what must be kept of clients, and of topics
  kept_operations : (x : List ℕ) (name : Stamp × ℕ) → operation_at x (keep ((A ++ T) ++ (C ++ R))) name ≡ operation_at x (keep (A ++ C)) name
  kept_operations x name =
      operation_at_keep x ((A ++ T) ++ (C ++ R)) name
      ∙ ap (λ (es : List ((Stamp × ℕ) × SessionOp)). cond (not (is_below name.0 (greatest stamp_cmp (filter_map take_stamp (names es))))) (find operation_cmp name es) None) (operations_both x)
      ∙ sym (operation_at_keep x (A ++ C) name)

  kept_puts : (x : List ℕ) (name : ℕ × ℕ) → put_at x (keep ((A ++ T) ++ (C ++ R))) name ≡ put_at x (keep (A ++ C)) name
  kept_puts x name =
      put_at_keep x ((A ++ T) ++ (C ++ R)) name
      ∙ (λ i. cond (not (acknowledged_both x name i)) (find put_cmp name (puts_both x i)) None)
      ∙ sym (put_at_keep x (A ++ C) name)

  kept_acknowledgements : (x : List ℕ) (name : ℕ × ℕ) → is_acknowledged x (keep ((A ++ T) ++ (C ++ R))) name ≡ is_acknowledged x (keep (A ++ C)) name
  kept_acknowledgements x name = is_acknowledged_keep x ((A ++ T) ++ (C ++ R)) name ∙ acknowledged_both x name ∙ sym (is_acknowledged_keep x (A ++ C) name)

  kept_retains : (x : List ℕ) (name : ℕ × ℕ) → retain_at x (keep ((A ++ T) ++ (C ++ R))) name ≡ retain_at x (keep (T ++ R)) name
  kept_retains x name =
      retain_at_keep x ((A ++ T) ++ (C ++ R)) name
      ∙ ap (λ (es : List ((ℕ × ℕ) × Retained)). cond (not (is_outdone name (greatest clock_cmp (names es)))) (find clock_cmp name es) None) (retains_both x)
      ∙ sym (retain_at_keep x (T ++ R) name)

  -- what is kept after a delta was taken by both
  pub taken_both : (B U : List Op) → AreOfClients B → AreOfTopics U → IsKeptOf (A ++ C) B → IsKeptOf (T ++ R) U → IsKeptOf ((A ++ T) ++ (C ++ R)) (B ++ U)
  taken_both B U b u clients_kept topics_kept = record {
    lower = record {
      operations_in = λ x name change e. ap (find operation_cmp name) (operations-front B U u x) ∙ clients_kept.lower.operations_in x name change (sym (kept_operations x name) ∙ e);
      puts_in = λ x name put e. ap (find put_cmp name) (puts-front B U u x) ∙ clients_kept.lower.puts_in x name put (sym (kept_puts x name) ∙ e);
      acknowledgements_in = λ x name e. acknowledged-front B U u x name ∙ clients_kept.lower.acknowledgements_in x name (sym (kept_acknowledgements x name) ∙ e);
      retains_in = λ x name k e. ap (find clock_cmp name) (retains-back B U b x) ∙ topics_kept.lower.retains_in x name k (sym (kept_retains x name) ∙ e);
    };
    upper = record {
      operations_in = λ x name change e. ap (find operation_cmp name) (operations_both x) ∙ clients_kept.upper.operations_in x name change (sym (ap (find operation_cmp name) (operations-front B U u x)) ∙ e);
      puts_in = λ x name put e. ap (find put_cmp name) (puts_both x) ∙ clients_kept.upper.puts_in x name put (sym (ap (find put_cmp name) (puts-front B U u x)) ∙ e);
      acknowledgements_in = λ x name e. acknowledged_both x name ∙ clients_kept.upper.acknowledgements_in x name (sym (acknowledged-front B U u x name) ∙ e);
      retains_in = λ x name k e. ap (find clock_cmp name) (retains_both x) ∙ topics_kept.upper.retains_in x name k (sym (ap (find clock_cmp name) (retains-back B U b x)) ∙ e);
    };
  }

  -- ---- the limits

  view_both : (x : List ℕ) → view x ((A ++ T) ++ (C ++ R)) ≡ view x (A ++ C)
  view_both x = λ i. record {
    stamp = greatest stamp_cmp (filter_map take_stamp (names (operations_both x i)));
    prefix = length (history_at (λ (name : Stamp × ℕ). find operation_cmp name (operations_both x i)) (greatest stamp_cmp (filter_map take_stamp (names (operations_both x i)))));
    session = session_made (history_at (λ (name : Stamp × ℕ). find operation_cmp name (operations_both x i)) (greatest stamp_cmp (filter_map take_stamp (names (operations_both x i)))));
    pending = map (λ e. e.1) (in_order put_cmp (filter (λ (e : (ℕ × ℕ) × Put). not (acknowledged_both x e.0 i)) (puts_both x i)));
  }

  clients_both : clients ((A ++ T) ++ (C ++ R)) ≡ clients (A ++ C)
  clients_both = ap (λ es. names (in_order client_cmp es)) (front_both named no_client)

  pending_both : (x : List ℕ) → pending x ((A ++ T) ++ (C ++ R)) ≡ pending x (A ++ C)
  pending_both x = λ i. (view_both x i).pending

  parked_both : (x : List ℕ) → parked x ((A ++ T) ++ (C ++ R)) ≡ parked x (A ++ C)
  parked_both x = λ i. filter (is_parked (view_both x i).stamp (view_both x i).prefix) (in_order operation_cmp (operations_both x i))

  sum_to-same : (f g : ℕ → ℕ) → ((n : ℕ) → f n ≡ g n) → (n : ℕ) → sum_to f n ≡ sum_to g n
  sum_to-same f g h n = ap (λ (k : ℕ → ℕ). sum_to k n) (λ i m. h m i)

  exceptions_both : (x : List ℕ) → exceptions x ((A ++ T) ++ (C ++ R)) ≡ exceptions x (A ++ C)
  unfolding exceptions
  exceptions_both x = sum_to-same _ _ (λ origin. ap (λ rs. above_a_gap (joined rs)) (front_both (range_of x origin) (no_range x origin))) 255

  abbrev limits : List (List ℕ) → (List ℕ → ℕ) → (List ℕ → ℕ) → (List ℕ → ℕ) → ℕ → Option Limit
  limits all pend park except count =
      if nat_lt 4096 (length all) then Some Clients
      else (if list_any (λ x. nat_lt 16384 (pend x)) all then Some Pending
      else (if list_any (λ x. nat_lt 4096 (park x)) all then Some Parked
      else (if list_any (λ x. nat_lt 16384 (except x)) all then Some Exceptions
      else (if nat_lt 4096 count then Some OfRetained else None))))

  abbrev limits_of : List Op → ℕ → Option Limit
  limits_of S count = limits (clients S) (λ x. length (pending x S)) (λ x. length (parked x S)) (λ x. exceptions x S) count

  passed_both : first_passed ((A ++ T) ++ (C ++ R)) ≡ limits_of (A ++ C) (length (topics (T ++ R)))
  passed_both = λ i. limits (clients_both i) (λ x. length (pending_both x i)) (λ x. length (parked_both x i)) (λ x. exceptions_both x i) (length (topics_both i))

  no_topics : topics (A ++ C) ≡ []
  no_topics = ap (λ es. names (in_order topic_name_cmp es)) (unread topic_in true no_topic (A ++ C) (all-both (λ op. is_of_client op ≡ true) A C a c))

  passed_front : first_passed (A ++ C) ≡ limits_of (A ++ C) 0
  passed_front = ap (λ (ts : List (List ℕ)). limits_of (A ++ C) (length ts)) no_topics

  -- the five tests as booleans
  abbrev chosen : Bool → Bool → Bool → Bool → Bool → Option Limit
  chosen p q s v w = if p then Some Clients else (if q then Some Pending else (if s then Some Parked else (if v then Some Exceptions else (if w then Some OfRetained else None))))

  few_in : (p q s v w : Bool) → chosen p q s v false ≡ None → w ≡ false → chosen p q s v w ≡ None
  few_in true q s v w e f = absurd cc
  few_in false true s v w e f = absurd cc
  few_in false false true v w e f = absurd cc
  few_in false false false true w e f = absurd cc
  few_in false false false false w e f = ap (λ b. if b then Some OfRetained else None) f

  full_in : (p q s v w : Bool) (limit : Limit) → chosen p q s v false ≡ Some limit → chosen p q s v w ≡ Some limit
  full_in true q s v w limit e = e
  full_in false true s v w limit e = e
  full_in false false true v w limit e = e
  full_in false false false true w limit e = e
  full_in false false false false w limit e = absurd cc

  many_in : (p q s v w : Bool) → chosen p q s v false ≡ None → w ≡ true → chosen p q s v w ≡ Some OfRetained
  many_in true q s v w e f = absurd cc
  many_in false true s v w e f = absurd cc
  many_in false false true v w e f = absurd cc
  many_in false false false true w e f = absurd cc
  many_in false false false false w e f = ap (λ b. if b then Some OfRetained else None) f

  pub few_both : first_passed (A ++ C) ≡ None → nat_lt 4096 (length (topics (T ++ R))) ≡ false → first_passed ((A ++ T) ++ (C ++ R)) ≡ None
  few_both none few = passed_both ∙ few_in _ _ _ _ _ (sym passed_front ∙ none) few

  pub full_front : (limit : Limit) → first_passed (A ++ C) ≡ Some limit → first_passed ((A ++ T) ++ (C ++ R)) ≡ Some limit
  full_front limit e = passed_both ∙ full_in _ _ _ _ _ limit (sym passed_front ∙ e)

  pub full_back : first_passed (A ++ C) ≡ None → nat_lt 4096 (length (topics (T ++ R))) ≡ true → first_passed ((A ++ T) ++ (C ++ R)) ≡ Some OfRetained
  full_back none many = passed_both ∙ many_in _ _ _ _ _ (sym passed_front ∙ none) many

  -- ---- refusals

  -- why the clients' part is refused is why the whole is, where the topics contradict nothing
  pub fault_front : AllAgree T R → (fault : TakeFault) → IsFaultOf A C fault → IsFaultOf (A ++ T) (C ++ R) fault
  fault_front tr (Conflict about) f = (
    f.0,
    Contains-append_left C R f.0 f.1,
    f.2,
    λ h. f.3 (front-agrees A T t f.0 (of_side true C c f.0 f.1) h),
  )
  fault_front tr (Full limit) f = (agree_both f.0 tr, full_front limit f.1)
  fault_front tr Memory f = tt

  -- a contradiction of a topic is one of the whole
  pub conflict_back : (about : Subject) → ((o : Op) × Contains R o × (subject_of o ≡ about) × (¬ (Agrees T o))) → IsFaultOf (A ++ T) (C ++ R) (Conflict about)
  conflict_back about f = (
    f.0,
    Contains-append_right C R f.0 f.1,
    f.2,
    λ h. f.3 (back-agrees A T a f.0 (of_side false R r f.0 f.1) h),
  )

  pub fits_both : Fits A C → AllAgree T R → nat_lt 4096 (length (topics (T ++ R))) ≡ false → Fits (A ++ T) (C ++ R)
  fits_both ac tr few = record { agrees = agree_both ac.agrees tr; within = few_both ac.within few }
