-- Which gateway a call finds that is made with others by one write, and what it is told.
use Rattle.std.proofs.Common.{◌≡◌, ℕ, zero, suc, ◌⊎◌, List, [], ◌∷◌, ◌++◌, map, length, slice_get, Option, Some, None, option_map, Result, Ok, Err, refl, sym, ap, ◌∙◌, subst, append_assoc, append-nil, inl, inr, arith}
use Rattle.std.specs.declared.sync.Arc.{Arc}
use Rattle.std.specs.declared.alloc.Global.{Global}
use Rattle.std.proofs.lemmas.List.{length-append}
use Rattle.std.proofs.lemmas.Option.{none-some, same_Some, slice_get-map}
use Rattle.rep_op.specs.declared.op.Op.{Op}
use Rattle.sn_local.specs.declared.config.Send.{Send}
use Rattle.gw_answer.specs.declared.out.Out.{Out}
use Rattle.gw_answer.specs.declared.fault.NodeFault.{NodeFault}
use Rattle.gw_answer.specs.declared.refusal.Refusal.{Refusal}
use Rattle.gw_answer.specs.declared.refusal.Refusal.TheVariants as refusals
use Rattle.gw_answer.specs.declared.step.Step.{Step}
use Rattle.gw_answer.specs.Answers.{said}
use Rattle.gw_event.specs.Occasions.{Occasion}
use Rattle.gw_event.specs.Gateways.{Gateway}
use Rattle.gw_event.specs.Event.{StepOf}
use Rattle.gw_event.specs.Together.{InTurnBy}
use Rattle.gw_world.specs.declared.event.Call.{Call}
use Rattle.gw_world.specs.declared.event.Event.TheVariants.{Together as AtOnce}
use Rattle.gw_world.specs.declared.event.Answer.TheVariants.{Row}
use Rattle.gw_world.specs.Field.{Field, IsAt, IsStepOf, AreStepsOf}
use Rattle.gw_world.proofs.InRows.{Answers}
use Rattle.promise_laws.specs.Stepping.{IsCalled, EndsWith, EndsAmong, HaveFailed, IsAmong}

-- ---- lists

got-at : {X : Type 0} (xs : List X) (x : X) (ys : List X) → slice_get (xs ++ x ∷ ys) (length xs) ≡ Some x
got-at [] x ys = refl
got-at (y ∷ xs) x ys = got-at xs x ys

-- what stands at a place of the answers
record ToldAt (answers : List (Result (Arc Out Global) NodeFault)) (k : ℕ) (told : Result Out Refusal) : Type 0 where
  answer : Result (Arc Out Global) NodeFault
  there : slice_get answers k ≡ Some answer
  says : said answer ≡ told

told-some : (answers : List (Result (Arc Out Global) NodeFault)) (k : ℕ) (told : Result Out Refusal) (o : Option (Result (Arc Out Global) NodeFault)) → slice_get answers k ≡ o → option_map said o ≡ Some told → ToldAt answers k told
told-some answers k told None there e = absurd (none-some told e)
told-some answers k told (Some answer) there e = record { answer = answer; there = there; says = same_Some (said answer) told e }

told-at : (answers : List (Result (Arc Out Global) NodeFault)) (before : Answers) (told : Result Out Refusal) (later : Answers) → map said answers ≡ before ++ told ∷ later → ToldAt answers (length before) told
told-at answers before told later is =
    told-some answers (length before) told (slice_get answers (length before)) refl
    (sym (slice_get-map said answers (length before)) ∙ ap (λ (xs : Answers). slice_get xs (length before)) is ∙ got-at before told later)

-- an answer says that the disk failed
pub have-failed : (answers : List (Result (Arc Out Global) NodeFault)) (before : Answers) (told : Result Out Refusal) (later : Answers) (excuse : Out) → map said answers ≡ before ++ told ∷ later → told ≡ Err (refusals.Disk excuse) → HaveFailed answers
have-failed answers before told later excuse is failed =
    let t = told-at answers before told later is in
    (length before, t.answer, excuse, t.there, t.says ∙ failed)

-- ---- one call more

led-on : (old mid new : Gateway) (a : List Step) (x : Answers) (first : List (List Op)) (step : Step) (answer : Result Out Refusal) (made : List (List Op)) → InTurnBy StepOf old a x mid first → StepOf mid step answer new made
    → InTurnBy StepOf old (a ++ step ∷ []) (x ++ answer ∷ []) new (first ++ made)
led-on old mid new [] [] first step answer made h s =
    (new, made, [], subst (λ (g : Gateway). StepOf g step answer new made) h.same s, record { same = refl; none = refl }, ap (λ (m : List (List Op)). m ++ made) h.none ∙ sym (append-nil made))
led-on old mid new (one ∷ a) (told ∷ x) first step answer made h s =
    (h.0, h.1, h.2 ++ made, h.3, led-on h.0 mid new a x h.2 step answer made h.4 s, ap (λ (m : List (List Op)). m ++ made) h.5 ∙ append_assoc h.1 h.2 made)
led-on old mid new [] (told ∷ x) first step answer made h s = absurd h
led-on old mid new (one ∷ a) [] first step answer made h s = absurd h

given-on : (field : Field) (front : List Call) (given : List Step) (call : Call) (step : Step) → AreStepsOf field front given → IsStepOf field call step → AreStepsOf field (front ++ call ∷ []) (given ++ step ∷ [])
given-on field [] [] call step h is = (is, tt)
given-on field (one ∷ front) (first ∷ given) call step h is = (h.0, given-on field front given call step h.1 is)
given-on field [] (first ∷ given) call step h is = absurd h
given-on field (one ∷ front) [] call step h is = absurd h

longer : {X Y : Type 0} (xs : List X) (ys : List Y) (x : X) (y : Y) → length xs ≡ length ys → length (xs ++ x ∷ []) ≡ length (ys ++ y ∷ [])
longer xs ys x y e = omega (arith, e, length-append xs (x ∷ []), length-append ys (y ∷ []))

-- ---- where calls stand that are carried out

pub record WholeStands (old : Field) (first : Gateway) (all : List Call) (told : Answers) (behind : List Call) (later : Answers) (g : Gateway) (rest : List Call) (answers : Answers) : Type 0 where
  front : List Call
  given : List Step
  before : Answers
  made : List (List Op)
  all_is : all ≡ front ++ (rest ++ behind)
  told_is : told ≡ before ++ (answers ++ later)
  as_long : length front ≡ length before
  are : AreStepsOf old front given
  led : InTurnBy StepOf first given before g made

pub whole-first : (old : Field) (first : Gateway) (all : List Call) (told : Answers) (behind : List Call) (later : Answers) (rest : List Call) (answers : Answers) → all ≡ rest ++ behind → told ≡ answers ++ later → WholeStands old first all told behind later first rest answers
whole-first old first all told behind later rest answers all_is told_is =
    record { front = []; given = []; before = []; made = []; all_is = all_is; told_is = told_is; as_long = refl; are = tt; led = record { same = refl; none = refl } }

pub whole-next : (old : Field) (first : Gateway) (all : List Call) (told : Answers) (behind : List Call) (later : Answers) (g mid : Gateway) (call : Call) (rest : List Call) (step : Step) (answer : Result Out Refusal) (answers : Answers) (made : List (List Op))
    → WholeStands old first all told behind later g (call ∷ rest) (answer ∷ answers) → IsStepOf old call step → StepOf g step answer mid made → WholeStands old first all told behind later mid rest answers
whole-next old first all told behind later g mid call rest step answer answers made w is does = record {
  front = w.front ++ call ∷ [];
  given = w.given ++ step ∷ [];
  before = w.before ++ answer ∷ [];
  made = w.made ++ made;
  all_is = w.all_is ∙ sym (append_assoc w.front (call ∷ []) (rest ++ behind));
  told_is = w.told_is ∙ sym (append_assoc w.before (answer ∷ []) (answers ++ later));
  as_long = longer w.front w.before call answer w.as_long;
  are = given-on old w.front w.given call step w.are is;
  led = led-on first g mid w.given w.before w.made step answer made w.led does;
}

pub whole-among : (old : Field) (number i : ℕ) (first : Gateway) → IsAt old number i first → (called : List Call) (answers : List (Result (Arc Out Global) NodeFault)) (behind : List Call) (later : Answers) (g : Gateway) (call : Call) (rest : List Call) (answer : Result Out Refusal) (more : Answers)
    → WholeStands old first called (map said answers) behind later g (call ∷ rest) (answer ∷ more) → (occasion : Occasion) (now : ℕ) (sends : List Send) → IsCalled call occasion now → EndsWith answer occasion sends
    → IsAmong old (AtOnce number called) (Row answers) g occasion now sends
whole-among old number i first at called answers behind later g call rest answer more w occasion now sends is ends =
    let t = told-at answers w.before answer (more ++ later) w.told_is in record {
      number = number;
      i = i;
      first = first;
      at = at;
      front = w.front;
      call = call;
      behind = rest ++ behind;
      event_is = ap (λ (cs : List Call). AtOnce number cs) w.all_is;
      is_called = is;
      steps = w.given;
      given = w.are;
      led = record {
        calm = w.given;
        said = w.before;
        mid = g;
        made = w.made;
        led = w.led;
        more = [];
        would = [];
        end = record g { drive = record g.drive { plan = None } };
        rest = [];
        goes_on = record { same = refl; none = refl };
        front_is = sym (append-nil w.given);
        alike = record { config = refl; taken = refl; local = refl };
      };
      answers = answers;
      answer_is = refl;
      ends = inl (t.answer, subst (λ (k : ℕ). slice_get answers k ≡ Some t.answer) (sym w.as_long) t.there, subst (λ (r : Result Out Refusal). EndsWith r occasion sends) (sym t.says) ends);
    }

-- ---- where calls stand that would be carried out, if their write went out

pub record ShortStands (old : Field) (first : Gateway) (all : List Call) (calm : List Step) (told : Answers) (mid : Gateway) (done : List (List Op)) (g : Gateway) (rest : List Call) (would : Answers) : Type 0 where
  front : List Call
  more : List Step
  before : Answers
  made : List (List Op)
  all_is : all ≡ front ++ rest
  are : AreStepsOf old front (calm ++ more)
  goes_on : InTurnBy StepOf (record mid { drive = record mid.drive { plan = None } }) more before g made

pub short-first : (old : Field) (first : Gateway) (all : List Call) (calm : List Step) (told : Answers) (mid : Gateway) (done : List (List Op)) (front rest : List Call) (would : Answers) → all ≡ front ++ rest → AreStepsOf old front calm
    → ShortStands old first all calm told mid done (record mid { drive = record mid.drive { plan = None } }) rest would
short-first old first all calm told mid done front rest would all_is are = record {
  front = front;
  more = [];
  before = [];
  made = [];
  all_is = all_is;
  are = subst (λ (xs : List Step). AreStepsOf old front xs) (sym (append-nil calm)) are;
  goes_on = record { same = refl; none = refl };
}

pub short-next : (old : Field) (first : Gateway) (all : List Call) (calm : List Step) (told : Answers) (mid : Gateway) (done : List (List Op)) (g next : Gateway) (call : Call) (rest : List Call) (step : Step) (answer : Result Out Refusal) (would : Answers) (made : List (List Op))
    → ShortStands old first all calm told mid done g (call ∷ rest) (answer ∷ would) → IsStepOf old call step → StepOf g step answer next made → ShortStands old first all calm told mid done next rest would
short-next old first all calm told mid done g next call rest step answer would made w is does = record {
  front = w.front ++ call ∷ [];
  more = w.more ++ step ∷ [];
  before = w.before ++ answer ∷ [];
  made = w.made ++ made;
  all_is = w.all_is ∙ sym (append_assoc w.front (call ∷ []) rest);
  are = subst (λ (xs : List Step). AreStepsOf old (w.front ++ call ∷ []) xs) (append_assoc calm w.more (step ∷ [])) (given-on old w.front (calm ++ w.more) call step w.are is);
  goes_on = led-on (record mid { drive = record mid.drive { plan = None } }) g next w.more w.before w.made step answer made w.goes_on does;
}

pub short-among : (old : Field) (number i : ℕ) (first : Gateway) → IsAt old number i first → (called : List Call) (answers : List (Result (Arc Out Global) NodeFault)) (calm : List Step) (told : Answers) (mid : Gateway) (done : List (List Op)) → InTurnBy StepOf first calm told mid done
    → HaveFailed answers → (g : Gateway) (call : Call) (rest : List Call) (would : Answers) → ShortStands old first called calm told mid done g (call ∷ rest) would → (occasion : Occasion) (now : ℕ) (sends : List Send) → IsCalled call occasion now
    → IsAmong old (AtOnce number called) (Row answers) g occasion now sends
short-among old number i first at called answers calm told mid done led failed g call rest would w occasion now sends is = record {
  number = number;
  i = i;
  first = first;
  at = at;
  front = w.front;
  call = call;
  behind = rest;
  event_is = ap (λ (cs : List Call). AtOnce number cs) w.all_is;
  is_called = is;
  steps = calm ++ w.more;
  given = w.are;
  led = record {
    calm = calm;
    said = told;
    mid = mid;
    made = done;
    led = led;
    more = w.more;
    would = w.before;
    end = g;
    rest = w.made;
    goes_on = w.goes_on;
    front_is = refl;
    alike = record { config = refl; taken = refl; local = refl };
  };
  answers = answers;
  answer_is = refl;
  ends = inr failed;
}
