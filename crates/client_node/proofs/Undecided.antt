-- Where a connection is lost, or gave as many pieces as one gives, a call isn't decided: attaching and going on in another session
-- decide none.
use Rattle.std.proofs.Common.{◌≡◌, ℕ, not, ◌&&◌, ◌||◌, Bool, true, false, if◌then◌else◌, List, [], ◌∷◌, map, refl, sym, ap, subst, ◌∙◌}
use Rattle.std.specs.List.{list_any}
use Rattle.call_table.specs.Table.{Call, State, is_sent}
use Rattle.call_table.specs.Table as table
use Rattle.transport.specs.Starts.{Opening}
use Rattle.client_rules.specs.Asking.{alone, alone_if_sent}
use Rattle.client_rules.specs.Client.{Client, calls_of}
use Rattle.client_rules.specs.Events.{fate_renewed}
use Rattle.client_rules.specs.Learning.{settled_if}
use Rattle.client_node.specs.Course.{Course, Phase, Opening as Learning, Open, Ended, Reading, attached_in, hears, is_decided, is_undecided, must_renew, renews, renews_if, renews_unless, takes_packet}
use Rattle.client_node.specs.Ends.{batch_by}
use Rattle.client_node.specs.Talks.{Began, Close, Connection, Heard, IsClosed, IsConnection, Place, Refused, Rules, Said, Stopped, TurnsDone, Unread, Unstarted, UndecidedBy, begun, closes, course_after, end_by, end_of, turns_from}
use Rattle.client_node.specs.Took.{NoneDecides, takes_all}
use Rattle.client_node.specs.Trace.{AreLost, Attempt, IsAttempt, Made, NoLink, UndecidedIn, after_all, attempted, end_of_attempt}
use Rattle.client_node.specs.declared.end.End.{End}
use Rattle.client_node.specs.declared.end.End.TheVariants as ends
use Rattle.client_node.specs.declared.plan.Plan.{Plan}

-- ---- lists of calls

abbrev Holds : Bool → Type 0
Holds true = Unit {0}
Holds false = ⊥

none_of_both : (one other : Bool) → (one || other) ≡ false → (one ≡ false) × (other ≡ false)
none_of_both true other same = absurd (subst Holds same tt)
none_of_both false other same = (refl, same)

state_renewed : (state : State) (call : Call) → is_sent state ≡ false → table.is_open (settled_if (fate_renewed state) (record call { state = state })).state ≡ table.is_open state
state_renewed table.Queued call none = refl
state_renewed table.Sent call none = absurd (subst Holds none tt)
state_renewed table.Held call none = refl
state_renewed (table.Done bytes) call none = refl
state_renewed (table.Refused code) call none = refl
state_renewed (table.Unknown cause) call none = refl

any_renewed : (calls : List Call) → list_any (λ call. is_sent call.state) calls ≡ false
    → list_any is_undecided (map (λ call. settled_if (fate_renewed call.state) call) calls) ≡ list_any is_undecided calls
any_renewed [] none = refl
any_renewed (call ∷ calls) none =
    let both = none_of_both (is_sent call.state) (list_any (λ one. is_sent one.state) calls) none in
    ap (λ (one : Bool). one || list_any is_undecided (map (λ each. settled_if (fate_renewed each.state) each) calls)) (state_renewed call.state call both.0)
    ∙ ap (λ (rest : Bool). is_undecided call || rest) (any_renewed calls both.1)

state_attached : (test : Bool) (call : Call) → table.is_open (if test then alone call else call).state ≡ table.is_open call.state
state_attached true call = refl
state_attached false call = refl

any_attached : (calls : List Call) → list_any is_undecided (map alone_if_sent calls) ≡ list_any is_undecided calls
any_attached [] = refl
any_attached (call ∷ calls) =
    ap (λ (one : Bool). one || list_any is_undecided (map alone_if_sent calls)) (state_attached (is_sent call.state) call)
    ∙ ap (λ (rest : Bool). is_undecided call || rest) (any_attached calls)

-- ---- a renewal and an attach

none_sent : (any sent : Bool) → (any && not sent) ≡ true → sent ≡ false
none_sent any false must = refl
none_sent true true must = absurd (subst Holds (sym must) tt)
none_sent false true must = absurd (subst Holds (sym must) tt)

must_sent : (phase : Phase) (client : Client) → must_renew phase client ≡ true → list_any (λ call. is_sent call.state) (calls_of client) ≡ false
must_sent Open client must = none_sent _ (list_any (λ call. is_sent call.state) (calls_of client)) must
must_sent Learning client must = absurd (subst Holds (sym must) tt)
must_sent Ended client must = absurd (subst Holds (sym must) tt)

renews_by : {S : Type 0} (test : Bool) (step : S → ℕ × S) (course : Course S) → (test ≡ true → list_any (λ call. is_sent call.state) (calls_of course.client) ≡ false)
    → is_decided course.client ≡ false → is_decided (renews_if test step course).client ≡ false
renews_by false step course sent none = none
renews_by true step course sent none = ap (λ (any : Bool). not any) (any_renewed (calls_of course.client) (sent refl)) ∙ none

pub renews_undecided : {S : Type 0} (step : S → ℕ × S) (course : Course S) → is_decided course.client ≡ false → is_decided (renews step course).client ≡ false
renews_undecided step course none = renews_by (must_renew course.phase course.client) step course (must_sent course.phase course.client) none

pub attached_undecided : (phase : Phase) (client : Client) → is_decided client ≡ false → is_decided (attached_in phase client) ≡ false
attached_undecided Ended client none = none
attached_undecided Open client none = ap (λ (any : Bool). not any) (any_attached (calls_of client)) ∙ none
attached_undecided Learning client none = ap (λ (any : Bool). not any) (any_attached (calls_of client)) ∙ none

-- ---- packets

takes_undecided : {S : Type 0} (step : S → ℕ × S) (reading : Reading) (now : ℕ) (course : Course S) (packet : List ℕ)
    → is_decided (hears reading now course packet).client ≡ false → is_decided (takes_packet step reading now course packet).client ≡ false
takes_undecided step reading now course packet none =
    subst (λ (test : Bool). is_decided (renews_unless test step (hears reading now course packet)).client ≡ false) (sym none)
    (renews_undecided step (hears reading now course packet) none)

pub all_undecided : {S : Type 0} (step : S → ℕ × S) (reading : Reading) (now : ℕ) (course : Course S) (heard : List (List ℕ))
    → NoneDecides step reading now course heard → is_decided course.client ≡ false → is_decided (takes_all step reading now course heard).client ≡ false
all_undecided step reading now course [] none before = before
all_undecided step reading now course (packet ∷ packets) none before =
    all_undecided step reading now (takes_packet step reading now course packet) packets none.1 (takes_undecided step reading now course packet none.0)

-- ---- a connection

closed_undecided : {S : Type 0} (rules : Rules S) (opening : Opening) (count : ℕ) (place : Place S) (said : Said) (close : Close)
    → IsClosed rules opening count place said close → UndecidedBy (end_by close) (closes rules said close place).course.client
closed_undecided rules opening count place said (Stopped ends.Lost) closed = closed.2
closed_undecided rules opening count place said (Stopped ends.TurnsSpent) closed = absurd closed.2
closed_undecided rules opening count place said (Stopped ends.Decided) closed = tt
closed_undecided rules opening count place said (Stopped ends.Spent) closed = closed.2.0
closed_undecided rules opening count place said (Stopped ends.Memory) closed = tt
closed_undecided rules opening count place said (Unread answer) closed = closed.1.undecided
closed_undecided rules opening count place said (Heard piece moment heard ends.Lost) closed =
    all_undecided rules.setting.step rules.reading moment _ heard closed.5.0 closed.1.undecided
closed_undecided rules opening count place said (Heard piece moment heard ends.TurnsSpent) closed = absurd closed.5
closed_undecided rules opening count place said (Heard piece moment heard ends.Decided) closed = tt
closed_undecided rules opening count place said (Heard piece moment heard ends.Spent) closed = absurd closed.5
closed_undecided rules opening count place said (Heard piece moment heard ends.Memory) closed = tt
closed_undecided rules opening count place said TurnsDone closed = closed.1.undecided

connection_undecided : {S : Type 0} (rules : Rules S) (plan : Plan) (course : Course S) (connection : Connection)
    → is_decided course.client ≡ false → IsConnection rules plan course connection → UndecidedBy (end_of connection) (course_after rules plan course connection).client
connection_undecided rules plan course (Refused first) before is = tt
connection_undecided rules plan course (Unstarted first start) before is = before
connection_undecided rules plan course (Began first start opening talk) before is =
    closed_undecided rules opening _ (turns_from rules (begun rules plan course first) talk.turns) talk.said talk.close is.1.closed

-- ---- attempts

attempt_undecided : {S : Type 0} (rules : Rules S) (plan : Plan) (course : Course S) (attempt : Attempt)
    → is_decided course.client ≡ false → IsAttempt rules plan course attempt → UndecidedBy (end_of_attempt attempt) (attempted rules plan attempt course).client
attempt_undecided rules plan course NoLink before is = before
attempt_undecided rules plan course (Made connection) before is = connection_undecided rules plan course connection before is

pub lost_undecided : {S : Type 0} (rules : Rules S) (plan : Plan) (course : Course S) (attempts : List Attempt)
    → is_decided course.client ≡ false → AreLost rules plan course attempts → is_decided (after_all rules plan course attempts).client ≡ false
lost_undecided rules plan course [] before lost = before
lost_undecided rules plan course (last ∷ earlier) before lost =
    subst (λ (end : End). UndecidedBy end (attempted rules plan last (after_all rules plan course earlier)).client) lost.2
    (attempt_undecided rules plan (after_all rules plan course earlier) last (lost_undecided rules plan course earlier before lost.0) lost.1)

undecided_so : (end : End) (client : Client) → UndecidedBy end client → UndecidedIn (batch_by end) client
undecided_so ends.Decided client undecided = tt
undecided_so ends.Lost client undecided = undecided
undecided_so ends.TurnsSpent client undecided = undecided
undecided_so ends.Spent client undecided = undecided
undecided_so ends.Memory client undecided = tt

pub last_undecided : {S : Type 0} (rules : Rules S) (plan : Plan) (course : Course S) (earlier : List Attempt) (last : Attempt) (end : End)
    → is_decided course.client ≡ false → AreLost rules plan course earlier → IsAttempt rules plan (after_all rules plan course earlier) last
    → end_of_attempt last ≡ end → UndecidedIn (batch_by end) (after_all rules plan course (last ∷ earlier)).client
last_undecided rules plan course earlier last end before lost is same =
    undecided_so end _ (subst (λ (how : End). UndecidedBy how (attempted rules plan last (after_all rules plan course earlier)).client) same
    (attempt_undecided rules plan (after_all rules plan course earlier) last (lost_undecided rules plan course earlier before lost) is))
