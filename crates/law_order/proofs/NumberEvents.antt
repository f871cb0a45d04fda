-- Each event of a client keeps what it has of the numbers that it gave.
use Rattle.std.proofs.Common.{◌≡◌, ℕ, ◌-◌, cond, Option, Some, None, List, [], ◌∷◌, length, map, subst, refl}
use Rattle.std.specs.Prelude.{IfSome, is_none, option_map}
use Rattle.std.specs.List.{AllByRecursion}
use Rattle.std.proofs.lemmas.Bool.{cond_both}
use Rattle.draws.specs.Draws.{word_after}
use Rattle.service_tl.specs.declared.lists.Message.{Message}
use Rattle.call_table.specs.declared.call.CallNo.{CallNo}
use Rattle.call_table.specs.Table.{Call, Name, State, is_sent, living_name, living_name_in, new_call}
use Rattle.call_table.specs.Table as table
use Rattle.client_rules.specs.Client.{Client, Needed, Temporary, bound_so, calls_of, with_call}
use Rattle.client_rules.specs.Asking.{Fault, alone, alone_if_asked, alone_if_sent, attached, can_drop, drops, dropped, is_asked, submit_fault, submitted}
use Rattle.client_rules.specs.Events.{Attach, AskSalts, Drop, End, Event, Flush, Ping, Renew, Run, Submit, Take, Tick, fate_renewed, made, renewed, step, unless_fault}
use Rattle.client_rules.specs.Flush.{message_behind}
use Rattle.client_rules.specs.Learning.{settled_if}
use Rattle.client_rules.specs.Sending.{Setting}
use Rattle.law_order.specs.Given.{AreOnce, Given, HasGiven, IsAskedAmong, IsOnce, IsPlain, IsRenewal, LivesAmong, given_after, given_in}
use Rattle.law_order.proofs.Plain.{submitted-plain}
use Rattle.law_order.proofs.Kept.{Has, Line, changed-given, has-given, has-now, line_of}
use Rattle.law_order.proofs.NumberTaking.{ended-given, take-given}
use Rattle.law_order.proofs.NumberFilling.{flush-so}
use Rattle.law_order.proofs.Lists.{all-append, none-some, nobody}

-- ---- wishes

submitted-given : (session : Line) (given : List Message) (body : List ℕ) (after : Option CallNo) (client : Client) → IsPlain body → Has session given client
    → Has session given (submitted body after client)
submitted-given session given body after client plain h =
    record {
      once = h.once;
      within = h.within;
      living = all-append (LivesAmong given) (calls_of client) (new_call body after ∷ []) h.living ((plain, λ message is. absurd (none-some message is)), tt);
      asked = h.asked;
      same = h.same;
    }

unless-given : (session : Line) (given : List Message) (body : List ℕ) (after : Option CallNo) (client : Client) → Has session given client → Has session given (unless_fault body after client)
unless-given session given body after client h = go (submit_fault body after client) refl where
  go : (found : Option Fault) → submit_fault body after client ≡ found → Has session given (cond (is_none found) (submitted body after client) client)
  go None is = submitted-given session given body after client (submitted-plain (length (calls_of client)) body after is) h
  go (Some fault) is = h

alone-all : (given : List Message) (calls : List Call) → AllByRecursion (LivesAmong given) calls → AllByRecursion (LivesAmong given) (map alone_if_sent calls)
alone-all given [] all = tt
alone-all given (call ∷ calls) all = (
  cond_both (is_sent call.state) (alone call) call (LivesAmong given) (λ is. all.0) (λ is. all.0),
  alone-all given calls all.1,
)

alone-asked : (given : List Message) (temporary : Option Temporary) → IfSome temporary (λ temporary. IsAskedAmong given temporary.binding)
    → IfSome (option_map alone_if_asked temporary) (λ temporary. IsAskedAmong given temporary.binding)
alone-asked given None asked = tt
alone-asked given (Some temporary) asked =
    cond_both (is_asked temporary.binding) _ temporary (λ (one : Temporary). IsAskedAmong given one.binding) (λ is. asked) (λ is. asked)

attached-given : (session : Line) (given : List Message) (client : Client) → Has session given client → Has session given (attached client)
attached-given session given client h =
    record { once = h.once; within = h.within; living = alone-all given (calls_of client) h.living; asked = alone-asked given client.temporary h.asked; same = h.same }

dropped-given : (session : Line) (given : List Message) (call : CallNo) (client : Client) → Has session given client → Has session given (dropped call client)
dropped-given session given call client h =
    cond_both (can_drop call client) (with_call call drops client) client (Has session given)
    (λ is. changed-given session given (call.n - 1) drops client (λ one there lives. lives) h) (λ is. h)

-- ---- another session

-- no call is outstanding then
renewed-lives : (state : State) (call : Call) → call.state ≡ state → IsPlain call.body → LivesAmong [] (settled_if (fate_renewed state) call)
renewed-lives table.Sent call is plain = (plain, λ message living. absurd (none-some message living))
renewed-lives table.Held call is plain = (plain, λ message living. absurd (none-some message living))
renewed-lives table.Queued call is plain = (
  plain,
  λ message living.
      absurd (none-some message (subst (λ (state : State). message_behind call.body (living_name_in state call.names) ≡ Some message) is living)),
)
renewed-lives (table.Done reply) call is plain = (
  plain,
  λ message living.
      absurd (none-some message (subst (λ (state : State). message_behind call.body (living_name_in state call.names) ≡ Some message) is living)),
)
renewed-lives (table.Refused code) call is plain = (
  plain,
  λ message living.
      absurd (none-some message (subst (λ (state : State). message_behind call.body (living_name_in state call.names) ≡ Some message) is living)),
)
renewed-lives (table.Unknown why) call is plain = (
  plain,
  λ message living.
      absurd (none-some message (subst (λ (state : State). message_behind call.body (living_name_in state call.names) ≡ Some message) is living)),
)

renewed-all : (given : List Message) (calls : List Call) → AllByRecursion (LivesAmong given) calls
    → AllByRecursion (LivesAmong []) (map (λ call. settled_if (fate_renewed call.state) call) calls)
renewed-all given [] all = tt
renewed-all given (call ∷ calls) all = (renewed-lives call.state call refl all.0.0, renewed-all given calls all.1)

needed-asked : (temporary : Option Temporary) → IfSome (option_map (bound_so Needed) temporary) (λ temporary. IsAskedAmong [] temporary.binding)
needed-asked None = tt
needed-asked (Some temporary) = tt

none-once : AreOnce []
none-once one other among beside same = absurd (nobody one among)

renewed-given : (session : ℕ) (given : List Message) (client : Client) → HasGiven given client → HasGiven [] (renewed session client)
renewed-given session given client h =
    record {
      once = none-once;
      within = λ message among. absurd (nobody message among);
      living = renewed-all given (calls_of client) h.living;
      asked = needed-asked client.temporary;
    }

-- ---- all events

pub made-given : {S : Type 0} (setting : Setting S) (key : ℕ) (temporary : Option Temporary) (draw : S)
    → IfSome temporary (λ temporary. IsAskedAmong [] temporary.binding) → HasGiven [] (made setting key temporary draw).client
made-given setting key temporary draw asked =
    record { once = none-once; within = λ message among. absurd (nobody message among); living = tt; asked = asked }

-- all others go on in the same session
on-given : {S : Type 0} (setting : Setting S) (run : Run S) (event : Event) (given : Given) → (IsRenewal event → ⊥) → HasGiven given.present run.client
    → Has (line_of run.client) (given_after setting run event given).present (step setting run event).client
on-given setting run event given on has = go event on (has-now given.present run.client has) where
  go : (event : Event) → (IsRenewal event → ⊥) → Has (line_of run.client) given.present run.client
      → Has (line_of run.client) (given_after setting run event given).present (step setting run event).client
  go (Submit body after) on h = unless-given (line_of run.client) given.present body after run.client h
  go Attach on h = attached-given (line_of run.client) given.present run.client h
  go Tick on h = record { once = h.once; within = h.within; living = h.living; asked = h.asked; same = h.same }
  go (Ping id) on h = record { once = h.once; within = h.within; living = h.living; asked = h.asked; same = h.same }
  go (AskSalts count) on h = record { once = h.once; within = h.within; living = h.living; asked = h.asked; same = h.same }
  go (Drop call) on h = dropped-given (line_of run.client) given.present call run.client h
  go (Flush now) on h = (flush-so (line_of run.client) given.present setting now run.client run.draw h).0
  go (Take now None) on h = record { once = h.once; within = h.within; living = h.living; asked = h.asked; same = h.same }
  go (Take now (Some envelope)) on h = take-given (line_of run.client) given.present now envelope run.client h
  go Renew on h = absurd (on tt)
  go End on h = ended-given (line_of run.client) given.present run.client h

pub step-given : {S : Type 0} (setting : Setting S) (run : Run S) (event : Event) (given : Given) → HasGiven given.present run.client
    → HasGiven (given_after setting run event given).present (step setting run event).client
step-given setting run event given has = go event where
  other : (event : Event) → (IsRenewal event → ⊥) → HasGiven (given_after setting run event given).present (step setting run event).client
  other event on = has-given (line_of run.client) (given_after setting run event given).present (step setting run event).client (on-given setting run event given on has)

  go : (event : Event) → HasGiven (given_after setting run event given).present (step setting run event).client
  go (Submit body after) = other (Submit body after) (λ no. no)
  go Attach = other Attach (λ no. no)
  go Tick = other Tick (λ no. no)
  go (Ping id) = other (Ping id) (λ no. no)
  go (AskSalts count) = other (AskSalts count) (λ no. no)
  go (Drop call) = other (Drop call) (λ no. no)
  go (Flush now) = other (Flush now) (λ no. no)
  go (Take now opened) = other (Take now opened) (λ no. no)
  go Renew = renewed-given (word_after setting.step 0 run.draw) given.present run.client has
  go End = other End (λ no. no)

pub step-line : {S : Type 0} (setting : Setting S) (run : Run S) (event : Event) (given : List Message) → (IsRenewal event → ⊥) → HasGiven given run.client
    → line_of (step setting run event).client ≡ line_of run.client
step-line setting run event given on has = (on-given setting run event (record { present = given; former = [] }) on has).same

-- what was given under former session numbers stays, and a renewal adds the last one
former-once : {S : Type 0} (setting : Setting S) (run : Run S) (event : Event) (given : Given) → AreOnce given.present → AllByRecursion AreOnce given.former
    → AllByRecursion AreOnce (given_after setting run event given).former
former-once setting run (Submit body after) given once former = former
former-once setting run Attach given once former = former
former-once setting run Tick given once former = former
former-once setting run (Ping id) given once former = former
former-once setting run (AskSalts count) given once former = former
former-once setting run (Drop call) given once former = former
former-once setting run (Flush now) given once former = former
former-once setting run (Take now opened) given once former = former
former-once setting run Renew given once former = all-append AreOnce given.former (given.present ∷ []) former (once, tt)
former-once setting run End given once former = former

pub all-once : {S : Type 0} (setting : Setting S) (events : List Event) (run : Run S) (given : Given) → HasGiven given.present run.client
    → AllByRecursion AreOnce given.former → IsOnce (given_in setting run events given)
all-once setting [] run given h former = record { present = h.once; former = former }
all-once setting (event ∷ events) run given h former =
    all-once setting events (step setting run event) (given_after setting run event given) (step-given setting run event given h)
    (former-once setting run event given h.once former)
