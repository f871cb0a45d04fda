-- Jobs are answered one by one, so many times.
use Rattle.std.proofs.Common.{◌≡◌, ◌∙◌, ℕ, zero, suc, ◌<◌, ◌≤◌, ◌+◌, None, List, ap, sym, subst, arith}
use Rattle.waits.specs.Jobs.{Queue, first_job}
use Rattle.server_rules.specs.Server.{Binding}
use Rattle.server_rules.specs.Event.{Entry, Setting, State}
use Rattle.server_rules.specs.Waiting.{all_given_up, first_given_up}
use Rattle.server_session.specs.declared.session.SessionState.{SessionState}
use Rattle.server_core.specs.declared.tick_turns.Cause.{Cause}
use Rattle.server_core.specs.declared.tick_turns.TickTurn.{TickTurn}
use Rattle.server_core.specs.Answering.{GoesOn, IsInTick, content_for, first_for, test_of}
use Rattle.server_core.proofs.Quiet.{first-same, none-given}

-- the states after so many steps
abbrev pub all_for : {S : Type 0} → Setting S → Cause → ℕ → State S → State S
all_for setting cause n state = all_given_up setting (content_for cause) (first_for setting.now cause) n state

abbrev pub one_for : {S : Type 0} → Setting S → Cause → State S → State S
one_for setting cause state = first_given_up setting (content_for cause) (first_for setting.now cause) state

step-more : {S : Type 0} (setting : Setting S) (cause : Cause) (steps all left : ℕ) (standings : List SessionState) (voices : List TickTurn) (order : List ℕ) (made : List Entry) (queue : Queue)
    (bound : List Binding) (draw : S) (start state : State S) → left + steps ≡ all → steps < all
    → IsInTick setting.now standings voices order made queue bound draw (one_for setting cause state) → all_for setting cause left state ≡ all_for setting cause all start
    → GoesOn setting cause (steps + 1) all standings voices order made queue bound draw start
step-more setting cause steps all zero standings voices order made queue bound draw start state rest some is same = absurd (omega arith)
step-more setting cause steps all (suc left) standings voices order made queue bound draw start state rest some is same =
    record { state = one_for setting cause state; left = left; rest = omega arith; is = is; same = same }

-- what is so of a state before a step
pub goes-on : {S : Type 0} (setting : Setting S) (cause : Cause) (steps all : ℕ) (standings after : List SessionState) (voices next : List TickTurn) (order later : List ℕ) (made more : List Entry)
    (queue left : Queue) (bound : List Binding) (draw : S) (start : State S) (so_far : GoesOn setting cause steps all standings voices order made queue bound draw start) → steps < all
    → IsInTick setting.now after next later more left bound draw (one_for setting cause so_far.state) → GoesOn setting cause (steps + 1) all after next later more left bound draw start
goes-on setting cause steps all standings after voices next order later made more queue left bound draw start so_far some is =
    step-more setting cause steps all so_far.left after next later more left bound draw start so_far.state so_far.rest some is so_far.same

over : {S : Type 0} (setting : Setting S) (cause : Cause) (steps all left : ℕ) (start state : State S) → left + steps ≡ all → all ≤ steps
    → all_for setting cause left state ≡ all_for setting cause all start → state ≡ all_for setting cause all start
over setting cause steps all zero start state rest none same = same
over setting cause steps all (suc left) start state rest none same = absurd (omega arith)

pub goes-over : {S : Type 0} (setting : Setting S) (cause : Cause) (steps all : ℕ) (standings : List SessionState) (voices : List TickTurn) (order : List ℕ) (made : List Entry) (queue : Queue)
    (bound : List Binding) (draw : S) (start : State S) → GoesOn setting cause steps all standings voices order made queue bound draw start → all ≤ steps
    → IsInTick setting.now standings voices order made queue bound draw (all_for setting cause all start)
goes-over {S} setting cause steps all standings voices order made queue bound draw start so_far none =
    subst (λ (state : State S). IsInTick setting.now standings voices order made queue bound draw state)
    (over setting cause steps all so_far.left start so_far.state so_far.rest none so_far.same) so_far.is

-- where none is left to be answered, all were
pub goes-none : {S : Type 0} (setting : Setting S) (cause : Cause) (steps all : ℕ) (standings after : List SessionState) (voices next : List TickTurn) (order later : List ℕ) (made more : List Entry)
    (queue left : Queue) (bound : List Binding) (draw : S) (start : State S) (so_far : GoesOn setting cause steps all standings voices order made queue bound draw start)
    → first_job (test_of setting.now cause) queue ≡ None
    → IsInTick setting.now after next later more left bound draw (one_for setting cause so_far.state)
    → IsInTick setting.now after next later more left bound draw (all_for setting cause all start)
goes-none {S} setting cause steps all standings after voices next order later made more queue left bound draw start so_far none is =
    let test = test_of setting.now cause in
    let said : first_job test so_far.state.jobs ≡ None = ap (first_job test) (sym so_far.is.jobs) ∙ none in
    let one : one_for setting cause so_far.state ≡ so_far.state = first-same setting (content_for cause) test so_far.state said in
    let rest : all_for setting cause so_far.left so_far.state ≡ so_far.state = none-given setting (content_for cause) test so_far.left so_far.state said in
    subst (λ (state : State S). IsInTick setting.now after next later more left bound draw state) (one ∙ (sym rest ∙ so_far.same)) is
