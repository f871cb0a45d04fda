use Rattle.std.proofs.Common.{◌≡◌, ◌∙◌, ◌<◌, ◌≤◌, ◌+◌, ◌-◌, ◌++◌, ◌∷◌, [], ℕ, true, cond, Some, List, length, get_or, set, ap, sym, subst, arith}
use Rattle.std.specs.List.{All, position_or_len}
use Rattle.std.proofs.lemmas.List.{get_or_default, length-set}
use Rattle.std.proofs.lemmas.List.Sums.{passes_at_first}
use Rattle.server_dispatch.specs.Contents.{content_of}
use Rattle.server_dispatch.specs.Speaks.{Speaks}
use Rattle.server_dispatch.specs.declared.turn.Turn.{Turn}
use Rattle.waits.specs.Jobs.{Queue, without_first}
use Rattle.server_rules.specs.Event.{Setting, State}
use Rattle.server_rules.specs.Server.{Name}
use Rattle.server_rules.specs.Waiting.{given_up}
use Rattle.server_session.specs.declared.session.SessionState.{SessionState}
use Rattle.server_session.specs.Names.{name_kept}
use Rattle.server_session.specs.Says.{setting_of}
use Rattle.server_core.specs.declared.tick_turns.TickTurn.{TickTurn}
use Rattle.server_core.specs.Answering.{AreVoices, IsInTick, IsVoice, answers_left, turn_with}
use Rattle.server_core.specs.Losing.{IsHere}
use Rattle.server_core.specs.Sessions.{is_kept_as}
use Rattle.server_core.proofs.Due.{some-left}
use Rattle.server_core.proofs.Lists.{place-is}
use Rattle.server_core.proofs.Names.{named, same-names}
use Rattle.server_core.proofs.Places.{one-of}
use Rattle.server_core.proofs.TickSteps.{tick-step}
use Rattle.server_core.proofs.TickTurnSteps.{IsStep, entries-room, has-room, has-turn, here-set, is-step, voices-step}
use Rattle.server_core.proofs.tick_turns.TickTurns.answers.Goals as goal

pub gives_up-requires-clause-room : goal.gives_up-requires-clause-room
gives_up-requires-clause-room g c = λ d.
    let voice : TickTurn = c.index_mut-voice.result.now in
    let standing = get_or c.args.sessions.now c.args.place d in
    let is : IsVoice standing voice = subst (λ (voice : TickTurn). IsVoice standing voice) (sym c.index_mut-voice.ensures.value) (c.requires.voices.each c.args.place d voice c.requires.place) in
    let some : 0 < (get_or c.args.self.now.list.items c.args.place voice).left = subst (λ (voice : TickTurn). 0 < voice.left) c.index_mut-voice.ensures.value c.if-voice-gt0.true in
    let room = entries-room c.args.sessions.now c.args.self.now.list.items c.args.self.now.order.items c.args.self.now.entries.room c.args.place voice c.requires.voices c.requires.place some in
    has-turn standing voice c.begins.new.self c.args.self.now.entries c.begins.ensures.spoke
    (has-room standing voice c.args.self.now.entries is c.if-voice-gt0.true room)

pub returns-then-voice-gt0-clause-voices : goal.returns-then-voice-gt0-clause-voices
returns-then-voice-gt0-clause-voices g c =
    let voice : TickTurn = c.index_mut-voice.result.now in
    let standings = c.args.sessions.now in
    let voices = c.args.self.now.list.items in
    let order = c.args.self.now.order.items in
    let place = c.args.place in
    let d = one-of standings place c.requires.place in
    let standing = get_or standings place d in
    let after = get_or c.gives_up.new.sessions place d in
    let next : TickTurn = c.gives_up.new.self in
    let step : IsStep c.args.now standing after voice next c.args.self.now.entries c.gives_up.new.entries =
    is-step c.args.now standing after voice c.begins.new.self next c.args.self.now.entries c.gives_up.new.entries c.begins.ensures.spoke c.if-voice-gt0.true
    (c.gives_up.ensures.spends d) (c.gives_up.ensures.replies_last d) c.gives_up.ensures.same_packets c.gives_up.ensures.same_left c.gives_up.ensures.still_spoke in
    let its = c.index_mut-voice.ensures.value in
    let step_at = subst (λ (voice : TickTurn). IsStep c.args.now standing after voice next c.args.self.now.entries c.gives_up.new.entries) its step in
    let done = voices-step c.args.now standings voices order c.args.self.now.entries c.gives_up.new.entries place d voice after next c.requires.voices c.requires.place step_at in
    let order_is : c.begins.new.order.items ≡ cond (get_or voices place voice).spoke order (order ++ place ∷ []) =
    c.begins.ensures.order ∙ ap (λ (voice : TickTurn). cond voice.spoke order (order ++ place ∷ [])) its in
    subst (λ (order : List ℕ). AreVoices c.gives_up.new.sessions (set voices place next) order c.gives_up.new.entries.room) (sym order_is)
    (subst (λ (standings : List SessionState). AreVoices standings (set voices place next) (cond (get_or voices place voice).spoke order (order ++ place ∷ [])) c.gives_up.new.entries.room)
    (sym (c.gives_up.ensures.others d)) done)

pub returns-then-voice-gt0-clause-capacity : goal.returns-then-voice-gt0-clause-capacity
returns-then-voice-gt0-clause-capacity g c =
    let standings = c.args.sessions.now in
    let place = c.args.place in
    let d = one-of standings place c.requires.place in
    let after = get_or c.gives_up.new.sessions place d in
    let long : length c.gives_up.new.sessions ≡ length standings = ap (λ (standings : List SessionState). length standings) (c.gives_up.ensures.others d) ∙ length-set standings place after in
    let room = c.requires.capacity in
    let same = c.begins.ensures.capacity in
    omega arith

pub returns-then-voice-gt0-clause-same_count : goal.returns-then-voice-gt0-clause-same_count
returns-then-voice-gt0-clause-same_count g c =
    let standings = c.args.sessions.now in
    let place = c.args.place in
    let d = one-of standings place c.requires.place in
    ap (λ (standings : List SessionState). length standings) (c.gives_up.ensures.others d) ∙ length-set standings place (get_or c.gives_up.new.sessions place d)

pub returns-then-voice-gt0-clause-here : goal.returns-then-voice-gt0-clause-here
returns-then-voice-gt0-clause-here g c = λ ring all.
    let standings = c.args.sessions.now in
    let place = c.args.place in
    let d = one-of standings place c.requires.place in
    let after = get_or c.gives_up.new.sessions place d in
    subst (λ (standings : List SessionState). All (IsHere ring c.args.now) standings) (sym (c.gives_up.ensures.others d))
    (here-set ring c.args.now standings place (get_or standings place d) after (turn_with c.begins.new.self c.args.self.now.entries) (turn_with c.gives_up.new.self c.gives_up.new.entries)
    (all place d c.requires.place) (c.gives_up.ensures.spends d) all)

pub returns-then-voice-gt0-clause-ticks : goal.returns-then-voice-gt0-clause-ticks
returns-then-voice-gt0-clause-ticks g c = λ keys test bindings draw state due tick is jobs_are placed.
    let D : Type 0 = g.row.D.Denot in
    let now = c.args.now in
    let setting : Setting D = setting_of now g.D.Draw.step keys in
    let content = content_of c.args.short in
    let voice : TickTurn = c.index_mut-voice.result.now in
    let begun : TickTurn = c.begins.new.self in
    let standings = c.args.sessions.now in
    let voices = c.args.self.now.list.items in
    let order = c.args.self.now.order.items in
    let entries = c.args.self.now.entries in
    let more = c.gives_up.new.entries in
    let place = c.args.place in
    let d = one-of standings place c.requires.place in
    let after = get_or c.gives_up.new.sessions place d in
    let next : TickTurn = c.gives_up.new.self in
    let its = c.index_mut-voice.ensures.value in
    let long = c.requires.voices.long in
    let at = c.requires.place in
    let within_voices : place < length voices = omega arith in
    let some = c.if-voice-gt0.true in
    let turn_is : (e : TickTurn) → turn_with (get_or voices place e) entries ≡ turn_with begun entries = λ e.
    ap (λ (voice : TickTurn). turn_with voice entries) (get_or_default voices place e voice within_voices ∙ sym its)
    ∙ sym (ap (λ (voice : TickTurn). turn_with voice entries) c.begins.ensures.spoke) in
    let left : (e : TickTurn) → next.left + 1 ≡ (get_or voices place e).left = λ e.
    let same : (get_or voices place e).left ≡ voice.left = ap (λ (voice : TickTurn). voice.left) (get_or_default voices place e voice within_voices ∙ sym its) in
    let fewer : begun.left ≡ voice.left - 1 = ap (λ (voice : TickTurn). voice.left) c.begins.ensures.spoke in
    let kept = c.gives_up.ensures.same_left in
    omega arith in
    let spoke_now : next.spoke ≡ true = c.gives_up.ensures.still_spoke ∙ ap (λ (voice : TickTurn). voice.spoke) c.begins.ensures.spoke in
    let spoke_was : (e : TickTurn) → (get_or voices place e).spoke ≡ voice.spoke = λ e.
    ap (λ (voice : TickTurn). voice.spoke) (get_or_default voices place e voice within_voices ∙ sym its) in
    let done = tick-step {S = D} c.taken_jobs_are_open.ensures.first c.rows_keep_order.ensures.gives_up c.sessions_stand_later.ensures.name setting content test due
    standings voices order entries bindings draw state tick c.gives_up.ensures.apart long c.args.job is place (sym placed) after next more c.gives_up.new.jobs.jobs
    (λ d' e speaker unanswered said.
    c.gives_up.ensures.speaks d keys bindings draw speaker unanswered
    (subst (λ (turn : Turn). Speaks now (get_or standings place d) turn c.args.jobs.now.jobs bindings draw speaker) (turn_is e)
    (subst (λ (jobs : Queue). Speaks now (get_or standings place d) (turn_with (get_or voices place e) entries) jobs bindings draw speaker) (sym jobs_are)
    (subst (λ (standing : SessionState). Speaks now standing (turn_with (get_or voices place e) entries) (without_first test state.jobs) bindings draw speaker)
    (get_or_default standings place d' d at) said))))
    left spoke_now voice.spoke spoke_was in
    let then : State D = given_up setting content (Some c.args.job) (record state { jobs = without_first test state.jobs }) in
    subst (λ (order : List ℕ). IsInTick now c.gives_up.new.sessions (set voices place next) order more.entries c.gives_up.new.jobs.jobs bindings draw then) (sym c.begins.ensures.order)
    (subst (λ (standings : List SessionState). IsInTick now standings (set voices place next) (cond voice.spoke order (order ++ place ∷ [])) more.entries c.gives_up.new.jobs.jobs bindings draw then)
    (sym (c.gives_up.ensures.others d)) done)

pub returns-else-voice-gt0-clause-ticks : goal.returns-else-voice-gt0-clause-ticks
returns-else-voice-gt0-clause-ticks g c = λ keys test bindings draw state due tick is jobs_are placed.
    let voice : TickTurn = c.index_mut-voice.result.now in
    let standings = c.args.sessions.now in
    let place = c.args.place in
    let name = named c.args.job.key c.args.job.session in
    let at = place-is (is_kept_as name) standings place (sym placed) in
    let d = one-of standings place c.requires.place in
    let first = position_or_len (is_kept_as name) standings in
    let within : first < length standings = omega (arith, at.0, at.1) in
    let has : is_kept_as name (get_or standings place d) ≡ true = ap (λ (n : ℕ). is_kept_as name (get_or standings n d)) (sym at.0) ∙ passes_at_first (is_kept_as name) standings d within in
    let of_name : name ≡ name_kept (get_or standings place d) = same-names name (name_kept (get_or standings place d)) has in
    let left = some-left c.args.now test c.args.job state.jobs due is in
    let enough = subst (λ (name : Name). answers_left c.args.now state.jobs name ≤ (get_or c.args.self.now.list.items place voice).left) (sym of_name) (tick.enough place d voice c.requires.place) in
    let none = c.if-voice-gt0.false in
    let same : voice.left ≡ (get_or c.args.self.now.list.items place voice).left = ap (λ (voice : TickTurn). voice.left) c.index_mut-voice.ensures.value in
    absurd (omega arith)
