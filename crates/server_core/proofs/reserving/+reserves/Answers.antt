use Rattle.std.proofs.Common.{◌≡◌, ◌∙◌, ◌<◌, ◌+◌, List, length, get_or, ap, sym, arith}
use Rattle.std.proofs.lemmas.List.{get_or_default, length-set}
use Rattle.server_session.specs.declared.session.SessionState.{SessionState}
use Rattle.server_core.specs.declared.tick_turns.TickTurn.{TickTurn}
use Rattle.server_core.specs.Reserving.{AreReserved}
use Rattle.server_core.proofs.Places.{one-of}
use Rattle.server_core.proofs.ReserveLemmas.{back-so, err-so, ok-so, reserved, reserved-more}
use Rattle.server_core.proofs.reserving.+reserves.Goals as goal

pub reserves-requires : goal.reserves-requires
reserves-requires t c =
    let standings = c.args.sessions.now in
    let place = c.args.place in
    let inside = c.if-place-count.false in
    let counts = c.count.ensures in
    let long = c.requires.long in
    let within : place < length standings = omega arith in
    let d = one-of standings place within in
    let still : length c.reserve_at.new.self ≡ length standings =
    ap (λ (standings : List SessionState). length standings) (c.in_ok-before.ensures.reserved d)
    ∙ length-set standings place (reserved (get_or c.args.voices.now c.args.place c.index-voices-place.result).left (get_or standings place d)) in
    (omega arith, c.requires.long ∙ sym still)

pub release_at-requires : goal.release_at-requires
release_at-requires t c =
    let standings = c.args.sessions.now in
    let place = c.args.place in
    let inside = c.if-place-count.false in
    let counts = c.count.ensures in
    let within : place < length standings = omega arith in
    let d = one-of standings place within in
    let still : length c.reserve_at.new.self ≡ length standings =
    ap (λ (standings : List SessionState). length standings) (c.in_ok-before.ensures.reserved d)
    ∙ length-set standings place (reserved (get_or c.args.voices.now c.args.place c.index-voices-place.result).left (get_or standings place d)) in
    let same : c.reserves.new.sessions ≡ c.reserve_at.new.self =
    err-so c.reserves.result (c.reserves.new.sessions ≡ c.reserve_at.new.self) (sym c.is_err.ensures.value ∙ c.if-is_err.true) c.reserves.ensures.unchanged_on_memory in
    let long : length c.reserves.new.sessions ≡ length standings = ap (λ (standings : List SessionState). length standings) same ∙ still in
    record { place = omega arith }

pub returns-then-is_err-clause-unchanged_on_memory : goal.returns-then-is_err-clause-unchanged_on_memory
returns-then-is_err-clause-unchanged_on_memory t c =
    let standings = c.args.sessions.now in
    let place = c.args.place in
    let inside = c.if-place-count.false in
    let counts = c.count.ensures in
    let within : place < length standings = omega arith in
    let d = one-of standings place within in
    let same : c.reserves.new.sessions ≡ c.reserve_at.new.self =
    err-so c.reserves.result (c.reserves.new.sessions ≡ c.reserve_at.new.self) (sym c.is_err.ensures.value ∙ c.if-is_err.true) c.reserves.ensures.unchanged_on_memory in
    back-so standings place d (get_or c.args.voices.now c.args.place c.index-voices-place.result).left c.in_ok-before.before c.reserves.new.sessions c.release_at.new.self within
    (same ∙ c.in_ok-before.ensures.reserved d) (c.in_ok-before.ensures.before d) (c.release_at.ensures d)

pub returns-clause-reserved : goal.returns-clause-reserved
returns-clause-reserved t c =
    let standings = c.args.sessions.now in
    let voices = c.args.voices.now in
    let place = c.args.place in
    let inside = c.if-place-count.false in
    let counts = c.count.ensures in
    let long = c.requires.long in
    let within : place < length standings = omega arith in
    let within_voices : place < length voices = omega arith in
    let voice : TickTurn = get_or voices place c.index-voices-place.result in
    let its : (e : TickTurn) → get_or voices place e ≡ voice = λ e. get_or_default voices place e c.index-voices-place.result within_voices in
    let done = ok-so c.reserves.result (AreReserved (place + 1) c.reserve_at.new.self voices c.reserves.new.sessions) (sym c.is_err.ensures.value ∙ c.if-is_err.false) c.reserves.ensures.reserved in
    reserved-more place standings voices c.reserve_at.new.self c.reserves.new.sessions voice within c.in_ok-before.ensures.reserved its done
