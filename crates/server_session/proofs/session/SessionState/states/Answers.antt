use Rattle.std.proofs.Common.{◌≡◌, ◌∙◌, ◌++◌, ◌∷◌, ◌+◌, [], ℕ, List, ap, sym, refl, map, take, length, arith}
use Rattle.std.proofs.lemmas.List.{map_more, take_all}
use Rattle.std.proofs.lemmas.Grind.{take-set_at}
use Rattle.inbox.specs.States.{state_byte}
use Rattle.server_rules.specs.Server.{marks_of}
use Rattle.server_session.proofs.session.SessionState.states.Goals as goal

pub loop-place-preserved : goal.loop-place-preserved
loop-place-preserved c =
    let place = c.loop-place.place in
    λ now session stands.
    let state : ℕ → ℕ = state_byte session.history (marks_of session.history session.replies) in
    let value = c.state.ensures session.history (marks_of session.history session.replies) stands.inbox in
    take-set_at c.loop-place.states place (place + 1) c.state.result refl (omega arith)
    ∙ ap (λ (l : List ℕ). l ++ c.state.result ∷ []) (c.loop-place.invariant now session stands)
    ∙ ap (λ (n : ℕ). map state (take place c.args.ids.now) ++ n ∷ []) value
    ∙ sym (map_more state c.args.ids.now place 0 c.loop-place-test.true)

pub returns-clause-states : goal.returns-clause-states
returns-clause-states c = λ now session stands.
    let place = c.loop-place.place in
    let all : place ≡ length c.args.ids.now = omega arith in
    rw (sym all) (c.loop-place.invariant now session stands
    ∙ ap (map (state_byte session.history (marks_of session.history session.replies))) (take_all place c.args.ids.now (omega arith)))
