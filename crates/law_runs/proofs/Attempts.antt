-- What a batch makes of its client is what its deeds make of it: turns, connections and attempts.
use Rattle.std.proofs.Common.{◌≡◌, ◌∙◌, ℕ, List, [], ◌∷◌, ◌++◌, arith, inl, inr, refl, sym, subst}
use Rattle.std.specs.Prelude.{length}
use Rattle.auth_keys.specs.declared.ring.RingKey.{RingKey}
use Rattle.transport.specs.Starts.{Opening, words_drawn}
use Rattle.client_node.specs.Course.{Course, attaches}
use Rattle.client_node.specs.Talks as client
use Rattle.client_node.specs.Talks.{AreTurns, Began, Close, Connection, Heard, IsClosed, IsConnection, IsTalk, IsTurn, Place, Refused, Said, Stopped, Talk, Turn, TurnsDone, Unread, Unstarted, begun, closes, course_after, drawn, end_by, end_of, gets, says, turned, turns_from}
use Rattle.client_node.specs.Took.{takes_all}
use Rattle.client_node.specs.Trace.{AreLost, Attempt, EndsBy, IsAttempt, Made, NoLink, after_all, attempted, end_of_attempt}
use Rattle.mt_edge.specs.declared.source.Got.TheVariants as got
use Rattle.client_node.specs.Ends.{batch_by}
use Rattle.client_node.specs.declared.plan.Batch.{Batch}
use Rattle.client_node.specs.declared.plan.Batch.TheVariants as batch
use Rattle.client_node.specs.declared.plan.Plan.{Plan}
use Rattle.client_core.specs.Keys.{Keys}
use Rattle.law_connections.specs.Joint.{Deed, Attaches, Draws}
use Rattle.law_runs.specs.Batches.{AreBatches, AreLost as AreLostBatches, IsBatch, OneBatch, behind_batches}
use Rattle.law_runs.specs.Deeds.{attempt_deeds, attempts_deeds, batches_deeds, close_deeds, connection_deeds, heard_deeds, renew_deeds, said_deeds, talk_deeds, turn_deeds, turns_deeds}
use Rattle.law_runs.specs.Joining.{Shares, client_rules_under}
use Rattle.law_runs.proofs.InTurn.{AllInTurn, AreHeardInTurn, ClosesInTurn, ConnectsInTurn, TriesInTurn}
use Rattle.law_runs.proofs.Turns.{tries-in-turn}
use Rattle.law_runs.proofs.Batches.{AreTimely, Lives, Tied, attach-tied, heard-tied, last-tied, renew-lives, renew-tied, said-tied, tied-then, timely-back, timely-front}

module _ {D : Type 0} (step : D → ℕ × D) (ring mine : List RingKey) (keys : Keys) (shares : Shares ring mine keys) where
  abbrev rules : client.Rules D
  rules = client_rules_under step mine

  abbrev Ties : Course D → List Deed → Course D → Type 0
  Ties before deeds after = Tied step ring mine keys shares before deeds after

  then-tied : (before between after : Course D) (deeds more : List Deed) → Ties before deeds between → Ties between more after → Ties before (deeds ++ more) after
  then-tied before between after deeds more one two = tied-then step ring mine keys shares before between after deeds more one two

  -- ---- turns

  turn-tied : (opening : Opening) (place : Place D) (turn : Turn) → IsTurn rules opening place turn → AreTimely (turn_deeds rules turn place) → Lives keys place.course
      → Ties place.course (turn_deeds rules turn place) (turned rules turn place).course × Lives keys (turned rules turn place).course
  turn-tied opening place turn is timely lives =
      let own = said_deeds place.now turn.said in
      let between = (says rules turn.said place).course in
      let more = heard_deeds step rules.reading turn.moment between turn.heard in
      let said = said-tied step ring mine keys shares place.now turn.said.packets turn.said.is_done place.course (timely-front own more timely) lives in
      let heard = heard-tied step ring mine keys shares turn.moment turn.heard between (timely-back own more timely) said.1 is.none in
      (then-tied place.course between (turned rules turn place).course own more said.0 heard.0, heard.1)

  turns-tied : (opening : Opening) (place : Place D) (turns : List Turn) → AreTurns rules opening place turns → AreTimely (turns_deeds rules place turns) → Lives keys place.course
      → Ties place.course (turns_deeds rules place turns) (turns_from rules place turns).course × Lives keys (turns_from rules place turns).course
  turns-tied opening place [] are timely lives = (refl, lives)
  turns-tied opening place (last ∷ earlier) are timely lives =
      let before = turns_deeds rules place earlier in
      let there = turns_from rules place earlier in
      let own = turn_deeds rules last there in
      let front = turns-tied opening place earlier are.0 (timely-front before own timely) lives in
      let one = turn-tied opening there last are.1 (timely-back before own timely) front.1 in
      (then-tied place.course there.course (turned rules last there).course before own front.0 one.0, one.1)

  -- ---- how a connection closes

  -- a place where what is due was said
  module _ (place : Place D) (said : Said) (lives : Lives keys place.course) where
    abbrev there : Course D
    there = (says rules said place).course

    saying : AreTimely (said_deeds place.now said) → Ties place.course (said_deeds place.now said) there × Lives keys there
    saying timely = said-tied step ring mine keys shares place.now said.packets said.is_done place.course timely lives

    heard-closes : (moment : ℕ) (heard : List (List ℕ)) → AreHeardInTurn step rules.reading moment there heard
        → AreTimely (said_deeds place.now said ++ heard_deeds step rules.reading moment there heard)
        → Ties place.course (said_deeds place.now said ++ heard_deeds step rules.reading moment there heard) (takes_all step rules.reading moment there heard)
    heard-closes moment heard (inl none) timely =
        let own = said_deeds place.now said in
        let others = heard_deeds step rules.reading moment there heard in
        let said_so = saying (timely-front own others timely) in
        then-tied place.course there (takes_all step rules.reading moment there heard) own others said_so.0
        (heard-tied step ring mine keys shares moment heard there (timely-back own others timely) said_so.1 none).0
    heard-closes moment heard (inr (front, last, is, none)) timely =
        let own = said_deeds place.now said in
        let others = heard_deeds step rules.reading moment there heard in
        let said_so = saying (timely-front own others timely) in
        let late = subst (λ (packets : List (List ℕ)). AreTimely (heard_deeds step rules.reading moment there packets)) is (timely-back own others timely) in
        let heard_so : Ties there others (takes_all step rules.reading moment there heard) =
        subst (λ (packets : List (List ℕ)). Ties there (heard_deeds step rules.reading moment there packets) (takes_all step rules.reading moment there packets)) (sym is)
        (last-tied step ring mine keys shares moment front last there late said_so.1 none) in
        then-tied place.course there (takes_all step rules.reading moment there heard) own others said_so.0 heard_so

    closed-tied : (close : Close) → ClosesInTurn rules said close place → AreTimely (close_deeds rules said close place)
        → Ties place.course (close_deeds rules said close place) (closes rules said close place).course
    closed-tied (Stopped end) turn timely = (saying timely).0
    closed-tied (Unread answer) turn timely = (saying timely).0
    closed-tied TurnsDone turn timely = (saying timely).0
    closed-tied (Heard piece moment heard end) turn timely = heard-closes moment heard turn timely

    -- the client goes on where the connection is lost
    closed-lives : (opening : Opening) (count : ℕ) (close : Close) → IsClosed rules opening count place said close → end_by close ≡ end_by (Unread got.End)
        → AreTimely (close_deeds rules said close place) → Lives keys (closes rules said close place).course
    closed-lives opening count (Stopped end) is lost timely = (saying timely).1
    closed-lives opening count (Unread answer) is lost timely = (saying timely).1
    closed-lives opening count TurnsDone is lost timely = (saying timely).1
    closed-lives opening count (Heard piece moment heard end) (few, ready, some, most, sizes, hearing) lost timely =
        let own = said_deeds place.now said in
        let others = heard_deeds step rules.reading moment there heard in
        let said_so = saying (timely-front own others timely) in
        let hearing_lost : client.EndsHearing rules opening (gets piece moment (says rules said place)) heard (end_by (Unread got.End)) =
        subst (λ (e : _). client.EndsHearing rules opening (gets piece moment (says rules said place)) heard e) lost hearing in
        (heard-tied step ring mine keys shares moment heard there (timely-back own others timely) said_so.1 hearing_lost.0).1

  -- ---- connections

  talk-tied : (opening : Opening) (place : Place D) (talk : Talk) → IsTalk rules opening place talk → ClosesInTurn rules talk.said talk.close (turns_from rules place talk.turns)
      → AreTimely (talk_deeds rules place talk) → Lives keys place.course
      → Ties place.course (talk_deeds rules place talk) (client.place_after rules place talk).course
      × (end_by talk.close ≡ end_by (Unread got.End) → Lives keys (client.place_after rules place talk).course)
  talk-tied opening place talk is turn timely lives =
      let before = turns_deeds rules place talk.turns in
      let there = turns_from rules place talk.turns in
      let own = close_deeds rules talk.said talk.close there in
      let front = turns-tied opening place talk.turns is.turns (timely-front before own timely) lives in
      let late = timely-back before own timely in (
        then-tied place.course there.course (client.place_after rules place talk).course before own front.0 (closed-tied there talk.said front.1 talk.close turn late),
        λ lost. closed-lives there talk.said front.1 opening (length talk.turns) talk.close is.closed lost late,
      )

  drawn-lives : (plan : Plan) (course : Course D) → Lives keys course → Lives keys (drawn rules plan course)
  drawn-lives plan course lives = record { phase = lives.phase; client = lives.client; sign = lives.sign }

  connection-tied : (plan : Plan) (course : Course D) (connection : Connection) → IsConnection rules plan course connection → ConnectsInTurn rules plan course connection
      → AreTimely (connection_deeds rules plan course connection) → Lives keys course
      → Ties course (connection_deeds rules plan course connection) (course_after rules plan course connection)
      × (end_of connection ≡ end_by (Unread got.End) → Lives keys (course_after rules plan course connection))
  connection-tied plan course (Refused first) is turn timely lives = (refl, λ lost. lives)
  connection-tied plan course (Unstarted first start) is turn timely lives = (refl, λ lost. drawn-lives plan course lives)
  connection-tied plan course (Began first start opening talk) is turn timely lives =
      let after = drawn rules plan course in
      let attach = attach-tied step ring mine keys shares after (drawn-lives plan course lives) in
      let place = begun rules plan course first in
      let own = renew_deeds (attaches after) in
      let more = talk_deeds rules place talk in
      let renew = renew-tied step ring mine keys shares (attaches after) in
      let talk_so = talk-tied opening place talk is.1 turn (timely-back own more timely.1.1) (renew-lives step ring mine keys shares (attaches after) attach.1) in
      let rest = then-tied (attaches after) place.course (client.place_after rules place talk).course own more renew talk_so.0 in
      let both = then-tied after (attaches after) (client.place_after rules place talk).course (Attaches ∷ []) (own ++ more) attach.0 rest in
      (then-tied course after (client.place_after rules place talk).course (Draws (words_drawn plan.obfuscate) ∷ []) (Attaches ∷ (own ++ more)) refl both, talk_so.1)

  -- ---- attempts

  attempt-tied : (plan : Plan) (course : Course D) (attempt : Attempt) → IsAttempt rules plan course attempt → TriesInTurn rules plan course attempt
      → AreTimely (attempt_deeds rules plan course attempt) → Lives keys course
      → Ties course (attempt_deeds rules plan course attempt) (attempted rules plan attempt course)
      × (end_of_attempt attempt ≡ end_by (Unread got.End) → Lives keys (attempted rules plan attempt course))
  attempt-tied plan course NoLink is turn timely lives = (refl, λ lost. lives)
  attempt-tied plan course (Made connection) is turn timely lives = connection-tied plan course connection is turn timely lives

  lost-tied : (plan : Plan) (course : Course D) (attempts : List Attempt) → AreLost rules plan course attempts → AllInTurn rules plan course attempts
      → AreTimely (attempts_deeds rules plan course attempts) → Lives keys course
      → Ties course (attempts_deeds rules plan course attempts) (after_all rules plan course attempts) × Lives keys (after_all rules plan course attempts)
  lost-tied plan course [] are turn timely lives = (refl, lives)
  lost-tied plan course (last ∷ earlier) are turn timely lives =
      let before = attempts_deeds rules plan course earlier in
      let there = after_all rules plan course earlier in
      let own = attempt_deeds rules plan there last in
      let front = lost-tied plan course earlier are.0 turn.0 (timely-front before own timely) lives in
      let one = attempt-tied plan there last are.1 turn.1 (timely-back before own timely) front.1 in
      (then-tied course there (attempted rules plan last there) before own front.0 one.0, one.1 are.2)

  -- ---- batches

  ends-tied : (plan : Plan) (course : Course D) (end : Batch) (attempts : List Attempt) → EndsBy rules plan course end attempts → AllInTurn rules plan course attempts
      → AreTimely (attempts_deeds rules plan course attempts) → Lives keys course
      → Ties course (attempts_deeds rules plan course attempts) (after_all rules plan course attempts)
      × (end ≡ batch.LinkLost → Lives keys (after_all rules plan course attempts))
  ends-tied plan course end [] is turn timely lives = (refl, λ lost. lives)
  ends-tied plan course end (last ∷ earlier) is turn timely lives =
      let before = attempts_deeds rules plan course earlier in
      let there = after_all rules plan course earlier in
      let own = attempt_deeds rules plan there last in
      let front = lost-tied plan course earlier is.1 turn.0 (timely-front before own timely) lives in
      let one = attempt-tied plan there last is.2 turn.1 (timely-back before own timely) front.1 in
      (then-tied course there (attempted rules plan last there) before own front.0 one.0, λ lost. one.1 (is-lost (end_of_attempt last) (is.3 ∙ lost))) where
        is-lost : (end : _) → batch_by end ≡ batch.LinkLost → end ≡ end_by (Unread got.End)
        is-lost end is = grind (arith, is)

  one-tied : (course : Course D) (one : OneBatch) → IsBatch rules course one → AreTimely (attempts_deeds rules one.plan course one.attempts) → Lives keys course
      → Ties course (attempts_deeds rules one.plan course one.attempts) (after_all rules one.plan course one.attempts)
      × (one.end ≡ batch.LinkLost → Lives keys (after_all rules one.plan course one.attempts))
  one-tied course one is timely lives = ends-tied one.plan course one.end one.attempts is (tries-in-turn rules one.plan course one.end one.attempts is) timely lives

  earlier-tied : (course : Course D) (batches : List OneBatch) → AreLostBatches rules course batches → AreTimely (batches_deeds rules course batches) → Lives keys course
      → Ties course (batches_deeds rules course batches) (behind_batches rules course batches) × Lives keys (behind_batches rules course batches)
  earlier-tied course [] are timely lives = (refl, lives)
  earlier-tied course (last ∷ earlier) are timely lives =
      let before = batches_deeds rules course earlier in
      let there = behind_batches rules course earlier in
      let own = attempts_deeds rules last.plan there last.attempts in
      let front = earlier-tied course earlier are.0 (timely-front before own timely) lives in
      let one = one-tied there last are.1 (timely-back before own timely) front.1 in
      (then-tied course there (behind_batches rules course (last ∷ earlier)) before own front.0 one.0, one.1 are.2)

  pub batches-tied : (course : Course D) (batches : List OneBatch) → AreBatches rules course batches → AreTimely (batches_deeds rules course batches) → Lives keys course
      → Ties course (batches_deeds rules course batches) (behind_batches rules course batches)
  batches-tied course [] are timely lives = refl
  batches-tied course (last ∷ earlier) are timely lives =
      let before = batches_deeds rules course earlier in
      let there = behind_batches rules course earlier in
      let own = attempts_deeds rules last.plan there last.attempts in
      let front = earlier-tied course earlier are.0 (timely-front before own timely) lives in
      let one = one-tied there last are.1 (timely-back before own timely) front.1 in
      then-tied course there (behind_batches rules course (last ∷ earlier)) before own front.0 one.0
