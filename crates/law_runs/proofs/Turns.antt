-- The clauses of runs say in which packets decide, and how connections follow one another.
use Rattle.std.proofs.Common.{◌≡◌, ℕ, List, [], ◌∷◌, ◌++◌, length, inl, inr, arith}
use Rattle.transport.specs.Starts.{Opening}
use Rattle.client_node.specs.Course.{Course}
use Rattle.client_node.specs.Talks.{Began, Close, Connection as Made, EndsHearing, Heard, IsClosed, IsConnection, Place, Refused, Rules, Said, Stopped, TurnsDone, Unread, Unstarted, begun, gets, says, turns_from}
use Rattle.client_node.specs.Trace.{AreLost, Attempt, EndsBy as BatchEndsBy, IsAttempt, Made as MadeOne, NoLink, after_all}
use Rattle.client_node.specs.declared.plan.Batch.{Batch}
use Rattle.client_node.specs.declared.plan.Plan.{Plan}
use Rattle.client_node.specs.Took.{NoneDecides}
use Rattle.auth_keys.specs.declared.ring.RingKey.{RingKey}
use Rattle.cmd_serve.specs.Connections.{Connection, EndsBy}
use Rattle.cmd_serve.specs.Runs.{IsBroken, Registers, Serves}
use Rattle.law_runs.proofs.InTurn.{AllInTurn, AreHeardInTurn, AreInTurn, ClosesInTurn, ConnectsInTurn, TriesInTurn}

none-so : {S : Type 0} (rules : Rules S) (now : ℕ) (course : Course S) (heard : List (List ℕ)) → NoneDecides rules.setting.step rules.reading now course heard
    → AreHeardInTurn rules.setting.step rules.reading now course heard
none-so rules now course heard none = inl none

last-so : {S : Type 0} (rules : Rules S) (now : ℕ) (course : Course S) (heard front : List (List ℕ)) (last : List ℕ) → heard ≡ front ++ last ∷ []
    → NoneDecides rules.setting.step rules.reading now course front → AreHeardInTurn rules.setting.step rules.reading now course heard
last-so rules now course heard front last is none = inr (front, last, is, none)

heard-so : {S : Type 0} (rules : Rules S) (opening : Opening) (place : Place S) (heard : List (List ℕ)) (end : _) → EndsHearing rules opening place heard end
    → AreHeardInTurn rules.setting.step rules.reading place.now place.course heard
heard-so rules opening place heard end hearing = grind (arith, none-so rules place.now place.course heard, last-so rules place.now place.course heard, hearing)

-- the last one may have been cut off, but not by a journal
turn-so : {D : Type 0} (ring : List RingKey) (conns : ℕ) (ending : _) (last : Connection D Registers) (earlier : List (Connection D Registers)) → EndsBy conns ending (last ∷ earlier)
    → (IsBroken (Serves ring (last ∷ earlier) ending) → ⊥) → AreInTurn (last ∷ earlier)
turn-so ring conns ending last earlier ended whole = grind (arith, ended, whole)

-- ---- a client's attempts

module _ {S : Type 0} (rules : Rules S) where
  closes-so : (opening : Opening) (count : ℕ) (place : Place S) (said : Said) (close : Close) → IsClosed rules opening count place said close → ClosesInTurn rules said close place
  closes-so opening count place said (Stopped end) is = tt
  closes-so opening count place said (Unread answer) is = tt
  closes-so opening count place said TurnsDone is = tt
  closes-so opening count place said (Heard piece moment heard end) (few, ready, some, most, sizes, hearing) =
      heard-so rules opening (gets piece moment (says rules said place)) heard end hearing

  connects-so : (plan : Plan) (course : Course S) (connection : Made) → IsConnection rules plan course connection → ConnectsInTurn rules plan course connection
  connects-so plan course (Refused first) is = tt
  connects-so plan course (Unstarted first start) is = tt
  connects-so plan course (Began first start opening talk) is =
      let place = begun rules plan course first in
      closes-so opening (length talk.turns) (turns_from rules place talk.turns) talk.said talk.close is.1.closed

  tries-so : (plan : Plan) (course : Course S) (attempt : Attempt) → IsAttempt rules plan course attempt → TriesInTurn rules plan course attempt
  tries-so plan course NoLink is = tt
  tries-so plan course (MadeOne connection) is = connects-so plan course connection is

  lost-so : (plan : Plan) (course : Course S) (attempts : List Attempt) → AreLost rules plan course attempts → AllInTurn rules plan course attempts
  lost-so plan course [] are = tt
  lost-so plan course (last ∷ earlier) are = (lost-so plan course earlier are.0, tries-so plan (after_all rules plan course earlier) last are.1)

  pub tries-in-turn : (plan : Plan) (course : Course S) (end : Batch) (attempts : List Attempt) → BatchEndsBy rules plan course end attempts → AllInTurn rules plan course attempts
  tries-in-turn plan course end [] is = tt
  tries-in-turn plan course end (last ∷ earlier) is = (lost-so plan course earlier is.1, tries-so plan (after_all rules plan course earlier) last is.2)

-- ---- a server's connections

pub connections-in-turn : {D : Type 0} (ring : List RingKey) (conns : ℕ) (ending : _) (connections : List (Connection D Registers)) → EndsBy conns ending connections
    → (IsBroken (Serves ring connections ending) → ⊥) → AreInTurn connections
connections-in-turn ring conns ending [] ended whole = tt
connections-in-turn ring conns ending (last ∷ earlier) ended whole = turn-so ring conns ending last earlier ended whole
