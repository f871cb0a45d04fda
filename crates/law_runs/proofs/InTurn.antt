-- In which packets decide, and how connections follow one another, as the proofs take it.
use Rattle.std.specs.Prelude.{◌≡◌, ◌⊎◌, ℕ, List, [], ◌∷◌, ◌++◌}
use Rattle.client_node.specs.Course.{Course, Reading}
use Rattle.client_node.specs.Talks.{Began, Close, Connection as Linked, Heard, Place, Refused, Rules, Said, Stopped, TurnsDone, Unread, Unstarted, begun, says, turns_from}
use Rattle.client_node.specs.Took.{NoneDecides}
use Rattle.client_node.specs.Trace.{Attempt, Made, NoLink, after_all}
use Rattle.client_node.specs.declared.plan.Plan.{Plan}
use Rattle.cmd_serve.specs.Connections.{AllGoOn, Connection, GoesOn}
use Rattle.cmd_serve.specs.Runs.{Registers}
use Rattle.server_node.specs.declared.conn.ConnEnd.TheVariants as ends

-- of packets that are heard none decides each call, or the last one alone does
abbrev pub AreHeardInTurn : {S : Type 0} → (S → ℕ × S) → Reading → ℕ → Course S → List (List ℕ) → Type 0
AreHeardInTurn step reading now course heard =
    NoneDecides step reading now course heard
    ⊎ ((front : List (List ℕ)) × (last : List ℕ) × (heard ≡ front ++ last ∷ []) × NoneDecides step reading now course front)

-- so it is with the packets by which a connection closes, and so with each attempt, the last one first
abbrev pub ClosesInTurn : {S : Type 0} → Rules S → Said → Close → Place S → Type 0
ClosesInTurn rules said (Heard piece moment heard end) place = AreHeardInTurn rules.setting.step rules.reading moment (says rules said place).course heard
ClosesInTurn rules said (Stopped end) place = Unit {0}
ClosesInTurn rules said (Unread answer) place = Unit {0}
ClosesInTurn rules said TurnsDone place = Unit {0}

abbrev pub ConnectsInTurn : {S : Type 0} → Rules S → Plan → Course S → Linked → Type 0
ConnectsInTurn rules plan course (Refused first) = Unit {0}
ConnectsInTurn rules plan course (Unstarted first start) = Unit {0}
ConnectsInTurn rules plan course (Began first start opening talk) =
    ClosesInTurn rules talk.said talk.close (turns_from rules (begun rules plan course first) talk.turns)

abbrev pub TriesInTurn : {S : Type 0} → Rules S → Plan → Course S → Attempt → Type 0
TriesInTurn rules plan course NoLink = Unit {0}
TriesInTurn rules plan course (Made connection) = ConnectsInTurn rules plan course connection

abbrev pub AllInTurn : {S : Type 0} → Rules S → Plan → Course S → List Attempt → Type 0
AllInTurn rules plan course [] = Unit {0}
AllInTurn rules plan course (last ∷ earlier) = AllInTurn rules plan course earlier × TriesInTurn rules plan (after_all rules plan course earlier) last

-- each connection but the last one was followed by the next; the last one too, or it answered as many packets as were left, or
-- memory ran out in it
abbrev pub AreInTurn : {D : Type 0} → List (Connection D Registers) → Type 0
AreInTurn [] = Unit {0}
AreInTurn (last ∷ earlier) = AllGoOn earlier × (GoesOn last.end ⊎ (last.end ≡ ends.Stopped) ⊎ (last.end ≡ ends.Memory))
