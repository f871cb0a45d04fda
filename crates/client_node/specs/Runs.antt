-- What the parts of a connection do: scaffolding of private functions, and no promise.
use Rattle.std.specs.Prelude.{◌≡◌, ◌<◌, ◌≤◌, ◌*◌, ◌⊎◌, ℕ, false, List, [], ◌∷◌, ◌++◌, length, Option, IfSome, IsSomeAnd, Result, Ok, Err}
use Rattle.auth_keys.specs.declared.ring.RingKey.{RingKey}
use Rattle.envelope.specs.Packet.{Lock}
use Rattle.transport.specs.Starts.{Opening}
use Rattle.transport.specs.Wires.{Hears, Line}
use Rattle.mt_edge.specs.Clocks.{Gave}
use Rattle.mt_edge.specs.Faults.{one_more}
use Rattle.mt_edge.specs.Links.{Told}
use Rattle.mt_edge.specs.declared.net_call.NetCall.{NetCall}
use Rattle.mt_edge.specs.declared.source.Got.{Got}
use Rattle.mt_edge.specs.declared.source.Got.TheVariants as got
use Rattle.client_core.specs.declared.holder.Holder.{Holder}
use Rattle.client_node.specs.Course.{Course, is_decided}
use Rattle.client_node.specs.Standing.{StandsAs}
use Rattle.client_node.specs.Talks.{AreTurns, Connection, IsConnection, IsNoPiece, IsTalk, Passes, Place, Rules, Shows, ShowsClose, Talk, Turn, course_after, end_by, end_of, moments_of, piece_bytes, place_after, turns_from}
use Rattle.client_node.specs.Took.{TookPiece}
use Rattle.client_node.specs.Trace.{AreLost, AreNoted, Attempt, IsAttempt, IsNoted, after_all, all_moments, attempted, end_of_attempt, moments_in}
use Rattle.client_node.specs.Writes.{Seen}
use Rattle.transport.specs.Spelt.{Spells}
use Rattle.client_node.specs.declared.end.End.{End}
use Rattle.client_node.specs.declared.end.End.TheVariants as ends
use Rattle.client_node.specs.declared.plan.Plan.{Plan}

-- ---- a read, and what came of it

-- a read that was offered a piece's room, by what a link told
pub record ReadBy (answer : Got) (piece : List ℕ) (before after : Told) : Type 0 where
  pub came : after.came ≡ before.came ++ piece
  pub reads : after.reads ≡ before.reads ++ record { room = piece_bytes; answer = answer } ∷ []
  pub written : after.written ≡ before.written

abbrev pub ReadsBy : Got → List ℕ → Option Told → Option Told → Type 0
ReadsBy answer piece before after = IfSome after (λ last. IsSomeAnd before (λ first. ReadBy answer piece first last))

-- the read gave no piece, and nothing else changed
pub record MissedPiece {S : Type 0} (kept : Holder) (draw : S) (link : Seen) (given : Option (List ℕ)) (answer : Got) (kept_then : Holder) (draw_then : S) (link_then : Seen) (given_then : Option (List ℕ)) : Type 0 where
  pub none : IsNoPiece answer
  pub told : ReadsBy answer [] link.told link_then.told
  pub ended : answer ≡ got.End → link_then.faults ≡ link.faults
  pub failed : answer ≡ got.Failed → link_then.faults ≡ one_more link.faults
  pub same_kept : kept_then ≡ kept
  pub same_draw : draw_then ≡ draw
  pub same_given : given_then ≡ given

-- it gave this piece, then the clock gave a moment, and the client heard the piece
pub record GotPiece {S : Type 0} (step : S → ℕ × S) (lock : Lock) (keys : List RingKey) (kept : Holder) (draw : S) (line : Line) (link : Seen) (given : Option (List ℕ)) (piece : List ℕ) (moment : ℕ) (result : Result Unit End) (kept_then : Holder) (draw_then : S) (line_then : Line) (link_then : Seen) (given_then : Option (List ℕ)) : Type 0 where
  pub some : 0 < length piece
  pub most : length piece ≤ piece_bytes
  pub told : ReadsBy (got.Bytes (length piece)) piece link.told link_then.told
  pub faults : link_then.faults ≡ link.faults
  pub gave : Gave (moment ∷ []) given given_then
  pub took : TookPiece step lock keys moment kept draw line piece result kept_then draw_then line_then

abbrev pub TookTurn : {S : Type 0} → (S → ℕ × S) → Lock → List RingKey → Holder → S → Line → Seen → Option (List ℕ) → Result ℕ End → Holder → S → Line → Seen → Option (List ℕ) → Type 0
TookTurn step lock keys kept draw line link given (Ok moment) kept_then draw_then line_then link_then given_then =
    (piece : List ℕ) × GotPiece step lock keys kept draw line link given piece moment (Ok tt) kept_then draw_then line_then link_then given_then
TookTurn step lock keys kept draw line link given (Err end) kept_then draw_then line_then link_then given_then =
    ((end ≡ ends.Lost) × ((answer : Got) × MissedPiece kept draw link given answer kept_then draw_then link_then given_then))
    ⊎ ((piece : List ℕ) × (moment : ℕ) × GotPiece step lock keys kept draw line link given piece moment (Err end) kept_then draw_then line_then link_then given_then)

-- ---- turns so far

-- nothing was sent or heard over the wire behind a start that opens so
pub record HasOpened (line : Line) (opening : Opening) : Type 0 where
  pub form : line.form ≡ opening.form
  pub hears : Hears line opening.down [] []
  pub tells : Spells line opening.up [] []

-- So many turns, from a place on, with the frames' bytes that were written.
pub record TurnsSoFar {S : Type 0} (rules : Rules S) (opening : Opening) (place : Place S) (times : ℕ) (now : ℕ) (kept : Holder) (draw : S) (line : Line) (link : Seen) (given : Option (List ℕ)) (link_first : Seen) (given_first : Option (List ℕ)) : Type 0 where
  pub turns : List Turn
  pub bytes : List ℕ
  pub count : length turns ≡ times
  pub few : length (turns_from rules place turns).came ≤ times * piece_bytes
  pub are : AreTurns rules opening place turns
  pub moment : (turns_from rules place turns).now ≡ now
  pub stands : StandsAs kept draw (turns_from rules place turns).course
  pub undecided : is_decided (turns_from rules place turns).course.client ≡ false
  pub hears : Hears line opening.down (turns_from rules place turns).heard (turns_from rules place turns).came
  pub tells : Spells line opening.up (turns_from rules place turns).sent bytes
  pub form : line.form ≡ opening.form
  pub passes : Passes bytes (turns_from rules place turns) link_first link
  pub gave : Gave (turns_from rules place turns).moments given_first given

-- All that was said and heard from a place on.
pub record Talked {S : Type 0} (rules : Rules S) (opening : Opening) (place : Place S) (link : Seen) (given : Option (List ℕ)) (end : End) (kept : Holder) (draw : S) (link_then : Seen) (given_then : Option (List ℕ)) : Type 0 where
  pub talk : Talk
  pub is : IsTalk rules opening place talk
  pub ends_so : end_by talk.close ≡ end
  pub stands : StandsAs kept draw (place_after rules place talk).course
  pub shows : ShowsClose talk.close opening [] (turns_from rules place talk.turns).sent talk.said talk.bytes (place_after rules place talk) link link_then
  pub gave : Gave (place_after rules place talk).moments given given_then

-- All that was done over a connection.
pub record Conversed {S : Type 0} (rules : Rules S) (plan : Plan) (course : Course S) (link : Seen) (given : Option (List ℕ)) (end : End) (kept : Holder) (draw : S) (link_then : Seen) (given_then : Option (List ℕ)) : Type 0 where
  pub connection : Connection
  pub is : IsConnection rules plan course connection
  pub ends_so : end_of connection ≡ end
  pub stands : StandsAs kept draw (course_after rules plan course connection)
  pub shows : Shows rules plan course connection link link_then
  pub gave : Gave (moments_of rules plan course connection) given given_then

-- ---- attempts

-- One attempt to connect.
pub record Tried {S : Type 0} (rules : Rules S) (plan : Plan) (course : Course S) (calls : Option (List NetCall)) (given : Option (List ℕ)) (end : End) (kept : Holder) (draw : S) (calls_then : Option (List NetCall)) (given_then : Option (List ℕ)) : Type 0 where
  pub attempt : Attempt
  pub is : IsAttempt rules plan course attempt
  pub ends_so : end_of_attempt attempt ≡ end
  pub stands : StandsAs kept draw (attempted rules plan attempt course)
  pub noted : IfSome calls_then (λ after. IsSomeAnd calls (λ before. (call : NetCall) × (after ≡ before ++ call ∷ []) × IsNoted rules plan course attempt call))
  pub gave : Gave (moments_in rules plan course attempt) given given_then

-- So many attempts, all of them lost.
pub record LostSoFar {S : Type 0} (rules : Rules S) (plan : Plan) (course : Course S) (times : ℕ) (calls : Option (List NetCall)) (given : Option (List ℕ)) (kept : Holder) (draw : S) (calls_then : Option (List NetCall)) (given_then : Option (List ℕ)) : Type 0 where
  pub attempts : List Attempt
  pub lost : AreLost rules plan course attempts
  pub count : length attempts ≡ times
  pub stands : StandsAs kept draw (after_all rules plan course attempts)
  pub noted : IfSome calls_then (λ after. IsSomeAnd calls (λ before. (made : List NetCall) × (after ≡ before ++ made) × AreNoted rules plan course attempts made))
  pub gave : Gave (all_moments rules plan course attempts) given given_then
