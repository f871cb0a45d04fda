-- The trace of a client: what a batch does, one connection after another (core.telegram.org/mtproto/mtproto-transports).
use Rattle.std.specs.Prelude.{◌≡◌, ◌⊎◌, ◌≤◌, ℕ, true, false, List, [], ◌∷◌, ◌++◌, length, Option, Some, IfSome, IsSomeAnd, ⊤}
use Rattle.mt_edge.specs.Clocks.{Gave}
use Rattle.mt_edge.specs.Links.{IsFresh, Told}
use Rattle.mt_edge.specs.declared.net_call.NetCall.{NetCall}
use Rattle.mt_edge.specs.declared.net_call.NetCall.TheVariants.{Connect}
use Rattle.mt_edge.specs.declared.net_call.Outcome.TheVariants.{Failed, Done}
use Rattle.client_rules.specs.Client.{Client}
use Rattle.client_core.specs.declared.holder.Holder.{Holder}
use Rattle.client_node.specs.Course.{Course, is_decided}
use Rattle.client_node.specs.Ends.{batch_by}
use Rattle.client_node.specs.Standing.{StandsAs}
use Rattle.client_node.specs.Talks.{Connection, IsConnection, Rules, Shows, course_after, end_of, moments_of}
use Rattle.client_node.specs.Writes.{seen}
use Rattle.client_node.specs.declared.end.End.{End}
use Rattle.client_node.specs.declared.end.End.TheVariants as ends
use Rattle.client_node.specs.declared.plan.Batch.{Batch}
use Rattle.client_node.specs.declared.plan.Batch.TheVariants as batch
use Rattle.client_node.specs.declared.plan.Plan.{Plan}

-- ---- one attempt to connect

pub data Attempt : Type 0 where
  NoLink : Attempt
  Made : Connection → Attempt

abbrev pub end_of_attempt : Attempt → End
end_of_attempt NoLink = ends.Lost
end_of_attempt (Made connection) = end_of connection

abbrev pub IsAttempt : {S : Type 0} → Rules S → Plan → Course S → Attempt → Type 0
IsAttempt rules plan course NoLink = ⊤
IsAttempt rules plan course (Made connection) = IsConnection rules plan course connection

-- what it makes of the client
abbrev pub attempted : {S : Type 0} → Rules S → Plan → Attempt → Course S → Course S
attempted rules plan NoLink course = course
attempted rules plan (Made connection) course = course_after rules plan course connection

-- the moments that the clock gave
abbrev pub moments_in : {S : Type 0} → Rules S → Plan → Course S → Attempt → List ℕ
moments_in rules plan course NoLink = []
moments_in rules plan course (Made connection) = moments_of rules plan course connection

-- What the net notes of it: the attempt failed; or there was a connection, which was given back, and from a fresh link without
-- faults its link came to tell this.
abbrev pub IsNoted : {S : Type 0} → Rules S → Plan → Course S → Attempt → NetCall → Type 0
IsNoted rules plan course NoLink call = call ≡ Connect plan.port Failed
IsNoted rules plan course (Made connection) call =
    (told : Told) × (faults : ℕ) × (fresh : Told) × (call ≡ Connect plan.port (Done told faults)) × IsFresh fresh
    × Shows rules plan course connection (seen (Some fresh) 0) (seen (Some told) faults)

-- ---- lists of attempts, the last one first

abbrev pub after_all : {S : Type 0} → Rules S → Plan → Course S → List Attempt → Course S
after_all rules plan course [] = course
after_all rules plan course (last ∷ earlier) = attempted rules plan last (after_all rules plan course earlier)

abbrev pub all_moments : {S : Type 0} → Rules S → Plan → Course S → List Attempt → List ℕ
all_moments rules plan course [] = []
all_moments rules plan course (last ∷ earlier) =
    all_moments rules plan course earlier ++ moments_in rules plan (after_all rules plan course earlier) last

abbrev pub AreNoted : {S : Type 0} → Rules S → Plan → Course S → List Attempt → List NetCall → Type 0
AreNoted rules plan course [] calls = calls ≡ []
AreNoted rules plan course (last ∷ earlier) calls =
    (front : List NetCall) × (call : NetCall) × (calls ≡ front ++ call ∷ []) × AreNoted rules plan course earlier front
    × IsNoted rules plan (after_all rules plan course earlier) last call

-- each is lost
abbrev pub AreLost : {S : Type 0} → Rules S → Plan → Course S → List Attempt → Type 0
AreLost rules plan course [] = ⊤
AreLost rules plan course (last ∷ earlier) =
    AreLost rules plan course earlier × IsAttempt rules plan (after_all rules plan course earlier) last × (end_of_attempt last ≡ ends.Lost)

-- A batch that ended so: where each call is decided, or memory ran out before, it connects to nothing; else a call isn't decided,
-- and its attempts were lost, no more of them than the plan allows, but for the last one, by which it ended.
abbrev pub EndsBy : {S : Type 0} → Rules S → Plan → Course S → Batch → List Attempt → Type 0
EndsBy rules plan course end [] = ((end ≡ batch.Decided) × (is_decided course.client ≡ true)) ⊎ (end ≡ batch.Memory)
EndsBy rules plan course end (last ∷ earlier) =
    (is_decided course.client ≡ false) × AreLost rules plan course earlier × IsAttempt rules plan (after_all rules plan course earlier) last
    × (batch_by (end_of_attempt last) ≡ end) × (length earlier ≤ plan.retries) × (end ≡ batch.LinkLost → length earlier ≡ plan.retries)

-- where connections lost, pieces given or numbers spent end it, a call isn't decided
abbrev pub UndecidedIn : Batch → Client → Type 0
UndecidedIn batch.LinkLost client = is_decided client ≡ false
UndecidedIn batch.TurnsSpent client = is_decided client ≡ false
UndecidedIn batch.Decided client = ⊤
UndecidedIn batch.Spent client = is_decided client ≡ false
UndecidedIn batch.Memory client = ⊤

-- ---- the trace

-- What a batch did from a client and what is drawn after it (a course), by what its net and its clock told before and after it,
-- where they tell, and the client and the draw that it left.
pub record ClientTrace {S : Type 0} (rules : Rules S) (plan : Plan) (course : Course S) (end : Batch) (calls calls_then : Option (List NetCall)) (given given_then : Option (List ℕ)) (kept : Holder) (draw : S) : Type 0 where
  pub attempts : List Attempt
  pub ended : EndsBy rules plan course end attempts
  pub undecided : UndecidedIn end (after_all rules plan course attempts).client
  pub stands : StandsAs kept draw (after_all rules plan course attempts)
  pub noted : IfSome calls_then (λ after. IsSomeAnd calls (λ before. (made : List NetCall) × (after ≡ before ++ made) × AreNoted rules plan course attempts made))
  pub moments : Gave (all_moments rules plan course attempts) given given_then
