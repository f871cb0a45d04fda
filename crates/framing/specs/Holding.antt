-- What a stream's buffer holds, and which packets and bytes it stands for.
use Rattle.std.specs.Prelude.{◌≡◌, ◌↔◌, ℕ, List, [], ◌∷◌, ◌++◌, length, MatchOption, ⊤}
use Rattle.std.specs.Borrow.{Fml, RattleType, MutBor, follows_so}
use mathlib.Core.Option.{none}
use Rattle.tl_codec.specs.declared.fault.FrameFault.{FrameFault}
use Rattle.framing.specs.declared.next.Next.{Next}
use Rattle.framing.specs.declared.next.Next.TheVariants.{Packet, More, Fault}
use Rattle.framing.specs.Held.{Held}
use Rattle.framing.specs.Streams.{Form, Frames, Stream, Faulty, Begins, number_after}

-- what is left stands behind one frame for each packet
pub record IsBehind (form : Form) (packets : List (List ℕ)) (left bytes : List ℕ) : Type 0 where
  pub frames : List ℕ
  pub each : Frames form 0 packets frames
  pub whole : bytes ≡ frames ++ left

-- The buffer stands for a stream of these bytes of which these packets were taken. Once a fault was met, the
-- fault alone tells of what is behind them.
pub record Stands (form : Form) (held : Held) (packets : List (List ℕ)) (bytes : List ℕ) : Type 0 where
  pub number : held.number ≡ number_after (length packets)
  pub text : MatchOption held.fault (IsBehind form packets held.left bytes) (λ fault. Faulty form packets fault bytes)

-- ---- what `next` answers

abbrev pub IsPacket : List ℕ → Next → Type 0
IsPacket packet (Packet lent) = lent.now ≡ packet
IsPacket packet More = ⊥
IsPacket packet (Fault fault) = ⊥

abbrev pub IsMore : Next → Type 0
IsMore (Packet lent) = ⊥
IsMore More = ⊤
IsMore (Fault fault) = ⊥

abbrev pub IsFault : FrameFault → Next → Type 0
IsFault fault (Packet lent) = ⊥
IsFault fault More = ⊥
IsFault fault (Fault found) = found ≡ fault

-- The answer for a stream of these bytes of which these packets were taken: the next packet exactly where
-- its frame comes next, `More` exactly where a proper prefix of a frame is left, and a fault exactly where
-- the stream shows it.
pub record Answers (form : Form) (packets : List (List ℕ)) (bytes : List ℕ) (answer : Next) : Type 0 where
  pub packet : (packet : List ℕ) → (IsPacket packet answer ↔ Begins form (packets ++ packet ∷ []) bytes)
  pub more : IsMore answer ↔ ((rest : List ℕ) × Stream form packets rest bytes)
  pub fault : (fault : FrameFault) → (IsFault fault answer ↔ Faulty form packets fault bytes)

-- the packets that were taken, with the one that is answered
abbrev pub taken : List (List ℕ) → Next → List (List ℕ)
taken packets (Packet lent) = packets ++ lent.now ∷ []
taken packets More = packets
taken packets (Fault fault) = packets

-- the stream of a form, as it is once the packet that was lent is given back
abbrev pub Rests : (R : RattleType) → MutBor R.Denot → (R.Denot → Type 0) → Fml
Rests R lender P = follows_so R R lender.ghost_name none (λ _ _. ⊤) P
