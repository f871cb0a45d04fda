-- What a net tells: the list of its calls of `listen`, `connect` and `accept`.
use Rattle.std.specs.Prelude.{◌≡◌, ℕ, zero, suc, List, [], ◌∷◌}
use Rattle.mt_edge.specs.Faults.{one_more}
use Rattle.mt_edge.specs.Links.{Told}
use Rattle.mt_edge.specs.declared.net.Linked.{Linked}
use Rattle.mt_edge.specs.declared.net.Linked.TheVariants.{Link, Failed as NoLink}
use Rattle.mt_edge.specs.declared.net_call.Outcome.{Outcome}
use Rattle.mt_edge.specs.declared.net_call.Outcome.TheVariants.{Failed, Open, Done}
use Rattle.mt_edge.specs.declared.net_call.NetCall.{NetCall}
use Rattle.mt_edge.specs.declared.net_call.NetCall.TheVariants.{Listen, Connect, Accept}

-- P says something of the link, where there is one
abbrev pub IfLink : {L : Type 0} → Linked L → (L → Type 0) → Type 0
IfLink (Link link) P = P link
IfLink NoLink P = Unit {0}

-- what is noted of an attempt when it is made
abbrev pub outcome_of : {L : Type 0} → Linked L → Outcome
outcome_of (Link link) = Open
outcome_of NoLink = Failed

-- a failed attempt is one more fault, and no other attempt is a fault
abbrev pub Counts : {L : Type 0} → Linked L → ℕ → ℕ → Type 0
Counts (Link link) before after = after ≡ before
Counts NoLink before after = after ≡ one_more before

-- what is noted of a connection when it is given back
abbrev pub given_back : Told → ℕ → Outcome → Outcome
given_back told faults Open = Done told faults
given_back told faults Failed = Failed
given_back told faults (Done earlier count) = Done earlier count

-- a call whose connection is given back
abbrev pub closed : Told → ℕ → NetCall → NetCall
closed told faults (Listen port answer) = Listen port answer
closed told faults (Connect port outcome) = Connect port (given_back told faults outcome)
closed told faults (Accept outcome) = Accept (given_back told faults outcome)

-- the record in which the connection of the call at a place, from 0, is given back
abbrev pub closed_at : ℕ → Told → ℕ → List NetCall → List NetCall
closed_at place told faults [] = []
closed_at zero told faults (call ∷ calls) = closed told faults call ∷ calls
closed_at (suc place) told faults (call ∷ calls) = call ∷ closed_at place told faults calls
