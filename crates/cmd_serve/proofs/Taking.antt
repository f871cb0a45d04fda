-- One connection of a run.
use Rattle.std.proofs.Common.{◌≡◌, ◌≢◌, ℕ, List, [], ◌∷◌, ◌++◌, length, Option, Some, None, IfSome, IsSome, IsSomeAnd, refl, ap, subst, ◌∙◌}
use Rattle.mt_edge.specs.Links.{IsFresh, Told}
use Rattle.mt_edge.specs.Nets.{closed_at}
use Rattle.mt_edge.specs.declared.net_call.NetCall.{NetCall}
use Rattle.mt_edge.specs.declared.net_call.NetCall.TheVariants.{Accept}
use Rattle.mt_edge.specs.declared.net_call.Outcome.TheVariants.{Open, Done}
use Rattle.server_core.specs.declared.desk.DeskFault.{DeskFault}
use Rattle.server_core.specs.declared.desk.DeskFault.TheVariants as faults
use Rattle.server_rules.specs.Server.{Server}
use Rattle.server_node.specs.Connection.{ServerTrace, place_after}
use Rattle.server_node.specs.Record.{Answered, ReadTo, Stops}
use Rattle.server_node.specs.Served.{Begins, IfFull, LeavesBy}
use Rattle.server_node.specs.Trace.{Rules, Talk}
use Rattle.server_node.specs.Writes.{CountsBy}
use Rattle.server_node.specs.declared.conn.ConnEnd.{ConnEnd}
use Rattle.server_node.specs.declared.conn.ConnEnd.TheVariants as ends
use Rattle.cmd_serve.specs.Connections.{Between, Connection, IsNoted, sight_at, talk_at}
use Rattle.cmd_serve.specs.Inner.{IsBehind, Side, StandsAt, TookOne}

-- ---- its trace

-- what is said of the desk afterwards
full-own : (fault : DeskFault) (P Q R : Type 0) → R → IfFull fault (P × Q) → IfFull fault (R × Q)
full-own (faults.Full len) P Q R is left = (is, left.1)
full-own faults.Memory P Q R is left = tt
full-own faults.Closed P Q R is left = tt
full-own faults.Disk P Q R is left = tt

full-first : (fault : DeskFault) (P Q : Type 0) → IfFull fault (P × Q) → IfFull fault P
full-first (faults.Full len) P Q left = left.0
full-first faults.Memory P Q left = tt
full-first faults.Closed P Q left = tt
full-first faults.Disk P Q left = tt

leaves-own : {S V : Type 0} (end : ConnEnd) (desk : Server → Type 0) (behind : DeskFault → Server → Type 0) (drawn : S) (service : V) (talk : Talk S V) → LeavesBy end desk behind drawn service talk
    → LeavesBy end (λ server. server ≡ talk.server) (λ fault server. server ≡ talk.server) drawn service talk
leaves-own ends.Ended desk behind drawn service talk left = record { server = refl; draw = left.draw; served = left.served }
leaves-own ends.LinkFault desk behind drawn service talk left = record { server = refl; draw = left.draw; served = left.served }
leaves-own (ends.Frame fault) desk behind drawn service talk left = record { server = refl; draw = left.draw; served = left.served }
leaves-own ends.Start desk behind drawn service talk left = record { server = refl; draw = left.draw; served = left.served }
leaves-own ends.TurnsSpent desk behind drawn service talk left = record { server = refl; draw = left.draw; served = left.served }
leaves-own ends.Stopped desk behind drawn service talk left = record { server = refl; draw = left.draw; served = left.served }
leaves-own (ends.Journal fault) desk behind drawn service talk left =
    (refl, full-own fault (desk talk.server) (service ≡ talk.service) (talk.server ≡ talk.server) refl left.1)
leaves-own ends.Memory desk behind drawn service talk left = (refl, left.1)

-- what stands behind it
abbrev behind_of : {S V : Type 0} → Side S V → Server → Between S V
behind_of later server = record { server = server; draw = later.drawn; service = later.service; given = later.given; left = later.left }

is-behind : {S V : Type 0} (end : ConnEnd) (later : Side S V) (talk : Talk S V) → LeavesBy end later.desk later.behind later.drawn later.service talk → IsBehind end later (behind_of later talk.server)
is-behind ends.Ended later talk left = record { server = left.server; draw = refl; served = refl; gave = refl; count = refl }
is-behind ends.LinkFault later talk left = record { server = left.server; draw = refl; served = refl; gave = refl; count = refl }
is-behind (ends.Frame fault) later talk left = record { server = left.server; draw = refl; served = refl; gave = refl; count = refl }
is-behind ends.Start later talk left = record { server = left.server; draw = refl; served = refl; gave = refl; count = refl }
is-behind ends.TurnsSpent later talk left = record { server = left.server; draw = refl; served = refl; gave = refl; count = refl }
is-behind ends.Stopped later talk left = record { server = left.server; draw = refl; served = refl; gave = refl; count = refl }
is-behind (ends.Journal fault) later talk left = record {
  beside = record { draw = refl; served = refl; gave = refl; count = refl };
  behind = left.0;
  kept = full-first fault (later.desk talk.server) (later.service ≡ talk.service) left.1;
}
is-behind ends.Memory later talk left = record { server = left.0; draw = refl; served = refl; gave = refl; count = refl }

-- ---- what its net notes

closes-last : (calls : List NetCall) (told : Told) (faults : ℕ) → closed_at (length calls) told faults (calls ++ Accept Open ∷ []) ≡ calls ++ Accept (Done told faults) ∷ []
closes-last [] told faults = refl
closes-last (call ∷ calls) told faults = ap (λ (rest : List NetCall). call ∷ rest) (closes-last calls told faults)

closes-at : (first between last : List NetCall) (place : ℕ) (told : Told) (faults : ℕ) → between ≡ first ++ Accept Open ∷ [] → place ≡ length first
    → last ≡ closed_at place told faults between → last ≡ first ++ Accept (Done told faults) ∷ []
closes-at first between last place told faults opened at closed =
    closed ∙ ap (λ (n : ℕ). closed_at n told faults between) at ∙ ap (λ (calls : List NetCall). closed_at (length first) told faults calls) opened ∙ closes-last first told faults

abbrev one_of : {S V : Type 0} → ConnEnd → Option Told → Option Told → ℕ → Between S V → Connection S V
one_of end taken given_back faults behind = record { end = end; taken = taken; given_back = given_back; faults = faults; behind = behind }

noted-one : {S V : Type 0} (end : ConnEnd) (behind : Between S V) (place faults : ℕ) (first between last : Option (List NetCall)) (taken given_back : Option Told)
    → IfSome between (λ after. IsSomeAnd first (λ before. after ≡ before ++ Accept Open ∷ []))
    → (IsSome between → IsSomeAnd taken IsFresh)
    → IfSome first (λ before. place ≡ length before)
    → IfSome last (λ after. IsSomeAnd between (λ before. IsSomeAnd given_back (λ told. after ≡ closed_at place told faults before)))
    → IfSome last (λ after. IsSomeAnd first (λ front. (call : NetCall) × (after ≡ front ++ call ∷ []) × IsNoted (one_of end taken given_back faults behind) call))
noted-one end behind place faults first between None taken given_back opened fresh at closed = tt
noted-one end behind place faults first None (Some last) taken given_back opened fresh at closed = absurd closed
noted-one end behind place faults first (Some between) (Some last) taken None opened fresh at closed = absurd closed
noted-one end behind place faults None (Some between) (Some last) taken (Some told) opened fresh at closed = absurd opened
noted-one end behind place faults (Some first) (Some between) (Some last) None (Some told) opened fresh at closed = absurd (fresh refl)
noted-one end behind place faults (Some first) (Some between) (Some last) (Some begun) (Some told) opened fresh at closed = (
  Accept (Done told faults),
  closes-at first between last place told faults opened at closed,
  record { fresh = begun; told = told; is_fresh = fresh refl; taken = refl; given_back = refl; noted = refl },
)

-- the same link, by what its close left
pub closed-as : (last between : Option (List NetCall)) (told other : Option Told) (place at faults count : ℕ) → other ≡ told → at ≡ place → count ≡ faults
    → IfSome last (λ after. IsSomeAnd between (λ before. IsSomeAnd other (λ said. after ≡ closed_at at said count before)))
    → IfSome last (λ after. IsSomeAnd between (λ before. IsSomeAnd told (λ said. after ≡ closed_at place said faults before)))
closed-as last between told other place at faults count same there counted closed =
    subst (λ (n : ℕ). IfSome last (λ after. IsSomeAnd between (λ before. IsSomeAnd told (λ said. after ≡ closed_at place said n before)))) counted
    (subst (λ (n : ℕ). IfSome last (λ after. IsSomeAnd between (λ before. IsSomeAnd told (λ said. after ≡ closed_at n said count before)))) there
    (subst (λ (some : Option Told). IfSome last (λ after. IsSomeAnd between (λ before. IsSomeAnd some (λ said. after ≡ closed_at at said count before)))) same closed))

-- ---- all of it

module _ {S V : Type 0} (rules : Rules S V) (before : Between S V) (desk : Server → Type 0) (drawn : S) (service : V) (given : Option (List ℕ)) (left : Option ℕ) (stands : StandsAt desk drawn service given left before)
    (taken given_back : Option Told) (end : ConnEnd) (later : Side S V) where
  -- the link is that of the trace, and the count is that of the packets
  begins-there : Begins desk drawn service (talk_at before)
  begins-there = record { server = stands.server; draw = stands.draw; served = stands.served; heard = refl; sent = refl }

  trace-there : ((talk : Talk S V) → Begins desk drawn service talk → ServerTrace rules talk (record { told = taken; given = given; left = left }) end later.desk later.behind later.drawn later.service (record { told = given_back; given = later.given; left = later.left }))
      → ServerTrace rules (talk_at before) (sight_at taken before) end later.desk later.behind later.drawn later.service (record { told = given_back; given = later.given; left = later.left })
  trace-there trace =
      subst (λ (count : Option ℕ). ServerTrace rules (talk_at before) (record { told = taken; given = before.given; left = count }) end later.desk later.behind later.drawn later.service (record { told = given_back; given = later.given; left = later.left })) stands.count
      (subst (λ (gave : Option (List ℕ)). ServerTrace rules (talk_at before) (record { told = taken; given = gave; left = left }) end later.desk later.behind later.drawn later.service (record { told = given_back; given = later.given; left = later.left })) stands.gave
      (trace (talk_at before) begins-there))

  pub took-one : (place faults : ℕ) (first between : Option (List NetCall))
      → ((talk : Talk S V) → Begins desk drawn service talk → ServerTrace rules talk (record { told = taken; given = given; left = left }) end later.desk later.behind later.drawn later.service (record { told = given_back; given = later.given; left = later.left }))
      → IfSome given_back (λ last. IsSomeAnd taken (λ begun. ReadTo end begun last))
      → CountsBy (Some end) 0 faults
      → Answered (Some end) left later.left
      → IfSome between (λ after. IsSomeAnd first (λ front. after ≡ front ++ Accept Open ∷ []))
      → (IsSome between → IsSomeAnd taken IsFresh)
      → IfSome first (λ front. place ≡ length front)
      → IfSome later.calls (λ after. IsSomeAnd between (λ front. IsSomeAnd given_back (λ told. after ≡ closed_at place told faults front)))
      → TookOne rules before first end later
  took-one place faults first between trace read counted answered opened fresh at closed =
      let whole = trace-there trace in
      let talk : Talk S V = (place_after rules (talk_at before) whole.turns whole.close).talk in
      let behind : Between S V = behind_of later talk.server in
      record {
        one = one_of end taken given_back faults behind;
        ended = refl;
        is = record {
          trace = record {
            turns = whole.turns;
            close = whole.close;
            bytes = whole.bytes;
            are = whole.are;
            closed = whole.closed;
            behind = whole.behind;
            ended = whole.ended;
            leaves = leaves-own end later.desk later.behind later.drawn later.service talk whole.leaves;
            owes = whole.owes;
            shows = whole.shows;
            breaks = whole.breaks;
            moments = whole.moments;
            left = whole.left;
          };
          read = read;
          counted = counted;
          left = subst (λ (count : Option ℕ). Answered (Some end) count later.left) stands.count answered;
        };
        stands = is-behind end later talk whole.leaves;
        noted = noted-one end behind place faults first between later.calls taken given_back opened fresh at closed;
      }

-- ---- what still tells

pub some-of : {X : Type 0} (found : Option X) (P : X → Type 0) → IsSomeAnd found P → IsSome found
some-of None P is = absurd is
some-of (Some x) P is = refl

-- ---- packets are left

pub still-left : (end : ConnEnd) (left : Option ℕ) → (end ≡ ends.Stopped → ⊥) → Stops (Some end) left → left ≢ Some 0
still-left ends.Ended left other stops = stops
still-left ends.LinkFault left other stops = stops
still-left (ends.Frame fault) left other stops = stops
still-left ends.Start left other stops = stops
still-left ends.TurnsSpent left other stops = stops
still-left ends.Stopped left other stops = absurd (other refl)
still-left (ends.Journal fault) left other stops = stops
still-left ends.Memory left other stops = stops
