-- The connections of a run, one after the other.
use Rattle.std.proofs.Common.{◌≡◌, ◌≢◌, ◌<◌, ◌+◌, ℕ, List, [], ◌∷◌, ◌++◌, Option, Some, None, IfSome, IsSomeAnd, refl, sym, ap, subst, ◌∙◌, append_assoc, append-nil, arith}
use Rattle.mt_edge.specs.declared.net_call.NetCall.{NetCall}
use Rattle.mt_edge.specs.declared.net_call.NetCall.TheVariants.{Accept}
use Rattle.mt_edge.specs.declared.net_call.Outcome.TheVariants.{Failed}
use Rattle.mt_edge.specs.Faults.{Rose}
use Rattle.server_core.specs.declared.desk.DeskFault.{DeskFault}
use Rattle.server_core.specs.declared.desk.DeskFault.TheVariants as faults
use Rattle.server_rules.specs.Server.{Server}
use Rattle.server_node.specs.Trace.{Rules}
use Rattle.server_node.specs.declared.conn.ConnEnd.{ConnEnd}
use Rattle.server_node.specs.declared.conn.ConnEnd.TheVariants as ends
use Rattle.cmd_serve.specs.Connections.{AreNoted, AreNotedBy, Between, Connection, GoesOn, IsFullEnd, IsNoted, behind_all}
use Rattle.cmd_serve.specs.Inner.{CountsDeskBy, CountsTaken, CountsTaking, IsAt, IsBehind, IsDeskEnd, IsServeFault, LeavesCount, MayBeFull, ServedAll, ServedSoFar, Side, Took, TookNone, TookOne, ending_by}
use Rattle.cmd_serve.specs.declared.ending.Ending.{Ending}
use Rattle.cmd_serve.specs.declared.ending.Ending.TheVariants.{Served, Stopped, NotTaken, Journal, Full, Memory}
use Rattle.cmd_serve.proofs.Taking.{still-left}

-- ---- what is noted

abbrev Notes : {S V : Type 0} → List (Connection S V) → Option (List NetCall) → Option (List NetCall) → Type 0
Notes connections calls calls_then = IfSome calls_then (λ after. IsSomeAnd calls (λ before. (made : List NetCall) × (after ≡ before ++ made) × AreNoted connections made))

notes-none : (S V : Type 0) (calls : Option (List NetCall)) → Notes {S = S} {V = V} [] calls calls
notes-none S V None = tt
notes-none S V (Some calls) = ([], sym (append-nil calls), refl)

notes-more : {S V : Type 0} (one : Connection S V) (connections : List (Connection S V)) (first middle last : Option (List NetCall)) → Notes connections first middle
    → IfSome last (λ after. IsSomeAnd middle (λ before. (call : NetCall) × (after ≡ before ++ call ∷ []) × IsNoted one call))
    → Notes (one ∷ connections) first last
notes-more one connections first middle None so_far next = tt
notes-more one connections first None (Some last) so_far next = absurd next
notes-more one connections None (Some middle) (Some last) so_far next = absurd so_far
notes-more one connections (Some first) (Some middle) (Some last) so_far next = (
  so_far.0 ++ next.0 ∷ [],
  next.1 ∙ ap (λ (calls : List NetCall). calls ++ next.0 ∷ []) so_far.1 ∙ append_assoc first so_far.0 (next.0 ∷ []),
  (so_far.0, next.0, refl, so_far.2, next.2),
)

notes-failed : {S V : Type 0} (connections : List (Connection S V)) (first middle last : Option (List NetCall)) → Notes connections first middle
    → IfSome last (λ after. IsSomeAnd middle (λ before. after ≡ before ++ Accept Failed ∷ []))
    → IfSome last (λ after. IsSomeAnd first (λ before. (made : List NetCall) × (after ≡ before ++ made) × AreNotedBy NotTaken connections made))
notes-failed connections first middle None so_far next = tt
notes-failed connections first None (Some last) so_far next = absurd next
notes-failed connections None (Some middle) (Some last) so_far next = absurd so_far
notes-failed connections (Some first) (Some middle) (Some last) so_far next = (
  so_far.0 ++ Accept Failed ∷ [],
  next ∙ ap (λ (calls : List NetCall). calls ++ Accept Failed ∷ []) so_far.1 ∙ append_assoc first so_far.0 (Accept Failed ∷ []),
  (so_far.0, so_far.2, refl),
)

-- ---- none so far, and one more

pub none-so-far : {S V : Type 0} (rules : Rules S V) (first : Between S V) (side : Side S V) → IsAt side first → ServedSoFar rules first 0 side.calls side
none-so-far {S} {V} rules first side stands = record {
  connections = [];
  are = tt;
  go_on = tt;
  count_is = refl;
  stands = stands;
  noted = notes-none S V side.calls;
}

more-served : {S V : Type 0} (rules : Rules S V) (first : Between S V) (count : ℕ) (calls : Option (List NetCall)) (side later : Side S V) (end : ConnEnd)
    → (so_far : ServedSoFar rules first count calls side) → GoesOn end → (took : TookOne rules (behind_all first so_far.connections) side.calls end later) → IsAt later took.one.behind
    → ServedSoFar rules first (count + 1) calls later
more-served rules first count calls side later end so_far goes took stands = record {
  connections = took.one ∷ so_far.connections;
  are = (so_far.are, took.is);
  go_on = (so_far.go_on, subst GoesOn (sym took.ended) goes);
  count_is = omega (arith, so_far.count_is);
  stands = stands;
  noted = notes-more took.one so_far.connections calls side.calls later.calls so_far.noted took.noted;
}

goes-on : (end : ConnEnd) → ending_by (Some end) ≡ None → GoesOn end
goes-on ends.Ended none = tt
goes-on ends.LinkFault none = tt
goes-on (ends.Frame fault) none = tt
goes-on ends.Start none = tt
goes-on ends.TurnsSpent none = tt
goes-on ends.Stopped none = cc
goes-on (ends.Journal fault) none = cc
goes-on ends.Memory none = cc

stands-on : {S V : Type 0} (end : ConnEnd) (side : Side S V) (between : Between S V) → ending_by (Some end) ≡ None → IsBehind end side between → IsAt side between
stands-on ends.Ended side between none stands = stands
stands-on ends.LinkFault side between none stands = stands
stands-on (ends.Frame fault) side between none stands = stands
stands-on ends.Start side between none stands = stands
stands-on ends.TurnsSpent side between none stands = stands
stands-on ends.Stopped side between none stands = stands
stands-on (ends.Journal fault) side between none stands = cc
stands-on ends.Memory side between none stands = stands

pub one-more-served : {S V : Type 0} (rules : Rules S V) (first : Between S V) (count : ℕ) (calls : Option (List NetCall)) (side later : Side S V) (end : Option ConnEnd)
    → ending_by end ≡ None → (so_far : ServedSoFar rules first count calls side) → Took rules (behind_all first so_far.connections) side.calls end later
    → ServedSoFar rules first (count + 1) calls later
one-more-served rules first count calls side later None none so_far took = cc
one-more-served rules first count calls side later (Some end) none so_far took =
    more-served rules first count calls side later end so_far (goes-on end none) took (stands-on end later took.one.behind none took.stands)

-- ---- how they end

not-taken : {S V : Type 0} (rules : Rules S V) (first : Between S V) (count conns : ℕ) (calls : Option (List NetCall)) (side later : Side S V)
    → count < conns → (so_far : ServedSoFar rules first count calls side) → TookNone (behind_all first so_far.connections) side.calls later
    → ServedAll rules first conns calls NotTaken later
not-taken rules first count conns calls side later few so_far took = record {
  connections = so_far.connections;
  are = so_far.are;
  ended = (so_far.go_on, omega (arith, few, so_far.count_is));
  stands = took.stands;
  noted = notes-failed so_far.connections calls side.calls later.calls so_far.noted took.noted;
}

stopped : {S V : Type 0} (rules : Rules S V) (first : Between S V) (count conns : ℕ) (calls : Option (List NetCall)) (side later : Side S V)
    → count < conns → (so_far : ServedSoFar rules first count calls side) → TookOne rules (behind_all first so_far.connections) side.calls ends.Stopped later
    → ServedAll rules first conns calls Stopped later
stopped rules first count conns calls side later few so_far took = record {
  connections = took.one ∷ so_far.connections;
  are = (so_far.are, took.is);
  ended = (so_far.go_on, took.ended, omega (arith, few, so_far.count_is));
  stands = took.stands;
  noted = notes-more took.one so_far.connections calls side.calls later.calls so_far.noted took.noted;
}

without-memory : {S V : Type 0} (rules : Rules S V) (first : Between S V) (count conns : ℕ) (calls : Option (List NetCall)) (side later : Side S V)
    → count < conns → (so_far : ServedSoFar rules first count calls side) → TookOne rules (behind_all first so_far.connections) side.calls ends.Memory later
    → ServedAll rules first conns calls Memory later
without-memory rules first count conns calls side later few so_far took = record {
  connections = took.one ∷ so_far.connections;
  are = (so_far.are, took.is);
  ended = (so_far.go_on, took.ended, omega (arith, few, so_far.count_is));
  stands = took.stands;
  noted = notes-more took.one so_far.connections calls side.calls later.calls so_far.noted took.noted;
}

broken : {S V : Type 0} (rules : Rules S V) (first : Between S V) (count conns : ℕ) (calls : Option (List NetCall)) (side later : Side S V)
    → count < conns → (so_far : ServedSoFar rules first count calls side) → TookOne rules (behind_all first so_far.connections) side.calls (ends.Journal faults.Disk) later
    → ServedAll rules first conns calls Journal later
broken rules first count conns calls side later few so_far took = record {
  connections = took.one ∷ so_far.connections;
  are = (so_far.are, took.is);
  ended = (so_far.go_on, took.ended, omega (arith, few, so_far.count_is));
  stands = took.stands;
  noted = notes-more took.one so_far.connections calls side.calls later.calls so_far.noted took.noted;
}

without-room : {S V : Type 0} (rules : Rules S V) (first : Between S V) (count conns : ℕ) (calls : Option (List NetCall)) (side later : Side S V) (len : ℕ)
    → count < conns → (so_far : ServedSoFar rules first count calls side) → TookOne rules (behind_all first so_far.connections) side.calls (ends.Journal (faults.Full len)) later
    → ServedAll rules first conns calls Full later
without-room rules first count conns calls side later len few so_far took =
    let is_full : IsFullEnd took.one.end = record { len = len; is = took.ended } in
    record {
      connections = took.one ∷ so_far.connections;
      are = (so_far.are, took.is);
      ended = (so_far.go_on, is_full, omega (arith, few, so_far.count_is));
      stands = record {
        len = len;
        stands = record {
          server = took.stands.kept;
          draw = took.stands.beside.draw;
          served = took.stands.beside.served;
          gave = took.stands.beside.gave;
          count = took.stands.beside.count;
        };
        behind = took.stands.behind;
      };
      noted = notes-more took.one so_far.connections calls side.calls later.calls so_far.noted took.noted;
    }

ends-as : {S V : Type 0} (rules : Rules S V) (first : Between S V) (conns : ℕ) (calls : Option (List NetCall)) (later : Side S V) (due ending : Ending) → Some due ≡ Some ending
    → ServedAll rules first conns calls due later → ServedAll rules first conns calls ending later
ends-as rules first conns calls later due ending same all = let is : due ≡ ending = cc in subst (λ (one : Ending). ServedAll rules first conns calls one later) is all

-- behind a fault that a desk may answer, which stood for a server, it is one of those
abbrev pub Lets : (DeskFault → Type 0) → (DeskFault → Server → Type 0) → Type 0
Lets may behind = (fault : DeskFault) (server : Server) → may fault → behind fault server → IsServeFault fault

pub all-served : {S V : Type 0} (rules : Rules S V) (first : Between S V) (count conns : ℕ) (calls : Option (List NetCall)) (side later : Side S V) (may : DeskFault → Type 0) (end : Option ConnEnd) (ending : Ending)
    → Lets may later.behind → IsDeskEnd may end → count < conns → ending_by end ≡ Some ending → (so_far : ServedSoFar rules first count calls side) → Took rules (behind_all first so_far.connections) side.calls end later
    → ServedAll rules first conns calls ending later
all-served rules first count conns calls side later may None ending lets desk few same so_far took =
    ends-as rules first conns calls later NotTaken ending same (not-taken rules first count conns calls side later few so_far took)
all-served rules first count conns calls side later may (Some ends.Stopped) ending lets desk few same so_far took =
    ends-as rules first conns calls later Stopped ending same (stopped rules first count conns calls side later few so_far took)
all-served rules first count conns calls side later may (Some ends.Memory) ending lets desk few same so_far took =
    ends-as rules first conns calls later Memory ending same (without-memory rules first count conns calls side later few so_far took)
all-served rules first count conns calls side later may (Some ends.Ended) ending lets desk few same so_far took = cc
all-served rules first count conns calls side later may (Some ends.LinkFault) ending lets desk few same so_far took = cc
all-served rules first count conns calls side later may (Some (ends.Frame fault)) ending lets desk few same so_far took = cc
all-served rules first count conns calls side later may (Some ends.Start) ending lets desk few same so_far took = cc
all-served rules first count conns calls side later may (Some ends.TurnsSpent) ending lets desk few same so_far took = cc
all-served rules first count conns calls side later may (Some (ends.Journal faults.Disk)) ending lets desk few same so_far took =
    ends-as rules first conns calls later Journal ending same (broken rules first count conns calls side later few so_far took)
all-served rules first count conns calls side later may (Some (ends.Journal (faults.Full len))) ending lets desk few same so_far took =
    ends-as rules first conns calls later Full ending same (without-room rules first count conns calls side later len few so_far took)
all-served rules first count conns calls side later may (Some (ends.Journal faults.Closed)) ending lets desk few same so_far took = absurd (lets faults.Closed took.one.behind.server desk.0 took.stands.behind)
all-served rules first count conns calls side later may (Some (ends.Journal faults.Memory)) ending lets desk few same so_far took = absurd (desk.1 refl)

pub each-served : {S V : Type 0} (rules : Rules S V) (first : Between S V) (count conns : ℕ) (calls : Option (List NetCall)) (later : Side S V)
    → count ≡ conns → ServedSoFar rules first count calls later → ServedAll rules first conns calls Served later
each-served rules first count conns calls later all so_far = record {
  connections = so_far.connections;
  are = so_far.are;
  ended = (so_far.go_on, so_far.count_is ∙ all);
  stands = so_far.stands;
  noted = so_far.noted;
}

-- ---- counts

pub counts-going : (end : Option ConnEnd) (first before after : ℕ) → ending_by end ≡ None → before ≡ first → CountsTaking end before after → after ≡ first
counts-going None first before after none is counted = cc
counts-going (Some end) first before after none is counted = counted ∙ is

-- ---- the desk

pub desk-end : (may : DeskFault → Type 0) (end : ConnEnd) → ((fault : DeskFault) → end ≡ ends.Journal fault → may fault × (fault ≢ faults.Memory)) → IsDeskEnd may (Some end)
desk-end may ends.Ended ended = tt
desk-end may ends.LinkFault ended = tt
desk-end may (ends.Frame fault) ended = tt
desk-end may ends.Start ended = tt
desk-end may ends.TurnsSpent ended = tt
desk-end may ends.Stopped ended = tt
desk-end may (ends.Journal fault) ended = ended fault refl
desk-end may ends.Memory ended = tt

-- the connections end by a full journal only where the desk may answer that
pub full-answered : (may : DeskFault → Type 0) (end : Option ConnEnd) (ending : Ending) → IsDeskEnd may end → ending_by end ≡ Some ending → ending ≡ Full → MayBeFull may
full-answered may None ending desk same is = absurd cc
full-answered may (Some ends.Stopped) ending desk same is = absurd cc
full-answered may (Some ends.Memory) ending desk same is = absurd cc
full-answered may (Some ends.Ended) ending desk same is = absurd cc
full-answered may (Some ends.LinkFault) ending desk same is = absurd cc
full-answered may (Some (ends.Frame fault)) ending desk same is = absurd cc
full-answered may (Some ends.Start) ending desk same is = absurd cc
full-answered may (Some ends.TurnsSpent) ending desk same is = absurd cc
full-answered may (Some (ends.Journal (faults.Full len))) ending desk same is = (len, desk.0)
full-answered may (Some (ends.Journal faults.Disk)) ending desk same is = absurd cc
full-answered may (Some (ends.Journal faults.Closed)) ending desk same is = absurd cc
full-answered may (Some (ends.Journal faults.Memory)) ending desk same is = absurd cc

desk-as : (due ending : Ending) (first after : ℕ) → Some due ≡ Some ending → CountsDeskBy due first after → CountsDeskBy ending first after
desk-as due ending first after same counted = let is : due ≡ ending = cc in subst (λ (one : Ending). CountsDeskBy one first after) is counted

pub counts-desk : {S V : Type 0} (rules : Rules S V) (between : Between S V) (calls : Option (List NetCall)) (later : Side S V) (may : DeskFault → Type 0) (end : Option ConnEnd) (ending : Ending) (first before after : ℕ)
    → Lets may later.behind → IsDeskEnd may end → ending_by end ≡ Some ending → before ≡ first → Took rules between calls end later → CountsTaken end before after → CountsDeskBy ending first after
counts-desk rules between calls later may None ending first before after lets desk same is took counted = desk-as NotTaken ending first after same (counted ∙ is)
counts-desk rules between calls later may (Some ends.Stopped) ending first before after lets desk same is took counted = desk-as Stopped ending first after same (counted ∙ is)
counts-desk rules between calls later may (Some ends.Memory) ending first before after lets desk same is took counted = desk-as Memory ending first after same (counted ∙ is)
counts-desk rules between calls later may (Some ends.Ended) ending first before after lets desk same is took counted = cc
counts-desk rules between calls later may (Some ends.LinkFault) ending first before after lets desk same is took counted = cc
counts-desk rules between calls later may (Some (ends.Frame fault)) ending first before after lets desk same is took counted = cc
counts-desk rules between calls later may (Some ends.Start) ending first before after lets desk same is took counted = cc
counts-desk rules between calls later may (Some ends.TurnsSpent) ending first before after lets desk same is took counted = cc
counts-desk rules between calls later may (Some (ends.Journal faults.Disk)) ending first before after lets desk same is took counted =
    desk-as Journal ending first after same (subst (λ (count : ℕ). Rose count after) is counted)
counts-desk rules between calls later may (Some (ends.Journal (faults.Full len))) ending first before after lets desk same is took counted = desk-as Full ending first after same (counted ∙ is)
counts-desk rules between calls later may (Some (ends.Journal faults.Closed)) ending first before after lets desk same is took counted = absurd (lets faults.Closed took.one.behind.server desk.0 took.stands.behind)
counts-desk rules between calls later may (Some (ends.Journal faults.Memory)) ending first before after lets desk same is took counted = absurd (desk.1 refl)

pub desk-going : (end : Option ConnEnd) (first before after : ℕ) → ending_by end ≡ None → before ≡ first → CountsTaken end before after → after ≡ first
desk-going None first before after none is counted = cc
desk-going (Some ends.Stopped) first before after none is counted = cc
desk-going (Some ends.Memory) first before after none is counted = cc
desk-going (Some ends.Ended) first before after none is counted = counted ∙ is
desk-going (Some ends.LinkFault) first before after none is counted = counted ∙ is
desk-going (Some (ends.Frame fault)) first before after none is counted = counted ∙ is
desk-going (Some ends.Start) first before after none is counted = counted ∙ is
desk-going (Some ends.TurnsSpent) first before after none is counted = counted ∙ is
desk-going (Some (ends.Journal fault)) first before after none is counted = cc

-- ---- packets that may still be answered

not-stopped : (end : ConnEnd) → ending_by (Some end) ≡ None → end ≡ ends.Stopped → ⊥
not-stopped end none is = let both : ending_by (Some ends.Stopped) ≡ None = subst (λ (one : ConnEnd). ending_by (Some one) ≡ None) is none in cc

pub left-going : (end : Option ConnEnd) (before after : Option ℕ) → ending_by end ≡ None → before ≢ Some 0 → LeavesCount end before after → after ≢ Some 0
left-going None before after none some left = cc
left-going (Some end) before after none some left = still-left end after (λ is. not-stopped end none is) left.stops
