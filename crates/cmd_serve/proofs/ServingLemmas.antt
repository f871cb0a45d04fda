-- What is served with a desk, and the lines about it, as a run.
use Rattle.std.proofs.Common.{◌≡◌, ◌⊎◌, inl, inr, ℕ, List, ◌++◌, Option, None, IfSome, refl, sym, subst, ◌∙◌, arith}
use Rattle.auth_keys.specs.declared.ring.RingKey.{RingKey}
use Rattle.commands.specs.declared.command.ServeOptions.{ServeOptions}
use Rattle.disks.specs.Named.{NamesTold}
use Rattle.mt_edge.specs.Faults.{Rose}
use Rattle.mt_edge.specs.declared.net_call.NetCall.{NetCall}
use Rattle.regs_service.specs.Registers as registers
use Rattle.server_core.specs.declared.desk.DeskFault.{DeskFault}
use Rattle.server_core.specs.declared.desk.DeskFault.TheVariants as faults
use Rattle.server_node.specs.Trace.{rules_of}
use Rattle.server_rules.specs.Server.{Server}
use Rattle.statuses.specs.Outside.{Outside, Part, Tells, Writes}
use Rattle.statuses.specs.declared.status.Status.{Status}
use Rattle.statuses.specs.declared.status.Status.TheVariants as status
use Rattle.cmd_serve.specs.Connections.{Between, Connection}
use Rattle.cmd_serve.specs.Inner.{CountsDeskBy, EndsBehind, Hears, IsBegun, IsBehindAll, IsDeaf, IsMute, IsWith, LeavesDesk, MayBeFull, RunsAlone, RunsWith, ServesOn, Side}
use Rattle.cmd_serve.specs.Journals.{Drawing, HoldsSome, IsFilled, Unopened}
use Rattle.cmd_serve.specs.Lines.{journal_fault, last_line, listening, not_listening}
use Rattle.cmd_serve.specs.Packets.{outside_of}
use Rattle.cmd_serve.specs.Runs.{Course, Draws, Unread, Refused, Unbegun, Shut, Deaf, Mute, Serves, EndsServing, GoesBy, IfTold, IsBroken, Moments, Registers, WritesFirst, first_of}
use Rattle.cmd_serve.specs.declared.ending.Ending.{Ending}
use Rattle.cmd_serve.specs.declared.ending.Ending.TheVariants.{Served, Stopped, NotTaken, Journal, Full, Memory}
use Rattle.cmd_serve.proofs.Texts.{first-line, first-line-alone, tells-lines}
use Rattle.cmd_serve.proofs.Ways.{calls-deaf, calls-mute, calls-none, calls-serves, idle-unbegun}

-- ---- behind all connections

pub gave-behind : {S V : Type 0} (ending : Ending) (side : Side S V) (between : Between S V) → IsBehindAll ending side between → side.given ≡ between.given
gave-behind Served side between stands = stands.gave
gave-behind Stopped side between stands = stands.gave
gave-behind NotTaken side between stands = stands.gave
gave-behind Journal side between stands = stands.beside.gave
gave-behind Full side between stands = stands.stands.gave
gave-behind Memory side between stands = stands.gave

pub drawn-behind : {S V : Type 0} (ending : Ending) (side : Side S V) (between : Between S V) → IsBehindAll ending side between → side.drawn ≡ between.draw
drawn-behind Served side between stands = stands.draw
drawn-behind Stopped side between stands = stands.draw
drawn-behind NotTaken side between stands = stands.draw
drawn-behind Journal side between stands = stands.beside.draw
drawn-behind Full side between stands = stands.stands.draw
drawn-behind Memory side between stands = stands.draw

pub leaves-behind : {S V : Type 0} (ending : Ending) (side : Side S V) (between : Between S V) → IsBehindAll ending side between → LeavesDesk ending side.desk side.behind between.server
leaves-behind Served side between stands = stands.server
leaves-behind Stopped side between stands = stands.server
leaves-behind NotTaken side between stands = stands.server
leaves-behind Journal side between stands = stands.behind
leaves-behind Full side between stands = record { len = stands.len; stands = stands.stands.server; full = stands.behind }
leaves-behind Memory side between stands = stands.server

pub line-behind : {O : Type 0} (out : Outside O) (ending : Ending) (one : Status) (text line : List ℕ) → text ≡ line → EndsBehind text out ending one → EndsBehind line out ending one
line-behind out ending one text line is ends = subst (λ (some : List ℕ). EndsBehind some out ending one) is ends

-- ---- both lines

ends-by : {O : Type 0} (told : O → Option (List ℕ)) (faults : O → ℕ) (first middle last : O) (one other : List ℕ) (due answer : Status)
    → Writes (record { told = told; faults = faults; before = first; after = middle }) one
    → Tells (record { told = told; faults = faults; before = middle; after = last }) due other answer
    → WritesFirst (record { told = told; faults = faults; before = first; after = last }) one × Tells (record { told = told; faults = faults; before = first; after = last }) due (one ++ other) answer
ends-by told faults first middle last one other due answer written ends = (
  first-line told faults first middle last one other one due answer refl written.bytes ends,
  tells-lines told faults first middle last one other one other due answer refl refl written.bytes written.no_fault ends,
)

module _ {O : Type 0} (options : ServeOptions) (told : O → Option (List ℕ)) (faults : O → ℕ) (first middle last : O) (answer : Status)
    (written : Writes (record { told = told; faults = faults; before = first; after = middle }) (listening options.port)) where
  pub ends-all : (ending : Ending) → EndsBehind (last_line options.conns Served) (record { told = told; faults = faults; before = middle; after = last }) ending answer
      → WritesFirst (record { told = told; faults = faults; before = first; after = last }) (listening options.port)
      × EndsServing options (record { told = told; faults = faults; before = first; after = last }) ending answer
  ends-all Served ends = ends-by told faults first middle last (listening options.port) (last_line options.conns Served) status.Done answer written ends
  ends-all Stopped ends = ends-by told faults first middle last (listening options.port) (last_line options.conns Stopped) status.Done answer written ends
  ends-all NotTaken ends = ends-by told faults first middle last (listening options.port) not_listening status.NotListening answer written ends
  ends-all Journal ends = ends-by told faults first middle last (listening options.port) journal_fault status.JournalFault answer written ends
  ends-all Full ends = ends-by told faults first middle last (listening options.port) journal_fault status.JournalFault answer written ends
  ends-all Memory ends =
      let whole : Writes (record { told = told; faults = faults; before = first; after = last }) (listening options.port) =
      subst (λ (some : O). Writes (record { told = told; faults = faults; before = first; after = some }) (listening options.port)) (sym ends.1) written in
      (first-line-alone (told first) (told last) (listening options.port) (listening options.port) refl whole.bytes, (ends.0, whole))

-- ---- without a journal

never-rose : Rose 0 0 → ⊥
never-rose (inl more) = absurd (omega (arith, more))
never-rose (inr most) = absurd (omega (arith, most))

pub never-full : MayBeFull (λ fault. fault ≡ faults.Memory) → ⊥
never-full may = let same : faults.Full may.0 ≡ faults.Memory = may.1 in absurd (cc)

-- a server that keeps nothing has no disk, and needs no room
whole-of : {D : Type 0} (ring : List RingKey) (connections : List (Connection D Registers)) (ending : Ending) → CountsDeskBy ending 0 0 → (ending ≡ Full → ⊥) → IsBroken (Serves ring connections ending) → ⊥
whole-of ring connections Served counted never broken = broken
whole-of ring connections Stopped counted never broken = broken
whole-of ring connections NotTaken counted never broken = broken
whole-of ring connections Journal counted never broken = never-rose counted
whole-of ring connections Full counted never broken = absurd (never refl)
whole-of ring connections Memory counted never broken = broken

pub alone-not : {N O D : Type 0} (step : D → ℕ × D) (options : ServeOptions) (ring : List RingKey) (net : Part (List NetCall) N) (out : Outside O) (given : Option (List ℕ)) (draw : D) (one : Status)
    → IsDeaf options.port net out one ⊎ IsMute options.port net out one
    → RunsAlone step options ring net out (record { before = given; after = given }) (record { before = draw; after = draw }) one
alone-not step options ring net out given draw one (inl deaf) = record {
  course = Deaf ring;
  own = refl;
  calls = calls-deaf options.port net ring deaf.called deaf.counted deaf.tells;
  serves = (refl, refl);
  whole = λ broken. broken;
  ends = deaf.ends;
}
alone-not step options ring net out given draw one (inr mute) = record {
  course = Mute ring;
  own = refl;
  calls = calls-mute options.port net ring mute.called mute.counted mute.tells;
  serves = (refl, refl);
  whole = λ broken. broken;
  ends = mute.ends;
}

pub alone-serves : {N O D : Type 0} (step : D → ℕ × D) (options : ServeOptions) (ring : List RingKey) (told : N → Option (List NetCall)) (counts : N → ℕ) (net between net_then : N)
    (writes : O → Option (List ℕ)) (counts_out : O → ℕ) (out amid out_then : O) (given given_then : Option (List ℕ)) (draw draw_then drawn : D) (desk : Server → Type 0) (behind : DeskFault → Server → Type 0) (ending : Ending) (text : List ℕ) (one : Status)
    → Hears options.port (record { told = told; faults = counts; before = net; after = between }) (record { told = writes; faults = counts_out; before = out; after = amid })
    → ServesOn (rules_of step registers.step (outside_of ring)) options (first_of options (record { before = given; after = given_then }) draw)
    (record { told = told; faults = counts; before = between; after = net_then }) given_then desk behind drawn ending
    → draw_then ≡ drawn → CountsDeskBy ending 0 0 → (ending ≡ Full → ⊥) → text ≡ last_line options.conns Served → EndsBehind text (record { told = writes; faults = counts_out; before = amid; after = out_then }) ending one
    → RunsAlone step options ring (record { told = told; faults = counts; before = net; after = net_then }) (record { told = writes; faults = counts_out; before = out; after = out_then })
    (record { before = given; after = given_then }) (record { before = draw; after = draw_then }) one
alone-serves step options ring told counts net between net_then writes counts_out out amid out_then given given_then draw draw_then drawn desk behind ending text one hears serves same counted never is ends = record {
  course = Serves ring serves.connections ending;
  own = refl;
  calls = calls-serves options.port told counts net between net_then ring serves.connections ending hears.called hears.counted hears.tells serves.noted serves.counted serves.tells;
  serves = record { are = serves.are.are; ended = serves.are.ended; moments = serves.are.moments; words = same ∙ serves.are.words };
  whole = whole-of ring serves.connections ending counted never;
  ends = ends-all options writes counts_out out amid out_then one hears.written ending
      (line-behind (record { told = writes; faults = counts_out; before = amid; after = out_then }) ending one text (last_line options.conns Served) is ends);
}

-- ---- as any run

pub own-with : {D : Type 0} (ring : List RingKey) (course : Course D) → IsBegun ring course → IsWith ring course
own-with ring Unread own = absurd own
own-with ring (Refused line) own = absurd own
own-with ring Unbegun own = absurd own
own-with ring (Shut other) own = absurd own
own-with ring (Deaf other) own = own
own-with ring (Mute other) own = own
own-with ring (Serves other connections ending) own = own

pub with-alone : {N O D K : Type 0} (drawing : Drawing D) (options : ServeOptions) (ring : List RingKey) (net : Part (List NetCall) N) (out : Outside O) (moments : Moments) (draws : Draws D) (tells : K → Option NamesTold) (counts : K → ℕ) (disks : K) (one : Status)
    → options.journal ≡ None → RunsAlone drawing.step options ring net out moments draws one
    → RunsWith drawing options ring net out moments draws (record { told = tells; faults = counts; before = disks; after = disks }) one
with-alone drawing options ring net out moments draws tells counts disks one none runs = record {
  course = runs.course;
  keeping = Unopened;
  own = own-with ring runs.course runs.own;
  calls = runs.calls;
  goes = subst (λ (journal : Option (List ℕ)). GoesBy drawing options journal (record { told = tells; faults = counts; before = disks; after = disks }) moments draws Unopened runs.course) (sym none)
      (refl, runs.serves, runs.whole);
  counts = refl;
  tells = λ some. some;
  ends = runs.ends;
  full = λ is. subst (λ (journal : Option (List ℕ)). IfSome journal (λ name. IfTold (record { told = tells; faults = counts; before = disks; after = disks }) (λ before after. HoldsSome name IsFilled after))) (sym none) tt;
}

pub with-none : {N O D K : Type 0} (drawing : Drawing D) (options : ServeOptions) (ring : List RingKey) (told : N → Option (List NetCall)) (faulted : N → ℕ) (net : N) (writes : O → Option (List ℕ)) (counts_out : O → ℕ) (out : O) (given : Option (List ℕ)) (draw : D)
    (tells : K → Option NamesTold) (counts : K → ℕ) (disks : K) → RunsWith drawing options ring (record { told = told; faults = faulted; before = net; after = net }) (record { told = writes; faults = counts_out; before = out; after = out })
    (record { before = given; after = given }) (record { before = draw; after = draw }) (record { told = tells; faults = counts; before = disks; after = disks }) status.Memory
with-none drawing options ring told faulted net writes counts_out out given draw tells counts disks = record {
  course = Unbegun;
  keeping = Unopened;
  own = tt;
  calls = calls-none options.port told faulted net;
  goes = idle-unbegun drawing options options.journal tells counts disks given draw;
  counts = refl;
  tells = λ some. some;
  ends = (refl, refl);
  full = λ none. absurd none;
}
