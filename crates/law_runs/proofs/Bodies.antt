-- The keys of the clients of a joint run are those of the server's ring, and the bodies of their calls are bytes.
use Rattle.std.proofs.Common.{◌≡◌, ◌∙◌, ℕ, zero, suc, Bool, true, false, Option, Some, None, List, [], ◌∷◌, ◌++◌, fold, refl, sym, ap, subst}
use Rattle.std.specs.Prelude.{IfSome, is_some, slice_get}
use Rattle.std.specs.List.{AllByRecursion}
use Rattle.octets.specs.Bytes.{IsBytes}
use Rattle.auth_keys.specs.Rings.{entry_of, kind_in}
use Rattle.auth_keys.specs.declared.key.KeyKind.{KeyKind}
use Rattle.auth_keys.specs.declared.key.KeyKind.TheVariants.{Perm, Temp}
use Rattle.auth_keys.specs.declared.ring.RingKey.{RingKey}
use Rattle.call_script.specs.Scripts.{SaysScriptCall}
use Rattle.call_script.specs.declared.script.ScriptCall.{ScriptCall}
use Rattle.sched_text.specs.Bodies.{IsBody}
use Rattle.sched_text.specs.Lines.{Line, Say, lines_in}
use Rattle.client_core.specs.Keys.{BoundTo, Keys}
use Rattle.client_node.specs.Course.{Course, Reading, hears, is_decided, must_renew, takes_packet}
use Rattle.client_node.specs.Talks.{Began, Close, Connection, Heard, Place, Refused, Rules, Said, Stopped, Talk, Turn, TurnsDone, Unread, Unstarted, begun, drawn, says, turns_from}
use Rattle.client_node.specs.Course.{attaches}
use Rattle.client_node.specs.Trace.{Attempt, Made, NoLink, after_all}
use Rattle.client_node.specs.declared.plan.Plan.{Plan}
use Rattle.cmd_call.specs.Keys.{bound_to, keys_for, kind_at, under_key, under_temporary}
use Rattle.law_packets.specs.Lawful.{is_held}
use Rattle.world_rules.specs.Setting.{Setting}
use Rattle.world_rules.specs.World.{Seat, changed_from_0}
use Rattle.law_connections.specs.Joint.{Deed, Joint, Step, Begins, Does, Serves, Starts, nobody_yet, steps_on}
use Rattle.law_connections.specs.Premises.{AreHeld, AreOf, IsOfBytes, IsStepOf}
use Rattle.law_runs.specs.Batches.{OneBatch, behind_batches}
use Rattle.law_runs.specs.Deeds.{attempt_deeds, attempts_deeds, batches_deeds, close_deeds, connection_deeds, flushes_of, given_deeds, heard_deeds, last_flush, packet_deeds, renew_deeds, renewal, renewal_unless, said_deeds, talk_deeds, turn_deeds, turns_deeds}
use Rattle.law_runs.specs.Joining.{AreJoint, ArePartsOf, Called, Served, Shares, client_rules_under, batch_begins, part_by, setting_under}
use Rattle.law_runs.specs.Parts.{Part, part_on, parts_of, with_deed}
use Rattle.law_runs.proofs.Places.{AreDone, step_done}

-- ---- what a client does but to be given calls

abbrev Bytes : List Deed → Type 0
Bytes deeds = AllByRecursion IsOfBytes deeds

join : (deeds others : List Deed) → Bytes deeds → Bytes others → Bytes (deeds ++ others)
join [] others one two = two
join (deed ∷ deeds) others one two = (one.0, join deeds others one.1 two)

front : (deeds others : List Deed) → Bytes (deeds ++ others) → Bytes deeds
front [] others all = tt
front (deed ∷ deeds) others all = (all.0, front deeds others all.1)

back : (deeds others : List Deed) → Bytes (deeds ++ others) → Bytes others
back [] others all = all
back (deed ∷ deeds) others all = back deeds others all.1

flushes-so : (now : ℕ) (packets : List (List ℕ)) → Bytes (flushes_of now packets)
flushes-so now [] = tt
flushes-so now (packet ∷ packets) = (tt, flushes-so now packets)

last-so : (now : ℕ) (is : Bool) → Bytes (last_flush now is)
last-so now true = (tt, tt)
last-so now false = tt

said-so : (now : ℕ) (said : Said) → Bytes (said_deeds now said)
said-so now said = join (flushes_of now said.packets) (last_flush now said.is_done) (flushes-so now said.packets) (last-so now said.is_done)

renewal-so : (must : Bool) → Bytes (renewal must)
renewal-so true = (tt, tt)
renewal-so false = tt

unless-so : {S : Type 0} (is : Bool) (course : Course S) → Bytes (renewal_unless is course)
unless-so true course = tt
unless-so false course = renewal-so (must_renew course.phase course.client)

heard-so : {S : Type 0} (step : S → ℕ × S) (reading : Reading) (now : ℕ) (course : Course S) (packets : List (List ℕ)) → Bytes (heard_deeds step reading now course packets)
heard-so step reading now course [] = tt
heard-so step reading now course (packet ∷ packets) =
    let after = hears reading now course packet in
    join (packet_deeds reading now course packet) (heard_deeds step reading now (takes_packet step reading now course packet) packets)
    (tt, unless-so (is_decided after.client) after) (heard-so step reading now (takes_packet step reading now course packet) packets)

module _ {S : Type 0} (rules : Rules S) where
  turn-so : (turn : Turn) (place : Place S) → Bytes (turn_deeds rules turn place)
  turn-so turn place =
      let there = (says rules turn.said place).course in
      join (said_deeds place.now turn.said) (heard_deeds rules.setting.step rules.reading turn.moment there turn.heard) (said-so place.now turn.said)
      (heard-so rules.setting.step rules.reading turn.moment there turn.heard)

  turns-so : (place : Place S) (turns : List Turn) → Bytes (turns_deeds rules place turns)
  turns-so place [] = tt
  turns-so place (last ∷ earlier) =
      let there = turns_from rules place earlier in join (turns_deeds rules place earlier) (turn_deeds rules last there) (turns-so place earlier) (turn-so last there)

  close-so : (said : Said) (close : Close) (place : Place S) → Bytes (close_deeds rules said close place)
  close-so said (Stopped end) place = said-so place.now said
  close-so said (Unread answer) place = said-so place.now said
  close-so said TurnsDone place = said-so place.now said
  close-so said (Heard piece moment heard end) place =
      let there = (says rules said place).course in
      join (said_deeds place.now said) (heard_deeds rules.setting.step rules.reading moment there heard) (said-so place.now said)
      (heard-so rules.setting.step rules.reading moment there heard)

  talk-so : (place : Place S) (talk : Talk) → Bytes (talk_deeds rules place talk)
  talk-so place talk =
      let there = turns_from rules place talk.turns in
      join (turns_deeds rules place talk.turns) (close_deeds rules talk.said talk.close there) (turns-so place talk.turns) (close-so talk.said talk.close there)

  connection-so : (plan : Plan) (course : Course S) (connection : Connection) → Bytes (connection_deeds rules plan course connection)
  connection-so plan course (Refused first) = tt
  connection-so plan course (Unstarted first start) = (tt, tt)
  connection-so plan course (Began first start opening talk) =
      let after = attaches (drawn rules plan course) in
      let place = begun rules plan course first in
      (tt, (tt, join (renew_deeds after) (talk_deeds rules place talk) (renewal-so (must_renew after.phase after.client)) (talk-so place talk)))

  attempt-so : (plan : Plan) (course : Course S) (attempt : Attempt) → Bytes (attempt_deeds rules plan course attempt)
  attempt-so plan course NoLink = tt
  attempt-so plan course (Made connection) = connection-so plan course connection

  attempts-so : (plan : Plan) (course : Course S) (attempts : List Attempt) → Bytes (attempts_deeds rules plan course attempts)
  attempts-so plan course [] = tt
  attempts-so plan course (last ∷ earlier) =
      let there = after_all rules plan course earlier in
      join (attempts_deeds rules plan course earlier) (attempt_deeds rules plan there last) (attempts-so plan course earlier) (attempt-so plan there last)

  batches-so : (course : Course S) (batches : List OneBatch) → Bytes (batches_deeds rules course batches)
  batches-so course [] = tt
  batches-so course (last ∷ earlier) =
      let there = behind_batches rules course earlier in
      join (batches_deeds rules course earlier) (attempts_deeds rules last.plan there last.attempts) (batches-so course earlier) (attempts-so last.plan there last.attempts)

-- ---- the calls of a script

module _ (spelt : (body : List ℕ) (words : List (List ℕ)) → IsBody body words → IsBytes body) where
  given-so : (lines : List Line) (calls : List ScriptCall) → Say SaysScriptCall lines calls → Bytes (given_deeds calls)
  given-so [] [] say = tt
  given-so [] (call ∷ calls) say = absurd say
  given-so (line ∷ lines) [] say = absurd say
  given-so (line ∷ lines) (call ∷ calls) say = (spelt call.body say.0.1.front say.0.1.body_is, given-so lines calls say.1)

-- ---- its keys

some-held : (kind : Option KeyKind) (found : Option RingKey) → kind_in found ≡ kind → is_some kind ≡ true → is_some found ≡ true
some-held kind None is some = absurd (let e : false ≡ true = ap is_some is ∙ some in cc)
some-held kind (Some entry) is some = refl

held : (ring : List RingKey) (key : ℕ) (kind : KeyKind) → kind_at ring key ≡ Some kind → is_held ring key ≡ true
held ring key kind is = some-held (Some kind) (entry_of key ring) is refl

module _ (own : List RingKey) where
  bound-held : (key expires perm : ℕ) (kind : Option KeyKind) (keys : Keys) → kind_at own perm ≡ kind → is_held own key ≡ true → bound_to key expires perm kind ≡ Some keys → AreHeld own keys
  bound-held key expires perm None keys at its is = absurd (let e : None ≡ Some keys = is in cc)
  bound-held key expires perm (Some (Temp other)) keys at its is = absurd (let e : None ≡ Some keys = is in cc)
  bound-held key expires perm (Some Perm) keys at its is =
      let same : record { key = key; bound_to = Some (record { perm = perm; expires = expires }) } ≡ keys = cc in
      subst (λ (k : Keys). AreHeld own k) same (record { key = its; perm = held own perm Perm at })

  temporary-held : (key expires : ℕ) (perm : Option ℕ) (keys : Keys) → is_held own key ≡ true → under_temporary own key expires perm ≡ Some keys → AreHeld own keys
  temporary-held key expires None keys its is = absurd (let e : None ≡ Some keys = is in cc)
  temporary-held key expires (Some perm) keys its is = bound-held key expires perm (kind_at own perm) keys refl its is

  under-held : (key : ℕ) (perm : Option ℕ) (kind : Option KeyKind) (keys : Keys) → kind_at own key ≡ kind → under_key own key perm kind ≡ Some keys → AreHeld own keys
  under-held key perm None keys at is = absurd (let e : None ≡ Some keys = is in cc)
  under-held key perm (Some Perm) keys at is =
      let same : record { key = key; bound_to = None } ≡ keys = cc in
      subst (λ (k : Keys). AreHeld own k) same (record { key = held own key Perm at; perm = tt })
  under-held key perm (Some (Temp expires)) keys at is = temporary-held key expires perm keys (held own key (Temp expires) at) is

  bound-shared : (ring : List RingKey) (bound : Option BoundTo) → IfSome bound (λ one. entry_of one.perm own ≡ entry_of one.perm ring)
      → IfSome bound (λ one. is_held own one.perm ≡ true) → IfSome bound (λ one. is_held ring one.perm ≡ true)
  bound-shared ring None shares is = tt
  bound-shared ring (Some one) shares is = sym (ap is_some shares) ∙ is

  pub held-there : (ring : List RingKey) (key : ℕ) (perm : Option ℕ) (keys : Keys) → keys_for own key perm ≡ Some keys → Shares ring own keys → AreHeld ring keys
  held-there ring key perm keys found shares =
      let here = under-held key perm (kind_at own key) keys refl found in
      record { key = sym (ap is_some shares.key) ∙ here.key; perm = bound-shared ring keys.bound_to shares.perm here.perm }

-- ---- all clients

module _ {S V : Type 0} (ring : List RingKey) (setting : Setting S V) where
  abbrev IsOwn : Part S → Type 0
  IsOwn part = AreHeld ring part.keys × Bytes part.deeds

  abbrev AreOwn : List (Part S) → Type 0
  AreOwn parts = AllByRecursion IsOwn parts

  first-parts : (parts others : List (Part S)) → AreOwn (parts ++ others) → AreOwn parts
  first-parts [] others all = tt
  first-parts (part ∷ parts) others all = (all.0, first-parts parts others all.1)

  last-parts : (parts others : List (Part S)) → AreOwn (parts ++ others) → AreOwn others
  last-parts [] others all = all
  last-parts (part ∷ parts) others all = last-parts parts others all.1

  undone : (place : ℕ) (deed : Deed) (parts : List (Part S)) → AreOwn (changed_from_0 place (with_deed deed) parts) → AreOwn parts
  undone place deed [] all = tt
  undone zero deed (part ∷ parts) all = ((all.0.0, front part.deeds (deed ∷ []) all.0.1), all.1)
  undone (suc place) deed (part ∷ parts) all = (all.0, undone place deed parts all.1)

  before : (step : Step S) (parts : List (Part S)) → AreOwn (part_on parts step) → AreOwn parts
  before (Serves act) parts all = all
  before (Starts draw) parts all = all
  before (Begins keys draw) parts all = first-parts parts (record { keys = keys; draw = draw; deeds = [] } ∷ []) all
  before (Does zero deed) parts all = all
  before (Does (suc place) deed) parts all = undone place deed parts all

  before-all : (steps : List (Step S)) (parts : List (Part S)) → AreOwn (fold part_on parts steps) → AreOwn parts
  before-all [] parts all = all
  before-all (step ∷ steps) parts all = before step parts (before-all steps (part_on parts step) all)

  did-bytes : (place : ℕ) (deed : Deed) (parts : List (Part S)) (seats : List Seat) (draws : List S) → AreDone setting parts seats draws
      → AreOwn (changed_from_0 place (with_deed deed) parts) → IfSome (slice_get draws place) (λ draw. IsOfBytes deed)
  did-bytes place deed [] [] [] are all = tt
  did-bytes zero deed (part ∷ parts) (seat ∷ seats) (draw ∷ draws) are all = (back part.deeds (deed ∷ []) all.0.1).0
  did-bytes (suc place) deed (part ∷ parts) (seat ∷ seats) (draw ∷ draws) are all = did-bytes place deed parts seats draws are.2 all.1
  did-bytes place deed [] [] (draw ∷ draws) are all = absurd are
  did-bytes place deed [] (seat ∷ seats) draws are all = absurd are
  did-bytes place deed (part ∷ parts) [] draws are all = absurd are
  did-bytes place deed (part ∷ parts) (seat ∷ seats) [] are all = absurd are

  step-of : (step : Step S) (parts : List (Part S)) (joint : Joint S V) → AreDone setting parts joint.world.seats joint.draws → AreOwn (part_on parts step) → IsStepOf ring joint step
  step-of (Serves act) parts joint are all = tt
  step-of (Starts draw) parts joint are all = tt
  step-of (Begins keys draw) parts joint are all = (last-parts parts (record { keys = keys; draw = draw; deeds = [] } ∷ []) all).0.0
  step-of (Does zero deed) parts joint are all = tt
  step-of (Does (suc place) deed) parts joint are all = did-bytes place deed parts joint.world.seats joint.draws are all

  pub steps-of : (steps : List (Step S)) (parts : List (Part S)) (joint : Joint S V) → AreDone setting parts joint.world.seats joint.draws → AreOwn (fold part_on parts steps)
      → AreOf ring setting joint steps
  steps-of [] parts joint are all = tt
  steps-of (step ∷ steps) parts joint are all = (
    step-of step parts joint are (before-all steps (part_on parts step) all),
    steps-of steps (part_on parts step) (steps_on setting joint step) (step_done setting step parts joint are) all,
  )

module _ (spelt : (body : List ℕ) (words : List (List ℕ)) → IsBody body words → IsBytes body) {D : Type 0} (step : D → ℕ × D) (ring : List RingKey) where
  part-of : (run : Called step) → Shares ring run.ring run.keys → AreHeld ring (part_by run).keys × Bytes (part_by run).deeds
  part-of run shares =
      let rules = client_rules_under step run.ring in
      let course = batch_begins step run.keys run.calls run.draw in (
        held-there run.ring ring run.key run.perm run.keys run.found shares,
        join (given_deeds run.calls) (batches_deeds rules course run.batches) (given-so spelt (lines_in run.text) run.calls run.spelt) (batches-so rules course run.batches),
      )

  parts-so : (parts : List (Part D)) (called : List (Called step)) → ArePartsOf parts called → AllByRecursion (λ (run : Called step). Shares ring run.ring run.keys) called
      → AllByRecursion (λ (part : Part D). AreHeld ring part.keys × Bytes part.deeds) parts
  parts-so [] [] are keyed = tt
  parts-so [] (run ∷ called) are keyed = absurd are
  parts-so (part ∷ parts) [] are keyed = absurd are
  parts-so (part ∷ parts) (run ∷ called) are keyed =
      let own = part-of run keyed.0 in (
        (subst (λ (keys : Keys). AreHeld ring keys) (sym are.0.keys) own.0, front part.deeds are.0.rest (subst Bytes are.0.deeds own.1)),
        parts-so parts called are.1 keyed.1,
      )

  pub joint-of : (draw : D) (served : List (Served step ring)) (called : List (Called step)) (steps : List (Step D)) → AreJoint step ring draw served called steps
      → AreOf ring (setting_under step ring) (nobody_yet (setting_under step ring) draw) steps
  joint-of draw served called steps joint =
      let setting = setting_under step ring in
      steps-of ring setting steps [] (nobody_yet setting draw) tt (parts-so (parts_of steps) called joint.clients joint.keyed)
