-- A world whose server is the one that records lead to.
use Rattle.std.proofs.Common.{◌≡◌, ◌∙◌, ◌≤◌, ◌<◌, ◌+◌, ◌%◌, ◌^◌, ℕ, zero, suc, false, Some, None, List, [], ◌∷◌, ◌++◌, refl, sym, ap, subst, inl, inr, arith, All, ◌↔◌}
use Rattle.std.proofs.lemmas.Bool.{cases_Bool, cond-false, cond-true}
use Rattle.std.proofs.lemmas.List.Sums.{fold-append}
use Rattle.draws.specs.Draws.{draw_after}
use Rattle.envelope.specs.declared.parts.Dir.TheVariants.{Up}
use Rattle.envelope.specs.declared.parts.Envelope.{Envelope as Sealed}
use Rattle.envelope.specs.Opening.{Opens}
use Rattle.law_server.specs.Order.{AreOrdered}
use Rattle.law_server_replay.specs.Quiet.{quiet}
use Rattle.msg_ids.specs.Moments.{latest_moment, moment_of}
use Rattle.ring_rules.specs.Binding.{keys_of}
use Rattle.sess_records.specs.declared.records.Event.TheVariants as recorded
use Rattle.sess_records.specs.declared.records.Record.{Record}
use Rattle.sess_journal.specs.Replay.{Basis, LeadsTo, Plays, Reached, Replays, after_reply, at_first, reached_by, setting_at}
use Rattle.server_rules.specs.Answer.{Answer, after_attach, after_packet, after_tick, is_spent}
use Rattle.server_rules.specs.Event.{Envelope, Setting as ServerSetting}
use Rattle.server_rules.specs.Server.{Name, Server, Session}
use Rattle.server_session.specs.Says.{setting_of}
use Rattle.waits.specs.declared.job.Job.{Job}
use Rattle.waits.specs.Jobs.{Queue, is_ready, one_if, ready_count, ready_job}
use Rattle.world_rules.specs.Setting.{Setting, at_server}
use Rattle.world_rules.specs.World.{World}
use Rattle.law_crashes.specs.Crashes.{begun_in, moment_by, moment_in}
use Rattle.law_crashes.specs.Records.{begun_of}

-- ---- jobs

pub ready_below : (place : ℕ) (jobs : Queue) (job : Job) → ready_job place jobs ≡ Some job → place < ready_count jobs
ready_below zero [] job is = absurd (let e : None ≡ Some job = is in cc)
ready_below (suc place) [] job is = absurd (let e : None ≡ Some job = is in cc)
ready_below zero (one ∷ jobs) job is =
    elim (cases_Bool (is_ready one)) [
      | inl ready ↦ let counts : one_if (is_ready one) ≡ 1 = ap one_if ready in omega arith
      | inr not_so ↦ let rest = ready_below zero jobs job (sym (cond-false (is_ready one) (Some one.job) (ready_job zero jobs) not_so) ∙ is) in omega arith
    ]
ready_below (suc place) (one ∷ jobs) job is =
    elim (cases_Bool (is_ready one)) [
      | inl ready ↦
          let counts : one_if (is_ready one) ≡ 1 = ap one_if ready in
          let rest = ready_below place jobs job (sym (ap (λ (n : ℕ). ready_job n jobs) (cond-true (is_ready one) place (suc place) ready)) ∙ is) in omega arith
      | inr not_so ↦
          let rest = ready_below (suc place) jobs job (sym (ap (λ (n : ℕ). ready_job n jobs) (cond-false (is_ready one) place (suc place) not_so)) ∙ is) in omega arith
    ]

-- ---- what is known

abbrev pub HaveRoom : List Session → Type 0
HaveRoom sessions = All (λ session. is_spent session ≡ false) sessions

pub record Facts {S V : Type 0} (basis : Basis S) (setting : Setting S V) : Type 0 where
  pub sees : at_server setting ≡ setting_of 0 basis.step (keys_of basis.keys)
  pub opens : (now : ℕ) (packet : List ℕ) (envelope : Sealed) → (setting.opens now Up packet ≡ Some envelope ↔ Opens basis.lock basis.keys now Up packet envelope)
  pub at_place : (place : ℕ) → place < 2 ^ 64 → basis.place_of (basis.at place) ≡ place
  pub goes : (place n : ℕ) → place < 2 ^ 64 → draw_after basis.step n (basis.at place) ≡ basis.at ((place + n) % 2 ^ 64)
  pub whole : (entries more : List Record) (before between after : Reached) → Replays basis entries before between → Replays basis more between after
      → Replays basis (entries ++ more) before after
  pub packet_draws : (s : ServerSetting S) (envelope : Envelope) (server : Server) (draw : S)
      → (words : ℕ) × ((after_packet s envelope server draw).draw ≡ draw_after s.step words draw)
  pub tick_draws : (s : ServerSetting S) (server : Server) (draw : S) → (words : ℕ) × ((after_tick s server draw).draw ≡ draw_after s.step words draw)
  pub attach_draws : (s : ServerSetting S) (name : Name) (server : Server) (draw : S)
      → (words : ℕ) × ((after_attach s name server draw).draw ≡ draw_after s.step words draw)
  pub reply_draws : (s : ServerSetting S) (place : ℕ) (reply : List ℕ) (server : Server) (draw : S)
      → (words : ℕ) × ((after_reply s place reply server draw).draw ≡ draw_after s.step words draw)
  pub quiet_tick : (s : ServerSetting S) (server : Server) (draw : S) → AreOrdered server.sessions server.jobs → HaveRoom server.sessions
      → (after_tick s server draw).entries ≡ [] → after_tick s server draw ≡ quiet s.now server draw
  pub quiet_attach : (s : ServerSetting S) (name : Name) (server : Server) (draw : S) → AreOrdered server.sessions server.jobs → HaveRoom server.sessions
      → (after_attach s name server draw).packets ≡ [] → after_attach s name server draw ≡ quiet s.now server draw
  pub packet_room : (s : ServerSetting S) (envelope : Envelope) (server : Server) (draw : S) → HaveRoom (after_packet s envelope server draw).server.sessions
  pub tick_room : (s : ServerSetting S) (server : Server) (draw : S) → HaveRoom (after_tick s server draw).server.sessions
  pub attach_room : (s : ServerSetting S) (name : Name) (server : Server) (draw : S) → HaveRoom (after_attach s name server draw).server.sessions
  pub reply_room : (s : ServerSetting S) (place : ℕ) (reply : List ℕ) (server : Server) (draw : S) → HaveRoom (after_reply s place reply server draw).server.sessions

-- ---- a world and records

-- These records lead to the server of the world, but for a later moment, and to its draw; they tell the moment that is reached, and
-- the job whose run began last.
pub record Traces {S V : Type 0} (basis : Basis S) (world : World S V) (records : List Record) : Type 0 where
  pub reached : Reached
  pub replays : Replays basis records at_first reached
  pub same : world.server ≡ record reached.server { now = world.server.now }
  pub later : reached.server.now ≤ world.server.now
  pub early : world.server.now ≤ latest_moment
  pub begun : reached.begun ≡ begun_in records
  pub now : reached.server.now ≡ moment_in records
  pub place : reached.place < 2 ^ 64
  pub drawn : world.draw ≡ basis.at reached.place
  pub room : HaveRoom world.server.sessions

pub begun_more : (records : List Record) (entry : Record) → begun_in (records ++ entry ∷ []) ≡ begun_of entry.event
begun_more records entry = fold-append (λ before (one : Record). begun_of one.event) None records (entry ∷ [])

pub moment_more : (records : List Record) (entry : Record) → moment_in (records ++ entry ∷ []) ≡ moment_by (moment_in records) entry.moment entry.event
moment_more records entry = fold-append (λ before (one : Record). moment_by before one.moment one.event) 0 records (entry ∷ [])

module _ {S V : Type 0} (basis : Basis S) (setting : Setting S V) (facts : Facts basis setting) where
  -- the same server with a later moment, and the same draw
  pub moved : (world there : World S V) (records : List Record) (later : ℕ) → Traces basis world records → world.server.now ≤ later → later ≤ latest_moment
      → there.server ≡ record world.server { now = later } → there.draw ≡ world.draw → Traces basis there records
  moved world there records later t above early is drawn =
      let now : there.server.now ≡ later = ap (λ (s : Server). s.now) is in
      record {
        reached = t.reached;
        replays = t.replays;
        same =
            is ∙ ap (λ (s : Server). record s { now = later }) t.same
            ∙ ap (λ (n : ℕ). record t.reached.server { now = n }) (sym now);
        later = omega (arith, t.later, above, now);
        early = omega (arith, early, now);
        begun = t.begun;
        now = t.now;
        place = t.place;
        drawn = drawn ∙ t.drawn;
        room = subst (λ (s : List Session). HaveRoom s) (sym (ap (λ (s : Server). s.sessions) is)) t.room;
      }

  pub unmoved : (world there : World S V) (records : List Record) → Traces basis world records → there.server ≡ world.server → there.draw ≡ world.draw → Traces basis there records
  unmoved world there records t is drawn = record {
    reached = t.reached;
    replays = t.replays;
    same = subst (λ (s : Server). s ≡ record t.reached.server { now = s.now }) (sym is) t.same;
    later = subst (λ (s : Server). t.reached.server.now ≤ s.now) (sym is) t.later;
    early = subst (λ (s : Server). s.now ≤ latest_moment) (sym is) t.early;
    begun = t.begun;
    now = t.now;
    place = t.place;
    drawn = drawn ∙ t.drawn;
    room = subst (λ (s : Server). HaveRoom s.sessions) (sym is) t.room;
  }

  -- the draw's place is the one that is reached
  pub place_there : (world : World S V) (records : List Record) (t : Traces basis world records) → basis.place_of world.draw ≡ t.reached.place
  place_there world records t = ap basis.place_of t.drawn ∙ facts.at_place t.reached.place t.place

  -- an event that is recorded, but a begin
  pub recorded_so : (world there : World S V) (records : List Record) (entry : Record) (answer : Answer S) (words : ℕ) (t : Traces basis world records)
      → world.server.now ≤ entry.moment → entry.moment ≤ latest_moment → entry.place ≡ basis.place_of world.draw
      → LeadsTo basis entry.moment entry.place entry.event t.reached (reached_by basis answer)
      → begun_of entry.event ≡ None → ((before : ℕ) → moment_by before entry.moment entry.event ≡ entry.moment)
      → answer.server.now ≡ entry.moment → there.server ≡ answer.server → there.draw ≡ answer.draw
      → answer.draw ≡ draw_after basis.step words world.draw → HaveRoom answer.server.sessions
      → Traces basis there (records ++ entry ∷ [])
  recorded_so world there records entry answer words t above early at leads no_begin moment now server draw drawn room =
      let p = t.reached.place in
      let q = (p + words) % 2 ^ 64 in
      let below : q < 2 ^ 64 = omega arith in
      let its : answer.draw ≡ basis.at q = drawn ∙ ap (draw_after basis.step words) t.drawn ∙ facts.goes p words t.place in
      let place : basis.place_of answer.draw ≡ q = ap basis.place_of its ∙ facts.at_place q below in
      let stood : p ≡ entry.place = sym (at ∙ place_there world records t) in
      let plays : Plays basis entry t.reached (reached_by basis answer) = record {
        moment = omega (arith, t.later, above);
        place = omega (arith, stood);
        leads = leads;
      } in
      record {
        reached = reached_by basis answer;
        replays = facts.whole records (entry ∷ []) at_first t.reached (reached_by basis answer) t.replays (reached_by basis answer, plays, refl);
        same = subst (λ (s : Server). s ≡ record answer.server { now = s.now }) (sym server) refl;
        later = omega (arith, ap (λ (s : Server). s.now) server);
        early = omega (arith, ap (λ (s : Server). s.now) server, now, early);
        begun = sym (begun_more records entry ∙ no_begin);
        now = now ∙ sym (moment_more records entry ∙ moment (moment_in records));
        place = subst (λ (n : ℕ). n < 2 ^ 64) (sym place) below;
        drawn = draw ∙ its ∙ sym (ap basis.at place);
        room = subst (λ (s : Server). HaveRoom s.sessions) (sym server) room;
      }

  -- a begin
  pub begins_so : (world : World S V) (records : List Record) (moment job : ℕ) → Traces basis world records → world.server.now ≤ moment
      → job < ready_count world.server.jobs
      → Traces basis world (records ++ record { moment = moment; place = basis.place_of world.draw; event = recorded.Begin job } ∷ [])
  begins_so world records moment job t above below =
      let entry : Record = record { moment = moment; place = basis.place_of world.draw; event = recorded.Begin job } in
      let after : Reached = record t.reached { begun = Some job } in
      let there : job < ready_count t.reached.server.jobs = subst (λ (jobs : Queue). job < ready_count jobs) (ap (λ (s : Server). s.jobs) t.same) below in
      let stood : t.reached.place ≡ basis.place_of world.draw = sym (place_there world records t) in
      let plays : Plays basis entry t.reached after = record {
        moment = omega (arith, t.later, above);
        place = omega (arith, stood);
        leads = (there, refl);
      } in
      record {
        reached = after;
        replays = facts.whole records (entry ∷ []) at_first t.reached after t.replays (after, plays, refl);
        same = t.same;
        later = t.later;
        early = t.early;
        begun = sym (begun_more records entry);
        now = t.now ∙ sym (moment_more records entry);
        place = t.place;
        drawn = t.drawn;
        room = t.room;
      }

  -- ---- what an event sees

  pub seen : (moment : ℕ) → moment ≤ latest_moment → record (at_server setting) { now = moment } ≡ setting_at basis moment
  seen moment early =
      let same : moment ≡ moment_of moment = omega (arith, early) in
      ap (λ (s : ServerSetting S). record s { now = moment }) facts.sees ∙ ap (λ (n : ℕ). setting_of n basis.step (keys_of basis.keys)) same
