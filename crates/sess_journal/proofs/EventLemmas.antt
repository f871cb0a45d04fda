-- The events of a desk: what each gives, and that its record leads to that.
use Rattle.std.proofs.Common.{◌≡◌, ℕ, Option, None, Some, List, max, sym, ap, subst, refl, ◌∙◌}
use Rattle.disks.specs.Told.{DiskTold}
use Rattle.draws.specs.Draws.{draw_after}
use Rattle.envelope.specs.declared.parts.Dir.TheVariants.{Up}
use Rattle.envelope.specs.declared.parts.Envelope.{Envelope as Sealed}
use Rattle.envelope.specs.Opening.{Opens}
use Rattle.regs_service.specs.Served.{Step}
use Rattle.ring_rules.specs.Binding.{keys_of}
use Rattle.sess_records.specs.declared.records.Event.TheVariants.{Attach, Packet, Ran, Tick}
use Rattle.sess_records.specs.declared.records.Record.{Record}
use Rattle.server_core.specs.Packets.{brought_in}
use Rattle.server_rules.specs.Answer.{Answer, after_attach, after_packet, after_run, after_tick, after_work}
use Rattle.server_rules.specs.Event.{Envelope, Setting}
use Rattle.server_rules.specs.Server.{Name, Server}
use Rattle.server_session.specs.Says.{Keys, setting_of}
use Rattle.waits.specs.declared.job.Job.{Job}
use Rattle.waits.specs.Jobs.{ready_job}
use Rattle.sess_journal.specs.Keeping.{Seen, reply_at, reply_by}
use Rattle.sess_journal.specs.Staging.{Stage}
use Rattle.sess_journal.specs.Replay.{Bases, after_reply, always}
use Rattle.sess_journal.proofs.DeskLemmas.{Occurs, basis, same_event, time_of}
use Rattle.sess_journal.proofs.PlayLemmas.{run_now}

-- a run's answer is that of a service which gives its reply whatever it is asked
run_reply : {D V : Type 0} (setting : Setting D) (place : ℕ) (found : Option Job) (serve : Step V) (service : V) (server : Server) (draw : D)
    → (after_run setting place found serve service server draw).0 ≡ (after_run setting place found always (reply_by serve service found) server draw).0
run_reply setting place None serve service server draw = refl
run_reply setting place (Some job) serve service server draw = refl

-- it doesn't look at the moment of the server before
run_blind : {D V : Type 0} (setting : Setting D) (place : ℕ) (found : Option Job) (serve : Step V) (service : V) (server : Server) (n : ℕ) (draw : D)
    → (after_run setting place found serve service (record server { now = n }) draw).0 ≡ (after_run setting place found serve service server draw).0
run_blind setting place None serve service server n draw = refl
run_blind setting place (Some job) serve service server n draw = refl

module _ {K S D : Type 0} {bases : Bases S D} {told : K → Option DiskTold} {entries : List Record} {old : Seen K S D} {server : Server} {moment : ℕ} (stage : Stage bases told entries old server moment) where
  pub tick_occurs : (ring : Keys)
      → ((now : ℕ) (step : D → ℕ × D) (keys other : Keys) (server : Server) (draw : D) → after_tick (setting_of now step keys) server draw ≡ after_tick (setting_of now step other) server draw)
      → ((setting : Setting D) (server : Server) (draw : D) → (words : ℕ) × ((after_tick setting server draw).draw ≡ draw_after setting.step words draw))
      → Occurs stage Tick (after_tick (setting_of (max server.now moment) (basis stage).step ring) server old.draw)
  tick_occurs ring asked drew =
      let own : Keys = keys_of (basis stage).keys in
      let setting : Setting D = setting_of (max server.now moment) (basis stage).step ring in
      record {
        leads = (
          after_tick setting server old.draw,
          asked (max server.now moment) (basis stage).step ring own server old.draw
              ∙ same_event stage (λ at one draw. after_tick (setting_of at (basis stage).step own) one draw) (λ at one n draw. refl),
          refl,
        );
        draws = drew setting server old.draw;
        at = refl;
      }

  pub attach_occurs : (name : Name) (ring : Keys)
      → ((now : ℕ) (step : D → ℕ × D) (keys other : Keys) (name : Name) (server : Server) (draw : D)
      → after_attach (setting_of now step keys) name server draw ≡ after_attach (setting_of now step other) name server draw)
      → ((setting : Setting D) (name : Name) (server : Server) (draw : D) → (words : ℕ) × ((after_attach setting name server draw).draw ≡ draw_after setting.step words draw))
      → Occurs stage (Attach name.key name.session) (after_attach (setting_of (max server.now moment) (basis stage).step ring) name server old.draw)
  attach_occurs name ring asked drew =
      let own : Keys = keys_of (basis stage).keys in
      let setting : Setting D = setting_of (max server.now moment) (basis stage).step ring in
      record {
        leads = (
          after_attach setting name server old.draw,
          asked (max server.now moment) (basis stage).step ring own name server old.draw
              ∙ same_event stage (λ at one draw. after_attach (setting_of at (basis stage).step own) name one draw) (λ at one n draw. refl),
          refl,
        );
        draws = drew setting name server old.draw;
        at = refl;
      }

  pub packet_occurs : (packet : List ℕ) (ring : Keys) (envelope : Sealed) → ring ≡ keys_of (basis stage).keys → Opens (basis stage).lock (basis stage).keys (max server.now moment) Up packet envelope
      → ((setting : Setting D) (envelope : Envelope) (server : Server) (draw : D) → (words : ℕ) × ((after_packet setting envelope server draw).draw ≡ draw_after setting.step words draw))
      → Occurs stage (Packet packet) (after_packet (setting_of (max server.now moment) (basis stage).step ring) (brought_in envelope) server old.draw)
  packet_occurs packet ring envelope same opens drew =
      let own : Keys = keys_of (basis stage).keys in
      let setting : Setting D = setting_of (max server.now moment) (basis stage).step ring in
      record {
        leads = (
          after_packet setting (brought_in envelope) server old.draw,
          (
            envelope,
            subst (λ (n : ℕ). Opens (basis stage).lock (basis stage).keys n Up packet envelope) (sym (time_of stage)) opens,
            ap (λ (k : Keys). after_packet (setting_of (max server.now moment) (basis stage).step k) (brought_in envelope) server old.draw) same
                ∙ same_event stage (λ at one draw. after_packet (setting_of at (basis stage).step own) (brought_in envelope) one draw) (λ at one n draw. refl),
          ),
          refl,
        );
        draws = drew setting (brought_in envelope) server old.draw;
        at = refl;
      }

  pub run_occurs : {V : Type 0} (job : ℕ) (serve : Step V) (service : V) (ring : Keys) → stage.keeps.recorded.reached.begun ≡ Some job
      → ((now : ℕ) (step : D → ℕ × D) (keys other : Keys) (place : ℕ) (serve : Step V) (service : V) (server : Server) (draw : D)
      → after_work (setting_of now step keys) place serve service server draw ≡ after_work (setting_of now step other) place serve service server draw)
      → ((setting : Setting D) (place : ℕ) (serve : Step V) (service : V) (server : Server) (draw : D)
      → (words : ℕ) × ((after_work setting place serve service server draw).0.draw ≡ draw_after setting.step words draw))
      → Occurs stage (Ran (reply_at serve service job server.jobs)) (after_work (setting_of (max server.now moment) (basis stage).step ring) job serve service server old.draw).0
  run_occurs {V} job serve service ring begun asked drew =
      let own : Keys = keys_of (basis stage).keys in
      let setting : Setting D = setting_of (max server.now moment) (basis stage).step ring in
      let found : Option Job = ready_job job server.jobs in
      let reply : List ℕ = reply_by serve service found in
      record {
        leads = (
          (after_work setting job serve service server old.draw).0,
          (
            job,
            begun,
            ap (λ (x : Answer D × V). x.0) (asked (max server.now moment) (basis stage).step ring own job serve service server old.draw)
                ∙ run_reply (setting_of (max server.now moment) (basis stage).step own) job found serve service server old.draw
                ∙ same_event stage (λ at one draw. after_reply (setting_of at (basis stage).step own) job reply one draw)
                (λ at one n draw. run_blind (setting_of at (basis stage).step own) job (ready_job job one.jobs) always reply one n draw),
          ),
          refl,
        );
        draws = drew setting job serve service server old.draw;
        at = run_now setting job found serve service server old.draw;
      }
