-- An event that is played leaves what its record leads to.
use Rattle.std.proofs.Common.{◌≡◌, ◌≤◌, ◌<◌, ◌+◌, ◌%◌, ◌^◌, ℕ, Option, None, Some, List, Result, Ok, Err, IfErr, OnOk, max, sym, ap, subst, refl, ◌∙◌, arith}
use Rattle.auth_keys.specs.declared.ring.RingKey.{RingKey}
use Rattle.draws.specs.Draws.{draw_after}
use Rattle.envelope.specs.declared.parts.Dir.TheVariants.{Up}
use Rattle.envelope.specs.declared.parts.Envelope.{Envelope as Sealed}
use Rattle.envelope.specs.declared.refusal.Refusal.{Refusal}
use Rattle.envelope.specs.Lawful.{OpensWhatItSealed}
use Rattle.envelope.specs.Opening.{Opens}
use Rattle.envelope.specs.Packet.{Lock}
use Rattle.msg_ids.specs.Moments.{latest_moment, moment_of}
use Rattle.sess_records.specs.declared.records.Event.{Event}
use Rattle.sess_records.specs.declared.records.Event.TheVariants.{Interrupted, Ran}
use Rattle.sess_records.specs.declared.records.Record.{Record}
use Rattle.server_core.specs.declared.desk.Heard.{Heard}
use Rattle.server_core.specs.declared.desk.Heard.TheVariants.{NotOpened}
use Rattle.server_core.specs.Packets.{IsHeardOf}
use Rattle.server_core.specs.declared.effects.Effects.{Effects}
use Rattle.server_core.specs.Desks.{Does}
use Rattle.server_core.specs.Server.{StandsFor}
use Rattle.regs_service.specs.Served.{Step}
use Rattle.server_rules.specs.Answer.{Answer, after_run}
use Rattle.server_rules.specs.Event.{Setting}
use Rattle.server_rules.specs.Server.{Server}
use Rattle.waits.specs.declared.job.Job.{Job}
use Rattle.waits.specs.Jobs.{ready_job}
use Rattle.sess_journal.specs.Staging.{Goes, Places}
use Rattle.sess_journal.specs.Playing.{Leads, Player, StandsAt, basis_for}
use Rattle.sess_journal.specs.Replay.{Bases, Basis, IsLawful, LeadsTo, Plays, Reached, after_interruption, after_reply, always, reached_by, run_interrupted, setting_at}

-- a draw some words later stands at its own place
pub record IsSeeded {D : Type 0} (basis : Basis D) (draw : D) : Type 0 where
  pub place : basis.place_of draw < 2 ^ 64
  pub drawn : draw ≡ basis.at (basis.place_of draw)

pub seeded : {D : Type 0} → (basis : Basis D) → Goes basis → Places basis → (place : ℕ) (draw : D) (words : ℕ) → place < 2 ^ 64
    → draw ≡ draw_after basis.step words (basis.at place) → IsSeeded basis draw
seeded basis goes places place draw words below is =
    let there = (place + words) % 2 ^ 64 in
    let within : there < 2 ^ 64 = omega arith in
    let at : draw ≡ basis.at there = is ∙ goes place words below in
    let its : basis.place_of draw ≡ there = ap basis.place_of at ∙ places there within in
    record { place = subst (λ (n : ℕ). n < 2 ^ 64) (sym its) within; drawn = at ∙ sym (ap basis.at its) }

pub later_moment : (before now : ℕ) → before ≤ now → before ≤ latest_moment → max before (moment_of now) ≡ moment_of now
later_moment before now le early = omega (arith, le, early)

pub event_moment : (old reached now moment : ℕ) → old ≡ reached → reached ≤ now → reached ≤ latest_moment → moment ≡ moment_of now → max old moment ≡ moment_of now
event_moment old reached now moment same le early is = ap (λ (n : ℕ). max n moment) same ∙ ap (max reached) is ∙ later_moment reached now le early

-- ---- what comes of an event

pub on_ok : {A E P Q : Type 0} → (r : Result A E) → (P → Q) → OnOk r P → OnOk r Q
on_ok (Ok value) f h = f h
on_ok (Err fault) f h = tt

-- a packet that is refused opens to nothing
pub refused_only : (lock : Lock) (keys : List RingKey) (now : ℕ) (packet : List ℕ) (heard : Heard) (refusal : Refusal) → OpensWhatItSealed lock → heard ≡ NotOpened refusal
    → IsHeardOf lock keys now packet heard → (envelope : Sealed) → Opens lock keys now Up packet envelope → ⊥
refused_only lock keys now packet heard refusal unseals is h envelope opens =
    unseals.not_both keys now Up packet envelope refusal opens (subst (λ (one : Heard). IsHeardOf lock keys now packet one) is h)

pub run_now : {D V : Type 0} → (setting : Setting D) (place : ℕ) (found : Option Job) (serve : Step V) (service : V) (server : Server) (draw : D)
    → (after_run setting place found serve service server draw).0.server.now ≡ setting.now
run_now setting place None serve service server draw = refl
run_now setting place (Some job) serve service server draw = refl

pub reply_now : {D : Type 0} → (setting : Setting D) (job : ℕ) (reply : List ℕ) (server : Server) (draw : D) → (after_reply setting job reply server draw).server.now ≡ setting.now
reply_now setting job reply server draw = run_now setting job (ready_job job server.jobs) always reply server draw

-- a run that ended so
abbrev pub Ended : {S D : Type 0} → Bases S D → Reached → ℕ → ℕ → List ℕ → Player S D → Type 0
Ended bases reached moment place reply player =
    (job : ℕ) × (reached.begun ≡ Some job)
    × StandsAt bases (reached_by (basis_for bases player) (after_reply (setting_at (basis_for bases player) moment) job reply reached.server ((basis_for bases player).at place))) player

pub ran_leads : {S D : Type 0} → (bases : Bases S D) (player : Player S D) (reached : Reached) (moment place : ℕ) (recorded reply : List ℕ) → recorded ≡ reply
    → Ended bases reached moment place recorded player → Leads bases moment place (Ran reply) reached player
ran_leads bases player reached moment place recorded reply is (job, begun, stands) =
    let basis = basis_for bases player in
    let answer = after_reply (setting_at basis moment) job reply reached.server (basis.at place) in (
      reached_by basis answer,
      (answer, (job, begun, refl), refl),
      subst (λ (r : List ℕ). StandsAt bases (reached_by basis (after_reply (setting_at basis moment) job r reached.server (basis.at place))) player) is stands,
    )

pub cut_leads : {S D : Type 0} → (bases : Bases S D) (player : Player S D) (reached : Reached) (moment place : ℕ) (recorded : List ℕ) → recorded ≡ run_interrupted
    → Ended bases reached moment place recorded player → Leads bases moment place Interrupted reached player
cut_leads bases player reached moment place recorded is (job, begun, stands) =
    let basis = basis_for bases player in
    let answer = after_interruption (setting_at basis moment) job reached.server (basis.at place) in (
      reached_by basis answer,
      (answer, (job, begun, refl), refl),
      subst (λ (r : List ℕ). StandsAt bases (reached_by basis (after_reply (setting_at basis moment) job r reached.server (basis.at place))) player) is stands,
    )

-- ---- a record of an event

pub plays_of : {S D : Type 0} → (bases : Bases S D) (old new : Player S D) (entry : Record) (event : Event (List ℕ)) (reached : Reached)
    → new.server.seal ≡ old.server.seal → new.seed ≡ old.seed → entry.event ≡ event → reached.server.now ≤ entry.moment → reached.place ≤ entry.place
    → Leads bases entry.moment entry.place event reached new → (after : Reached) × Plays (basis_for bases old) entry reached after × StandsAt bases after new
plays_of {S} {D} bases old new entry event reached seal seed is moment place (after, leads, stands) =
    let sealed : LeadsTo (bases old.server.seal new.seed) entry.moment entry.place event reached after =
    subst (λ (s : S). LeadsTo (bases s new.seed) entry.moment entry.place event reached after) seal leads in
    let seeded_so : LeadsTo (basis_for bases old) entry.moment entry.place event reached after =
    subst (λ (s : List ℕ). LeadsTo (bases old.server.seal s) entry.moment entry.place event reached after) seed sealed in (
      after,
      record {
        moment = moment;
        place = place;
        leads = subst (λ (e : Event (List ℕ)). LeadsTo (basis_for bases old) entry.moment entry.place e reached after) (sym is) seeded_so;
      },
      stands,
    )

pub plays_none : {D : Type 0} → (basis : Basis D) (entry : Record) (event : Event (List ℕ)) (reached : Reached) → entry.event ≡ event
    → ((after : Reached) → LeadsTo basis entry.moment entry.place event reached after → ⊥) → IsLawful basis entry reached → ⊥
plays_none basis entry event reached is none (after, plays) =
    none after (subst (λ (e : Event (List ℕ)). LeadsTo basis entry.moment entry.place e reached after) is plays.leads)

-- neither the moment nor the place is below what was reached
pub not_below : {S D : Type 0} → (bases : Bases S D) (player : Player S D) (reached : Reached) (moment place seconds at : ℕ) → Places (basis_for bases player) → StandsAt bases reached player
    → seconds ≡ player.latest → at ≡ (basis_for bases player).place_of player.draw → seconds ≤ moment → at ≤ place → (reached.server.now ≤ moment) × (reached.place ≤ place)
not_below bases player reached moment place seconds at places stands is_latest is_place not_early not_low =
    let basis = basis_for bases player in
    let where_it_is : at ≡ reached.place = is_place ∙ ap basis.place_of stands.drawn ∙ places reached.place stands.place in
    let when : seconds ≡ reached.server.now = is_latest ∙ stands.latest_is in
    (omega (arith, when, not_early), omega (arith, where_it_is, not_low))

pub on_err : {A E : Type 0} {P Q : E → Type 0} → (r : Result A E) → ((fault : E) → P fault → Q fault) → IfErr r P → IfErr r Q
on_err (Ok value) f h = tt
on_err (Err fault) f h = f fault h

pub event_stands : {S D : Type 0} → (bases : Bases S D) (player : Player S D) (answer : ℕ → D → Answer D) (lock : Lock) (keys : List RingKey) (effects : Effects)
    (old reached now place moment : ℕ) (draw : D)
    → Goes (basis_for bases player) → Places (basis_for bases player) → place < 2 ^ 64 → old ≡ reached → reached ≤ now → reached ≤ latest_moment
    → ((at : ℕ) → (words : ℕ) × ((answer at ((basis_for bases player).at place)).draw ≡ draw_after (basis_for bases player).step words ((basis_for bases player).at place)))
    → ((at : ℕ) → (answer at ((basis_for bases player).at place)).server.now ≡ at)
    → moment ≡ moment_of now → draw ≡ (basis_for bases player).at place
    → Does (StandsFor player.server) lock keys player.draw effects (answer (max old moment) draw)
    → player.latest ≡ moment → player.begun ≡ None
    → StandsAt bases (reached_by (basis_for bases player) (answer (moment_of now) ((basis_for bases player).at place))) player
event_stands {S} {D} bases player answer lock keys effects old reached now place moment draw goes places below same le early words its is_moment is_draw gives latest begun =
    let basis : Basis D = basis_for bases player in
    let at : max old moment ≡ moment_of now = ap (λ (n : ℕ). max n moment) same ∙ ap (max reached) is_moment ∙ later_moment reached now le early in
    let timed : Does (StandsFor player.server) lock keys player.draw effects (answer (moment_of now) draw) =
    subst (λ (n : ℕ). Does (StandsFor player.server) lock keys player.draw effects (answer n draw)) at gives in
    let given : Does (StandsFor player.server) lock keys player.draw effects (answer (moment_of now) (basis.at place)) =
    subst (λ (d : D). Does (StandsFor player.server) lock keys player.draw effects (answer (moment_of now) d)) is_draw timed in
    let drew = words (moment_of now) in
    let seed : IsSeeded basis (answer (moment_of now) (basis.at place)).draw = seeded basis goes places place (answer (moment_of now) (basis.at place)).draw drew.0 below drew.1 in
    record {
      stands = given.stands;
      latest_is = latest ∙ is_moment ∙ sym (its (moment_of now));
      begun_is = begun;
      place = seed.place;
      drawn = given.drawn ∙ seed.drawn;
    }
