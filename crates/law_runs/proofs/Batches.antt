-- What a batch makes of its client is what its deeds make of it: the parts of a connection.
use Rattle.std.proofs.Common.{◌≡◌, ◌∙◌, ℕ, ◌≤◌, if◌then◌else◌, not, Bool, true, false, Option, List, [], ◌∷◌, ◌++◌, refl, sym, ap, subst, inl, inr}
use Rattle.std.specs.Prelude.{max}
use Rattle.std.specs.List.{AllByRecursion}
use Rattle.std.proofs.Math.Nat.{min-eq_left}
use Rattle.std.proofs.lemmas.Bool.{cases_Bool}
use Rattle.std.proofs.lemmas.List.Sums.{fold-append}
use Rattle.auth_keys.specs.declared.ring.RingKey.{RingKey}
use Rattle.msg_ids.specs.Moments.{latest_moment, moment_of}
use Rattle.draws.specs.Draws.{word_after}
use Rattle.envelope.specs.declared.parts.Dir.TheVariants.{Down}
use Rattle.envelope.specs.declared.parts.Envelope.{Envelope}
use Rattle.client_core.specs.Keys.{Keys}
use Rattle.client_rules.specs.Asking.{attached}
use Rattle.client_rules.specs.Client.{Client, is_open}
use Rattle.client_rules.specs.Events.{Run, flushed, renewed, takes}
use Rattle.client_rules.specs.Flush.{Flushed, flush}
use Rattle.client_node.specs.Course.{Course, Phase, Ended, Open, Opening, attached_in, attaches, flush_of, flushed_in, flushes, heard_in, hears, is_decided, must_renew, opened_at, phase_after, renews, renews_if, renews_unless, sends_all, takes_packet}
use Rattle.client_node.specs.Flow.{flowed}
use Rattle.client_node.specs.Talks.{Rules}
use Rattle.client_node.specs.Took.{NoneDecides, decides, takes_all}
use Rattle.world_rules.specs.Setting.{Setting, at_client}
use Rattle.cmd_serve.specs.Runs.{Registers}
use Rattle.law_connections.specs.Joint.{Deed, Attaches, Flushes, Hears}
use Rattle.law_runs.specs.Deeds.{flushes_of, heard_deeds, last_flush, packet_deeds, renew_deeds, renewal, renewal_unless}
use Rattle.law_runs.specs.Joining.{IsTimely, Shares, client_rules_under, setting_under}
use Rattle.law_runs.proofs.Living.{EndsDecided, KeepsOn, attached_alike, ended_as, flush_alike, renewed_alike, sign_as, sign_of, takes_so}
use Rattle.law_runs.proofs.Owns.{done, done_all}
use Rattle.law_runs.proofs.Rings.{flushed_same, heard_same, sign_under}

-- ---- a course that goes on

abbrev pub IsOn : Phase → Type 0
IsOn Opening = Unit {0}
IsOn Open = Unit {0}
IsOn Ended = ⊥

-- its client has these keys, and hasn't ended
pub record Lives {S : Type 0} (keys : Keys) (course : Course S) : Type 0 where
  pub phase : IsOn course.phase
  pub client : course.client.has_ended ≡ false
  pub sign : sign_of course.client ≡ sign_under keys

abbrev pub as_run : {S : Type 0} → Course S → Run S
as_run course = record { client = course.client; draw = course.draw }

abbrev pub AreTimely : List Deed → Type 0
AreTimely deeds = AllByRecursion IsTimely deeds

pub timely-front : (deeds others : List Deed) → AreTimely (deeds ++ others) → AreTimely deeds
timely-front [] others all = tt
timely-front (deed ∷ deeds) others all = (all.0, timely-front deeds others all.1)

pub timely-back : (deeds others : List Deed) → AreTimely (deeds ++ others) → AreTimely others
timely-back [] others all = all
timely-back (deed ∷ deeds) others all = timely-back deeds others all.1

moment-is : (now : ℕ) → now ≤ latest_moment → moment_of now ≡ now
moment-is now below = min-eq_left below

module _ {D : Type 0} (step : D → ℕ × D) (ring own : List RingKey) (keys : Keys) (shares : Shares ring own keys) where
  abbrev pub setting : Setting D Registers
  setting = setting_under step ring

  abbrev pub rules : Rules D
  rules = client_rules_under step own

  -- these deeds make the one course of the other
  abbrev pub Tied : Course D → List Deed → Course D → Type 0
  Tied before deeds after = as_run after ≡ done_all setting (as_run before) deeds

  pub tied-then : (before between after : Course D) (deeds more : List Deed) → Tied before deeds between → Tied between more after → Tied before (deeds ++ more) after
  tied-then before between after deeds more one two =
      two ∙ (ap (λ (r : Run D). done_all setting r more) one ∙ sym (fold-append (done setting) (as_run before) deeds more))

  -- ---- flushes

  flush-by : (phase : Phase) (now : ℕ) (client : Client) (draw : D) → IsOn phase → flushed_in phase rules.setting now client draw ≡ flush rules.setting now client draw
  flush-by Opening now client draw on = refl
  flush-by Open now client draw on = refl
  flush-by Ended now client draw on = absurd on

  pub flush-tied : (now : ℕ) (course : Course D) → now ≤ latest_moment → Lives keys course → Tied course (Flushes now ∷ []) (flushes rules.setting now course) × Lives keys (flushes rules.setting now course)
  flush-tied now course below lives =
      let is : flush_of rules.setting now course ≡ flush rules.setting now course.client course.draw = flush-by course.phase now course.client course.draw lives.phase in
      let alike = flush_alike rules.setting course.client now course.draw in (
        ap (λ (f : Flushed D). flushed f) (is ∙ flushed_same ring own keys shares course.client lives.sign step now course.draw)
            ∙ ap (λ (n : ℕ). flushed (flush (at_client setting) n course.client course.draw)) (sym (moment-is now below)),
        record {
          phase = lives.phase;
          client = ap (λ (f : Flushed D). f.client.has_ended) is ∙ (ended_as course.client (flush rules.setting now course.client course.draw).client alike ∙ lives.client);
          sign = ap (λ (f : Flushed D). sign_of f.client) is ∙ (sign_as course.client (flush rules.setting now course.client course.draw).client alike ∙ lives.sign);
        },
      )

  sends-tied : (now : ℕ) (packets : List (List ℕ)) (course : Course D) → AreTimely (flushes_of now packets) → Lives keys course
      → Tied course (flushes_of now packets) (sends_all rules.setting now course packets) × Lives keys (sends_all rules.setting now course packets)
  sends-tied now [] course timely lives = (refl, lives)
  sends-tied now (packet ∷ packets) course timely lives =
      let one = flush-tied now course timely.0 lives in
      let rest = sends-tied now packets (flushes rules.setting now course) timely.1 one.1 in
      (tied-then course (flushes rules.setting now course) (sends_all rules.setting now (flushes rules.setting now course) packets) (Flushes now ∷ []) (flushes_of now packets) one.0 rest.0, rest.1)

  pub said-tied : (now : ℕ) (packets : List (List ℕ)) (is_done : Bool) (course : Course D) → AreTimely (flushes_of now packets ++ last_flush now is_done) → Lives keys course
      → Tied course (flushes_of now packets ++ last_flush now is_done) (flowed rules.setting now course packets is_done) × Lives keys (flowed rules.setting now course packets is_done)
  said-tied now packets false course timely lives =
      let all = sends-tied now packets course (timely-front (flushes_of now packets) [] timely) lives in
      (tied-then course (sends_all rules.setting now course packets) (sends_all rules.setting now course packets) (flushes_of now packets) [] all.0 refl, all.1)
  said-tied now packets true course timely lives =
      let all = sends-tied now packets course (timely-front (flushes_of now packets) (Flushes now ∷ []) timely) lives in
      let between = sends_all rules.setting now course packets in
      let one = flush-tied now between (timely-back (flushes_of now packets) (Flushes now ∷ []) timely).0 all.1 in
      (tied-then course between (flushes rules.setting now between) (flushes_of now packets) (Flushes now ∷ []) all.0 one.0, one.1)

  -- ---- renewals, and an attach

  renewed-by : (must : Bool) (course : Course D) → Tied course (renewal must) (renews_if must step course)
  renewed-by true course = refl
  renewed-by false course = refl

  renewed-lives : (must : Bool) (course : Course D) → Lives keys course → Lives keys (renews_if must step course)
  renewed-lives true course lives =
      let alike = renewed_alike (word_after step 0 course.draw) course.client in
      record { phase = tt; client = lives.client; sign = sign_as course.client (renewed (word_after step 0 course.draw) course.client) alike ∙ lives.sign }
  renewed-lives false course lives = lives

  pub renew-tied : (course : Course D) → Tied course (renew_deeds course) (renews step course)
  renew-tied course = renewed-by (must_renew course.phase course.client) course

  pub renew-lives : (course : Course D) → Lives keys course → Lives keys (renews step course)
  renew-lives course lives = renewed-lives (must_renew course.phase course.client) course lives

  attach-by : (phase : Phase) (client : Client) → IsOn phase → attached_in phase client ≡ attached client
  attach-by Opening client on = refl
  attach-by Open client on = refl
  attach-by Ended client on = absurd on

  pub attach-tied : (course : Course D) → Lives keys course → Tied course (Attaches ∷ []) (attaches course) × Lives keys (attaches course)
  attach-tied course lives =
      let is = attach-by course.phase course.client lives.phase in (
        ap (λ (c : Client). record { client = c; draw = course.draw }) is,
        record {
          phase = lives.phase;
          client = ap (λ (c : Client). c.has_ended) is ∙ lives.client;
          sign = ap (λ (c : Client). sign_of c) is ∙ (sign_as course.client (attached course.client) (attached_alike course.client) ∙ lives.sign);
        },
      )

  -- ---- packets

  hear-by : (phase : Phase) (now : ℕ) (opened : Option Envelope) (client : Client) → IsOn phase → heard_in phase now opened client ≡ takes now opened client
  hear-by Opening now opened client on = refl
  hear-by Open now opened client on = refl
  hear-by Ended now opened client on = absurd on

  phase-on : (phase : Phase) (client : Client) → IsOn phase → client.has_ended ≡ false → IsOn (phase_after phase client)
  phase-on Opening client on lives =
      elim (cases_Bool (is_open client)) [
        | inl is ↦ subst (λ (b : Bool). IsOn (if b then Open else Opening)) (sym is) tt
        | inr none ↦ subst (λ (b : Bool). IsOn (if b then Open else Opening)) (sym none) tt
      ]
  phase-on Open client on lives = subst (λ (b : Bool). IsOn (if b then Ended else Open)) (sym lives) tt
  phase-on Ended client on lives = absurd on

  undecided-lives : (client : Client) → EndsDecided client → is_decided client ≡ false → client.has_ended ≡ false
  undecided-lives client (inl lives) none = lives
  undecided-lives client (inr decided) none = absurd (both (ap not decided) none) where
    both : {b : Bool} → b ≡ true → b ≡ false → ⊥
    both one other = let e : true ≡ false = sym one ∙ other in absurd (cc)

  pub hear-tied : (now : ℕ) (course : Course D) (packet : List ℕ) → now ≤ latest_moment → Lives keys course → Tied course (Hears now packet ∷ []) (hears rules.reading now course packet)
  hear-tied now course packet below lives =
      let opened = opened_at rules.reading now course.client packet in
      let is : heard_in course.phase now opened course.client ≡ takes now opened course.client = hear-by course.phase now opened course.client lives.phase in
      let moment = moment-is now below in
      let there : takes now opened course.client ≡ takes (moment_of now) (setting.opens (max course.client.now (moment_of now)) Down packet) course.client =
      heard_same ring own keys shares course.client lives.sign now (max course.client.now now) packet
      ∙ ap (λ (n : ℕ). takes n (setting.opens (max course.client.now n) Down packet) course.client) (sym moment) in
      ap (λ (c : Client). record { client = c; draw = course.draw })
      (is ∙ (there ∙ ap (λ (b : Bool). if b then course.client else takes (moment_of now) (setting.opens (max course.client.now (moment_of now)) Down packet) course.client) (sym lives.client)))

  pub hear-lives : (now : ℕ) (course : Course D) (packet : List ℕ) → Lives keys course → decides rules.reading now course packet ≡ false → Lives keys (hears rules.reading now course packet)
  hear-lives now course packet lives none =
      let opened = opened_at rules.reading now course.client packet in
      let is : heard_in course.phase now opened course.client ≡ takes now opened course.client = hear-by course.phase now opened course.client lives.phase in
      let ends : KeepsOn course.client (heard_in course.phase now opened course.client) = subst (λ (c : Client). KeepsOn course.client c) (sym is) (takes_so now opened course.client lives.client) in
      let on = undecided-lives (heard_in course.phase now opened course.client) ends.0 none in
      record { phase = phase-on course.phase (heard_in course.phase now opened course.client) lives.phase on; client = on; sign = ends.1 ∙ lives.sign }

  behind-by : (is : Bool) (after : Course D) → Tied after (renewal_unless is after) (renews_unless is step after)
  behind-by true after = refl
  behind-by false after = renew-tied after

  pub packet-tied : (now : ℕ) (course : Course D) (packet : List ℕ) → AreTimely (packet_deeds rules.reading now course packet) → Lives keys course
      → Tied course (packet_deeds rules.reading now course packet) (takes_packet step rules.reading now course packet)
  packet-tied now course packet timely lives =
      let after = hears rules.reading now course packet in
      tied-then course after (renews_unless (is_decided after.client) step after) (Hears now packet ∷ []) (renewal_unless (is_decided after.client) after)
      (hear-tied now course packet timely.0 lives) (behind-by (is_decided after.client) after)

  packet-lives : (now : ℕ) (course : Course D) (packet : List ℕ) → Lives keys course → decides rules.reading now course packet ≡ false
      → Lives keys (takes_packet step rules.reading now course packet)
  packet-lives now course packet lives none =
      let after = hears rules.reading now course packet in
      subst (λ (b : Bool). Lives keys (renews_unless b step after)) (sym none) (renew-lives after (hear-lives now course packet lives none))

  pub heard-tied : (now : ℕ) (packets : List (List ℕ)) (course : Course D) → AreTimely (heard_deeds step rules.reading now course packets) → Lives keys course
      → NoneDecides step rules.reading now course packets
      → Tied course (heard_deeds step rules.reading now course packets) (takes_all step rules.reading now course packets) × Lives keys (takes_all step rules.reading now course packets)
  heard-tied now [] course timely lives none = (refl, lives)
  heard-tied now (packet ∷ packets) course timely lives none =
      let own = packet_deeds rules.reading now course packet in
      let between = takes_packet step rules.reading now course packet in
      let more = heard_deeds step rules.reading now between packets in
      let one = packet-tied now course packet (timely-front own more timely) lives in
      let rest = heard-tied now packets between (timely-back own more timely) (packet-lives now course packet lives none.0) none.1 in
      (tied-then course between (takes_all step rules.reading now between packets) own more one rest.0, rest.1)

  -- the last one may decide each call
  pub last-tied : (now : ℕ) (front : List (List ℕ)) (last : List ℕ) (course : Course D) → AreTimely (heard_deeds step rules.reading now course (front ++ last ∷ [])) → Lives keys course
      → NoneDecides step rules.reading now course front
      → Tied course (heard_deeds step rules.reading now course (front ++ last ∷ [])) (takes_all step rules.reading now course (front ++ last ∷ []))
  last-tied now [] last course timely lives none =
      let own = packet_deeds rules.reading now course last in
      let after = takes_packet step rules.reading now course last in
      tied-then course after after own [] (packet-tied now course last (timely-front own [] timely) lives) refl
  last-tied now (packet ∷ front) last course timely lives none =
      let own = packet_deeds rules.reading now course packet in
      let between = takes_packet step rules.reading now course packet in
      let more = heard_deeds step rules.reading now between (front ++ last ∷ []) in
      tied-then course between (takes_all step rules.reading now between (front ++ last ∷ [])) own more (packet-tied now course packet (timely-front own more timely) lives)
      (last-tied now front last between (timely-back own more timely) (packet-lives now course packet lives none.0) none.1)
