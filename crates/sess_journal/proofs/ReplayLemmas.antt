-- Records lead to one server, and files of lawful records are opened.
use Rattle.std.proofs.Common.{◌≡◌, ℕ, Some, List, [], ◌∷◌, ◌++◌, inl, inr, refl, sym, ap, subst, ◌∙◌, append_assoc}
use Rattle.envelope.specs.declared.parts.Dir.TheVariants.{Up}
use Rattle.envelope.specs.declared.parts.Envelope.{Envelope as Sealed}
use Rattle.envelope.specs.Lawful.{OpensWhatItSealed}
use Rattle.msg_ids.specs.Moments.{moment_of}
use Rattle.sess_records.specs.declared.records.Event.{Event}
use Rattle.sess_records.specs.declared.records.Event.TheVariants.{Packet, Tick, Attach, Begin, Ran, Interrupted}
use Rattle.sess_records.specs.declared.records.Record.{Record}
use Rattle.sess_records.specs.Format.{IsFault, Reached as Read, Spells}
use Rattle.server_core.specs.Packets.{brought_in}
use Rattle.server_rules.specs.Answer.{Answer, after_packet}
use Rattle.sess_journal.specs.Files.{IsNoJournalAt}
use Rattle.sess_journal.specs.Replay.{Basis, Happens, LeadsTo, Plays, Reached, Replays, after_interruption, after_reply, at_first, reached_by, setting_at}

module _ {S : Type 0} (basis : Basis S) where
  -- ---- lists

  pub whole : (entries more : List Record) (before between after : Reached) → Replays basis entries before between → Replays basis more between after
      → Replays basis (entries ++ more) before after
  whole [] more before between after is h = subst (λ (b : Reached). Replays basis more b after) is h
  whole (entry ∷ entries) more before between after (next, plays, rest) h = (next, plays, whole entries more next between after rest h)

  pub parts : (entries more : List Record) (before after : Reached) → Replays basis (entries ++ more) before after
      → (between : Reached) × Replays basis entries before between × Replays basis more between after
  parts [] more before after h = (before, refl, h)
  parts (entry ∷ entries) more before after (next, plays, rest) =
      let its = parts entries more next after rest in
      (its.0, (next, plays, its.1), its.2)

  -- ---- one server

  module _ (unseals : OpensWhatItSealed basis.lock) (moment place : ℕ) where
    one_job : (reached : Reached) (job other : ℕ) → reached.begun ≡ Some job → reached.begun ≡ Some other → job ≡ other
    one_job reached job other is too = let e : Some job ≡ Some other = sym is ∙ too in cc

    one_answer : (event : Event (List ℕ)) (before : Reached) (a b : Answer S) → Happens basis moment place event before a → Happens basis moment place event before b → a ≡ b
    one_answer (Packet packet) before a b (envelope, opens, is) (other, opens_too, too) =
        let same : envelope ≡ other = unseals.one_envelope basis.keys (moment_of moment) Up packet envelope other opens opens_too in
        is ∙ ap (λ (e : Sealed). after_packet (setting_at basis moment) (brought_in e) before.server (basis.at place)) same ∙ sym too
    one_answer Tick before a b is too = is ∙ sym too
    one_answer (Attach key session) before a b is too = is ∙ sym too
    one_answer (Begin job) before a b is too = absurd is
    one_answer (Ran reply) before a b (job, at, is) (other, at_too, too) =
        is ∙ ap (λ (j : ℕ). after_reply (setting_at basis moment) j reply before.server (basis.at place)) (one_job before job other at at_too) ∙ sym too
    one_answer Interrupted before a b (job, at, is) (other, at_too, too) =
        is ∙ ap (λ (j : ℕ). after_interruption (setting_at basis moment) j before.server (basis.at place)) (one_job before job other at at_too) ∙ sym too

    by_answers : (event : Event (List ℕ)) (before after other : Reached) (a b : Answer S) → Happens basis moment place event before a → Happens basis moment place event before b
        → after ≡ reached_by basis a → other ≡ reached_by basis b → after ≡ other
    by_answers event before after other a b happens happens_too is too = is ∙ ap (reached_by basis) (one_answer event before a b happens happens_too) ∙ sym too

    one_lead : (event : Event (List ℕ)) (before after other : Reached) → LeadsTo basis moment place event before after → LeadsTo basis moment place event before other → after ≡ other
    one_lead (Packet packet) before after other (a, ha, is) (b, hb, too) = by_answers (Packet packet) before after other a b ha hb is too
    one_lead Tick before after other (a, ha, is) (b, hb, too) = by_answers Tick before after other a b ha hb is too
    one_lead (Attach key session) before after other (a, ha, is) (b, hb, too) = by_answers (Attach key session) before after other a b ha hb is too
    one_lead (Begin job) before after other (below, is) (below_too, too) = is ∙ sym too
    one_lead (Ran reply) before after other (a, ha, is) (b, hb, too) = by_answers (Ran reply) before after other a b ha hb is too
    one_lead Interrupted before after other (a, ha, is) (b, hb, too) = by_answers Interrupted before after other a b ha hb is too

  pub one_server : OpensWhatItSealed basis.lock → (entries : List Record) (before after other : Reached) → Replays basis entries before after → Replays basis entries before other → after ≡ other
  one_server unseals [] before after other is too = is ∙ sym too
  one_server unseals (entry ∷ entries) before after other (next, plays, rest) (step, plays_too, rest_too) =
      let same : next ≡ step = one_lead unseals entry.moment entry.place entry.event before next step plays.leads plays_too.leads in
      one_server unseals entries step after other (subst (λ (b : Reached). Replays basis entries b after) same rest) rest_too

-- ---- files

-- a file spells one list, of which what was read is the front, and isn't refused
pub record OneList : Type 0 where
  pub front : (seed other : List ℕ) (entries others : List Record) (gate at : ℕ) (file : List ℕ) → Read seed entries gate at file → Spells other others file
      → (seed ≡ other) × ((more : List Record) × (others ≡ entries ++ more))
  pub no_fault : (seed : List ℕ) (entries : List Record) (at : ℕ) (file : List ℕ) → Spells seed entries file → IsFault at file → ⊥

module _ {S : Type 0} (law : OneList) (by_seed : List ℕ → Basis S) (seed : List ℕ) (unseals : OpensWhatItSealed (by_seed seed).lock) where
  lawful_there : (entries : List Record) (reached : Reached) (found : List Record) (come : Reached) (entry : Record) (more : List Record)
      → Replays (by_seed seed) entries at_first reached → Replays (by_seed seed) found at_first come → entries ≡ (found ++ entry ∷ []) ++ more
      → (after : Reached) × Plays (by_seed seed) entry come after
  lawful_there entries reached found come entry more replays played is =
      let all : Replays (by_seed seed) (found ++ (entry ∷ [] ++ more)) at_first reached =
      subst (λ (l : List Record). Replays (by_seed seed) l at_first reached) (is ∙ append_assoc found (entry ∷ []) more) replays in
      let split = parts (by_seed seed) found (entry ∷ [] ++ more) at_first reached all in
      let same : split.0 ≡ come = one_server (by_seed seed) unseals found at_first split.0 come split.1 played in
      let next = split.2 in
      (next.0, subst (λ (b : Reached). Plays (by_seed seed) entry b next.0) same next.1)

  pub opened : (entries : List Record) (reached : Reached) (file : List ℕ) (at : ℕ) → Spells seed entries file → Replays (by_seed seed) entries at_first reached
      → IsNoJournalAt by_seed at file → ⊥
  opened entries reached file at spells replays (inl none) = law.no_fault seed entries at file spells (inl none)
  opened entries reached file at spells replays (inr stops) =
      elim (stops.stops) [
        | inl fault ↦ law.no_fault seed entries at file spells fault
        | inr bad ↦
            let there = law.front stops.seed seed (stops.entries ++ bad.0 ∷ []) entries bad.1 bad.2 file bad.3 spells in
            let played : Replays (by_seed seed) stops.entries at_first stops.reached =
            subst (λ (s : List ℕ). Replays (by_seed s) stops.entries at_first stops.reached) there.0 stops.replays in
            let lawful = lawful_there entries reached stops.entries stops.reached bad.0 there.1.0 replays played there.1.1 in
            bad.4 (lawful.0, subst (λ (s : List ℕ). Plays (by_seed s) bad.0 stops.reached lawful.0) (sym there.0) lawful.1)
      ]
