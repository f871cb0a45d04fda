-- The runs behind a tick come to an end: each leaves fewer jobs.
use Rattle.std.proofs.Common.{◌≡◌, ◌∙◌, ◌<◌, ◌≤◌, ◌+◌, ℕ, None, List, [], ◌∷◌, length, ap, sym, subst, refl, arith}
use Rattle.auth_keys.specs.declared.ring.RingKey.{RingKey}
use Rattle.envelope.specs.Packet.{Lock}
use Rattle.regs_service.specs.Served.{Step}
use Rattle.server_rules.specs.Answer.{after_work}
use Rattle.server_rules.specs.Event.{Setting}
use Rattle.server_rules.specs.Server.{Server}
use Rattle.waits.specs.Jobs.{Queue, ready_count}
use Rattle.server_node.specs.Doing.{Did, Side, Stands, Worked}
use Rattle.server_node.specs.Trace.{Act, IsOutside, Outside, Rules, Run, Talk, Tick, after_act, after_acts, moment_at, rules_of, setting_at, work_acts}
use Rattle.server_node.proofs.Doings.{acts_both, runs_more}
use Rattle.server_node.proofs.Pieces.{done_stands}

-- a run leaves fewer jobs, where a ready one has its place
abbrev pub LeavesFewer : (S V : Type 0) → Type 0
LeavesFewer S V =
    (setting : Setting S) (place : ℕ) (serve : Step V) (service : V) (server : Server) (draw : S) → place < ready_count server.jobs
    → length (after_work setting place serve service server draw).0.server.jobs < length server.jobs

-- the servers that a side stands for have so many unfinished jobs, and so many ready ones
abbrev pub HasJobs : {S V : Type 0} → (Queue → ℕ) → Side S V → ℕ → Type 0
HasJobs count side jobs = (server : Server) → side.desk server → jobs ≡ count server.jobs

none_ready : (jobs : Queue) → length jobs ≡ 0 → ready_count jobs ≡ 0
none_ready [] none = refl
none_ready (one ∷ jobs) none = absurd (omega (arith, none))

one_more : {S V : Type 0} (rules : Rules S V) (now count : ℕ) (talk : Talk S V)
    → after_acts rules talk (work_acts now (count + 1)) ≡ after_act rules (after_acts rules talk (work_acts now count)) (Run now)
one_more rules now count talk =
    ap (λ (acts : List Act). after_acts rules talk acts) (sym (ap (λ (acts : List Act). Tick now ∷ acts) (runs_more now count)))
    ∙ acts_both rules talk (work_acts now count) (Run now ∷ [])

module _ {S V : Type 0} (step : S → ℕ × S) (serve : Step V) (lock : Lock) (ring : List RingKey) (side later : Side S V) (now : ℕ) where
  -- behind a tick and so many runs there are so many jobs fewer than there were at most
  abbrev pub AreFewer : ℕ → ℕ → Type 0
  AreFewer count most = (outside : Outside) (talk : Talk S V) → IsOutside lock ring outside → Stands side talk
      → length (after_acts (rules_of step serve outside) talk (work_acts now count)).server.jobs + count ≤ most

  pub few_begin : (most : ℕ) → Did step serve lock ring side (λ rules talk. Tick now ∷ []) None later → HasJobs length later most → AreFewer 0 most
  few_begin most did has = λ outside talk is stands.
      let there = done_stands step serve lock ring side later (λ rules talk. Tick now ∷ []) outside talk is stands did in
      let same = has (after_acts (rules_of step serve outside) talk (Tick now ∷ [])).server there.serves.server in
      omega (arith, same)

  pub few_more : (count most ready : ℕ) → LeavesFewer S V → Did step serve lock ring side (λ rules talk. work_acts now count) None later
      → HasJobs ready_count later ready → 0 < ready → AreFewer count most → AreFewer (count + 1) most
  few_more count most ready fewer did has some few = λ outside talk is stands.
      let rules : Rules S V = rules_of step serve outside in
      let before : Talk S V = after_acts rules talk (work_acts now count) in
      let there = done_stands step serve lock ring side later (λ rules talk. work_acts now count) outside talk is stands did in
      let same = has before.server there.serves.server in
      let so_far = few outside talk is stands in
      let one = fewer (setting_at rules (moment_at before now)) 0 serve before.service before.server before.draw (subst (λ (n : ℕ). 0 < n) same some) in
      let less : length (after_act rules before (Run now)).server.jobs < length before.server.jobs = one in
      subst (λ (then : Talk S V). length then.server.jobs + (count + 1) ≤ most) (sym (one_more rules now count talk)) (omega (arith, so_far, less))

  -- no job is ready any more
  pub idle_none : (count ready : ℕ) → Did step serve lock ring side (λ rules talk. work_acts now count) None later → HasJobs ready_count later ready → ready ≡ 0
      → Worked step serve lock ring side now None later
  idle_none count ready did has none = record {
    count = count;
    did = did;
    idle = λ outside talk is stands.
        let there = done_stands step serve lock ring side later (λ rules talk. work_acts now count) outside talk is stands did in
        sym (has (after_acts (rules_of step serve outside) talk (work_acts now count)).server there.serves.server) ∙ none;
  }

  -- as many ran as there were jobs, so none is left
  pub idle_most : (count most : ℕ) → Did step serve lock ring side (λ rules talk. work_acts now count) None later → AreFewer count most → count ≡ most
      → Worked step serve lock ring side now None later
  idle_most count most did few all = record {
    count = count;
    did = did;
    idle = λ outside talk is stands.
        let so_far = few outside talk is stands in
        none_ready (after_acts (rules_of step serve outside) talk (work_acts now count)).server.jobs (omega (arith, so_far, all));
  }
