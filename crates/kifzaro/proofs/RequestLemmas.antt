-- The reply to a request is its run.
use Rattle.std.proofs.Common.{◌≡◌, ℕ, Option, Some, None, List, ap, sym, ◌∙◌}
use Rattle.std.specs.Prelude.{is_some, option_map, unwrap_or}
use Rattle.std.proofs.lemmas.Bool.{true≢false}
use Rattle.regs_service.specs.Served.{Step}
use Rattle.server_rules.specs.Answer.{after_run, begun, ended, runs}
use Rattle.server_rules.specs.Event.{Setting}
use Rattle.server_rules.specs.Server.{Server}
use Rattle.waits.specs.declared.job.Job.{Job}
use Rattle.kifzaro.specs.Servers.{giving}

-- the request of the job that was found
abbrev Asks : Option Job → List ℕ → Type 0
Asks found request = option_map (λ job. job.request) found ≡ Some request

found_one : (job : Job) (request : List ℕ) → Asks (Some job) request → job.request ≡ request
found_one job request is = ap (λ (one : Option (List ℕ)). unwrap_or one request) is

pub given_runs : {D V : Type 0} (setting : Setting D) (found : Option Job) (request reply : List ℕ) (serve : Step V) (service : V) (server : Server) (draw : D)
    → Asks found request → (serve service request).0 ≡ reply
    → (after_run setting 0 found giving reply server draw).0 ≡ (after_run setting 0 found serve service server draw).0
given_runs setting (Some job) request reply serve service server draw asks gives =
    ap (λ (one : List ℕ). ended setting (runs setting 0 job one (begun server draw)))
    (sym (ap (λ (one : List ℕ). (serve service one).0) (found_one job request asks) ∙ gives))
given_runs setting None request reply serve service server draw asks gives = absurd (true≢false (sym (ap is_some asks)))

pub run_leaves : {D V : Type 0} (setting : Setting D) (found : Option Job) (request : List ℕ) (serve : Step V) (service : V) (server : Server) (draw : D)
    → Asks found request → (after_run setting 0 found serve service server draw).1 ≡ (serve service request).1
run_leaves setting (Some job) request serve service server draw asks = ap (λ (one : List ℕ). (serve service one).1) (found_one job request asks)
run_leaves setting None request serve service server draw asks = absurd (true≢false (sym (ap is_some asks)))
