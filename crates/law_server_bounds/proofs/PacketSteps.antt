-- What holds after each thing that a session does for a judgement holds after the whole row.
use Rattle.std.proofs.Common.{◌≡◌, ℕ, suc, Bool, true, false, cond, List, [], ◌∷◌}
use Rattle.std.specs.Prelude.{map, fold, ⊤}
use Rattle.std.specs.List.{All, Contains, filter}
use Rattle.std.proofs.lemmas.Bool.{cond_both}
use Rattle.std.proofs.lemmas.List.Elements.{All-head, All-tail}
use Rattle.service_tl.specs.declared.item.Item.{Item}
use Rattle.id_window.specs.History.{History}
use Rattle.inbox.specs.Verdicts.{Verdict, Judgement}
use Rattle.waits.specs.declared.job.Job.{Job}
use Rattle.waits.specs.declared.job.Unfinished.{Unfinished}
use Rattle.waits.specs.Jobs.{accepted as with_job, without_first, is_call}
use Rattle.server_rules.specs.Server.{Reply, Binding, is_kept, has_accepted}
use Rattle.server_rules.specs.Event.{Setting, Speaker}
use Rattle.server_rules.specs.Speaking.{has_said, message_of, owes_message, says, says_again, says_it_is_new, needs_salts, answers, records}
use Rattle.server_rules.specs.Waiting.{tells_of, gives_up}
use Rattle.server_rules.specs.Rows.{owes}
use Rattle.server_rules.specs.Answer.{attaches, finishes, opens}
use Rattle.law_server_bounds.proofs.Lists.{filter-there}
use Rattle.law_server_bounds.proofs.Rows as rows
use Rattle.law_server_bounds.proofs.Kept.{OnlyDrops}

-- P holds of a speaker at a cost of so many further messages
pub record Steps (S : Type 0) (setting : Setting S) (P : ℕ → Speaker S → Type 0) : Type 0 where
  pub more : (n : ℕ) (x : Speaker S) → P n x → P (suc n) x
  pub said : (item : Item) (n : ℕ) (x : Speaker S) → P n x → P (suc n) (says setting item x)
  pub salted : (count n : ℕ) (x : Speaker S) → P n x → P n (needs_salts setting count x)
  pub answered : (call : ℕ) (content : List ℕ) (n : ℕ) (x : Speaker S) → P n x → P (suc n) (answers setting call content x)
  pub recorded : (ran : Bool) (call : ℕ) (request content : List ℕ) (n : ℕ) (x : Speaker S) → P n x → P n (records ran call request content x)
  pub repeated : (reply : Reply) (n : ℕ) (x : Speaker S) → P n x → P (suc n) (says_again reply x)
  pub kept : (reply : Reply) (n : ℕ) (x : Speaker S) → Contains x.session.replies reply → is_kept reply ≡ true → P n x → P n (says_again reply x)
  pub fated : (change : Reply → Reply) (n : ℕ) (x : Speaker S) → OnlyDrops change → P n x
      → P n (record x { session = record x.session { replies = map change x.session.replies } })
  pub joined : (job : Job) (n : ℕ) (x : Speaker S) → job.key ≡ x.session.key → job.session ≡ x.session.number → P n x
      → P (suc n) (record x { jobs = with_job job x.jobs })
  pub taken : (test : Unfinished → Bool) (n : ℕ) (x : Speaker S) → P n x → P n (record x { jobs = without_first test x.jobs })
  pub told : (number n : ℕ) (x : Speaker S) → P n x → P n (tells_of number x)
  pub bound : (bindings : List Binding) (n : ℕ) (x : Speaker S) → P n x → P n (record x { bindings = bindings })
  pub past : (history : History) (n : ℕ) (x : Speaker S) → P n x → P n (record x { session = record x.session { history = history } })

module _ {S : Type 0} (setting : Setting S) (P : ℕ → Speaker S → Type 0) (steps : Steps S setting P) where
  -- whatever the contents are
  abbrev Any : List ℕ → Type 0
  Any content = ⊤

  -- a call that was answered in its place, or has its answer from the service
  placed : (ran : Bool) (call : ℕ) (request content : List ℕ) (n : ℕ) (x : Speaker S) → P n x → P (suc n) (records ran call request content (answers setting call content x))
  placed ran call request content n x p = steps.recorded ran call request content (suc n) (answers setting call content x) (steps.answered call content n x p)

  -- these are steps of rows
  by-rows : rows.Steps S setting Any P
  by-rows = record {
    fine = λ content fits. tt;
    more = steps.more;
    said = steps.said;
    salted = steps.salted;
    answered = λ call content n x any p. steps.answered call content n x p;
    placed = λ ran call request content n x any p. placed ran call request content n x p;
    repeated = steps.repeated;
    kept = steps.kept;
    fated = steps.fated;
    joined = λ job n x key session room p. steps.joined job n x key session p;
    ended = λ job request content n x any p.
        let test = is_call job.key job.session job.number in
        placed false job.number request content n (record x { jobs = without_first test x.jobs }) (steps.taken test n x p);
    told = steps.told;
    bound = steps.bound;
    past = steps.past;
  }

  new-said : (n : ℕ) (x : Speaker S) → P n x → P (suc n) (says_it_is_new setting x)
  new-said n x p = rows.new-said setting Any P by-rows n x p

  pub owed : (number seq : ℕ) (verdict : Verdict) (body : List ℕ) (n : ℕ) (x : Speaker S) → P n x → P (suc (suc n)) (owes setting number seq verdict body x)
  owed number seq verdict body n x p = rows.owed setting Any P by-rows number seq verdict body n x p

  pub given : (content : List ℕ) (job : Job) (n : ℕ) (x : Speaker S) → P n x → P (suc n) (gives_up setting content job x)
  given content job n x p = rows.given setting Any P by-rows content job n x tt p

  pub finished : (job : Job) (reply : List ℕ) (n : ℕ) (x : Speaker S) → P n x → P (suc n) (finishes setting job reply x)
  finished job reply n x p = rows.finished setting Any P by-rows job reply n x tt p

  pub opened : (history : History) (judged : List Judgement) (n : ℕ) (x : Speaker S) → P n x → P (suc (suc n)) (opens setting history judged x)
  opened history judged n x p = rows.opened setting Any P by-rows history judged n x p

  all-kept : (replies : List Reply) (n : ℕ) (x : Speaker S) → All (λ reply. Contains x.session.replies reply × (is_kept reply ≡ true)) replies → P n x
      → P n (fold (λ speaker reply. says_again reply speaker) x replies)
  all-kept [] n x all p = p
  all-kept (reply ∷ replies) n x all p =
      let There : Speaker S → Reply → Type 0 = λ x reply. Contains x.session.replies reply × (is_kept reply ≡ true) in
      let first = All-head (There x) reply replies all in
      let rest : All (There (says_again reply x)) replies =
      cond_both (has_said reply.number x) x (owes_message (message_of reply) x) (λ (y : Speaker S). All (There y) replies) (λ is. All-tail (There x) reply replies all) (λ is. All-tail (There x) reply replies all) in
      all-kept replies n (says_again reply x) rest (steps.kept reply n x first.0 first.1 p)

  pub attached : (n : ℕ) (x : Speaker S) → P n x → P (suc n) (attaches setting x)
  attached n x p =
      let ready = cond (has_accepted x.session) x (says_it_is_new setting x) in
      let is_ready : P (suc n) ready = cond_both (has_accepted x.session) x (says_it_is_new setting x) (P (suc n)) (λ is. steps.more n x p) (λ is. new-said n x p) in
      let There : Speaker S → Reply → Type 0 = λ x reply. Contains x.session.replies reply × (is_kept reply ≡ true) in
      let there : All (There ready) (filter is_kept x.session.replies) =
      cond_both (has_accepted x.session) x (says_it_is_new setting x) (λ (y : Speaker S). All (There y) (filter is_kept x.session.replies))
      (λ is. filter-there is_kept x.session.replies) (λ is. filter-there is_kept x.session.replies) in
      all-kept (filter is_kept x.session.replies) (suc n) ready there is_ready
