-- What a move leaves of the sessions that it isn't of.
use Rattle.std.proofs.Common.{◌≡◌, ◌≢◌, ℕ, ◌<◌, arith, List, [], ◌∷◌, inl, inr, sym, ap, subst, ◌∙◌}
use Rattle.std.specs.List.{AllByRecursion, Contains}
use Rattle.id_window.specs.History.{FirstJudgement}
use Rattle.waits.specs.declared.job.Unfinished.{Unfinished}
use Rattle.server_rules.specs.Server.{Session}
use Rattle.law_moves.specs.Table as moves
use Rattle.law_moves.specs.Table.Outcome.{AcceptedCall}
use Rattle.law_moves.specs.World.{World}
use Rattle.law_server_moves.specs.Servers.{AreApart, HasForgotten, IsJobThere, IsLost, IsMade, IsOutcomeThere, IsReplyThere, IsStanding, WasAnswered, WasJudged}
use Rattle.law_server_moves.proofs.Lists.{each_of, first_or}

-- ---- sessions apart

pub empty_has : (one : Session) → Contains [] one → ⊥
empty_has one a = let below : a.0 < 0 = a.1 in omega (arith, below)

-- two that stand and have one session number are one
pub one_of_number : (sessions : List Session) → AreApart sessions → (one other : Session) → Contains sessions one → Contains sessions other
    → one.number ≡ other.number → one ≡ other
one_of_number [] apart one other a b same = absurd (empty_has one a)
one_of_number (first ∷ sessions) apart one other a b same =
    elim (first_or one first sessions a) [
      | inl is ↦
          elim (first_or other first sessions b) [
            | inl also ↦ sym is ∙ also
            | inr among ↦ absurd (each_of (λ (s : Session). s.number ≢ first.number) sessions apart.0 other among (sym same ∙ ap (λ (s : Session). s.number) (sym is)))
          ]
      | inr among ↦
          elim (first_or other first sessions b) [
            | inl also ↦ absurd (each_of (λ (s : Session). s.number ≢ first.number) sessions apart.0 one among (same ∙ ap (λ (s : Session). s.number) (sym also)))
            | inr others ↦ one_of_number sessions apart.1 one other among others same
          ]
    ]

-- two of two session numbers have two unique numbers
pub two_uniques : (w : World) (one other : Session) → IsMade w one → IsMade w other → one.number ≢ other.number → one.unique ≢ other.unique
two_uniques w one other a b differs same =
    differs (sym a.number ∙ ap (λ (unique : ℕ). (w.servers unique).session) same ∙ b.number)

-- ---- one that is left as it was

module _ (w v : World) (session : Session) (same : v.servers session.unique ≡ w.servers session.unique) where
  pub made_left : IsMade w session → IsMade v session
  made_left h = record {
    number = ap (λ (s : moves.ServerSession). s.session) same ∙ h.number;
    salts = ap (λ (s : moves.ServerSession). s.salts) same ∙ h.salts;
    forgotten = subst (λ (s : moves.ServerSession). AllByRecursion (λ (number : ℕ). HasForgotten number session) s.forgotten) (sym same) h.forgotten;
  }

  pub lost_left : IsLost w session → IsLost v session
  lost_left h = record { made = made_left h.made; at = h.at; lost = ap (λ (s : moves.ServerSession). s.status) same ∙ h.lost }

  pub job_left : (one : Unfinished) → IsJobThere w session one → IsJobThere v session one
  job_left one h = λ of. subst (λ (s : moves.ServerSession). Contains s.judged (record { number = one.job.number; outcome = AcceptedCall one.job.request })) (sym same) (h of)

  -- with what was answered
  pub standing_left : AllByRecursion (IsReplyThere v session) session.replies
      → AllByRecursion (λ (entry : moves.Entry). entry.server ≡ session.unique → WasAnswered entry.number session.replies) v.entries
      → IsStanding w session → IsStanding v session
  standing_left replies entries h = record {
    made = made_left h.made;
    stands = ap (λ (s : moves.ServerSession). s.status) same ∙ h.stands;
    judged = subst (λ (s : moves.ServerSession). AllByRecursion (λ (judgement : FirstJudgement). IsOutcomeThere s judgement.number judgement.outcome) session.history) (sym same) h.judged;
    known = subst (λ (s : moves.ServerSession). AllByRecursion (λ (judged : moves.Judged). WasJudged judged.number session.history) s.judged) (sym same) h.known;
    replies = replies;
    entries = entries;
  }
