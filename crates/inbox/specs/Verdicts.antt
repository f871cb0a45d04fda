-- What became of messages, as definitions tell it: with the item that an accepted one is. Code keeps no item beside its verdict,
-- since what an accepted message needs is found out once, from its body.
use Rattle.std.specs.Prelude.{ℕ, Bool, true, false}
use Rattle.service_tl.specs.declared.item.Item.{Item}
use Rattle.id_window.specs.declared.mark.Mark.{Mark}
use Rattle.inbox.specs.declared.judged.Verdict.{Verdict as BareVerdict}
use Rattle.inbox.specs.declared.judged.Verdict.TheVariants as without
use Rattle.inbox.specs.declared.judged.Judgement.{Judgement as BareJudgement}

-- A message was accepted now, as this item (of a container only that it is one: each of its messages has a judgement of its own);
-- it came before, and its number has this mark; or it is refused with the notice of this code.
pub data Verdict : Type 0 where
  Accepted : Item → Verdict
  Again : Mark → Verdict
  Noticed : ℕ → Verdict

-- a message's number and sequence number with its verdict
pub record Judgement : Type 0 where
  pub number : ℕ
  pub seq : ℕ
  pub verdict : Verdict

-- ---- as code keeps them

abbrev pub bare : Verdict → BareVerdict
bare (Accepted item) = without.Accepted
bare (Again mark) = without.Again mark
bare (Noticed code) = without.Noticed code

abbrev pub bare_judgement : Judgement → BareJudgement
bare_judgement judgement = record { number = judgement.number; seq = judgement.seq; verdict = bare judgement.verdict }

abbrev pub is_bare_accepted : BareVerdict → Bool
is_bare_accepted without.Accepted = true
is_bare_accepted _ = false
