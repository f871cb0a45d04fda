-- What a run tells, by what is owed before it is written.
use Rattle.std.proofs.Common.{◌≡◌, inl, inr, ℕ, List, subst}
use Rattle.cmd_call.specs.Owed.{Around, Files}
use Rattle.commands.specs.declared.command.PairOptions.{PairOptions}
use Rattle.statuses.specs.Outside.{IsUntouched, Outside, Tells}
use Rattle.statuses.specs.declared.answer.Answer.{Answer}
use Rattle.statuses.specs.declared.status.Status.{Status}
use Rattle.statuses.specs.declared.status.Status.TheVariants as status
use Rattle.cmd_pair.specs.Inner.{HaltsRun, IsOwed}
use Rattle.cmd_pair.specs.Runs.{IsTold}
use Rattle.cmd_pair.specs.Servers.{Kids}
use Rattle.cmd_pair.specs.declared.halt.Halt.TheVariants as halts

tells-as : {O : Type 0} (out : Outside O) (said other : Status) (due text : List ℕ) (one : Status) → said ≡ other → due ≡ text → Tells out said due one → Tells out other text one
tells-as out said other due text one is same tells = subst (λ (s : Status). Tells out s text one) is (subst (λ (t : List ℕ). Tells out said t one) same tells)

module _ {S O F N C D P : Type 0} (options : PairOptions) (input : Outside S) (out : Outside O) (files : Files F) (around : Around N C D) (kids : Kids P) (one : Status) where
  -- an answer
  pub owed-told : (answer : Answer) → IsOwed options input files around kids answer.status answer.text → Tells out answer.status answer.text one → IsTold options input out files around kids one
  owed-told answer h tells =
      inr (inl (record { calls = h.calls; ring = h.ring; keys = h.keys; ready = h.ready; said = answer.status; due = answer.text; owed = h.owed; tells = tells }))

  -- a refusal
  pub refused-told : (answer : Answer) → HaltsRun options input files around kids (halts.Refused answer) → Tells out answer.status answer.text one → IsTold options input out files around kids one
  refused-told answer h tells =
      inl (record { refusal = h.0; cause = h.1; drawn = h.2; aside = h.4; tells = tells-as out answer.status _ answer.text _ one h.3.0 h.3.1 tells })

  -- a read fault
  pub unread-told : HaltsRun options input files around kids halts.ReadFault → IsUntouched out → one ≡ status.ReadFault → IsTold options input out files around kids one
  unread-told h untouched is = inr (inr (inl (record { said = is; fault = h.0; unasked = h.1; undrawn = h.2; aside = h.3; untouched = untouched })))
