-- What `sim` promises, by its answer and by what was written.
use Rattle.std.proofs.Common.{◌≡◌, ◌∙◌, ℕ, Bool, List, Option, Some, None, inl, inr, IfSome, ap, sym, subst, refl, arith}
use Rattle.sched_text.specs.declared.schedule.Placed.{Placed}
use Rattle.sched_text.specs.Schedule.{HasBadLine, Spells}
use Rattle.statuses.specs.Outside.{HadFault, IfTold, IsReadToTheEnd, IsUntouched, Outside, Tells, Writes, WritesFront}
use Rattle.statuses.specs.declared.status.Status.{Status}
use Rattle.statuses.specs.declared.status.Status.TheVariants as status
use Rattle.world_rules.specs.Refusals.{Refusal, NumbersSpent}
use Rattle.cmd_sim.specs.Runs.{SimRun}
use Rattle.cmd_sim.specs.Sim.{IsDue, IsLawful, IsOfSim, IsRefused, Owes, Reported, RunsOut, status_of}
use Rattle.cmd_sim.specs.Worlds.{sim_refused}

-- a line's refusal is one
abbrev refusal-or : Refusal → Option (ℕ × Refusal) → Refusal
refusal-or why None = why
refusal-or why (Some at) = at.1

second : (refused : Option (ℕ × Refusal)) (line other : ℕ) (why because : Refusal) → refused ≡ Some (line, why) → refused ≡ Some (other, because) → why ≡ because
second refused line other why because h e = ap (refusal-or why) (sym h ∙ e)

pub if-told : (o : Option (List ℕ)) (P : List ℕ → Type 0) → ((x : List ℕ) → P x) → IfSome o P
if-told None P h = tt
if-told (Some x) P h = h x

pub if-both : (o : Option (List ℕ)) (P Q : List ℕ → Type 0) → ((x : List ℕ) → P x → Q x) → IfSome o P → IfSome o Q
if-both None P Q h p = tt
if-both (Some x) P Q h p = h x p

-- ---- what is due, by its status

done-owes : (wire : Bool) (text due : List ℕ) → Owes wire text status.Done due → Reported wire text due
done-owes wire text due (inl h) = h.1
done-owes wire text due (inr (inl h)) = let e = h.0 in absurd cc
done-owes wire text due (inr (inr h)) = let e = h.0 in absurd cc

refused-owes : (wire : Bool) (text due : List ℕ) → Owes wire text status.InputRefused due → IsRefused text due
refused-owes wire text due (inl h) = let e = h.0 in absurd cc
refused-owes wire text due (inr (inl h)) = h.1
refused-owes wire text due (inr (inr h)) = let e = h.0 in absurd cc

spent-owes : (wire : Bool) (text due : List ℕ) → Owes wire text status.NumbersSpent due → RunsOut text due
spent-owes wire text due (inl h) = let e = h.0 in absurd cc
spent-owes wire text due (inr (inl h)) = let e = h.0 in absurd cc
spent-owes wire text due (inr (inr h)) = h.1

-- A text has one reading.
module _ (one : (text : List ℕ) (events others : List Placed) → Spells text events → Spells text others → events ≡ others) (good : (text : List ℕ) (events : List Placed) (bad : ℕ) → Spells text events → HasBadLine text bad → ⊥) where
  -- a lawful schedule has no event that is refused
  lawful-at : (text : List ℕ) (events others : List Placed) (line : ℕ) (why : Refusal) → IsLawful text events → Spells text others → sim_refused others ≡ Some (line, why) → ⊥
  lawful-at text events others line why h spells refused =
      let e = sym h.lawful ∙ (ap sim_refused (one text events others h.schedule spells) ∙ refused) in cc

  lawful-refused : (text : List ℕ) (events : List Placed) (due : List ℕ) → IsLawful text events → IsRefused text due → ⊥
  lawful-refused text events due h (inl r) = omega (arith, h.short, r.long)
  lawful-refused text events due h (inr (inl r)) = good text events r.0 h.schedule r.1.bad
  lawful-refused text events due h (inr (inr r)) = lawful-at text events r.0 r.1 r.2 h r.3.schedule r.3.refused

  lawful-spent : (text : List ℕ) (events : List Placed) (due : List ℕ) → IsLawful text events → RunsOut text due → ⊥
  lawful-spent text events due h r = lawful-at text events r.0 r.1 NumbersSpent h r.2.schedule r.2.refused

  same-why : (refused : Option (ℕ × Refusal)) (line other : ℕ) (why : Refusal) → refused ≡ Some (line, why) → refused ≡ Some (other, NumbersSpent) → status_of why ≡ status.InputRefused → ⊥
  same-why refused line other why h same input =
      let spent : status_of why ≡ status.NumbersSpent = ap status_of (second refused line other why NumbersSpent h same) in
      let e : status.InputRefused ≡ status.NumbersSpent = sym input ∙ spent in cc

  refused-spent : (text due other : List ℕ) → IsRefused text due → RunsOut text other → ⊥
  refused-spent text due other (inl r) s = omega (arith, s.2.short, r.long)
  refused-spent text due other (inr (inl r)) s = good text s.0 r.0 s.2.schedule r.1.bad
  refused-spent text due other (inr (inr r)) s =
      same-why (sim_refused s.0) r.1 s.1 r.2 (ap sim_refused (one text s.0 r.0 s.2.schedule r.3.schedule) ∙ r.3.refused) s.2.refused r.4

  -- ---- the answer was written

  module _ {S O : Type 0} (wire : Bool) (input : Outside S) (out : Outside O) (due : List ℕ) where
    done-run : IfTold input (λ text. Reported wire text due) → IsReadToTheEnd input → Writes out due → SimRun wire input out status.Done
    done-run owed read written = record {
      ends = inl (inl refl);
      read = λ e. read;
      reported = λ e. if-both (input.told input.before) _ _ (λ text h. (h.0, h.1, subst (Writes out) h.2 written, h.3)) owed;
      completeness = if-told (input.told input.before) _ (λ text events h. inl refl);
      refused = λ e. absurd cc;
      refusals = if-both (input.told input.before) _ _ (λ text h why refused. absurd (lawful-refused text h.0 why h.1 refused)) owed;
      spent = λ e. absurd cc;
      spending = if-both (input.told input.before) _ _ (λ text h why spent. absurd (lawful-spent text h.0 why h.1 spent)) owed;
      read_fault = λ e. absurd cc;
      write_fault = λ e. absurd cc;
      front = λ e. absurd cc;
      nothing = λ e. absurd (elim e [ inl f ↦ cc | inr f ↦ cc ]);
    }

    refused-run : IfTold input (λ text. IsRefused text due) → Writes out due → SimRun wire input out status.InputRefused
    refused-run owed written = record {
      ends = inl (inr (inl refl));
      read = λ e. absurd cc;
      reported = λ e. absurd cc;
      completeness = if-both (input.told input.before) _ _ (λ text h events lawful. absurd (lawful-refused text events due lawful h)) owed;
      refused = λ e. if-both (input.told input.before) _ _ (λ text h. (due, h, written)) owed;
      refusals = if-told (input.told input.before) _ (λ text why h. inl refl);
      spent = λ e. absurd cc;
      spending = if-both (input.told input.before) _ _ (λ text h why spent. absurd (refused-spent text due why h spent)) owed;
      read_fault = λ e. absurd cc;
      write_fault = λ e. absurd cc;
      front = λ e. absurd cc;
      nothing = λ e. absurd (elim e [ inl f ↦ cc | inr f ↦ cc ]);
    }

    spent-run : IfTold input (λ text. RunsOut text due) → Writes out due → SimRun wire input out status.NumbersSpent
    spent-run owed written = record {
      ends = inl (inr (inr refl));
      read = λ e. absurd cc;
      reported = λ e. absurd cc;
      completeness = if-both (input.told input.before) _ _ (λ text h events lawful. absurd (lawful-spent text events due lawful h)) owed;
      refused = λ e. absurd cc;
      refusals = if-both (input.told input.before) _ _ (λ text h why refused. absurd (refused-spent text why due refused h)) owed;
      spent = λ e. if-both (input.told input.before) _ _ (λ text h. (due, h, written)) owed;
      spending = if-told (input.told input.before) _ (λ text why h. inl refl);
      read_fault = λ e. absurd cc;
      write_fault = λ e. absurd cc;
      front = λ e. absurd cc;
      nothing = λ e. absurd (elim e [ inl f ↦ cc | inr f ↦ cc ]);
    }

    cut-run : HadFault out → IfTold input (λ text. IsDue wire text due) → WritesFront out due → SimRun wire input out status.WriteFault
    cut-run fault owed front = record {
      ends = inr (inr (inl refl));
      read = λ e. absurd cc;
      reported = λ e. absurd cc;
      completeness = if-told (input.told input.before) _ (λ text events h. inr (inr (inl refl)));
      refused = λ e. absurd cc;
      refusals = if-told (input.told input.before) _ (λ text why h. inr (inr (inl refl)));
      spent = λ e. absurd cc;
      spending = if-told (input.told input.before) _ (λ text why h. inr (inr (inl refl)));
      read_fault = λ e. absurd cc;
      write_fault = λ e. fault;
      front = λ e. (due, owed, front);
      nothing = λ e. absurd (elim e [ inl f ↦ cc | inr f ↦ cc ]);
    }

    -- by the status that was due
    written-run : (said : Status) → IsOfSim said → IfTold input (λ text. Owes wire text said due) → (said ≡ status.Done → IsReadToTheEnd input) → Writes out due → SimRun wire input out said
    written-run said (inl e) owed read written =
        subst (SimRun wire input out) (sym e) (done-run (if-both (input.told input.before) _ _ (λ text h. done-owes wire text due (subst (λ (s : Status). Owes wire text s due) e h)) owed) (read e) written)
    written-run said (inr (inl e)) owed read written =
        subst (SimRun wire input out) (sym e) (refused-run (if-both (input.told input.before) _ _ (λ text h. refused-owes wire text due (subst (λ (s : Status). Owes wire text s due) e h)) owed) written)
    written-run said (inr (inr e)) owed read written =
        subst (SimRun wire input out) (sym e) (spent-run (if-both (input.told input.before) _ _ (λ text h. spent-owes wire text due (subst (λ (s : Status). Owes wire text s due) e h)) owed) written)

    pub told-run : (said one : Status) → IsOfSim said → IfTold input (λ text. Owes wire text said due) → (said ≡ status.Done → IsReadToTheEnd input) → Tells out said due one → SimRun wire input out one
    told-run said one of owed read (inl h) = subst (SimRun wire input out) (sym h.0) (written-run said of owed read h.1)
    told-run said one of owed read (inr h) =
        subst (SimRun wire input out) (sym h.0) (cut-run h.1 (if-both (input.told input.before) _ _ (λ text owes. (said, owes)) owed) h.2)

-- ---- there is none

module _ {S O : Type 0} (wire : Bool) (input : Outside S) (out : Outside O) (untouched : IsUntouched out) where
  pub out-of-memory-run : SimRun wire input out status.Memory
  out-of-memory-run = record {
    ends = inr (inr (inr refl));
    read = λ e. absurd cc;
    reported = λ e. absurd cc;
    completeness = if-told (input.told input.before) _ (λ text events h. inr (inr (inr refl)));
    refused = λ e. absurd cc;
    refusals = if-told (input.told input.before) _ (λ text why h. inr (inr (inr refl)));
    spent = λ e. absurd cc;
    spending = if-told (input.told input.before) _ (λ text why h. inr (inr (inr refl)));
    read_fault = λ e. absurd cc;
    write_fault = λ e. absurd cc;
    front = λ e. absurd cc;
    nothing = λ e. untouched;
  }
