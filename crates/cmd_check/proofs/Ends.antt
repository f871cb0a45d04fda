-- What `check` promises, by its answer and by what was written.
use Rattle.std.proofs.Common.{◌≡◌, ℕ, List, Option, Some, None, inl, inr, IfSome, sym, subst, refl, arith}
use Rattle.statuses.specs.Outside.{HadFault, IfTold, IsReadToTheEnd, IsUntouched, Outside, Tells, Writes, WritesFront}
use Rattle.statuses.specs.declared.status.Status.{Status}
use Rattle.statuses.specs.declared.status.Status.TheVariants as status
use Rattle.trace_check.specs.declared.checking.Checked.{Checked}
use Rattle.trace_check.specs.declared.checking.Checked.TheVariants.{Yes, Broken}
use Rattle.trace_check.specs.Answers.{HasBadLine, IsFoundIn}
use Rattle.cmd_check.specs.Check.{BreaksAt, ExecutesOnce, IsDue, IsOfCheck, IsRefused, Owes, broken_line, yes_line}
use Rattle.cmd_check.specs.Runs.{CheckRun}

if-told : (o : Option (List ℕ)) (P : List ℕ → Type 0) → ((x : List ℕ) → P x) → IfSome o P
if-told None P h = tt
if-told (Some x) P h = h x

if-both : (o : Option (List ℕ)) (P Q : List ℕ → Type 0) → ((x : List ℕ) → P x → Q x) → IfSome o P → IfSome o Q
if-both None P Q h p = tt
if-both (Some x) P Q h p = h x p

-- ---- what is due, by its status

abbrev Holds : List ℕ → List ℕ → Type 0
Holds due text = ExecutesOnce text × (due ≡ yes_line)

abbrev Breaks : List ℕ → List ℕ → Type 0
Breaks due text = (clause line : ℕ) × BreaksAt text clause line × (due ≡ broken_line clause line)

done-owes : (text due : List ℕ) → Owes text status.Done due → Holds due text
done-owes text due (inl h) = (h.1, h.2)
done-owes text due (inr (inl h)) = let e = h.0 in absurd cc
done-owes text due (inr (inr h)) = let e = h.0 in absurd cc

broken-owes : (text due : List ℕ) → Owes text status.Broken due → Breaks due text
broken-owes text due (inl h) = let e = h.0 in absurd cc
broken-owes text due (inr (inl h)) = h.1
broken-owes text due (inr (inr h)) = let e = h.0 in absurd cc

refused-owes : (text due : List ℕ) → Owes text status.InputRefused due → IsRefused text due
refused-owes text due (inl h) = let e = h.0 in absurd cc
refused-owes text due (inr (inl h)) = let e = h.0 in absurd cc
refused-owes text due (inr (inr h)) = h.1

-- A text has one answer.
module _ (found : (text : List ℕ) (one other : Checked) → IsFoundIn text one → IsFoundIn text other → one ≡ other) (not_both : (text : List ℕ) (one : Checked) (bad : ℕ) → IsFoundIn text one → HasBadLine text bad → ⊥) where
  holds-breaks : (text : List ℕ) (clause line : ℕ) → ExecutesOnce text → BreaksAt text clause line → ⊥
  holds-breaks text clause line h b = let e : Yes ≡ Broken clause line = found text Yes (Broken clause line) h.all_hold b.broken in cc

  holds-refused : (text due : List ℕ) → ExecutesOnce text → IsRefused text due → ⊥
  holds-refused text due h (inl r) = omega (arith, h.short, r.long)
  holds-refused text due h (inr r) = not_both text Yes r.0 h.all_hold r.1.bad

  breaks-refused : (text due : List ℕ) (clause line : ℕ) → BreaksAt text clause line → IsRefused text due → ⊥
  breaks-refused text due clause line b (inl r) = omega (arith, b.short, r.long)
  breaks-refused text due clause line b (inr r) = not_both text (Broken clause line) r.0 b.broken r.1.bad

  -- ---- the answer was written

  module _ {S O : Type 0} (input : Outside S) (out : Outside O) (due : List ℕ) where
    done-run : IfTold input (Holds due) → IsReadToTheEnd input → Writes out due → CheckRun input out status.Done
    done-run owed read written = record {
      ends = inl (inl refl);
      read = λ e. read;
      holds = λ e. if-both (input.told input.before) _ _ (λ text h. (h.0, subst (Writes out) h.1 written)) owed;
      holding = if-told (input.told input.before) _ (λ text h. inl refl);
      broken = λ e. absurd cc;
      breaking = if-both (input.told input.before) _ _ (λ text h clause line b. absurd (holds-breaks text clause line h.0 b)) owed;
      refused = λ e. absurd cc;
      refusals = if-both (input.told input.before) _ _ (λ text h why r. absurd (holds-refused text why h.0 r)) owed;
      read_fault = λ e. absurd cc;
      write_fault = λ e. absurd cc;
      front = λ e. absurd cc;
      nothing = λ e. absurd (elim e [ inl f ↦ cc | inr f ↦ cc ]);
    }

    broken-run : IfTold input (Breaks due) → IsReadToTheEnd input → Writes out due → CheckRun input out status.Broken
    broken-run owed read written = record {
      ends = inl (inr (inl refl));
      read = λ e. read;
      holds = λ e. absurd cc;
      holding = if-both (input.told input.before) _ _ (λ text b h. absurd (holds-breaks text b.0 b.1 h b.2)) owed;
      broken = λ e. if-both (input.told input.before) _ _ (λ text b. (b.0, b.1, b.2, subst (Writes out) b.3 written)) owed;
      breaking = if-told (input.told input.before) _ (λ text clause line b. inl refl);
      refused = λ e. absurd cc;
      refusals = if-both (input.told input.before) _ _ (λ text b why r. absurd (breaks-refused text why b.0 b.1 b.2 r)) owed;
      read_fault = λ e. absurd cc;
      write_fault = λ e. absurd cc;
      front = λ e. absurd cc;
      nothing = λ e. absurd (elim e [ inl f ↦ cc | inr f ↦ cc ]);
    }

    refused-run : IfTold input (λ text. IsRefused text due) → Writes out due → CheckRun input out status.InputRefused
    refused-run owed written = record {
      ends = inl (inr (inr refl));
      read = λ e. absurd (elim e [ inl f ↦ cc | inr f ↦ cc ]);
      holds = λ e. absurd cc;
      holding = if-both (input.told input.before) _ _ (λ text r h. absurd (holds-refused text due h r)) owed;
      broken = λ e. absurd cc;
      breaking = if-both (input.told input.before) _ _ (λ text r clause line b. absurd (breaks-refused text due clause line b r)) owed;
      refused = λ e. if-both (input.told input.before) _ _ (λ text r. (due, r, written)) owed;
      refusals = if-told (input.told input.before) _ (λ text why r. inl refl);
      read_fault = λ e. absurd cc;
      write_fault = λ e. absurd cc;
      front = λ e. absurd cc;
      nothing = λ e. absurd (elim e [ inl f ↦ cc | inr f ↦ cc ]);
    }

    cut-run : HadFault out → IfTold input (λ text. IsDue text due) → WritesFront out due → CheckRun input out status.WriteFault
    cut-run fault owed front = record {
      ends = inr (inr (inl refl));
      read = λ e. absurd (elim e [ inl f ↦ cc | inr f ↦ cc ]);
      holds = λ e. absurd cc;
      holding = if-told (input.told input.before) _ (λ text h. inr (inr (inl refl)));
      broken = λ e. absurd cc;
      breaking = if-told (input.told input.before) _ (λ text clause line b. inr (inr (inl refl)));
      refused = λ e. absurd cc;
      refusals = if-told (input.told input.before) _ (λ text why r. inr (inr (inl refl)));
      read_fault = λ e. absurd cc;
      write_fault = λ e. fault;
      front = λ e. (due, owed, front);
      nothing = λ e. absurd (elim e [ inl f ↦ cc | inr f ↦ cc ]);
    }

    -- by the status that was due
    written-run : (said : Status) → IsOfCheck said → IfTold input (λ text. Owes text said due) → (said ≡ status.Done → IsReadToTheEnd input) → (said ≡ status.Broken → IsReadToTheEnd input) → Writes out due
        → CheckRun input out said
    written-run said (inl e) owed done broken written =
        subst (CheckRun input out) (sym e) (done-run (if-both (input.told input.before) _ _ (λ text h. done-owes text due (subst (λ (s : Status). Owes text s due) e h)) owed) (done e) written)
    written-run said (inr (inl e)) owed done broken written =
        subst (CheckRun input out) (sym e) (broken-run (if-both (input.told input.before) _ _ (λ text h. broken-owes text due (subst (λ (s : Status). Owes text s due) e h)) owed) (broken e) written)
    written-run said (inr (inr e)) owed done broken written =
        subst (CheckRun input out) (sym e) (refused-run (if-both (input.told input.before) _ _ (λ text h. refused-owes text due (subst (λ (s : Status). Owes text s due) e h)) owed) written)

    pub told-run : (said one : Status) → IsOfCheck said → IfTold input (λ text. Owes text said due) → (said ≡ status.Done → IsReadToTheEnd input) → (said ≡ status.Broken → IsReadToTheEnd input)
        → Tells out said due one → CheckRun input out one
    told-run said one of owed done broken (inl h) = subst (CheckRun input out) (sym h.0) (written-run said of owed done broken h.1)
    told-run said one of owed done broken (inr h) =
        subst (CheckRun input out) (sym h.0) (cut-run h.1 (if-both (input.told input.before) _ _ (λ text owes. (said, owes)) owed) h.2)

-- ---- there is none

module _ {S O : Type 0} (input : Outside S) (out : Outside O) (untouched : IsUntouched out) where
  pub out-of-memory-run : CheckRun input out status.Memory
  out-of-memory-run = record {
    ends = inr (inr (inr refl));
    read = λ e. absurd (elim e [ inl f ↦ cc | inr f ↦ cc ]);
    holds = λ e. absurd cc;
    holding = if-told (input.told input.before) _ (λ text h. inr (inr (inr refl)));
    broken = λ e. absurd cc;
    breaking = if-told (input.told input.before) _ (λ text clause line b. inr (inr (inr refl)));
    refused = λ e. absurd cc;
    refusals = if-told (input.told input.before) _ (λ text why r. inr (inr (inr refl)));
    read_fault = λ e. absurd cc;
    write_fault = λ e. absurd cc;
    front = λ e. absurd cc;
    nothing = λ e. untouched;
  }
