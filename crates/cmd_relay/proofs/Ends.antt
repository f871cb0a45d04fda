-- What the command promises, by its answer and by what was written.
use Rattle.std.proofs.Common.{◌≡◌, ◌≢◌, ◌∙◌, ℕ, List, Option, Some, None, ◌∷◌, ◌++◌, inl, inr, IfSome, ap, ap₂, sym, subst, refl, arith}
use Rattle.std.specs.Prelude.{codes}
use Rattle.statuses.specs.Lines.{refusal_line}
use Rattle.statuses.specs.Outside.{HadFault, IfTold, IsReadToTheEnd, IsUntouched, Outside, Tells, Writes, WritesFront}
use Rattle.statuses.specs.declared.status.Status.{Status}
use Rattle.statuses.specs.declared.status.Status.TheVariants as status
use Rattle.transport.specs.declared.form.Form.{Form}
use Rattle.transport.specs.declared.form.Form.TheVariants.{Full}
use Rattle.secret_relay.specs.Stories.{nothing}
use Rattle.secret_relay.specs.declared.fault.RelayFault.{RelayFault}
use Rattle.cmd_relay.specs.Captures.{HasBadLine, Spells}
use Rattle.cmd_relay.specs.Relays.{AreTaken, HasRefusedLine, IsOfRelay, IsRefused, IsRelayed, Owes, cause_of, text_of}
use Rattle.cmd_relay.specs.Runs.{RelayRun}
use Rattle.cmd_relay.specs.declared.capture.Piece.{Piece}
use Rattle.cmd_relay.proofs.Taking.{Outcomes, all_relayed, none_came, one_outs, one_refusal, taken_or_refused}

abbrev pub OneList : Type 0
OneList = (text : List ℕ) (pieces others : List Piece) → Spells text pieces → Spells text others → pieces ≡ others

abbrev pub NotBoth : Type 0
NotBoth = (text : List ℕ) (pieces : List Piece) (bad : ℕ) → Spells text pieces → HasBadLine text bad → ⊥

abbrev pub OneBad : Type 0
OneBad = (text : List ℕ) (bad other : ℕ) → HasBadLine text bad → HasBadLine text other → bad ≡ other

pub relayed_not_refused : Outcomes → OneList → NotBoth
    → (form : Form) → form ≢ Full → (secret text due other : List ℕ) → IsRelayed form secret text due → IsRefused form secret text other → ⊥
relayed_not_refused laws one good form plain secret text due other h (inl r) = omega (arith, h.short, r.long)
relayed_not_refused laws one good form plain secret text due other h (inr (inl r)) = good text h.pieces r.line h.spelled r.bad
relayed_not_refused laws one good form plain secret text due other h (inr (inr r)) =
    let same : h.pieces ≡ r.refused.front ++ r.refused.piece ∷ r.refused.back = one text h.pieces r.pieces h.spelled r.spelled ∙ r.refused.parts in
    taken_or_refused laws form plain secret r.refused.front r.refused.piece r.refused.back h.outs r.refused.outs r.fault nothing
    (subst (λ (ps : List Piece). AreTaken form secret ps h.outs nothing) same h.taken) r.refused.taken r.refused.refused

pub one_relayed : Outcomes → OneList → (form : Form) → form ≢ Full → (secret text due other : List ℕ)
    → IsRelayed form secret text due → IsRelayed form secret text other → due ≡ other
one_relayed laws one form plain secret text due other h g =
    let pieces : h.pieces ≡ g.pieces = one text h.pieces g.pieces h.spelled g.spelled in
    let taken : AreTaken form secret g.pieces h.outs nothing = subst (λ (ps : List Piece). AreTaken form secret ps h.outs nothing) pieces h.taken in
    let outs : h.outs ≡ g.outs = one_outs laws form plain secret g.pieces h.outs g.outs nothing taken g.taken in
    h.told ∙ ap₂ text_of pieces outs ∙ sym g.told

one_refused_line : Outcomes → OneList → (form : Form) → form ≢ Full → (secret text due other : List ℕ)
    → HasRefusedLine form secret text due → HasRefusedLine form secret text other → due ≡ other
one_refused_line laws one form plain secret text due other h g =
    let parts : h.refused.front ++ h.refused.piece ∷ h.refused.back ≡ g.refused.front ++ g.refused.piece ∷ g.refused.back =
    sym h.refused.parts ∙ one text h.pieces g.pieces h.spelled g.spelled ∙ g.refused.parts in
    let same = one_refusal laws form plain secret h.refused.front h.refused.piece h.refused.back g.refused.front g.refused.piece g.refused.back
    h.refused.outs g.refused.outs h.fault g.fault nothing parts h.refused.taken g.refused.taken h.refused.refused g.refused.refused in
    let line : h.line ≡ g.line = h.refused.number ∙ ap (λ (p : Piece). p.line) same.same_piece ∙ sym g.refused.number in
    h.told ∙ ap₂ (λ (n : ℕ) (f : RelayFault). refusal_line n (cause_of f)) line same.same_fault ∙ sym g.told

pub one_refused : Outcomes → OneList → NotBoth → OneBad → (form : Form) → form ≢ Full → (secret text due other : List ℕ)
    → IsRefused form secret text due → IsRefused form secret text other → due ≡ other
one_refused laws one good bad form plain secret text due other (inl h) (inl g) = h.told ∙ sym g.told
one_refused laws one good bad form plain secret text due other (inl h) (inr (inl g)) = absurd (omega (arith, h.long, g.short))
one_refused laws one good bad form plain secret text due other (inl h) (inr (inr g)) = absurd (omega (arith, h.long, g.short))
one_refused laws one good bad form plain secret text due other (inr (inl h)) (inl g) = absurd (omega (arith, g.long, h.short))
one_refused laws one good bad form plain secret text due other (inr (inl h)) (inr (inl g)) =
    h.told ∙ ap (λ (n : ℕ). refusal_line n (codes "bad line")) (bad text h.line g.line h.bad g.bad) ∙ sym g.told
one_refused laws one good bad form plain secret text due other (inr (inl h)) (inr (inr g)) = absurd (good text g.pieces h.line g.spelled h.bad)
one_refused laws one good bad form plain secret text due other (inr (inr h)) (inl g) = absurd (omega (arith, g.long, h.short))
one_refused laws one good bad form plain secret text due other (inr (inr h)) (inr (inl g)) = absurd (good text h.pieces g.line h.spelled g.bad)
one_refused laws one good bad form plain secret text due other (inr (inr h)) (inr (inr g)) = one_refused_line laws one form plain secret text due other h g

pub if-told : (o : Option (List ℕ)) (P : List ℕ → Type 0) → ((x : List ℕ) → P x) → IfSome o P
if-told None P h = tt
if-told (Some x) P h = h x

pub if-both : (o : Option (List ℕ)) (P Q : List ℕ → Type 0) → ((x : List ℕ) → P x → Q x) → IfSome o P → IfSome o Q
if-both None P Q h p = tt
if-both (Some x) P Q h p = h x p

module _ (form : Form) (secret : List ℕ) where
  done-owes : (text due : List ℕ) → Owes form secret text status.Done due → IsRelayed form secret text due
  done-owes text due (inl h) = h.1
  done-owes text due (inr h) = let e = h.0 in absurd cc

  refused-owes : (text due : List ℕ) → Owes form secret text status.InputRefused due → IsRefused form secret text due
  refused-owes text due (inl h) = let e = h.0 in absurd cc
  refused-owes text due (inr h) = h.1

  module _ (apart : (text due other : List ℕ) → IsRelayed form secret text due → IsRefused form secret text other → ⊥)
      {S O : Type 0} (input : Outside S) (out : Outside O) (due : List ℕ) where
    done-run : IfTold input (λ text. IsRelayed form secret text due) → IsReadToTheEnd input → Writes out due → RelayRun form secret input out status.Done
    done-run owed read written = record {
      ends = inl (inl refl);
      read = λ e. read;
      relayed = λ e. if-both (input.told input.before) _ _
          (λ text h. (due, h, written, all_relayed form secret h.pieces h.outs nothing none_came h.taken)) owed;
      completeness = if-told (input.told input.before) _ (λ text other h. inl refl);
      refused = λ e. absurd cc;
      refusals = if-both (input.told input.before) _ _ (λ text h why refused. absurd (apart text due why h refused)) owed;
      read_fault = λ e. absurd cc;
      write_fault = λ e. absurd cc;
      front = λ e. absurd cc;
      nothing = λ e. absurd (elim e [ inl f ↦ cc | inr f ↦ cc ]);
    }

    refused-run : IfTold input (λ text. IsRefused form secret text due) → Writes out due → RelayRun form secret input out status.InputRefused
    refused-run owed written = record {
      ends = inl (inr refl);
      read = λ e. absurd cc;
      relayed = λ e. absurd cc;
      completeness = if-both (input.told input.before) _ _ (λ text h other relayed. absurd (apart text other due relayed h)) owed;
      refused = λ e. if-both (input.told input.before) _ _ (λ text h. (due, h, written)) owed;
      refusals = if-told (input.told input.before) _ (λ text why h. inl refl);
      read_fault = λ e. absurd cc;
      write_fault = λ e. absurd cc;
      front = λ e. absurd cc;
      nothing = λ e. absurd (elim e [ inl f ↦ cc | inr f ↦ cc ]);
    }

    cut-run : HadFault out → IfTold input (λ text. (said : Status) × Owes form secret text said due) → WritesFront out due → RelayRun form secret input out status.WriteFault
    cut-run fault owed front = record {
      ends = inr (inr (inl refl));
      read = λ e. absurd cc;
      relayed = λ e. absurd cc;
      completeness = if-told (input.told input.before) _ (λ text other h. inr (inr (inl refl)));
      refused = λ e. absurd cc;
      refusals = if-told (input.told input.before) _ (λ text why h. inr (inr (inl refl)));
      read_fault = λ e. absurd cc;
      write_fault = λ e. fault;
      front = λ e. (due, owed, front);
      nothing = λ e. absurd (elim e [ inl f ↦ cc | inr f ↦ cc ]);
    }

    written-run : (said : Status) → IsOfRelay said → IfTold input (λ text. Owes form secret text said due) → (said ≡ status.Done → IsReadToTheEnd input)
        → Writes out due → RelayRun form secret input out said
    written-run said (inl e) owed read written =
        subst (RelayRun form secret input out) (sym e) (done-run (if-both (input.told input.before) _ _ (λ text h. done-owes text due (subst (λ (s : Status). Owes form secret text s due) e h)) owed) (read e) written)
    written-run said (inr e) owed read written =
        subst (RelayRun form secret input out) (sym e) (refused-run (if-both (input.told input.before) _ _ (λ text h. refused-owes text due (subst (λ (s : Status). Owes form secret text s due) e h)) owed) written)

    pub told-run : (said one : Status) → IsOfRelay said → IfTold input (λ text. Owes form secret text said due) → (said ≡ status.Done → IsReadToTheEnd input)
        → Tells out said due one → RelayRun form secret input out one
    told-run said one of owed read (inl h) = subst (RelayRun form secret input out) (sym h.0) (written-run said of owed read h.1)
    told-run said one of owed read (inr h) =
        subst (RelayRun form secret input out) (sym h.0) (cut-run h.1 (if-both (input.told input.before) _ _ (λ text owes. (said, owes)) owed) h.2)

-- ---- there is no answer

module _ {S O : Type 0} (form : Form) (secret : List ℕ) (input : Outside S) (out : Outside O) (untouched : IsUntouched out) where
  pub out-of-memory-run : RelayRun form secret input out status.Memory
  out-of-memory-run = record {
    ends = inr (inr (inr refl));
    read = λ e. absurd cc;
    relayed = λ e. absurd cc;
    completeness = if-told (input.told input.before) _ (λ text other h. inr (inr (inr refl)));
    refused = λ e. absurd cc;
    refusals = if-told (input.told input.before) _ (λ text why h. inr (inr (inr refl)));
    read_fault = λ e. absurd cc;
    write_fault = λ e. absurd cc;
    front = λ e. absurd cc;
    nothing = λ e. untouched;
  }
