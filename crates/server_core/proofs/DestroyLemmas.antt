-- Another session is destroyed, as it is kept.
use Rattle.std.proofs.Common.{◌≡◌, ◌∙◌, ℕ, Bool, true, false, cond, Option, List, [], ◌∷◌, ap, sym, subst, refl, inl, inr}
use Rattle.std.specs.Prelude.{is_some}
use Rattle.std.proofs.lemmas.Bool.{cases_Bool, false≢true}
use Rattle.waits.specs.Jobs.{Queue, without_session as without_jobs_of}
use Rattle.server_output.specs.Items.{destroyed_item}
use Rattle.server_rules.specs.Server.{Binding, Name, Session, is_named, session_named, without_session}
use Rattle.server_rules.specs.Event.{Setting}
use Rattle.server_rules.specs.Speaking.{says}
use Rattle.server_session.specs.declared.session.SessionState.{SessionState}
use Rattle.server_session.specs.SessionState.{key_of}
use Rattle.server_dispatch.specs.declared.turn.Turn.{Turn}
use Rattle.server_dispatch.specs.Speaks.{Speaks}
use Rattle.server_core.specs.Among.{Among, destroys_another, loses_another, speaks_among}
use Rattle.server_core.specs.Server.{without_jobs_where}
use Rattle.server_core.specs.Sessions.{AreKept, kept_as, without_kept}
use Rattle.server_core.proofs.Names.{find-first, find-other, named}
use Rattle.server_core.proofs.SessionState.{HasItsName, others-kept, same-found}

-- where there is one, it is lost
abbrev pub lost_if : {S : Type 0} → Bool → Name → Among S → Among S
lost_if so name among = cond so (loses_another name among) among

abbrev pub other_of : {S : Type 0} → ℕ → Among S → Name
other_of destroyed among = named among.speaker.session.key destroyed

pub destroyed-by : {S : Type 0} (setting : Setting S) (destroyed : ℕ) (among : Among S) (so : Bool) → is_some (session_named (other_of destroyed among) among.others) ≡ so
    → speaks_among (says setting (destroyed_item destroyed so)) (lost_if so (other_of destroyed among) among) ≡ destroys_another setting destroyed among
destroyed-by {S} setting destroyed among true is = rw is refl
destroyed-by {S} setting destroyed among false is = rw is refl

-- none is lost where there is none
none-lost : (name : Name) (sessions : List Session) → is_some (session_named name sessions) ≡ false → without_session name sessions ≡ sessions
none-lost name [] none = refl
none-lost name (session ∷ sessions) none =
    elim (cases_Bool (is_named name session)) [
      | inl is ↦ absurd (false≢true (sym none ∙ ap (λ (one : Option Session). is_some one) (find-first (is_named name) session sessions is)))
      | inr not_so ↦
          rw not_so (ap (λ (rest : List Session). session ∷ rest)
          (none-lost name sessions (ap (λ (one : Option Session). is_some one) (sym (find-other (is_named name) session sessions not_so)) ∙ none)))
    ]

lost-others : {S : Type 0} (so : Bool) (name : Name) (among : Among S) → is_some (session_named name among.others) ≡ so
    → without_session name among.others ≡ (lost_if so name among).others
lost-others true name among is = refl
lost-others false name among is = none-lost name among.others is

lost-speaks : {S : Type 0} (now : ℕ) (so : Bool) (name : Name) (standing : SessionState) (turn : Turn) (jobs later : Queue) (bindings : List Binding) (draw : S) (among : Among S)
    → later ≡ without_jobs_where so name jobs → Speaks now standing turn jobs bindings draw among.speaker
    → Speaks now standing turn later bindings draw (lost_if so name among).speaker
lost-speaks now true name standing turn jobs later bindings draw among is speaks =
    record { says = record { stands = speaks.says.stands; owed = speaks.says.owed; draws = speaks.says.draws }; jobs = is ∙ ap (without_jobs_of name.key name.session) speaks.jobs; bindings = speaks.bindings; entries = speaks.entries }
lost-speaks now false name standing turn jobs later bindings draw among is speaks =
    record { says = speaks.says; jobs = is ∙ speaks.jobs; bindings = speaks.bindings; entries = speaks.entries }

-- what was lost of what is kept was lost of what it stands for
pub record IsLost (S : Type 0) (now : ℕ) (so : Bool) (destroyed : ℕ) (standing : SessionState) (others : List SessionState) (turn : Turn) (later : Queue) (bindings : List Binding) (draw : S) (among : Among S) : Type 0 where
  pub found : is_some (session_named (other_of destroyed among) among.others) ≡ so
  pub speaks : Speaks now standing turn later bindings draw (lost_if so (other_of destroyed among) among).speaker
  pub kept : AreKept now others (lost_if so (other_of destroyed among) among).others

pub lost-kept : {S : Type 0} → HasItsName → (now : ℕ) (so : Bool) (destroyed : ℕ) (standing : SessionState) (others left : List SessionState) (turn : Turn) (jobs later : Queue) (bindings : List Binding) (draw : S)
    (among : Among S) → so ≡ is_some (kept_as (named (key_of standing) destroyed) others) → left ≡ without_kept (named (key_of standing) destroyed) others
    → later ≡ without_jobs_where so (named (key_of standing) destroyed) jobs → AreKept now others among.others
    → Speaks now standing turn jobs bindings draw among.speaker → IsLost S now so destroyed standing left turn later bindings draw among
lost-kept {S} names now so destroyed standing others left turn jobs later bindings draw among is out told are speaks =
    let name = named (key_of standing) destroyed in
    let other = other_of destroyed among in
    let same : name ≡ other = ap (λ (key : ℕ). named key destroyed) speaks.says.stands.key in
    let found : is_some (session_named other among.others) ≡ so =
    sym (is ∙ (same-found names now name others among.others are ∙ ap (λ (name : Name). is_some (session_named name among.others)) same)) in
    let J : Name → Type 0 = λ name. later ≡ without_jobs_where so name jobs in
    let K : List Session → Type 0 = λ sessions. AreKept now left sessions in
    let L : List SessionState → Type 0 = λ standings. AreKept now standings (without_session other among.others) in
    let N : Name → Type 0 = λ name. left ≡ without_kept name others in
    record {
      found = found;
      speaks = lost-speaks now so other standing turn jobs later bindings draw among (subst J same told) speaks;
      kept = subst K (lost-others so other among found) (subst L (sym (subst N same out)) (others-kept names now other others among.others are));
    }
