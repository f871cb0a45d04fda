-- What was entered goes on as lives do.
use Rattle.std.proofs.Common.{◌≡◌, ℕ, List, [], ◌∷◌, ◌++◌, reverse, refl, sym, ap, subst, ◌∙◌}
use Rattle.std.specs.List.{AllByRecursion, Contains}
use Rattle.std.proofs.lemmas.List.{reverse-append}
use Rattle.waits.specs.Jobs.{Queue}
use Rattle.server_rules.specs.Server.{Session}
use Rattle.server_rules.specs.Event.{Entry}
use Rattle.law_moves.specs.Table as moves
use Rattle.law_moves.specs.World.{World}
use Rattle.law_server_moves.specs.Servers.{AreEntered, IsEntered, IsOneOf, Past, ServerStands, with_entries}

-- one of these has the same unique number, key and session number
pub record LivesOn (lives : List Session) (one : Session) : Type 0 where
  pub life : Session
  pub among : Contains lives life
  pub unique : life.unique ≡ one.unique
  pub key : life.key ≡ one.key
  pub number : life.number ≡ one.number

pub itself_on : (lives : List Session) (one : Session) → Contains lives one → LivesOn lives one
itself_on lives one among = record { life = one; among = among; unique = refl; key = refl; number = refl }

-- all of these live on among those
abbrev pub AllLiveOn : List Session → List Session → Type 0
AllLiveOn lives later = (one : Session) → Contains lives one → LivesOn later one

pub one_on : (lives later : List Session) → AllLiveOn lives later → (unique : ℕ) → IsOneOf unique lives → IsOneOf unique later
one_on lives later on unique one = let l = on one.0 one.1 in (l.life, l.among, l.unique ∙ one.2)

entry_on : (lives later : List Session) → AllLiveOn lives later → (entry : Entry) (there : moves.Entry) → IsEntered lives entry there → IsEntered later entry there
entry_on lives later on entry there h =
    let l = on h.life h.among in
    record {
      life = l.life;
      among = l.among;
      unique = l.unique ∙ h.unique;
      key = l.key ∙ h.key;
      session = l.number ∙ h.session;
      number = h.number;
      request = h.request;
      reply = h.reply;
    }

pub entered_on : (lives later : List Session) → AllLiveOn lives later → (entries : List Entry) (theres : List moves.Entry) → AreEntered lives entries theres → AreEntered later entries theres
entered_on lives later on [] [] h = tt
entered_on lives later on [] (there ∷ theres) h = absurd h
entered_on lives later on (entry ∷ entries) [] h = absurd h
entered_on lives later on (entry ∷ entries) (there ∷ theres) h = (entry_on lives later on entry there h.0, entered_on lives later on entries theres h.1)

-- each entry there is of a life
pub entered_lives : (lives : List Session) (entries : List Entry) (theres : List moves.Entry) → AreEntered lives entries theres
    → AllByRecursion (λ (there : moves.Entry). IsOneOf there.server lives) theres
entered_lives lives [] [] h = tt
entered_lives lives [] (there ∷ theres) h = absurd h
entered_lives lives (entry ∷ entries) [] h = absurd h
entered_lives lives (entry ∷ entries) (there ∷ theres) h = ((h.0.life, h.0.among, h.0.unique), entered_lives lives entries theres h.1)

-- one more entry
pub entered_more : (lives : List Session) (past : Past) (entry : Entry) (there : moves.Entry) (theres : List moves.Entry) → IsEntered lives entry there
    → AreEntered lives (reverse past.entries) theres → AreEntered lives (reverse (with_entries (entry ∷ []) past).entries) (there ∷ theres)
entered_more lives past entry there theres one h =
    subst (λ (l : List Entry). AreEntered lives l (there ∷ theres)) (sym (reverse-append past.entries (entry ∷ []))) (one, h)

pub nothing_entered : (w : World) (past : Past) (sessions : List Session) (jobs : Queue) → ServerStands w past sessions jobs → ServerStands w (with_entries [] past) sessions jobs
nothing_entered w past sessions jobs h = subst (λ (l : List Entry). ServerStands w (record past { entries = l }) sessions jobs) (sym (none_more past.entries)) h where
  none_more : (entries : List Entry) → entries ++ [] ≡ entries
  none_more [] = refl
  none_more (entry ∷ entries) = ap (λ (l : List Entry). entry ∷ l) (none_more entries)
