-- The session that spoke goes back among the others, as it is kept.
use Rattle.std.proofs.Common.{◌≡◌, ◌∙◌, ℕ, Bool, true, false, List, [], ◌∷◌, ◌++◌, ap, sym, subst}
use Rattle.std.specs.Prelude.{nat_lt}
use Rattle.waits.specs.Jobs.{Queue, without_session as without_jobs_of}
use Rattle.server_rules.specs.Server.{Name, Session}
use Rattle.server_rules.specs.Answer.{is_spent, room_min}
use Rattle.server_session.specs.declared.session.SessionState.{SessionState}
use Rattle.server_session.specs.SessionState.{Stands, numbers_left}
use Rattle.server_session.specs.Names.{name_kept}
use Rattle.server_core.specs.Among.{Among, left_where}
use Rattle.server_core.specs.Others.{with_last_where}
use Rattle.server_core.specs.Server.{without_jobs_where}
use Rattle.server_core.specs.Sessions.{AreKept}
use Rattle.server_core.proofs.Speaking.{HasItsRoom}
use Rattle.server_core.proofs.SessionState.{HasItsName}

kept-push : (now : ℕ) (standings : List SessionState) (sessions : List Session) (standing : SessionState) (session : Session) → AreKept now standings sessions
    → Stands now standing session → AreKept now (standings ++ standing ∷ []) (sessions ++ session ∷ [])
kept-push now [] [] standing session are stands = (stands, tt)
kept-push now [] (other ∷ sessions) standing session are stands = absurd are
kept-push now (other ∷ standings) [] standing session are stands = absurd are
kept-push now (one ∷ standings) (other ∷ sessions) standing session are stands = (are.0, kept-push now standings sessions standing session are.1 stands)

back-so : {S : Type 0} (now : ℕ) (so : Bool) (others : List SessionState) (standing : SessionState) (among : Among S) → AreKept now others among.others
    → Stands now standing among.speaker.session → AreKept now (with_last_where so standing others) (left_where so among).sessions
back-so now true others standing among are stands = are
back-so now false others standing among are stands = kept-push now others among.others standing among.speaker.session are stands

pub back-kept : {S : Type 0} → HasItsRoom → (now : ℕ) (others : List SessionState) (standing : SessionState) (among : Among S) → AreKept now others among.others
    → Stands now standing among.speaker.session
    → AreKept now (with_last_where (nat_lt (numbers_left standing) room_min) standing others) (left_where (is_spent among.speaker.session) among).sessions
back-kept rooms now others standing among are stands =
    let spent = is_spent among.speaker.session in
    let same : nat_lt (numbers_left standing) room_min ≡ spent = ap (λ (n : ℕ). nat_lt n room_min) (rooms now standing among.speaker.session stands) in
    let P : Bool → Type 0 = λ so. AreKept now (with_last_where so standing others) (left_where spent among).sessions in
    subst P (sym same) (back-so now spent others standing among are stands)

jobs-so : {S : Type 0} (so : Bool) (name : Name) (jobs : Queue) (among : Among S) → name ≡ record { key = among.speaker.session.key; session = among.speaker.session.number }
    → jobs ≡ among.speaker.jobs → without_jobs_where so name jobs ≡ (left_where so among).jobs
jobs-so true name jobs among is same =
    ap (λ (name : Name). without_jobs_of name.key name.session jobs) is ∙ ap (without_jobs_of among.speaker.session.key among.speaker.session.number) same
jobs-so false name jobs among is same = same

pub back-jobs : {S : Type 0} → HasItsName → HasItsRoom → (now : ℕ) (standing : SessionState) (jobs : Queue) (among : Among S) → Stands now standing among.speaker.session
    → jobs ≡ among.speaker.jobs
    → without_jobs_where (nat_lt (numbers_left standing) room_min) (name_kept standing) jobs ≡ (left_where (is_spent among.speaker.session) among).jobs
back-jobs names rooms now standing jobs among stands same =
    let spent = is_spent among.speaker.session in
    let alike : nat_lt (numbers_left standing) room_min ≡ spent = ap (λ (n : ℕ). nat_lt n room_min) (rooms now standing among.speaker.session stands) in
    ap (λ (so : Bool). without_jobs_where so (name_kept standing) jobs) alike
    ∙ jobs-so spent (name_kept standing) jobs among (names now standing among.speaker.session stands) same
