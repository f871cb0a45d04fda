-- The salts of an event are drawn at its beginning.
use Rattle.std.proofs.Common.{◌≡◌, ◌≢◌, ℕ, List, [], ◌∷◌, ◌++◌, map, refl, sym, ap, subst, ◌∙◌}
use Rattle.std.specs.List.{AllByRecursion, Contains, flat_map}
use Rattle.std.proofs.lemmas.List.Elements.{Contains-append_right}
use Rattle.salt_line.specs.Rows.{Row}
use Rattle.salt_line.specs.Line.{Line}
use Rattle.waits.specs.Jobs.{Queue}
use Rattle.server_rules.specs.Server.{Name, Server, Session, name_of, with_session}
use Rattle.server_rules.specs.Answer.{begun}
use Rattle.law_moves.specs.World.{World}
use Rattle.law_moves.specs.Reached.{Reached}
use Rattle.law_server_moves.specs.Leading.{Leads}
use Rattle.law_server_moves.specs.Servers.{AreApart, AreNewSalts, IsNewSalt, Past, ServerStands, with_row, with_rows}
use Rattle.law_server_moves.specs.Speaking.{IsOwedThere, with_line}
use Rattle.law_server_moves.specs.Events.{AreLines, EventStands, with_lines}
use Rattle.law_server_moves.proofs.Lists.{all_of, each_of, here, later as one_later}
use Rattle.law_server_moves.proofs.Entered.{nothing_entered}
use Rattle.law_server_moves.proofs.Leading.{GoOn, goes_on, leads_so, stays}
use Rattle.law_server_moves.proofs.Judging.{draws_on}
use Rattle.law_server_moves.proofs.Losing.{append_nothing, append_one}
use Rattle.law_server_moves.proofs.One.{put, put_itself, put_other, with_itself}
use Rattle.law_server_moves.proofs.Packets.{with_among, with_twice}
use Rattle.law_server_moves.proofs.Lines.{still_all, with_all}

-- ---- new words

suffix_new : (w : World) (rows others : List Row) → AreNewSalts w (rows ++ others) → AreNewSalts w others
suffix_new w [] others h = h
suffix_new w (row ∷ rows) others h = suffix_new w rows others h.2

among_first : (rows others : List Row) (row : Row) → AllByRecursion (λ (other : Row). other.word ≢ row.word) (rows ++ others) → AllByRecursion (λ (other : Row). other.word ≢ row.word) rows
among_first [] others row h = tt
among_first (one ∷ rows) others row h = (h.0, among_first rows others row h.1)

first_new : (w : World) (rows others : List Row) → AreNewSalts w (rows ++ others) → AreNewSalts w rows
first_new w [] others h = tt
first_new w (row ∷ rows) others h = (h.0, among_first rows others row h.1, first_new w rows others h.2)

differ_all : (w : World) (rows others : List Row) → AreNewSalts w (rows ++ others) → (one : Row) → Contains others one → AllByRecursion (λ (row : Row). row.word ≢ one.word) rows
differ_all w [] others h one is = tt
differ_all w (row ∷ rows) others h one is = (
  λ same. each_of (λ (other : Row). other.word ≢ row.word) (rows ++ others) h.1 one (Contains-append_right rows others one is) (sym same),
  differ_all w rows others h.2 one is,
)

new_again : (w later : World) (rows : List Row) → AreNewSalts w rows → ((one : Row) → Contains rows one → IsNewSalt w one.word → IsNewSalt later one.word) → AreNewSalts later rows
new_again w later [] h so = tt
new_again w later (row ∷ rows) h so = (so row (here row rows) h.0, h.1, new_again w later rows h.2 (λ one is new. so one (one_later one row rows is) new))

-- what was new, but for these words, still is
abbrev pub StillNew : World → List Row → World → Type 0
StillNew w rows later = (b : ℕ) → IsNewSalt w b → AllByRecursion (λ (row : Row). row.word ≢ b) rows → IsNewSalt later b

new_after : (w later : World) (rows others : List Row) → StillNew w rows later → AreNewSalts w (rows ++ others) → AreNewSalts later others
new_after w later rows others still h =
    new_again w later others (suffix_new w rows others h) (λ one is new. still one.word new (differ_all w rows others h one is))

-- ---- one session draws

draws_on_all : GoOn → (w : World) (gone : Past) (sessions : List Session) (jobs : Queue) (x : Session) (rows : List Row) → Reached w → ServerStands w gone sessions jobs
    → Contains sessions x → AreNewSalts w rows → Leads w (λ later. ServerStands later gone (with_session (with_rows rows x) sessions) jobs × StillNew w rows later)
draws_on_all on w gone sessions jobs x [] reached s among new =
    stays w (λ later. ServerStands later gone (with_session (with_rows [] x) sessions) jobs × StillNew w [] later) (
      subst (λ (rows : List Row). ServerStands w gone (with_session (with_all rows x) sessions) jobs) (sym (append_nothing x.salts.rows))
          (subst (λ (l : List Session). ServerStands w gone l jobs) (sym (with_itself sessions s.apart x among)) s),
      λ b is differ. is,
    )
draws_on_all on w gone sessions jobs x (row ∷ rows) reached s among new =
    let next : Session = with_row row x in
    goes_on on w
    (λ later. ServerStands later gone (with_session next sessions) jobs × ((b : ℕ) → IsNewSalt w b → b ≢ row.word → IsNewSalt later b))
    (λ later. ServerStands later gone (with_session (with_rows (row ∷ rows) x) sessions) jobs × StillNew w (row ∷ rows) later) reached
    (draws_on w gone sessions jobs s x among row new.0)
    (λ later reached h.
    leads_so later
    (λ last. ServerStands last gone (with_session (with_rows rows next) (with_session next sessions)) jobs × StillNew later rows last)
    (λ last. ServerStands last gone (with_session (with_rows (row ∷ rows) x) sessions) jobs × StillNew w (row ∷ rows) last)
    (λ last k. (
      subst (λ (all : List Row). ServerStands last gone (with_session (with_all all x) sessions) jobs) (append_one x.salts.rows row rows)
          (subst (λ (l : List Session). ServerStands last gone l jobs) (with_twice sessions next (with_rows rows next) refl refl) k.0),
      λ b is differ. k.1 b (h.1 b is (λ same. differ.0 (sym same))) differ.1,
    ))
    (draws_on_all on later gone (with_session next sessions) jobs next rows reached h.0 (with_among sessions x next refl refl among)
    (still_all w later row.word h.1 rows new.1 new.2)))

-- ---- each in its place

others_stay : (sessions : List Session) (new : Session) → AllByRecursion (λ (o : Session). o.number ≢ new.number) sessions → map (put new) sessions ≡ sessions
others_stay [] new h = refl
others_stay (o ∷ sessions) new h = ap (λ (z : Session). z ∷ map (put new) sessions) (put_other new o h.0) ∙ ap (λ (l : List Session). o ∷ l) (others_stay sessions new h.1)

put_between : (done : List Session) (x new : Session) (rest : List Session) → new.key ≡ x.key → new.number ≡ x.number → AreApart (done ++ x ∷ rest)
    → with_session new (done ++ x ∷ rest) ≡ done ++ new ∷ rest
put_between [] x new rest key number h =
    ap (λ (z : Session). z ∷ map (put new) rest) (put_itself new x key number)
    ∙ ap (λ (l : List Session). new ∷ l) (others_stay rest new (subst (λ (n : ℕ). AllByRecursion (λ (o : Session). o.number ≢ n) rest) (sym number) h.0))
put_between (o ∷ done) x new rest key number h =
    let differs : x.number ≢ o.number = each_of (λ (z : Session). z.number ≢ o.number) (done ++ x ∷ rest) h.0 x (Contains-append_right done (x ∷ rest) x (here x rest)) in
    ap (λ (z : Session). z ∷ with_session new (done ++ x ∷ rest)) (put_other new o (λ same. differs (sym number ∙ sym same)))
    ∙ ap (λ (l : List Session). o ∷ l) (put_between done x new rest key number h.1)

pub draws_each : GoOn → (w : World) (gone : Past) (done rest : List Session) (jobs : Queue) (lines : Name → Line) (more : Name → List Row) → Reached w → ServerStands w gone (done ++ rest) jobs
    → AreLines w lines more rest → Leads w (λ later. ServerStands later gone (done ++ with_lines lines rest) jobs)
draws_each on w gone done [] jobs lines more reached s h = stays w (λ later. ServerStands later gone (done ++ []) jobs) s
draws_each on w gone done (x ∷ rest) jobs lines more reached s h =
    let own : List Row = more (name_of x) in
    let others : List Row = flat_map (λ (session : Session). more (name_of session)) rest in
    let now : Session = with_rows own x in
    let its : Session = with_line (lines (name_of x)) x in
    let is_its : now ≡ its = ap (λ (line : Line). with_line line x) (sym h.ahead.0) in
    goes_on on w (λ later. ServerStands later gone (with_session now (done ++ x ∷ rest)) jobs × StillNew w own later)
    (λ later. ServerStands later gone (done ++ its ∷ with_lines lines rest) jobs) reached
    (draws_on_all on w gone (done ++ x ∷ rest) jobs x own reached s (Contains-append_right done (x ∷ rest) x (here x rest)) (first_new w own others h.new))
    (λ later reached k.
    let placed : ServerStands later gone (done ++ its ∷ rest) jobs =
    subst (λ (z : Session). ServerStands later gone (done ++ z ∷ rest) jobs) is_its
    (subst (λ (l : List Session). ServerStands later gone l jobs) (put_between done x now rest refl refl s.apart) k.0) in
    leads_so later (λ last. ServerStands last gone ((done ++ its ∷ []) ++ with_lines lines rest) jobs) (λ last. ServerStands last gone (done ++ its ∷ with_lines lines rest) jobs)
    (λ last m. subst (λ (l : List Session). ServerStands last gone l jobs) (append_one done its (with_lines lines rest)) m)
    (draws_each on later gone (done ++ its ∷ []) rest jobs lines more reached
    (subst (λ (l : List Session). ServerStands later gone l jobs) (sym (append_one done its rest)) placed)
    (record { ahead = h.ahead.1; new = new_after w later own others k.1 h.new })))

pub begins_on : {S : Type 0} → GoOn → (w : World) (gone : Past) (lines : Name → Line) (more : Name → List Row) (server : Server) (draw : S) → Reached w
    → ServerStands w gone server.sessions server.jobs → AreLines w lines more server.sessions → Leads w (λ later. EventStands later gone lines (begun server draw))
begins_on on w gone lines more server draw reached s h =
    leads_so w (λ later. ServerStands later gone (with_lines lines server.sessions) server.jobs) (λ later. EventStands later gone lines (begun server draw))
    (λ later k. record { stands = nothing_entered later gone (with_lines lines server.sessions) server.jobs k; owed = all_of (λ (o : Session). AllByRecursion (IsOwedThere later o) []) (with_lines lines server.sessions) (λ o is. tt) })
    (draws_each on w gone [] server.sessions server.jobs lines more reached s h)
