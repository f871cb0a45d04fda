-- Runs are lawful where their tests pass, and an odd run breaks the law where they pass but for its one condition.
use Rattle.std.proofs.Common.{◌≡◌, ◌≢◌, ℕ, ◌==◌, Bool, true, false, ◌&&◌, List, [], ◌∷◌, ◌++◌, refl, sym, ap, ◌∙◌}
use Rattle.std.proofs.lemmas.Bool.{and_parts, or_parts, eqb-false}
use Rattle.std.specs.List.{list_any}
use Rattle.law_moves.specs.Table.{Client, ServerSession}
use Rattle.law_moves.specs.World.{World, start, no_client, no_server}
use Rattle.law_moves.specs.Move.{Move}
use Rattle.law_moves.specs.Move.OwnAct.{NewClient, Renew, Submit, GiveUp, End}
use Rattle.law_moves.specs.Move.Move.{Own, Send, Make, Draw, Judge, Forget, Answer, Speak, Hear, Lose}
use Rattle.law_moves.specs.After.{after}
use Rattle.law_moves.specs.LawfulBut.{NO_PLACE}
use Rattle.law_moves.specs.Reached.{AreLawful, Reached, after_all}
use Rattle.law_moves.specs.Needed.{OddRun, BreaksLaw, world_before, world_after}
use Rattle.law_moves.proofs.Unless.{lawful_whole}
use Rattle.law_moves.proofs.Left.{other_client, leaves_clients, other_server, leaves_servers}
use Rattle.law_moves.proofs.Stays.{lawful_on, after_on}
use Rattle.law_moves.proofs.ClientTests.{Bounded}
use Rattle.law_moves.proofs.Tests.{test, lawful_if}

-- the clients and server sessions that moves change

abbrev pub with_client : Move → List ℕ → List ℕ
with_client (Own (NewClient client session)) clients = client ∷ clients
with_client (Own (Renew client session)) clients = client ∷ clients
with_client (Own (Submit client body)) clients = clients
with_client (Own (GiveUp call)) clients = clients
with_client (Own (End client)) clients = client ∷ clients
with_client (Send client parts) clients = clients
with_client (Make unique session) clients = clients
with_client (Draw unique salt) clients = clients
with_client (Judge unique message outcome) clients = clients
with_client (Forget unique number) clients = clients
with_client (Answer unique number body reply) clients = clients
with_client (Speak unique items) clients = clients
with_client (Hear client packet takes) clients = client ∷ clients
with_client (Lose unique) clients = clients

abbrev pub with_server : Move → List ℕ → List ℕ
with_server (Own act) servers = servers
with_server (Send client parts) servers = servers
with_server (Make unique session) servers = unique ∷ servers
with_server (Draw unique salt) servers = unique ∷ servers
with_server (Judge unique message outcome) servers = unique ∷ servers
with_server (Forget unique number) servers = unique ∷ servers
with_server (Answer unique number body reply) servers = servers
with_server (Speak unique items) servers = servers
with_server (Hear client packet takes) servers = servers
with_server (Lose unique) servers = unique ∷ servers

-- a number outside a list with one more is another, and outside the list
other_than : (numbers : List ℕ) (one n : ℕ) → list_any (λ m. m == n) (one ∷ numbers) ≡ false → (n ≢ one) × (list_any (λ m. m == n) numbers ≡ false)
other_than numbers one n h =
    let parts = or_parts (one == n) (list_any (λ m. m == n) numbers) h in (λ same. eqb-false one n parts.0 (sym same), parts.1)

clients_after : (clients servers : List ℕ) (w : World) (move : Move)
    → Bounded clients servers w
    → (other : ℕ)
    → list_any (λ n. n == other) (with_client move clients) ≡ false
    → (after w move).clients other ≡ no_client
clients_after clients servers w (Own (NewClient client session)) b other h =
    let out = other_than clients client other h in
    other_client w client other (Own (NewClient client session)) refl out.0 ∙ b.blank_clients other out.1
clients_after clients servers w (Own (Renew client session)) b other h =
    let out = other_than clients client other h in
    other_client w client other (Own (Renew client session)) refl out.0 ∙ b.blank_clients other out.1
clients_after clients servers w (Own (Submit client body)) b other h = b.blank_clients other h
clients_after clients servers w (Own (GiveUp call)) b other h = b.blank_clients other h
clients_after clients servers w (Own (End client)) b other h =
    let out = other_than clients client other h in
    other_client w client other (Own (End client)) refl out.0 ∙ b.blank_clients other out.1
clients_after clients servers w (Send client parts) b other h =
    ap (λ (c : ℕ → Client). c other) (leaves_clients w (Send client parts) tt) ∙ b.blank_clients other h
clients_after clients servers w (Hear client packet takes) b other h =
    let out = other_than clients client other h in
    other_client w client other (Hear client packet takes) refl out.0 ∙ b.blank_clients other out.1
clients_after clients servers w (Make unique session) b other h = b.blank_clients other h
clients_after clients servers w (Draw unique salt) b other h = b.blank_clients other h
clients_after clients servers w (Judge unique message outcome) b other h = b.blank_clients other h
clients_after clients servers w (Forget unique number) b other h = b.blank_clients other h
clients_after clients servers w (Answer unique number body reply) b other h = b.blank_clients other h
clients_after clients servers w (Speak unique items) b other h = b.blank_clients other h
clients_after clients servers w (Lose unique) b other h = b.blank_clients other h

servers_after : (clients servers : List ℕ) (w : World) (move : Move)
    → Bounded clients servers w
    → (other : ℕ)
    → list_any (λ n. n == other) (with_server move servers) ≡ false
    → (after w move).servers other ≡ no_server
servers_after clients servers w (Own act) b other h =
    ap (λ (s : ℕ → ServerSession). s other) (leaves_servers w (Own act) tt) ∙ b.blank_servers other h
servers_after clients servers w (Send client parts) b other h =
    ap (λ (s : ℕ → ServerSession). s other) (leaves_servers w (Send client parts) tt) ∙ b.blank_servers other h
servers_after clients servers w (Hear client packet takes) b other h =
    ap (λ (s : ℕ → ServerSession). s other) (leaves_servers w (Hear client packet takes) tt) ∙ b.blank_servers other h
servers_after clients servers w (Answer unique number body reply) b other h = b.blank_servers other h
servers_after clients servers w (Speak unique items) b other h = b.blank_servers other h
servers_after clients servers w (Make unique session) b other h =
    let out = other_than servers unique other h in
    other_server w unique other (Make unique session) refl out.0 ∙ b.blank_servers other out.1
servers_after clients servers w (Draw unique salt) b other h =
    let out = other_than servers unique other h in
    other_server w unique other (Draw unique salt) refl out.0 ∙ b.blank_servers other out.1
servers_after clients servers w (Judge unique message outcome) b other h =
    let out = other_than servers unique other h in
    other_server w unique other (Judge unique message outcome) refl out.0 ∙ b.blank_servers other out.1
servers_after clients servers w (Forget unique number) b other h =
    let out = other_than servers unique other h in
    other_server w unique other (Forget unique number) refl out.0 ∙ b.blank_servers other out.1
servers_after clients servers w (Lose unique) b other h =
    let out = other_than servers unique other h in
    other_server w unique other (Lose unique) refl out.0 ∙ b.blank_servers other out.1

bounded_after : (clients servers : List ℕ) (w : World) (move : Move)
    → Bounded clients servers w → Bounded (with_client move clients) (with_server move servers) (after w move)
bounded_after clients servers w move b =
    record { blank_clients = clients_after clients servers w move b; blank_servers = servers_after clients servers w move b }

-- Lists of moves

abbrev pub all_clients : List Move → List ℕ → List ℕ
all_clients [] clients = clients
all_clients (move ∷ moves) clients = all_clients moves (with_client move clients)

abbrev pub all_servers : List Move → List ℕ → List ℕ
all_servers [] servers = servers
all_servers (move ∷ moves) servers = all_servers moves (with_server move servers)

pub bounded_after_all : (clients servers : List ℕ) (w : World) (moves : List Move)
    → Bounded clients servers w → Bounded (all_clients moves clients) (all_servers moves servers) (after_all w moves)
bounded_after_all clients servers w [] b = b
bounded_after_all clients servers w (move ∷ moves) b =
    bounded_after_all (with_client move clients) (with_server move servers) (after w move) moves (bounded_after clients servers w move b)

abbrev pub tests : List ℕ → List ℕ → World → List Move → Bool
tests clients servers w [] = true
tests clients servers w (move ∷ moves) =
    test NO_PLACE clients servers w move && tests (with_client move clients) (with_server move servers) (after w move) moves

pub lawful_if_tested : (clients servers : List ℕ) (w : World) (moves : List Move)
    → Bounded clients servers w → tests clients servers w moves ≡ true → AreLawful w moves
lawful_if_tested clients servers w [] b h = tt
lawful_if_tested clients servers w (move ∷ moves) b h =
    let parts = and_parts (test NO_PLACE clients servers w move) (tests (with_client move clients) (with_server move servers) (after w move) moves) h in (
      lawful_whole w move (lawful_if NO_PLACE clients servers w move b parts.0),
      lawful_if_tested (with_client move clients) (with_server move servers) (after w move) moves (bounded_after clients servers w move b) parts.1,
    )

pub bounded_start : Bounded [] [] start
bounded_start = record { blank_clients = λ client h. refl; blank_servers = λ unique h. refl }

-- a run from the empty world
pub run_lawful : (moves : List Move) → tests [] [] start moves ≡ true → AreLawful start moves
run_lawful moves h = lawful_if_tested [] [] start moves bounded_start h

-- an odd run breaks a law that holds of every world that lawful moves lead to
pub breaks : (Law : World → Type 0) (run : OddRun)
    → ((w : World) → Reached w → Law w)
    → tests [] [] start run.before ≡ true
    → test run.lacks (all_clients run.before []) (all_servers run.before []) (world_before run) run.odd ≡ true
    → tests (with_client run.odd (all_clients run.before [])) (with_server run.odd (all_servers run.before [])) (after (world_before run) run.odd) run.rest ≡ true
    → (Law (world_after run) → ⊥)
    → BreaksLaw Law run
breaks Law run law before odd rest broken =
    let bounded = bounded_after_all [] [] start run.before bounded_start in
    let lawful_before = run_lawful run.before before in
    let lawful_rest =
    lawful_if_tested (with_client run.odd (all_clients run.before [])) (with_server run.odd (all_servers run.before [])) (after (world_before run) run.odd) run.rest
    (bounded_after (all_clients run.before []) (all_servers run.before []) (world_before run) run.odd bounded) rest in (
      lawful_before,
      lawful_if run.lacks (all_clients run.before []) (all_servers run.before []) (world_before run) run.odd bounded odd,
      λ lawful.
          broken (
          law (world_after run) (
            run.before ++ run.odd ∷ run.rest,
            lawful_on start run.before (run.odd ∷ run.rest) lawful_before (lawful, lawful_rest),
            after_on start run.before (run.odd ∷ run.rest),
          )
          ),
      lawful_rest,
      broken,
    )
