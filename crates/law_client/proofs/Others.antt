-- What stands still while another moves.
use Rattle.std.proofs.Common.{◌≡◌, ◌≢◌, ℕ, zero, suc, List, [], ◌∷◌, ◌++◌, Option, None, Some, inl, refl, sym, ap, subst, ◌∙◌, arith, ne_eqb}
use Rattle.std.specs.Prelude.{slice_get, IfSome}
use Rattle.std.specs.List.{All, AllByRecursion, Contains}
use Rattle.std.proofs.lemmas.List.Elements.{All-head, All-tail}
use Rattle.law_moves.specs.Table as moves
use Rattle.law_moves.specs.World.{World, Owns}
use Rattle.law_moves.specs.Move.{Part, Move}
use Rattle.law_moves.specs.Move.OwnAct.{NewClient, Renew, Submit, GiveUp, End}
use Rattle.law_moves.specs.Move.Part.{First, Again, Other, OtherAgain}
use Rattle.law_moves.specs.Move.Move.{Own, Send, Make, Draw, Judge, Forget, Answer, Speak, Hear, Lose}
use Rattle.law_moves.specs.After.{after, after_part, after_parts, salts_of}
use Rattle.law_moves.specs.Extends.{IsOfClient, IsOfServer, LeavesCalls, LeavesClients, LeavesMessages, LeavesSubmitted}
use Rattle.law_moves.specs.Lawful.{IsLawful}
use Rattle.law_moves.specs.Reached.{AreLawful, Reached, after_all}
use Rattle.call_table.specs.Table.{Call, Name}
use Rattle.client_rules.specs.Client.{Client, Binding, Needed, Asked, Held, Bound, Refused, Temporary, calls_of}
use Rattle.law_client.specs.Leading.{IsOfServers}
use Rattle.law_client.specs.Clients.{StandsAs, IsAskedThere, IsGivenBy, IsNameThere, StandsThere}
use Rattle.law_client.proofs.Basics.{Apart, later, names_keep}
use Rattle.law_client.proofs.Leading.{GoOn}
use Rattle.law_client.proofs.Sending.{unsalted}

-- what the law on moves promises of what moves leave
pub record Leaves : Type 0 where
  pub clients : (w : World) (moves : List Move) → All LeavesClients moves → (after_all w moves).clients ≡ w.clients
  pub calls : (w : World) (moves : List Move) → All LeavesCalls moves → (after_all w moves).calls ≡ w.calls
  pub submitted : (w : World) (moves : List Move) → All LeavesSubmitted moves → (after_all w moves).submitted ≡ w.submitted
  pub messages : (w : World) (moves : List Move) → All LeavesMessages moves → (after_all w moves).ups ≡ w.ups
  pub other_clients : (w : World) (client other : ℕ) (moves : List Move) → All (IsOfClient client) moves → other ≢ client
      → (after_all w moves).clients other ≡ w.clients other
  pub other_calls : (w : World) (client : ℕ) (call : moves.CallId) (moves : List Move) → All (IsOfClient client) moves
      → call.client ≢ client → (after_all w moves).calls call ≡ w.calls call

just : (P : Move → Type 0) (move : Move) → P move → All P (move ∷ [])
just P move holds zero d below = holds
just P move holds (suc k) d below = absurd (omega arith)

-- ---- messages of others

salts_still : (news ups : List moves.Message) (there : moves.Name)
    → AllByRecursion (λ (m : moves.Message). m.session ≢ there.session) news → salts_of (news ++ ups) there ≡ salts_of ups there
salts_still [] ups there differ = refl
salts_still (m ∷ news) ups there differ =
    unsalted m (news ++ ups) there (λ session number. differ.0 session) ∙ salts_still news ups there differ.1

among_more : (news ups : List moves.Message) (m : moves.Message) → Contains ups m → Contains (news ++ ups) m
among_more [] ups m among = among
among_more (n ∷ news) ups m among = later m n (news ++ ups) (among_more news ups m among)

all_map : {X : Type 0} (P Q : X → Type 0) (xs : List X) → ((x : X) → P x → Q x) → AllByRecursion P xs → AllByRecursion Q xs
all_map P Q [] so h = tt
all_map P Q (x ∷ xs) so h = (so x h.0, all_map P Q xs so h.1)

all_append : {X : Type 0} (P : X → Type 0) (xs ys : List X) → AllByRecursion P xs → AllByRecursion P ys → AllByRecursion P (xs ++ ys)
all_append P [] ys h k = k
all_append P (x ∷ xs) ys h k = (h.0, all_append P xs ys h.1 k)

asked_more : (news ups : List moves.Message) (client : Client) (binding : Binding) → IsAskedThere ups client binding → IsAskedThere (news ++ ups) client binding
asked_more news ups client Needed h = tt
asked_more news ups client (Asked message) h = ((h.0.0, among_more news ups h.0.0 h.0.1, h.0.2, h.0.3, h.0.4), h.1)
asked_more news ups client Held h = tt
asked_more news ups client Bound h = tt
asked_more news ups client (Refused code) h = tt

all_asked : (news ups : List moves.Message) (client : Client) (temporary : Option Temporary)
    → IfSome temporary (λ (t : Temporary). IsAskedThere ups client t.binding) → IfSome temporary (λ (t : Temporary). IsAskedThere (news ++ ups) client t.binding)
all_asked news ups client None h = tt
all_asked news ups client (Some temporary) h = asked_more news ups client temporary.binding h

-- ---- a client that isn't touched

-- the messages are of no session number of this client
abbrev pub AreForeign : World → ℕ → List moves.Message → Type 0
AreForeign w number news = AllByRecursion (λ (m : moves.Message). Owns (w.clients number) m.session → ⊥) news

module _ (apart : Apart) (w v : World) (number : ℕ) (client : Client) (news : List moves.Message) (reached : Reached w) (s : StandsAs w number client)
    (clients : v.clients number ≡ w.clients number) (submitted : v.submitted number ≡ w.submitted number)
    (calls : (place : ℕ) → v.calls (moves.call_at number place) ≡ w.calls (moves.call_at number place))
    (ups : v.ups ≡ news ++ w.ups) (foreign : AreForeign w number news) where
  name_still : (place : ℕ) (name : Name) (there : moves.Name) → Contains (w.calls (moves.call_at number place)).names there
      → IsNameThere w.ups name there → IsNameThere (news ++ w.ups) name there
  name_still place name there among h = record {
    session = h.session;
    number = h.number;
    salts = salts_still news w.ups there
        (all_map (λ (m : moves.Message). Owns (w.clients number) m.session → ⊥) (λ (m : moves.Message). m.session ≢ there.session) news
        (λ m never same. never (subst (λ (session : ℕ). Owns (w.clients number) session) (sym same) (apart.of_name w (moves.call_at number place) there reached among)))
        foreign) ∙ h.salts;
  }

  place_still : (place : ℕ) (found : Option Call) → StandsThere client w.ups found (w.calls (moves.call_at number place))
      → StandsThere client (news ++ w.ups) found (w.calls (moves.call_at number place))
  place_still place None h = h
  place_still place (Some call) h = record {
    body = h.body;
    state = h.state;
    names = names_keep w.ups (news ++ w.ups) call.names (w.calls (moves.call_at number place)).names (name_still place) h.names;
    living = h.living;
    asks = h.asks;
  }

  owns_present : Owns (w.clients number) client.session
  owns_present = subst (λ (c : moves.Client). Owns c client.session) (sym s.parts) (s.made, inl refl)

  pub stands_still : StandsAs v number client
  stands_still = record {
    made = s.made;
    parts = clients ∙ s.parts;
    submitted = submitted ∙ s.submitted;
    calls = λ place. subst (λ (l : List moves.Message). StandsThere client l (slice_get (calls_of client) place) (v.calls (moves.call_at number place))) (sym ups)
        (subst (λ (there : moves.Call). StandsThere client (news ++ w.ups) (slice_get (calls_of client) place) there) (sym (calls place))
        (place_still place (slice_get (calls_of client) place) (s.calls place)));
    given = subst (λ (l : List moves.Message). AllByRecursion (λ (m : moves.Message). IsGivenBy client m.session m.number) l) (sym ups)
        (all_append (λ (m : moves.Message). IsGivenBy client m.session m.number) news w.ups
        (all_map (λ (m : moves.Message). Owns (w.clients number) m.session → ⊥) (λ (m : moves.Message). IsGivenBy client m.session m.number) news
        (λ m never is. absurd (never (subst (λ (session : ℕ). Owns (w.clients number) session) (sym is) owns_present))) foreign) s.given);
    short = record { acks = s.short.acks; resent = s.short.resent };
    asked = subst (λ (l : List moves.Message). IfSome client.temporary (λ (t : Temporary). IsAskedThere l client t.binding)) (sym ups)
        (all_asked news w.ups client client.temporary s.asked);
  }

-- ---- a packet of another client

pushed : (xs : List moves.Message) (x : moves.Message) (ys : List moves.Message) → xs ++ (x ∷ ys) ≡ (xs ++ x ∷ []) ++ ys
pushed [] x ys = refl
pushed (z ∷ xs) x ys = ap (λ (l : List moves.Message). z ∷ l) (pushed xs x ys)

pub record Sent (v later : World) (client : ℕ) : Type 0 where
  pub news : List moves.Message
  pub ups : later.ups ≡ news ++ v.ups
  pub sessions : AllByRecursion (λ (m : moves.Message). m.session ≡ (v.clients client).present) news

behind : (first : moves.Message) (v later : World) (client : ℕ) (middle : World) → middle.ups ≡ first ∷ v.ups → middle.clients ≡ v.clients
    → first.session ≡ (v.clients client).present → Sent middle later client → Sent v later client
behind first v later client middle ups clients session h = record {
  news = h.news ++ first ∷ [];
  ups = h.ups ∙ ap (λ (l : List moves.Message). h.news ++ l) ups ∙ pushed h.news first v.ups;
  sessions = all_append (λ (m : moves.Message). m.session ≡ (v.clients client).present) h.news (first ∷ [])
      (subst (λ (clients : ℕ → moves.Client). AllByRecursion (λ (m : moves.Message). m.session ≡ (clients client).present) h.news) clients h.sessions) (session, tt);
}

pub sent_by : (parts : List Part) (v : World) (client : ℕ) → Sent v (after_parts v client parts) client
sent_by [] v client = record { news = []; ups = refl; sessions = tt }
sent_by (First place number ∷ parts) v client =
    behind _ v (after_parts v client (First place number ∷ parts)) client (after_part v client (First place number)) refl refl refl
    (sent_by parts (after_part v client (First place number)) client)
sent_by (Again place number ∷ parts) v client =
    behind _ v (after_parts v client (Again place number ∷ parts)) client (after_part v client (Again place number)) refl refl refl
    (sent_by parts (after_part v client (Again place number)) client)
sent_by (Other number ∷ parts) v client =
    behind _ v (after_parts v client (Other number ∷ parts)) client (after_part v client (Other number)) refl refl refl
    (sent_by parts (after_part v client (Other number)) client)
sent_by (OtherAgain number ∷ parts) v client =
    behind _ v (after_parts v client (OtherAgain number ∷ parts)) client (after_part v client (OtherAgain number)) refl refl refl
    (sent_by parts (after_part v client (OtherAgain number)) client)

-- ---- one move of another client

module _ (apart : Apart) (leaves : Leaves) (w : World) (mover number : ℕ) (client : Client) (reached : Reached w) (s : StandsAs w number client)
    (differs : number ≢ mover) where
  -- without a message
  silent : (move : Move) → IsOfClient mover move → LeavesMessages move → (after w move).submitted number ≡ w.submitted number → StandsAs (after w move) number client
  silent move its none submitted =
      stands_still apart w (after w move) number client [] reached s
      (leaves.other_clients w mover number (move ∷ []) (just (IsOfClient mover) move its) differs) submitted
      (λ place. leaves.other_calls w mover (moves.call_at number place) (move ∷ []) (just (IsOfClient mover) move its) differs)
      (leaves.messages w (move ∷ []) (just LeavesMessages move none)) tt

  sends : (parts : List Part) → IsLawful w (Send mover parts) → StandsAs (after w (Send mover parts)) number client
  sends parts lawful =
      let sent = sent_by parts w mover in
      let move : Move = Send mover parts in
      stands_still apart w (after w move) number client sent.news reached s
      (leaves.other_clients w mover number (move ∷ []) (just (IsOfClient mover) move refl) differs)
      (ap (λ (f : ℕ → ℕ). f number) (leaves.submitted w (move ∷ []) (just LeavesSubmitted move tt)))
      (λ place. leaves.other_calls w mover (moves.call_at number place) (move ∷ []) (just (IsOfClient mover) move refl) differs)
      sent.ups
      (all_map (λ (m : moves.Message). m.session ≡ (w.clients mover).present) (λ (m : moves.Message). Owns (w.clients number) m.session → ⊥) sent.news
      (λ m session owns. differs (apart.one_owner w number mover m.session reached owns
      ((λ none. lawful.0 (sym session ∙ none)), inl session))) sent.sessions)

  left_submitted : (move : Move) → LeavesSubmitted move → (after w move).submitted number ≡ w.submitted number
  left_submitted move h = ap (λ (f : ℕ → ℕ). f number) (leaves.submitted w (move ∷ []) (just LeavesSubmitted move h))

  pub another_moves : (move : Move) → IsLawful w move → IsOfClient mover move → StandsAs (after w move) number client
  another_moves (Own (NewClient other session)) lawful its = silent (Own (NewClient other session)) its tt (left_submitted (Own (NewClient other session)) tt)
  another_moves (Own (Renew other session)) lawful its = silent (Own (Renew other session)) its tt (left_submitted (Own (Renew other session)) tt)
  another_moves (Own (Submit other body)) lawful its =
      silent (Own (Submit other body)) its tt (rw (ne_eqb number other (λ same. differs (same ∙ its))) refl)
  another_moves (Own (GiveUp call)) lawful its = silent (Own (GiveUp call)) its tt (left_submitted (Own (GiveUp call)) tt)
  another_moves (Own (End other)) lawful its = silent (Own (End other)) its tt (left_submitted (Own (End other)) tt)
  another_moves (Send other parts) lawful its =
      subst (λ (o : ℕ). StandsAs (after w (Send o parts)) number client) (sym its) (sends parts (subst (λ (o : ℕ). IsLawful w (Send o parts)) its lawful))
  another_moves (Make unique session) lawful its = absurd its
  another_moves (Draw unique salt) lawful its = absurd its
  another_moves (Judge unique message outcome) lawful its = absurd its
  another_moves (Forget unique forgotten) lawful its = absurd its
  another_moves (Answer unique answered body reply) lawful its = absurd its
  another_moves (Speak unique items) lawful its = absurd its
  another_moves (Hear other packet takes) lawful its = silent (Hear other packet takes) its tt (left_submitted (Hear other packet takes) tt)
  another_moves (Lose unique) lawful its = absurd its

-- ---- all of them

pub others_move : Apart → Leaves → GoOn → (w : World) (mover number : ℕ) (list : List Move) (client : Client) → Reached w → AreLawful w list
    → All (IsOfClient mover) list → number ≢ mover → StandsAs w number client → StandsAs (after_all w list) number client
others_move apart leaves on w mover number [] client reached lawful its differs s = s
others_move apart leaves on w mover number (move ∷ list) client reached lawful its differs s =
    others_move apart leaves on (after w move) mover number list client (on.reached w (move ∷ []) reached (lawful.0, tt)) lawful.1
    (All-tail (IsOfClient mover) move list its) differs
    (another_moves apart leaves w mover number client reached s differs move lawful.0 (All-head (IsOfClient mover) move list its))

-- ---- a server

of_server : (P : Move → Type 0) → ((unique session : ℕ) → P (Make unique session)) → ((unique salt : ℕ) → P (Draw unique salt))
    → ((unique : ℕ) (message : moves.Message) (outcome : moves.Outcome) → P (Judge unique message outcome)) → ((unique number : ℕ) → P (Forget unique number))
    → ((unique number : ℕ) (body reply : moves.Text) → P (Answer unique number body reply)) → ((unique : ℕ) (items : List moves.Item) → P (Speak unique items))
    → ((unique : ℕ) → P (Lose unique)) → (unique : ℕ) (move : Move) → IsOfServer unique move → P move
of_server P make draw judge forget answer speak lose unique (Own act) its = absurd its
of_server P make draw judge forget answer speak lose unique (Send client parts) its = absurd its
of_server P make draw judge forget answer speak lose unique (Make other session) its = make other session
of_server P make draw judge forget answer speak lose unique (Draw other salt) its = draw other salt
of_server P make draw judge forget answer speak lose unique (Judge other message outcome) its = judge other message outcome
of_server P make draw judge forget answer speak lose unique (Forget other number) its = forget other number
of_server P make draw judge forget answer speak lose unique (Answer other number body reply) its = answer other number body reply
of_server P make draw judge forget answer speak lose unique (Speak other items) its = speak other items
of_server P make draw judge forget answer speak lose unique (Hear client packet takes) its = absurd its
of_server P make draw judge forget answer speak lose unique (Lose other) its = lose other

pub servers_move : Apart → Leaves → GoOn → (w : World) (number : ℕ) (list : List Move) (client : Client) → Reached w → AreLawful w list
    → All IsOfServers list → StandsAs w number client → StandsAs (after_all w list) number client
servers_move apart leaves on w number [] client reached lawful its s = s
servers_move apart leaves on w number (move ∷ list) client reached lawful its s =
    let of = All-head IsOfServers move list its in
    servers_move apart leaves on (after w move) number list client (on.reached w (move ∷ []) reached (lawful.0, tt)) lawful.1
    (All-tail IsOfServers move list its)
    (stands_still apart w (after w move) number client [] reached s
    (ap (λ (f : ℕ → moves.Client). f number) (leaves.clients w (move ∷ []) (just LeavesClients move
    (of_server LeavesClients (λ _ _. tt) (λ _ _. tt) (λ _ _ _. tt) (λ _ _. tt) (λ _ _ _ _. tt) (λ _ _. tt) (λ _. tt) of.0 move of.1))))
    (ap (λ (f : ℕ → ℕ). f number) (leaves.submitted w (move ∷ []) (just LeavesSubmitted move
    (of_server LeavesSubmitted (λ _ _. tt) (λ _ _. tt) (λ _ _ _. tt) (λ _ _. tt) (λ _ _ _ _. tt) (λ _ _. tt) (λ _. tt) of.0 move of.1))))
    (λ place. ap (λ (f : moves.CallId → moves.Call). f (moves.call_at number place)) (leaves.calls w (move ∷ []) (just LeavesCalls move
    (of_server LeavesCalls (λ _ _. tt) (λ _ _. tt) (λ _ _ _. tt) (λ _ _. tt) (λ _ _ _ _. tt) (λ _ _. tt) (λ _. tt) of.0 move of.1))))
    (leaves.messages w (move ∷ []) (just LeavesMessages move
    (of_server LeavesMessages (λ _ _. tt) (λ _ _. tt) (λ _ _ _. tt) (λ _ _. tt) (λ _ _ _ _. tt) (λ _ _. tt) (λ _. tt) of.0 move of.1))) tt)
