-- What the law on moves says of calls and entries, said of a world that stands there.
use Rattle.std.proofs.Common.{◌≡◌, ◌≢◌, ℕ, zero, suc, ◌<◌, ◌≤◌, ◌==◌, Bool, true, List, [], ◌∷◌, length, filter, Option, Some, None, inl, inr, refl, sym, ap, subst, ◌∙◌, arith, eq-eqb}
use Rattle.std.specs.Prelude.{◌&&◌, ◌||◌, option_map, slice_get}
use Rattle.std.specs.List.{Contains, list_any}
use Rattle.std.proofs.lemmas.Bool.{and_from, and_parts, cases_Bool, eqb-true}
use Rattle.std.proofs.lemmas.List.Elements.{Contains-append_cases, Contains-append_left}
use Rattle.server_rules.specs.Event.{Entry}
use Rattle.server_rules.specs.Server.{Session}
use Rattle.law_moves.specs.Table as moves
use Rattle.law_moves.specs.Table.Status.{Unmade, Standing, Lost}
use Rattle.law_moves.specs.World.{Owns, World as Moved}
use Rattle.law_moves.specs.Reached.{Reached}
use Rattle.law_moves.specs.Once.{HadTwo, IsOfCall, IsOfName, Once as IsOnceThere, OnLast}
use Rattle.law_moves.specs.Once as law
use Rattle.call_table.specs.Table.{Call, Name}
use Rattle.call_table.specs.declared.call.Cause.{Cause}
use Rattle.call_table.specs.declared.call.Cause.TheVariants as cause
use Rattle.client_rules.specs.Client.{Client, calls_of}
use Rattle.law_client.specs.Clients.{AreNamesThere, IsCallThere, IsNameThere, StandsAs, StandsThere, client_there}
use Rattle.world_rules.specs.World.{Entered, Seat, World, lives, owns}
use Rattle.world_rules.specs.Once.{HasCause, IsCallOf, IsCause, WasAsked, WasForgotten, lives_under, of_name, without_first}
use Rattle.law_server_moves.specs.Servers.{HasForgotten, IsEntered, IsLost, IsMade, IsOneOf, IsStanding}
use Rattle.law_once.specs.Standing.{IsKeyOf, IsSeated, WorldStands, key_at}
use Rattle.law_once.proofs.Lists.{each_of, first_or, here, kept_in, later}
use Rattle.law_once.proofs.Drawn.{from_reverse}
use Rattle.law_once.proofs.Entries.{counted_alike, entry_of, from_listed, in_listed, listed, no_length, none_kept, one_kept, one_length, there_of, two_length}

-- what is known of names, owners and server sessions
pub record Naming : Type 0 where
  pub one_owner : (w : Moved) (one other session : ℕ) → Reached w → Owns (w.clients one) session → Owns (w.clients other) session → one ≡ other
  pub of_name : (w : Moved) (call : moves.CallId) (name : moves.Name) → Reached w → Contains (w.calls call).names name → Owns (w.clients call.client) name.session
  pub blank : (w : Moved) (unique : ℕ) → Reached w → (w.servers unique).status ≡ Unmade
      → ((w.servers unique).salts ≡ []) × ((w.servers unique).judged ≡ []) × ((w.servers unique).forgotten ≡ [])
  pub lost_later : (w : Moved) → Reached w → (unique at : ℕ) → (w.servers unique).status ≡ Lost at → (w.servers unique).made ≤ at

-- ---- lists

none_in : {X : Type 0} (x : X) → Contains [] x → ⊥
none_in x among = let below : among.0 < 0 = among.1 in absurd (omega (arith, below))

any_there : {X : Type 0} (test : X → Bool) (xs : List X) → list_any test xs ≡ true → (x : X) × Contains xs x × (test x ≡ true)
any_there test [] is = absurd (cc)
any_there test (x ∷ xs) is =
    elim (cases_Bool (test x)) [
      | inl holds ↦ (x, here x xs, holds)
      | inr fails ↦
          let rest = any_there test xs (subst (λ (b : Bool). (b || list_any test xs) ≡ true) fails is) in
          (rest.0, later rest.0 x xs rest.1, rest.2)
    ]

any_from : {X : Type 0} (test : X → Bool) (xs : List X) (x : X) → Contains xs x → test x ≡ true → list_any test xs ≡ true
any_from test [] x among holds = absurd (none_in x among)
any_from test (y ∷ xs) x among holds =
    elim (first_or x y xs among) [
      | inl is ↦ rw (ap test is ∙ holds) refl
      | inr other ↦
          elim (cases_Bool (test y)) [
            | inl also ↦ rw also refl
            | inr fails ↦ rw fails (any_from test xs x other holds)
          ]
    ]

-- ---- names

name_there : (ups : List moves.Message) (names : List Name) (theres : List moves.Name) → AreNamesThere ups names theres → (name : Name) → Contains names name
    → (there : moves.Name) × Contains theres there × IsNameThere ups name there
name_there ups [] theres h name among = absurd (none_in name among)
name_there ups (first ∷ names) [] h name among = absurd h
name_there ups (first ∷ names) (there ∷ theres) h name among =
    elim (first_or name first names among) [
      | inl is ↦ (there, here there theres, subst (λ (n : Name). IsNameThere ups n there) is h.0)
      | inr other ↦ let rest = name_there ups names theres h.1 name other in (rest.0, later rest.0 there theres rest.1, rest.2)
    ]

name_here : (ups : List moves.Message) (names : List Name) (theres : List moves.Name) → AreNamesThere ups names theres → (there : moves.Name) → Contains theres there
    → (name : Name) × Contains names name × IsNameThere ups name there
name_here ups [] [] h there among = absurd (none_in there among)
name_here ups [] (first ∷ theres) h there among = absurd h
name_here ups (name ∷ names) [] h there among = absurd h
name_here ups (name ∷ names) (first ∷ theres) h there among =
    elim (first_or there first theres among) [
      | inl is ↦ (name, here name names, subst (λ (n : moves.Name). IsNameThere ups name n) is h.0)
      | inr other ↦ let rest = name_here ups names theres h.1 there other in (rest.0, later rest.0 name names rest.1, rest.2)
    ]

pub older_there : (ups : List moves.Message) (names : List Name) (theres : List moves.Name) → AreNamesThere ups names theres → (name : Name) → Contains (without_first names) name
    → (there : moves.Name) × Contains (law.older_names theres) there × IsNameThere ups name there
older_there ups [] theres h name among = absurd (none_in name among)
older_there ups (first ∷ names) [] h name among = absurd h
older_there ups (first ∷ names) (there ∷ theres) h name among = name_there ups names theres h.1 name among

-- the entry has this name
abbrev pub under : Client → Name → Entry → Bool
under client name e = (e.key == client.key) && ((e.session == name.session) && (e.number == name.message.number))

under_parts : (client : Client) (name : Name) (e : Entry) → under client name e ≡ true → (e.key ≡ client.key) × (e.session ≡ name.session) × (e.number ≡ name.message.number)
under_parts client name e is =
    let both = and_parts (e.key == client.key) ((e.session == name.session) && (e.number == name.message.number)) is in
    let rest = and_parts (e.session == name.session) (e.number == name.message.number) both.1 in
    (eqb-true e.key client.key both.0, eqb-true e.session name.session rest.0, eqb-true e.number name.message.number rest.1)

under_from : (client : Client) (name : Name) (e : Entry) → e.key ≡ client.key → e.session ≡ name.session → e.number ≡ name.message.number → under client name e ≡ true
under_from client name e key session number =
    and_from (e.key == client.key) ((e.session == name.session) && (e.number == name.message.number)) (eq-eqb e.key client.key key)
    (and_from (e.session == name.session) (e.number == name.message.number) (eq-eqb e.session name.session session) (eq-eqb e.number name.message.number number))

-- ---- a world

module _ {S V : Type 0} (naming : Naming) (w : Moved) (world : World S V) (h : WorldStands w world) where
  made_of : (life : Session) → Contains (lives world) life → IsMade w life
  made_of life among =
      elim (Contains-append_cases world.lost world.server.sessions life among) [
        | inl lost ↦ (each_of (IsLost w) world.lost h.server.gone life lost).made
        | inr stands ↦ (each_of (IsStanding w) world.server.sessions h.server.standing life stands).made
      ]

  -- the session number of an entry there
  session_of : (e : Entry) (t : moves.Entry) → IsEntered (lives world) e t → (w.servers t.server).session ≡ e.session
  session_of e t its = ap (λ (u : ℕ). (w.servers u).session) (sym its.unique) ∙ (made_of its.life its.among).number ∙ its.session

  module _ (place : ℕ) (client : Client) (clock : ℕ) (seated : slice_get world.seats place ≡ Some (record { client = client; clock = clock })) where
    stands : StandsAs w place client
    stands = subst (λ (f : Option Seat). IsSeated w place f) seated (h.seats place)

    same_key : (life : Session) → Contains (lives world) life → Owns (w.clients place) life.number → life.key ≡ client.key
    same_key life among owns =
        let k = each_of (λ (session : Session). IsKeyOf w world.seats session.number session.key) (lives world) h.keys life among in
        let one : k.place ≡ place = naming.one_owner w k.place place life.number h.reached k.owned owns in
        let there : Some client.key ≡ Some life.key =
        sym (ap (λ (f : Option Seat). option_map (λ (s : Seat). s.client.key) f) seated) ∙ ap (λ (p : ℕ). key_at p world.seats) (sym one) ∙ k.holds in
        cc

    pub so_name : (name : Name) (there : moves.Name) → IsNameThere w.ups name there → (e : Entry) (t : moves.Entry) → IsEntered (lives world) e t → under client name e ≡ true → IsOfName w there t
    so_name name there is e t its of =
        let parts = under_parts client name e of in (
          session_of e t its ∙ parts.1 ∙ sym is.session,
          its.number ∙ parts.2 ∙ sym is.number,
        )

    back_name : (name : Name) (there : moves.Name) → IsNameThere w.ups name there → (e : Entry) (t : moves.Entry) → IsEntered (lives world) e t → IsOfName w there t → Owns (w.clients place) there.session
        → under client name e ≡ true
    back_name name there is e t its of owns =
        let number : its.life.number ≡ there.session = its.session ∙ sym (session_of e t its) ∙ of.0 in
        under_from client name e (sym its.key ∙ same_key its.life its.among (subst (λ (s : ℕ). Owns (w.clients place) s) (sym number) owns))
        (sym (session_of e t its) ∙ of.0 ∙ is.session) (sym its.number ∙ of.1 ∙ is.number)

    -- ---- a call

    module _ (at : ℕ) (call : Call) (submitted : slice_get (calls_of client) at ≡ Some call) where
      abbrev id : moves.CallId
      id = moves.call_at place at

      pub there : IsCallThere client w.ups call (w.calls id)
      there = subst (λ (f : Option Call). StandsThere client w.ups f (w.calls id)) submitted (stands.calls at)

      abbrev test : Entry → Bool
      test e = list_any (λ name. under client name e) call.names

      so_call : (e : Entry) (t : moves.Entry) → IsEntered (lives world) e t → test e ≡ true → IsOfCall w id t
      so_call e t its is =
          let found = any_there (λ name. under client name e) call.names is in
          let name = name_there w.ups call.names (w.calls id).names there.names found.0 found.1 in
          (name.0, name.1, so_name found.0 name.0 name.2 e t its found.2)

      back_call : (e : Entry) (t : moves.Entry) → IsEntered (lives world) e t → IsOfCall w id t → test e ≡ true
      back_call e t its of =
          let name = name_here w.ups call.names (w.calls id).names there.names of.0 of.1 in
          any_from (λ name. under client name e) call.names name.0 name.1
          (back_name name.0 of.0 name.2 e t its of.2 (naming.of_name w id of.0 h.reached of.1))

      abbrev entries_here : List Entered
      entries_here = filter (λ (one : Entered). test one.entry) world.entries

      pub none_here : law.HasNoEntry w id → entries_here ≡ []
      none_here none =
          no_length entries_here
          (counted_alike test world.entries
          ∙ ap length (none_kept (lives world) test (IsOfCall w id) so_call (listed world.entries) w.entries h.server.entered (λ t among its. none t among its)))

      pub one_here : law.AtMostOne (IsOfCall w id) w.entries → length entries_here ≤ 1
      one_here most =
          let le = one_kept (lives world) test (IsOfCall w id) so_call (listed world.entries) w.entries h.server.entered most in
          omega (arith, le, counted_alike test world.entries)

      pub ran_here : law.AtMostOne (IsOfCall w id) w.entries → (t : moves.Entry) → Contains w.entries t → IsOfCall w id t → (one : Entered) × (entries_here ≡ one ∷ []) × (one.entry.reply ≡ t.reply)
      ran_here most t among of =
          let e = entry_of (lives world) (listed world.entries) w.entries h.server.entered t among in
          let one = from_listed world.entries e.0 e.1 in
          let holds : test one.0.entry ≡ true = ap test one.2 ∙ back_call e.0 t e.2 of in
          let member : Contains entries_here one.0 = kept_in (λ (o : Entered). test o.entry) world.entries one.0 one.1 holds in
          (one.0, one_length entries_here one.0 member (one_here most), ap (λ (x : Entry). x.reply) one.2 ∙ sym e.2.reply)

  -- ---- an entry

  call_seated : (found : Option Seat) (id : moves.CallId) (name : moves.Name) → IsSeated w id.client found → Contains (w.calls id).names name → (seat : Seat) × (found ≡ Some seat)
  call_seated None which name nobody among =
      absurd (none_in name (subst (λ (c : moves.Call). Contains c.names name) (nobody.calls which.place) among))
  call_seated (Some seat) which name s among = (seat, refl)

  call_found : (client : Client) (found : Option Call) (id : moves.CallId) (name : moves.Name) → StandsThere client w.ups found (w.calls id) → Contains (w.calls id).names name
      → (call : Call) × (found ≡ Some call)
  call_found client None which name blank among = absurd (none_in name (subst (λ (c : moves.Call). Contains c.names name) blank among))
  call_found client (Some call) which name is among = (call, refl)

  owned_here : (client : Client) (there : moves.Client) (session : ℕ) → there ≡ client_there client → Owns there session → owns session client ≡ true
  owned_here client there session is own =
      let at : Owns (client_there client) session = subst (λ (c : moves.Client). Owns c session) is own in
      elim at.1 [
        | inl present ↦ rw (eq-eqb client.session session (sym present)) refl
        | inr former ↦
            let any : list_any (λ (f : ℕ). f == session) client.former ≡ true =
            any_from (λ (f : ℕ). f == session) client.former session (from_reverse client.former session former) (eq-eqb session session refl) in
            elim (cases_Bool (client.session == session)) [
              | inl holds ↦ rw holds refl
              | inr fails ↦ rw fails any
            ]
      ]

  module _ (once : IsOnceThere w) where
    only_one : (t : moves.Entry) (e : Entry) → IsEntered (lives world) e t → (id : moves.CallId) → ((other : moves.CallId) → IsOfCall w other t → other ≡ id)
        → (n p : ℕ) (other : Client) (one : Call) → IsCallOf world n p other one → list_any (λ name. under other name e) one.names ≡ true
        → (n ≡ suc id.client) × (p ≡ id.place)
    only_one t e its id only zero p other one of named = let none : None ≡ Some (record { client = other; clock = of.clock }) = of.seated in absurd (cc)
    only_one t e its id only (suc n) p other one of named =
        let same = only (moves.call_at n p) (so_call n other of.clock of.seated p one of.submitted e t its named) in
        (ap (λ (c : moves.CallId). suc c.client) same, ap (λ (c : moves.CallId). c.place) same)

    pub asked : (entered : Entered) → Contains world.entries entered → WasAsked world entered
    asked entered among =
        let e : Entry = entered.entry in
        let t = there_of (lives world) (listed world.entries) w.entries h.server.entered e (in_listed world.entries entered among) in
        let a = once.as_sent t.0 t.1 in
        let id : moves.CallId = a.0 in
        let name = a.1 in
        let seat = call_seated (slice_get world.seats id.client) id name.0 (h.seats id.client) name.1 in
        let s : StandsAs w id.client seat.0.client = stands id.client seat.0.client seat.0.clock seat.1 in
        let call = call_found seat.0.client (slice_get (calls_of seat.0.client) id.place) id name.0 (s.calls id.place) name.1 in
        let own : Owns (w.clients id.client) e.session = subst (λ (n : ℕ). Owns (w.clients id.client) n) (session_of e t.0 t.2) a.3 in
        record {
          number = suc id.client;
          place = id.place;
          client = seat.0.client;
          call = call.0;
          submitted = record { clock = seat.0.clock; seated = seat.1; submitted = call.1 };
          owned = owned_here seat.0.client (w.clients id.client) e.session s.parts own;
          named = back_call id.client seat.0.client seat.0.clock seat.1 id.place call.0 call.1 e t.0 t.2 name;
          request = sym t.2.request ∙ a.2 ∙ (there id.client seat.0.client seat.0.clock seat.1 id.place call.0 call.1).body;
          only = only_one t.0 e t.2 id a.4;
        }

    -- ---- why it isn't known what became of a call

    is_life : (unique : ℕ) → (w.servers unique).status ≢ Unmade → IsOneOf unique (lives world)
    is_life unique made = h.server.only unique made

    named_life : (key session : ℕ) (life : Session) (xs : List Session) → Contains xs life → life.key ≡ key → life.number ≡ session → Contains (of_name key session xs) life
    named_life key session life xs among its_key number =
        kept_in (λ (l : Session). (l.key == key) && (l.number == session)) xs life among
        (and_from (life.key == key) (life.number == session) (eq-eqb life.key key its_key) (eq-eqb life.number session number))

    is_lost : (unique at : ℕ) → (w.servers unique).status ≡ Lost at → IsOneOf unique (lives world) → IsOneOf unique world.lost
    is_lost unique at lost one =
        elim (Contains-append_cases world.lost world.server.sessions one.0 one.1) [
          | inl gone ↦ (one.0, gone, one.2)
          | inr on ↦
              let e : Standing ≡ Lost at =
              sym (each_of (IsStanding w) world.server.sessions h.server.standing one.0 on).stands ∙ ap (λ (u : ℕ). (w.servers u).status) one.2 ∙ lost in
              absurd (cc)
        ]

    module _ (place : ℕ) (client : Client) (clock : ℕ) (seated : slice_get world.seats place ≡ Some (record { client = client; clock = clock })) (name : Name) (there_name : moves.Name)
        (is : IsNameThere w.ups name there_name) (own : Owns (w.clients place) there_name.session) where
      life_named : (unique : ℕ) (life : Session) → Contains (lives world) life → life.unique ≡ unique → (w.servers unique).session ≡ there_name.session
          → (life.key ≡ client.key) × (life.number ≡ name.session)
      life_named unique life among its session =
          let number : life.number ≡ there_name.session = sym (made_of life among).number ∙ ap (λ (u : ℕ). (w.servers u).session) its ∙ session in
          (same_key place client clock seated life among (subst (λ (s : ℕ). Owns (w.clients place) s) (sym number) own), number ∙ is.session)

      was_lost : HadTwo w.servers there_name → (2 ≤ length (lives_under world client.key name.session)) × (1 ≤ length (of_name client.key name.session world.lost))
      was_lost had =
          let first : ℕ = had.0 in
          let second : ℕ = had.1 in
          let before = had.5 in
          let one = is_lost first before.0 before.1
          (is_life first (λ un. let e : Unmade ≡ Lost before.0 = sym un ∙ before.1 in absurd (cc))) in
          let other = is_life second had.4 in
          let one_among : Contains (lives world) one.0 = Contains-append_left world.lost world.server.sessions one.0 one.1 in
          let a = life_named first one.0 one_among one.2 had.2 in
          let b = life_named second other.0 other.1 other.2 had.3 in
          let differ : one.0.unique ≢ other.0.unique =
          λ same.
          let e : first ≡ second = sym one.2 ∙ same ∙ other.2 in
          let le = naming.lost_later w h.reached first before.0 before.1 in
          let lt : before.0 < (w.servers first).made = subst (λ (u : ℕ). before.0 < (w.servers u).made) (sym e) before.2 in
          omega (arith, le, lt) in (
            two_length (lives_under world client.key name.session) (λ (l : Session). l.unique) one.0 other.0
                (named_life client.key name.session one.0 (lives world) one_among a.0 a.1) (named_life client.key name.session other.0 (lives world) other.1 b.0 b.1) differ,
            let member = named_life client.key name.session one.0 world.lost one.1 a.0 a.1 in
                let below : member.0 < length (of_name client.key name.session world.lost) = member.1 in omega (arith, below),
          )

      was_forgotten : law.WasForgotten w.servers there_name → WasForgotten world client.key name
      was_forgotten was =
          let unique : ℕ = was.0 in
          let life = is_life unique (λ un. none_in there_name.number
          (subst (λ (l : List ℕ). Contains l there_name.number) (naming.blank w unique h.reached un).2 was.2)) in
          let a = life_named unique life.0 life.1 life.2 was.1 in
          let forgot : HasForgotten there_name.number life.0 =
          each_of (λ (n : ℕ). HasForgotten n life.0) (w.servers life.0.unique).forgotten (made_of life.0 life.1).forgotten there_name.number
          (subst (λ (u : ℕ). Contains (w.servers u).forgotten there_name.number) (sym life.2) was.2) in
          record {
            life = life.0;
            made = named_life client.key name.session life.0 (lives world) life.1 a.0 a.1;
            forgot = subst (λ (n : ℕ). HasForgotten n life.0) is.number forgot;
          }

      caused : (why : Cause) → ((why ≡ cause.Session) → HadTwo w.servers there_name) → ((why ≡ cause.Renewed) → Contains (w.clients place).former there_name.session)
          → ((why ≡ cause.Ended) → (w.clients place).ended ≡ true) → ((why ≡ cause.Forgotten) → law.WasForgotten w.servers there_name) → IsCause world client name why
      caused cause.Session two former over forgot = was_lost (two refl)
      caused cause.Renewed two former over forgot =
          let there_former : Contains (client_there client).former there_name.session =
          subst (λ (c : moves.Client). Contains c.former there_name.session) (stands place client clock seated).parts (former refl) in
          subst (λ (s : ℕ). Contains client.former s) is.session (from_reverse client.former there_name.session there_former)
      caused cause.Ended two former over forgot = sym (ap (λ (c : moves.Client). c.ended) (stands place client clock seated).parts) ∙ over refl
      caused cause.Forgotten two former over forgot = was_forgotten (forgot refl)

    -- by the last name
    pub last_caused : (place : ℕ) (client : Client) (clock : ℕ) → slice_get world.seats place ≡ Some (record { client = client; clock = clock }) → (names : List Name) (theres : List moves.Name)
        → AreNamesThere w.ups names theres → ((name : moves.Name) → Contains theres name → Owns (w.clients place) name.session) → (why : Cause)
        → ((why ≡ cause.Session) → OnLast (HadTwo w.servers) theres) → ((why ≡ cause.Renewed) → OnLast (λ name. Contains (w.clients place).former name.session) theres)
        → ((why ≡ cause.Ended) → (w.clients place).ended ≡ true) → ((why ≡ cause.Forgotten) → OnLast (law.WasForgotten w.servers) theres)
        → (theres ≡ [] → ⊥) → HasCause world client names why
    last_caused place client clock seated [] [] are own why two former over forgot some = absurd (some refl)
    last_caused place client clock seated [] (first ∷ theres) are own why two former over forgot some = absurd are
    last_caused place client clock seated (name ∷ names) [] are own why two former over forgot some = absurd are
    last_caused place client clock seated (name ∷ names) (first ∷ theres) are own why two former over forgot some =
        caused place client clock seated name first are.0 (own first (here first theres)) why two former over forgot
