-- A packet up keeps all: its new numbers are above all before them, and a living name is sent under what its client has learnt.
use Rattle.std.proofs.Common.{◌≡◌, ◌≢◌, ℕ, ◌<◌, List, [], ◌∷◌, Option, Some, None, ◌⊎◌, inl, inr, sym, refl, ap, ◌∙◌, subst, subst₂}
use Rattle.std.specs.List.{Contains}
use Rattle.law_moves.specs.Table.{CallId, Text, State, Name, Client, Message, call_at}
use Rattle.law_moves.specs.Table.State.{Sent}
use Rattle.law_moves.specs.Table.Status.{Unmade}
use Rattle.law_moves.specs.World.{World, IsUnder}
use Rattle.law_moves.specs.Move.{Part}
use Rattle.law_moves.specs.Move.Part.{First, Again, Other, OtherAgain}
use Rattle.law_moves.specs.After.{after_part, after_parts, message_of}
use Rattle.law_moves.specs.Lawful.{IsMadeClient, IsNewest, IsPartLawful, ArePartsLawful}
use Rattle.law_moves.specs.Once.{older_names, OnLast}
use Rattle.law_moves.proofs.Kept.{Kept, Lives, Fits, IsSameName, AreApart}
use Rattle.law_moves.proofs.Basics.{contains_first, contains_rest, contains_cases, cases_call}
use Rattle.law_moves.proofs.Grows.{unchanged, fits_grows, packets_stay}
use Rattle.law_moves.proofs.Sends.{some_same, older_among, carries_none, given_more, dead_more, outcomes_more, messages_more, owned_more, clients_more}
use Rattle.law_moves.proofs.FirstKept.{kept_after_first}

-- what a message that adds no name has to do with the names that are there: the one that it is under is living, and of its call
record Carries (w : World) (new : Message) : Type 0 where
  known : (call : CallId) (name : Name) → Contains (w.calls call).names name → IsUnder name new → new.known ≡ name.known
  body : (call : CallId) (name : Name) → Contains (w.calls call).names name → IsUnder name new → new.call ≡ Some (w.calls call).body
  named : (some : Text)
      → new.call ≡ Some some
      → (call : CallId) × (name : Name) × Contains (w.calls call).names name × IsUnder name new × (some ≡ (w.calls call).body)
  living : (call : CallId)
      → ((w.calls call).state ≡ Sent) ⊎ ((name : Name) → Contains (w.calls call).names name → IsUnder name new → ⊥)
  newest : (call : CallId) (name : Name) → Contains (older_names (w.calls call).names) name → IsUnder name new → ⊥

kept_with_message : (now : ℕ) (w : World) (client number : ℕ) (body : Option Text)
    → Kept now w
    → IsMadeClient w client
    → Carries w (message_of (w.clients client) number body)
    → Kept now (record w { ups = message_of (w.clients client) number body ∷ w.ups })
kept_with_message now w client number body k made carries =
    let new : Message = message_of (w.clients client) number body in
    let later : World = record w { ups = new ∷ w.ups } in
    record {
      servers = k.servers;
      outcomes = outcomes_more k new;
      messages = messages_more k client number body;
      owners = record { once = k.owners.once; of_message = owned_more k client number body made; of_name = k.owners.of_name };
      clients = clients_more k client number body made;
      names =
          record {
            sent = λ call name among. let was = k.names.sent call name among in (was.0, contains_rest was.0 new w.ups was.1, was.2);
            first = k.names.first;
            known = λ call name message among sent under.
                elim (contains_cases message new w.ups sent) [
                  | inl same ↦ ap (λ (m : Message). m.known) same ∙ carries.known call name among (subst (IsUnder name) same under)
                  | inr old ↦ k.names.known call name message among old under
                ];
            of_one = k.names.of_one;
            apart = k.names.apart;
          };
      bodies =
          record {
            of_name = λ call name message among sent under.
                elim (contains_cases message new w.ups sent) [
                  | inl same ↦ ap (λ (m : Message). m.call) same ∙ carries.body call name among (subst (IsUnder name) same under)
                  | inr old ↦ k.bodies.of_name call name message among old under
                ];
            of_message = λ message some among is.
                elim (contains_cases message new w.ups among) [
                  | inl same ↦
                      let named = carries.named some (sym (ap (λ (m : Message). m.call) same) ∙ is) in
                      (named.0, named.1, named.2, subst (IsUnder named.1) (sym same) named.3, named.4)
                  | inr old ↦ k.bodies.of_message message some old is
                ];
          };
      takers =
          record {
            known = k.takers.known;
            judged = k.takers.judged;
            forgotten = k.takers.forgotten;
            replaced = λ call name among.
                dead_more w.servers w.ups new name (carries.newest call name among) (k.takers.replaced call name among);
          };
      calls =
          record {
            unsubmitted = k.calls.unsubmitted;
            fits = λ call.
                let Holds : List Message → State → Type 0 = λ ups. Fits (w.clients call.client) w.servers ups w.entries (w.calls call).names in
                elim (carries.living call) [
                  | inl sent ↦ subst (Holds (new ∷ w.ups)) (sym sent) (subst (Holds w.ups) sent (k.calls.fits call))
                  | inr none ↦
                      fits_grows k (unchanged w.servers) (new ∷ w.ups) w.entries (λ entry h. h) (w.clients call.client) (w.calls call).names (w.calls call).state
                      (λ name among. dead_more w.servers w.ups new name (none name among)) (k.calls.fits call)
                ];
          };
      packets = packets_stay k later (unchanged w.servers) refl (λ entry h. h) (given_more w.ups new) (λ session some given name. name);
    }

-- A call again under the number of its living name

record Living (client : Client) (names : List Name) (number : ℕ) : Type 0 where
  name : Name
  among : Contains names name
  present : name.session ≡ client.present
  is_number : name.number ≡ number
  learnt : name.known ≡ client.learnt
  alone : (other : Name) → Contains names other → IsSameName other name → other ≡ name
  newest : Contains (older_names names) name → ⊥

newest : (client : Client) (names : List Name) (number : ℕ)
    → OnLast (Lives client) names → IsNewest names number → AreApart names → Living client names number
newest client [] number lives is apart = absurd lives
newest client (name ∷ older) number lives is apart =
    record {
      name = name;
      among = contains_first name older;
      present = lives.0;
      is_number = is;
      learnt = lives.1;
      alone = λ other among same.
          elim (contains_cases other name older among) [
            | inl here ↦ here
            | inr there ↦ absurd (apart.0 other there (sym same.0, sym same.1))
          ];
      newest = λ among. apart.0 name among (refl, refl);
    }

again : (now : ℕ) (w : World) (client place number : ℕ)
    → Kept now w
    → IsMadeClient w client
    → IsPartLawful w client (Again place number)
    → Kept now (after_part w client (Again place number))
again now w client place number k made lawful =
    let call : CallId = call_at client place in
    let new : Message = message_of (w.clients client) number (Some (w.calls call).body) in
    let sent : OnLast (Lives (w.clients client)) (w.calls call).names =
    subst (Fits (w.clients client) w.servers w.ups w.entries (w.calls call).names) lawful.0 (k.calls.fits call) in
    let live = newest (w.clients client) (w.calls call).names number sent lawful.1 (k.names.apart call) in
    -- the message is under no name but the living one
    let only : (other : CallId) (name : Name) → Contains (w.calls other).names name → IsUnder name new → (other ≡ call) × (name ≡ live.name) =
    λ other name among under.
    let same : IsSameName name live.name = (sym under.0 ∙ sym live.present, sym under.1 ∙ sym live.is_number) in
    let mine : other ≡ call = k.names.of_one other call name live.name among live.among same in
    (mine, live.alone name (subst (λ c. Contains (w.calls c).names name) mine among) same) in
    kept_with_message now w client number (Some (w.calls call).body) k made (
    record {
      known = λ other name among under.
          sym live.learnt ∙ ap (λ (n : Name). n.known) (sym (only other name among under).1);
      body = λ other name among under. ap (λ c. Some (w.calls c).body) (sym (only other name among under).0);
      named = λ some is. (
        call,
        live.name,
        live.among,
        (sym live.present, sym live.is_number),
        some_same some (w.calls call).body (sym is),
      );
      living = λ other.
          elim (cases_call other call) [
            | inl is ↦ inl (ap (λ c. (w.calls c).state) is.same ∙ lawful.0)
            | inr is ↦ inr (λ name among under. is.differs (only other name among under).0)
          ];
      newest = λ other name among under.
          let is = only other name (older_among (w.calls other).names name among) under in
          live.newest (subst₂ (λ c n. Contains (older_names (w.calls c).names) n) is.0 is.1 among);
    }
    )

-- A message that is no call

no_call : (now : ℕ) (w : World) (client number : ℕ)
    → Kept now w
    → IsMadeClient w client
    → (
    (call : CallId) (name : Name)
    → Contains (w.calls call).names name
    → IsUnder name (message_of (w.clients client) number None)
    → ⊥
    )
    → Kept now (record w { ups = message_of (w.clients client) number None ∷ w.ups })
no_call now w client number k made none =
    kept_with_message now w client number None k made (
    record {
      known = λ call name among under. absurd (none call name among under);
      body = λ call name among under. absurd (none call name among under);
      named = λ some is. absurd cc;
      living = λ call. inr (none call);
      newest = λ call name among. none call name (older_among (w.calls call).names name among);
    }
    )

-- under a number that was given to no call there is no name
never_named : (now : ℕ) (w : World) (client number : ℕ)
    → Kept now w
    → IsPartLawful w client (OtherAgain number)
    → (call : CallId) (name : Name)
    → Contains (w.calls call).names name
    → IsUnder name (message_of (w.clients client) number None)
    → ⊥
never_named now w client number k lawful call name among under =
    let some : lawful.0.call ≡ Some (w.calls call).body =
    k.bodies.of_name call name lawful.0 among lawful.1 (lawful.2 ∙ under.0, lawful.3 ∙ under.1) in
    let none : lawful.0.call ≡ None = lawful.4 in
    absurd cc

part : (now : ℕ) (w : World) (client : ℕ) (each : Part)
    → Kept now w
    → w.time < now
    → ((unique : ℕ) → (w.servers unique).status ≢ Unmade → (w.servers unique).made < w.time)
    → IsMadeClient w client
    → IsPartLawful w client each
    → Kept now (after_part w client each)
part now w client (First place number) k now_later made_before made lawful =
    kept_after_first now w client place number k now_later made_before made lawful
part now w client (Again place number) k now_later made_before made lawful = again now w client place number k made lawful
part now w client (Other number) k now_later made_before made lawful =
    no_call now w client number k made (λ call name among. carries_none now w client number None call name k lawful among)
part now w client (OtherAgain number) k now_later made_before made lawful =
    no_call now w client number k made (never_named now w client number k lawful)

pub kept_after_parts : (now : ℕ) (w : World) (client : ℕ) (parts : List Part)
    → Kept now w
    → w.time < now
    → ((unique : ℕ) → (w.servers unique).status ≢ Unmade → (w.servers unique).made < w.time)
    → IsMadeClient w client
    → ArePartsLawful w client parts
    → Kept now (after_parts w client parts)
kept_after_parts now w client [] k now_later made_before made lawful = k
kept_after_parts now w client (First place number ∷ parts) k now_later made_before made lawful =
    kept_after_parts now (after_part w client (First place number)) client parts
    (part now w client (First place number) k now_later made_before made lawful.0) now_later made_before made lawful.1
kept_after_parts now w client (Again place number ∷ parts) k now_later made_before made lawful =
    kept_after_parts now (after_part w client (Again place number)) client parts
    (part now w client (Again place number) k now_later made_before made lawful.0) now_later made_before made lawful.1
kept_after_parts now w client (Other number ∷ parts) k now_later made_before made lawful =
    kept_after_parts now (after_part w client (Other number)) client parts
    (part now w client (Other number) k now_later made_before made lawful.0) now_later made_before made lawful.1
kept_after_parts now w client (OtherAgain number ∷ parts) k now_later made_before made lawful =
    kept_after_parts now (after_part w client (OtherAgain number)) client parts
    (part now w client (OtherAgain number) k now_later made_before made lawful.0) now_later made_before made lawful.1
