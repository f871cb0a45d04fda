-- A call that is sent under a new number keeps all: no message, outcome or name was there before it under that number.
use Rattle.std.proofs.Common.{◌≡◌, ◌≢◌, ℕ, ◌<◌, ◌≤◌, ◌∷◌, Some, ◌⊎◌, inl, inr, sym, refl, ap, ◌∙◌, subst, subst₂, arith}
use Rattle.std.specs.List.{Contains}
use Rattle.law_moves.specs.Table.{CallId, State, Name, Message, call_at}
use Rattle.law_moves.specs.Table.State.{Queued, Sent, Refused}
use Rattle.law_moves.specs.Table.Status.{Unmade}
use Rattle.law_moves.specs.World.{World, Owns, IsUnder}
use Rattle.law_moves.specs.Move.Part.{First}
use Rattle.law_moves.specs.After.{after_part, message_of, name_of}
use Rattle.law_moves.specs.Lawful.{IsMadeClient, IsPartLawful}
use Rattle.law_moves.specs.Once.{older_names}
use Rattle.law_moves.proofs.Kept.{Kept, AllDead, Lives, Fits, IsSameName, AreApart}
use Rattle.law_moves.proofs.Basics.{contains_first, contains_rest, contains_cases, cases_call, call_choice, call_chosen, call_unchosen, call_added_cases, call_added_still}
use Rattle.law_moves.proofs.Grows.{unchanged, fits_grows, packets_stay}
use Rattle.law_moves.proofs.Sends.{some_same, older_among, below_new, carries_none, given_more, dead_more, outcomes_more, messages_more, owned_more, clients_more}

pub kept_after_first : (now : ℕ) (w : World) (client place number : ℕ)
    → Kept now w
    → w.time < now
    → ((unique : ℕ) → (w.servers unique).status ≢ Unmade → (w.servers unique).made < w.time)
    → IsMadeClient w client
    → IsPartLawful w client (First place number)
    → Kept now (after_part w client (First place number))
kept_after_first now w client place number k now_later made_before made lawful =
    let later : World = after_part w client (First place number) in
    let call : CallId = call_at client place in
    let new : Message = message_of (w.clients client) number (Some (w.calls call).body) in
    let named : Name = name_of w (w.clients client) number in
    let new_or_old : (other : CallId) (name : Name) → Contains (later.calls other).names name → ((other ≡ call) × (name ≡ named)) ⊎ Contains (w.calls other).names name =
    λ other name among. call_added_cases name named (w.calls other).names other call among in
    let not_old : (other : CallId) (name : Name) → Contains (w.calls other).names name → IsUnder name new → ⊥ =
    λ other name among. carries_none now w client number (Some (w.calls call).body) other name k lawful.1 among in
    let under_named : (message : Message) → Contains w.ups message → IsUnder named message → ⊥ =
    λ message among under.
    let less : message.number < number = below_new w client number message lawful.1 among under.0 in
    let is : message.number ≡ number = under.1 in
    absurd (omega arith) in
    let apart : (name : Name) (other : CallId) → Contains (w.calls other).names name → IsSameName named name → ⊥ =
    λ name other among same. not_old other name among (same.0, same.1) in
    record {
      servers = k.servers;
      outcomes = outcomes_more k new;
      messages = messages_more k client number (Some (w.calls call).body);
      owners =
          record {
            once = k.owners.once;
            of_message = owned_more k client number (Some (w.calls call).body) made;
            of_name = λ other name among.
                elim (new_or_old other name among) [
                  | inl is ↦
                      subst₂ (λ c (n : Name). Owns (w.clients c) n.session) (sym (ap (λ (c : CallId). c.client) is.0)) (sym is.1) (made, inl refl)
                  | inr old ↦ k.owners.of_name other name old
                ];
          };
      clients = clients_more k client number (Some (w.calls call).body) made;
      names =
          record {
            sent = λ other name among.
                elim (new_or_old other name among) [
                  | inl is ↦ (new, contains_first new w.ups, (ap (λ (n : Name). n.session) (sym is.1), ap (λ (n : Name). n.number) (sym is.1)))
                  | inr old ↦ let was = k.names.sent other name old in (was.0, contains_rest was.0 new w.ups was.1, was.2)
                ];
            first = λ other name among.
                elim (new_or_old other name among) [
                  | inl is ↦ subst (λ (n : Name). n.first < now) (sym is.1) now_later
                  | inr old ↦ k.names.first other name old
                ];
            known = λ other name message among sent under.
                elim (new_or_old other name among) [
                  | inl is ↦
                      elim (contains_cases message new w.ups sent) [
                        | inl same ↦ ap (λ (m : Message). m.known) same ∙ ap (λ (n : Name). n.known) (sym is.1)
                        | inr old ↦ absurd (under_named message old (subst (λ (n : Name). IsUnder n message) is.1 under))
                      ]
                  | inr old ↦
                      elim (contains_cases message new w.ups sent) [
                        | inl same ↦ absurd (not_old other name old (subst (IsUnder name) same under))
                        | inr before ↦ k.names.known other name message old before under
                      ]
                ];
            of_one = λ one other name same at_one at_other is_same.
                elim (new_or_old one name at_one) [
                  | inl is ↦
                      elim (new_or_old other same at_other) [
                        | inl too ↦ is.0 ∙ sym too.0
                        | inr old ↦ absurd (apart same other old (subst (λ (n : Name). IsSameName n same) is.1 is_same))
                      ]
                  | inr old ↦
                      elim (new_or_old other same at_other) [
                        | inl is ↦ absurd (apart name one old (subst (λ (n : Name). IsSameName n name) is.1 (sym is_same.0, sym is_same.1)))
                        | inr too ↦ k.names.of_one one other name same old too is_same
                      ]
                ];
            apart = λ other.
                call_choice AreApart other call (named ∷ (w.calls other).names) (w.calls other).names
                (λ same. (λ name among. apart name other among, k.names.apart other))
                (λ differs. k.names.apart other);
          };
      bodies =
          record {
            of_name = λ other name message among sent under.
                elim (new_or_old other name among) [
                  | inl is ↦
                      elim (contains_cases message new w.ups sent) [
                        | inl same ↦ ap (λ (m : Message). m.call) same ∙ ap (λ c. Some (w.calls c).body) (sym is.0)
                        | inr old ↦ absurd (under_named message old (subst (λ (n : Name). IsUnder n message) is.1 under))
                      ]
                  | inr old ↦
                      elim (contains_cases message new w.ups sent) [
                        | inl same ↦ absurd (not_old other name old (subst (IsUnder name) same under))
                        | inr before ↦ k.bodies.of_name other name message old before under
                      ]
                ];
            of_message = λ message body among is.
                elim (contains_cases message new w.ups among) [
                  | inl same ↦ (
                    call,
                    named,
                    subst (λ list. Contains list named) (sym (call_chosen call call (named ∷ (w.calls call).names) (w.calls call).names refl)) (contains_first named (w.calls call).names),
                    (ap (λ (m : Message). m.session) same, ap (λ (m : Message). m.number) same),
                    some_same body (w.calls call).body (sym is ∙ ap (λ (m : Message). m.call) same),
                  )
                  | inr old ↦
                      let was = k.bodies.of_message message body old is in
                      (was.0, was.1, call_added_still was.1 named (w.calls was.0).names was.0 call was.2, was.3, was.4)
                ];
          };
      takers =
          record {
            known = λ other name unique among known.
                elim (new_or_old other name among) [
                  | inl is ↦
                      let learnt = k.clients.learnt client unique (subst (λ (n : Name). Contains n.known unique) is.1 known) in
                      (subst (λ (n : Name). (w.servers unique).made < n.first) (sym is.1) (made_before unique learnt.1), learnt.1)
                  | inr old ↦ k.takers.known other name unique old known
                ];
            judged = λ other name unique judged among session h is_number.
                elim (new_or_old other name among) [
                  | inl is ↦
                      let back = k.outcomes.backed unique judged h in
                      absurd (
                      under_named back.0 back.1 (back.2 ∙ session ∙ ap (λ (n : Name). n.session) is.1, back.3 ∙ is_number ∙ ap (λ (n : Name). n.number) is.1)
                      )
                  | inr old ↦ k.takers.judged other name unique judged old session h is_number
                ];
            forgotten = λ other name unique among session h.
                elim (new_or_old other name among) [
                  | inl is ↦
                      let given = k.outcomes.forgotten_given unique name.number h in
                      let less : given.0.number < number =
                      below_new w client number given.0 lawful.1 given.1 (given.2 ∙ session ∙ ap (λ (n : Name). n.session) is.1) in
                      let is_number : name.number ≡ number = ap (λ (n : Name). n.number) is.1 in
                      let most : name.number ≤ given.0.number = given.3 in
                      absurd (omega arith)
                  | inr old ↦ k.takers.forgotten other name unique old session h
                ];
            replaced = λ other.
                call_choice (λ names. AllDead w.servers (new ∷ w.ups) (older_names names)) other call (named ∷ (w.calls other).names) (w.calls other).names
                (
                λ same name among.
                dead_more w.servers w.ups new name (not_old other name among) (
                let queued : (w.calls other).state ≡ Queued = ap (λ c. (w.calls c).state) same ∙ lawful.0 in
                (subst (Fits (w.clients other.client) w.servers w.ups w.entries (w.calls other).names) queued (k.calls.fits other)) name among
                )
                )
                (
                λ differs name among.
                dead_more w.servers w.ups new name (not_old other name (older_among (w.calls other).names name among)) (k.takers.replaced other name among)
                );
          };
      calls =
          record {
            unsubmitted = λ other not_yet.
                let old = k.calls.unsubmitted other not_yet in
                let differs : other ≡ call → ⊥ = λ same.
                let queued : (w.calls other).state ≡ Queued = ap (λ c. (w.calls c).state) same ∙ lawful.0 in
                let refused : (w.calls other).state ≡ Refused 0 = old.1 in
                cc in (
                  call_unchosen other call (named ∷ (w.calls other).names) (w.calls other).names differs ∙ old.0,
                  call_unchosen other call Sent (w.calls other).state differs ∙ old.1,
                );
            fits = λ other.
                elim (cases_call other call) [
                  | inl is ↦
                      subst₂ (λ names (s : State). Fits (w.clients other.client) w.servers (new ∷ w.ups) w.entries names s)
                      (sym (call_chosen other call (named ∷ (w.calls other).names) (w.calls other).names is.same))
                      (sym (call_chosen other call Sent (w.calls other).state is.same))
                      (subst (λ c. Lives (w.clients c) named) (sym (ap (λ (c : CallId). c.client) is.same)) (refl, refl))
                  | inr is ↦
                      subst₂ (λ names (s : State). Fits (w.clients other.client) w.servers (new ∷ w.ups) w.entries names s)
                      (sym (call_unchosen other call (named ∷ (w.calls other).names) (w.calls other).names is.differs))
                      (sym (call_unchosen other call Sent (w.calls other).state is.differs))
                      (
                      fits_grows k (unchanged w.servers) (new ∷ w.ups) w.entries (λ entry h. h) (w.clients other.client) (w.calls other).names (w.calls other).state
                      (λ name among. dead_more w.servers w.ups new name (not_old other name among)) (k.calls.fits other)
                      )
                ];
          };
      packets =
          packets_stay k later (unchanged w.servers) refl (λ entry h. h) (given_more w.ups new) (
          λ session some given is_name.
          elim (new_or_old is_name.0 is_name.1 is_name.2) [
            | inl is ↦
                let less : given.0.number < number =
                below_new w client number given.0 lawful.1 given.1 (given.2 ∙ sym is_name.3 ∙ ap (λ (n : Name). n.session) is.1) in
                let same : some ≡ number = sym is_name.4 ∙ ap (λ (n : Name). n.number) is.1 in
                let most : some ≤ given.0.number = given.3 in
                absurd (omega arith)
            | inr old ↦ (is_name.0, is_name.1, old, is_name.3, is_name.4)
          ]
          );
    }
