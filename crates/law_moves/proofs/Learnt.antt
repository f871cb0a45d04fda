-- A new unique number keeps all: a name that was sent under salt 0 alone is dead, and any other is unknown from then on.
use Rattle.std.proofs.Common.{◌≡◌, ◌≢◌, ℕ, suc, ◌<◌, ◌≤◌, ◌==◌, ◌&&◌, ◌||◌, Bool, true, false, if◌then◌else◌, List, [], ◌∷◌, length, ◌⊎◌, inl, inr, sym, refl, ap, ◌∙◌, subst, subst₂, ne_eqb, eq-eqb}
use Rattle.std.proofs.lemmas.Bool.{cases_eq, cases_Bool}
use Rattle.std.specs.List.{Contains, list_all}
use Rattle.law_moves.specs.Table.{CallId, State, Name, Client, Message}
use Rattle.law_moves.specs.Table.Cause.{ServerSessionLost, Renewed, Ended, Forgotten}
use Rattle.law_moves.specs.Table.State.{Queued, Sent, Held, Done, Refused, Unknown}
use Rattle.law_moves.specs.Table.Status.{Unmade}
use Rattle.law_moves.specs.World.{World, IsUnder}
use Rattle.law_moves.specs.After.{is_sent, salts_of, newest_salts, is_nil, state_learnt, after_learnt, LEARNT_MAX}
use Rattle.law_moves.specs.Once.{older_names, OnLast, HadTwo}
use Rattle.law_moves.proofs.Kept.{Kept, SaltAmong, Dead, AllDead, Lives, Fits}
use Rattle.law_moves.proofs.Basics.{contains_first, contains_rest, contains_cases, contains_none, added_cases, added_still, choice, chosen, unchosen, empty}
use Rattle.law_moves.proofs.Grows.{on_last}
use Rattle.std.proofs.lemmas.Bool.{and_parts, cond_both, eqb-true}
use Rattle.law_moves.proofs.Restated.{kept_restated}
use Rattle.law_moves.proofs.Taker.{accepted_knows}
use Rattle.law_moves.proofs.Heard.{Takes}

-- The salts of a name

abbrev carries : Message → Name → Bool
carries message name = (message.session == name.session) && (message.number == name.number)

carries_if : (message : Message) (name : Name) → IsUnder name message → carries message name ≡ true
carries_if message name under =
    rw (eq-eqb message.session name.session under.0, eq-eqb message.number name.number under.1) refl

-- where each salt of a name is 0, each of its messages has salt 0
each_zero : (ups : List Message) (name : Name)
    → list_all (λ under. under == 0) (salts_of ups name) ≡ true
    → (message : Message)
    → Contains ups message
    → IsUnder name message
    → message.salt ≡ 0
each_zero [] name all message among under = absurd (contains_none message among)
each_zero (first ∷ ups) name all message among under =
    elim (cases_Bool (carries first name)) [
      | inl passes ↦
          let here : (if carries first name then first.salt ∷ salts_of ups name else salts_of ups name) ≡ first.salt ∷ salts_of ups name = rw passes refl in
          let parts = and_parts (first.salt == 0) (list_all (λ under. under == 0) (salts_of ups name)) (subst (λ list. list_all (λ under. under == 0) list ≡ true) here all) in
          elim (contains_cases message first ups among) [
            | inl is ↦ ap (λ (m : Message). m.salt) is ∙ eqb-true first.salt 0 parts.0
            | inr old ↦ each_zero ups name parts.1 message old under
          ]
      | inr fails ↦
          let there : (if carries first name then first.salt ∷ salts_of ups name else salts_of ups name) ≡ salts_of ups name = rw fails refl in
          elim (contains_cases message first ups among) [
            | inl is ↦
                let passes : carries first name ≡ true = carries_if first name (subst (IsUnder name) is under) in
                absurd cc
            | inr old ↦ each_zero ups name (subst (λ list. list_all (λ under. under == 0) list ≡ true) there all) message old under
          ]
    ]

-- and the other way round
all_zero : (ups : List Message) (name : Name)
    → ((message : Message) → Contains ups message → IsUnder name message → message.salt ≡ 0)
    → list_all (λ under. under == 0) (salts_of ups name) ≡ true
all_zero [] name zero_salts = refl
all_zero (first ∷ ups) name zero_salts =
    let later = all_zero ups name (λ message among. zero_salts message (contains_rest message first ups among)) in
    elim (cases_Bool (carries first name)) [
      | inl passes ↦
          let here : (if carries first name then first.salt ∷ salts_of ups name else salts_of ups name) ≡ first.salt ∷ salts_of ups name = rw passes refl in
          let parts = and_parts (first.session == name.session) (first.number == name.number) passes in
          let none : first.salt ≡ 0 =
          zero_salts first (contains_first first ups) (eqb-true first.session name.session parts.0, eqb-true first.number name.number parts.1) in
          subst (λ list. list_all (λ under. under == 0) list ≡ true) (sym here) (rw (eq-eqb first.salt 0 none) later)
      | inr fails ↦
          let there : (if carries first name then first.salt ∷ salts_of ups name else salts_of ups name) ≡ salts_of ups name = rw fails refl in
          subst (λ list. list_all (λ under. under == 0) list ≡ true) (sym there) later
    ]

-- a name that was sent under salt 0 alone is dead
pub dead_if_unsalted : (now : ℕ) (w : World) (name : Name)
    → Kept now w
    → ((message : Message) → Contains w.ups message → IsUnder name message → message.salt ≡ 0)
    → Dead w.servers w.ups name
dead_if_unsalted now w name k zero_salts unique session = (
  λ judged among number accepted.
      let back = accepted_knows now w unique judged k among accepted in
      k.servers.salts_nonzero unique (
      subst (λ s. Contains (w.servers unique).salts s) (zero_salts back.0 back.1 (back.2 ∙ session, back.3 ∙ number)) back.4
      ),
  λ standing.
      inr (
      λ message among under salt.
      k.servers.salts_nonzero unique (subst (λ s. Contains (w.servers unique).salts s) (zero_salts message among under) salt)
      ),
)

-- a living name of a client that has learnt nothing was sent under salt 0 alone
pub unsalted_if_none : (now : ℕ) (w : World) (call : CallId) (name : Name)
    → Kept now w
    → Contains (w.calls call).names name
    → name.known ≡ []
    → (message : Message)
    → Contains w.ups message
    → IsUnder name message
    → message.salt ≡ 0
unsalted_if_none now w call name k among none message sent under =
    elim (k.messages message sent) [
      | inl is ↦ is.1
      | inr of ↦ absurd (empty of.0 message.known (k.names.known call name message among sent under ∙ none) of.2)
    ]

-- what a new unique number makes of a call

nil_if : (list : List ℕ) → is_nil list ≡ true → list ≡ []
nil_if [] h = refl
nil_if (n ∷ list) h = absurd cc

some_if : (list : List ℕ) → is_nil list ≡ false → (n : ℕ) × Contains list n
some_if [] h = absurd cc
some_if (n ∷ list) h = (n, contains_first n list)

-- the session number of the last name had another server session
had_two : (now : ℕ) (w : World) (client unique : ℕ) (name : Name)
    → Takes now w client unique
    → (Contains (w.clients client).learnt unique → ⊥)
    → name.session ≡ (w.clients client).present
    → (some : ℕ)
    → Contains (w.clients client).learnt some
    → HadTwo w.servers name
had_two now w client unique name t fresh present some among =
    let k = t.kept in
    let learnt = k.clients.learnt client some among in
    let differ : some ≢ unique = λ same. fresh (subst (λ u. Contains (w.clients client).learnt u) same among) in
    let of : (w.servers some).session ≡ name.session = learnt.0 ∙ sym present in
    let of_new : (w.servers unique).session ≡ name.session = t.session ∙ sym present in
    elim (k.servers.following some unique differ learnt.1 t.made (of ∙ sym of_new)) [
      | inl lost ↦ (some, unique, of, of_new, t.made, lost)
      | inr lost ↦ (unique, some, of_new, of, learnt.1, lost)
    ]

-- a call that was sent, whose last name lives
relearnt : (now : ℕ) (w : World) (client unique salt : ℕ) (call : CallId) (later : Client) (names : List Name)
    → Takes now w client unique
    → (Contains (w.clients client).learnt unique → ⊥)
    → (w.calls call).names ≡ names
    → OnLast (Lives (w.clients client)) names
    → AllDead w.servers w.ups (older_names names)
    → Fits later w.servers w.ups w.entries names (state_learnt (w.clients client).learnt salt (newest_salts w.ups names))
relearnt now w client unique salt call later [] t fresh is lives dead = absurd lives
relearnt now w client unique salt call later (name ∷ older) t fresh is lives dead =
    let k = t.kept in
    let Holds : State → Type 0 = Fits later w.servers w.ups w.entries (name ∷ older) in
    let among : Contains (w.calls call).names name = subst (λ list. Contains list name) (sym is) (contains_first name older) in
    let salts : List ℕ = salts_of w.ups name in
    let unsalted : Bool = list_all (λ under. under == 0) salts in
    cond_both unsalted Queued _ Holds
    (
    λ all some here.
    elim (contains_cases some name older here) [
      | inl same ↦ subst (Dead w.servers w.ups) (sym same) (dead_if_unsalted now w name k (each_zero w.ups name all))
      | inr old ↦ dead some old
    ]
    )
    (
    λ not_all.
    let something : is_nil (w.clients client).learnt ≡ true → ⊥ =
    λ nothing.
    let all : unsalted ≡ true =
    all_zero w.ups name (unsalted_if_none now w call name k among (lives.1 ∙ nil_if (w.clients client).learnt nothing)) in
    cc in
    cond_both (is_nil (w.clients client).learnt && list_all (λ under. (under == 0) || (under == salt)) salts) Sent (Unknown ServerSessionLost) Holds
    (λ passes. absurd (something (and_parts (is_nil (w.clients client).learnt) _ passes).0))
    (
    λ fails.
    elim (cases_Bool (is_nil (w.clients client).learnt)) [
      | inl nothing ↦ absurd (something nothing)
      | inr more ↦
          let some = some_if (w.clients client).learnt more in
          had_two now w client unique name t fresh lives.0 some.0 some.1
    ]
    )
    )

-- any other call
fits_learnt : (now : ℕ) (w : World) (client unique salt : ℕ) (call : CallId) (later : Client)
    → Takes now w client unique
    → (Contains (w.clients client).learnt unique → ⊥)
    → ((session : ℕ) → Contains (w.clients client).former session → Contains later.former session)
    → ((w.clients client).ended ≡ true → later.ended ≡ true)
    → (state : State)
    → Fits (w.clients client) w.servers w.ups w.entries (w.calls call).names state
    → Fits later w.servers w.ups w.entries (w.calls call).names (
    if is_sent state then state_learnt (w.clients client).learnt salt (newest_salts w.ups (w.calls call).names) else state
    )
fits_learnt now w client unique salt call later t fresh former ended Queued h = h
fits_learnt now w client unique salt call later t fresh former ended Sent h =
    relearnt now w client unique salt call later (w.calls call).names t fresh refl h (t.kept.takers.replaced call)
fits_learnt now w client unique salt call later t fresh former ended Held h = h
fits_learnt now w client unique salt call later t fresh former ended (Done reply) h = h
fits_learnt now w client unique salt call later t fresh former ended (Refused code) h = h
fits_learnt now w client unique salt call later t fresh former ended (Unknown ServerSessionLost) h = h
fits_learnt now w client unique salt call later t fresh former ended (Unknown Renewed) h = on_last (w.calls call).names (λ name. former name.session) h
fits_learnt now w client unique salt call later t fresh former ended (Unknown Ended) h = ended h
fits_learnt now w client unique salt call later t fresh former ended (Unknown Forgotten) h = h

pub kept_after_learnt : (now : ℕ) (w : World) (client unique salt : ℕ)
    → Takes now w client unique
    → Contains (w.servers unique).salts salt
    → (Contains (w.clients client).learnt unique → ⊥)
    → length (w.clients client).learnt < LEARNT_MAX
    → Kept now (after_learnt w client unique salt)
kept_after_learnt now w client unique salt t of fresh room =
    let k = t.kept in
    let later : World = after_learnt w client unique salt in
    let there : (other : ℕ) → (other ≡ client → ⊥) → later.clients other ≡ w.clients other = λ other differs. rw (ne_eqb other client differs) refl in
    let changed : CallId → State = λ call.
    if is_sent (w.calls call).state
    then state_learnt (w.clients client).learnt salt (newest_salts w.ups (w.calls call).names)
    else (w.calls call).state in
    kept_restated now w later.clients (λ call. (later.calls call).state) k k.owners
    (
    record {
      salted = λ other.
          elim (cases_eq other client) [
            | inl same ↦
                inr (
                  unique,
                  subst (Contains (w.servers unique).salts) (sym (chosen other client salt (w.clients other).salt same)) of,
                  subst (λ list. Contains list unique) (sym (chosen other client (unique ∷ (w.clients other).learnt) (w.clients other).learnt same)) (contains_first unique (w.clients other).learnt),
                )
            | inr differs ↦
                subst (λ (c : Client). ((c.learnt ≡ []) × (c.salt ≡ 0)) ⊎ SaltAmong w.servers c.learnt c.salt) (sym (there other differs)) (k.clients.salted other)
          ];
      learnt = λ other some among.
          elim (added_cases some unique (w.clients other).learnt other client among) [
            | inl is ↦ (
              subst₂ (λ u c. (w.servers u).session ≡ (w.clients c).present) (sym is.1) (sym is.0) t.session,
              subst (λ u. (w.servers u).status ≢ Unmade) (sym is.1) t.made,
            )
            | inr old ↦ k.clients.learnt other some old
          ];
      bounded = λ other.
          choice (λ (list : List ℕ). length list ≤ LEARNT_MAX) other client (unique ∷ (w.clients other).learnt) (w.clients other).learnt
          (λ same. subst (λ c. suc (length (w.clients c).learnt) ≤ LEARNT_MAX) (sym same) room)
          (λ differs. k.clients.bounded other);
      knows = λ message other some among present known.
          added_still some unique (w.clients other).learnt other client (k.clients.knows message other some among present known);
      unmade = k.clients.unmade;
    }
    )
    (
    λ call is.
    choice (λ (s : State). s ≡ Refused 0) call.client client (changed call) (w.calls call).state
    (λ same. subst (λ (s : State). (if is_sent s then state_learnt (w.clients client).learnt salt (newest_salts w.ups (w.calls call).names) else s) ≡ Refused 0) (sym is) refl)
    (λ differs. is)
    )
    (
    λ call.
    elim (cases_eq call.client client) [
      | inl same ↦
          subst (Fits (later.clients call.client) w.servers w.ups w.entries (w.calls call).names)
          (sym (chosen call.client client (changed call) (w.calls call).state same))
          (
          fits_learnt now w client unique salt call (later.clients call.client) t fresh
          (λ some among. subst (λ c. Contains (w.clients c).former some) (sym same) among)
          (λ ended. ap (λ c. (w.clients c).ended) same ∙ ended)
          (w.calls call).state
          (subst (λ c. Fits (w.clients c) w.servers w.ups w.entries (w.calls call).names (w.calls call).state) same (k.calls.fits call))
          )
      | inr differs ↦
          subst₂ (λ (c : Client) (s : State). Fits c w.servers w.ups w.entries (w.calls call).names s)
          (sym (there call.client differs))
          (sym (unchosen call.client client (changed call) (w.calls call).state differs))
          (k.calls.fits call)
    ]
    )
