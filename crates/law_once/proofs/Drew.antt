-- What a server's sessions drew in an event is among the words drawn by then, each as often.
use Rattle.std.proofs.Common.{◌≡◌, ◌≢◌, ℕ, zero, suc, ◌+◌, ◌<◌, ◌≤◌, ◌==◌, ◌&&◌, not, Bool, true, false, Option, None, Some, List, [], ◌∷◌, ◌++◌, map, filter, fold, length, if◌then◌else◌, inl, inr, refl, sym, ap, subst, ◌∙◌, arith}
use Rattle.std.specs.Prelude.{◌||◌, ⊤, is_some}
use Rattle.std.specs.List.{AllByRecursion, AllPairs, Contains, zip}
use Rattle.std.proofs.lemmas.Bool.{cases_Bool, cond_both}
use Rattle.draws.specs.Draws.{draw_after}
use Rattle.service_tl.specs.declared.item.Item.{Item}
use Rattle.service_tl.specs.declared.item.Item.TheVariants.{DestroySession, DestroySessionOk, DestroySessionNone}
use Rattle.service_tl.specs.declared.lists.Message.{Message}
use Rattle.inbox.specs.Verdicts.{Judgement, Verdict, Accepted, Again, Noticed}
use Rattle.inbox.specs.Refusals.{InEnvelope}
use Rattle.inbox.specs.Judging.{judgements, session_after}
use Rattle.waits.specs.declared.job.Job.{Job}
use Rattle.waits.specs.Jobs.{Queue, without_ready}
use Rattle.server_rules.specs.Server.{Name, Session, is_named, is_same, name_of, remembered, session_named, with_session, without_session}
use Rattle.server_rules.specs.Event.{Envelope, Owed, Setting, Speaker, State, lost, speaker_in, speaks, spoken_by}
use Rattle.server_rules.specs.Speaking.{says}
use Rattle.server_rules.specs.Waiting.{after_failures, after_timeouts, all_given_up, first_given_up, given_up, gives_up, tells_of}
use Rattle.server_rules.specs.Rows.{destroys, owes, row, settles}
use Rattle.server_rules.specs.Sending.{all_sent, messages_by, names_in, sends}
use Rattle.server_rules.specs.Answer.{attaches, finishes, hears, hears_by, makes, message_in, messages_judged, name_in, opens, runs, session_for, takes, takes_by, ticks, with_place, without_first}
use Rattle.world_rules.specs.World.{has_named, missing}
use Rattle.law_once.proofs.Lists.{all_of, each_of, here, later}
use Rattle.law_once.proofs.Named.{Themselves, all_filter}
use Rattle.law_once.proofs.Grown.{drawn, salts_grown, sends_grown}
use Rattle.law_once.proofs.Growing.{Grows, Holds, Speaks, cases_names, found_is, hears_hold, lost_holds, names_same, opens_name, said_name, same_names, sends_name, speaks_holds}
use Rattle.law_once.proofs.Later.{Counts, From, IsLater, finishes_later, gives_up_later, itself, later_then, salts_later, sends_later}
use Rattle.law_once.proofs.Lives.{all_drawn, first_drawn, has_without, missing_alike, more_drawn, one_drawn}

-- no two have one name
abbrev pub Apart : List Session → Type 0
Apart [] = ⊤
Apart (o ∷ sessions) = AllByRecursion (λ (other : Session). name_of o ≢ name_of other) sessions × Apart sessions

pub apart_of : (sessions : List Session) → AllPairs (λ (one other : Session). name_of one ≢ name_of other) sessions → Apart sessions
apart_of [] h = tt
apart_of (o ∷ sessions) h = (
  all_of (λ (other : Session). name_of o ≢ name_of other) sessions
      (λ other among same. let below : among.0 < length sessions = among.1 in h 0 (suc among.0) other (omega arith) (omega arith) (same ∙ ap name_of (sym among.2))),
  apart_of sessions (λ i j d below within. h (suc i) (suc j) d (omega arith) (omega arith)),
)

apart_filter : (test : Session → Bool) (sessions : List Session) → Apart sessions → Apart (filter test sessions)
apart_filter test [] h = tt
apart_filter test (o ∷ sessions) h =
    elim (cases_Bool (test o)) [
      | inl is ↦ rw is (all_filter (λ (other : Session). name_of o ≢ name_of other) test sessions h.0, apart_filter test sessions h.1)
      | inr fails ↦ rw fails (apart_filter test sessions h.1)
    ]

all_more : (P : Session → Type 0) (sessions : List Session) (o : Session) → AllByRecursion P sessions → P o → AllByRecursion P (sessions ++ o ∷ [])
all_more P [] o h its = (its, tt)
all_more P (first ∷ sessions) o h its = (h.0, all_more P sessions o h.1 its)

apart_more : (sessions : List Session) (o : Session) → Apart sessions → AllByRecursion (λ (other : Session). name_of other ≢ name_of o) sessions → Apart (sessions ++ o ∷ [])
apart_more [] o h others = (tt, tt)
apart_more (first ∷ sessions) o h others = (
  all_more (λ (other : Session). name_of first ≢ name_of other) sessions o h.0 others.0,
  apart_more sessions o h.1 others.1,
)

-- those of other names
without_named : (name : Name) (sessions : List Session) → AllByRecursion (λ (other : Session). name_of other ≢ name) (without_session name sessions)
without_named name [] = tt
without_named name (o ∷ sessions) =
    elim (cases_Bool (is_named name o)) [
      | inl is ↦ rw is (without_named name sessions)
      | inr fails ↦
          rw fails ((λ same. let e : false ≡ true = sym fails ∙ subst (λ (n : Name). is_same name n ≡ true) (sym same) (names_same name) in absurd (cc)), without_named name sessions)
    ]

-- ---- one session in the place of its name

name_put : (b other : Session) → name_of (if is_named (name_of b) other then b else other) ≡ name_of other
name_put b other = cond_both (is_named (name_of b) other) b other (λ (o : Session). name_of o ≡ name_of other) (λ is. same_names (name_of b) (name_of other) is) (λ is. refl)

put_differ : (b o : Session) (others : List Session) → AllByRecursion (λ (other : Session). name_of o ≢ name_of other) others
    → AllByRecursion (λ (other : Session). name_of (if is_named (name_of b) o then b else o) ≢ name_of other) (with_session b others)
put_differ b o [] h = tt
put_differ b o (other ∷ others) h = ((λ same. h.0 (sym (name_put b o) ∙ same ∙ name_put b other)), put_differ b o others h.1)

apart_put : (b : Session) (sessions : List Session) → Apart sessions → Apart (with_session b sessions)
apart_put b [] h = tt
apart_put b (o ∷ sessions) h = (put_differ b o sessions h.0, apart_put b sessions h.1)

has_put : (name : Name) (b : Session) (sessions : List Session) → has_named name (with_session b sessions) ≡ has_named name sessions
has_put name b [] = refl
has_put name b (o ∷ sessions) =
    ap (λ (n : Name). is_same name n || has_named name (with_session b sessions)) (name_put b o) ∙ ap (λ (t : Bool). is_named name o || t) (has_put name b sessions)

none_put : (b : Session) (sessions : List Session) → AllByRecursion (λ (other : Session). name_of b ≢ name_of other) sessions → with_session b sessions ≡ sessions
none_put b [] h = refl
none_put b (o ∷ sessions) h =
    elim (cases_Bool (is_named (name_of b) o)) [
      | inl is ↦ absurd (h.0 (same_names (name_of b) (name_of o) is))
      | inr fails ↦ rw fails (ap (λ (l : List Session). o ∷ l) (none_put b sessions h.1))
    ]

has_more : (name : Name) (sessions : List Session) (o : Session) → has_named name (sessions ++ o ∷ []) ≡ (has_named name sessions || is_named name o)
has_more name [] o =
    elim (cases_Bool (is_named name o)) [
      | inl is ↦ rw is refl
      | inr fails ↦ rw fails refl
    ]
has_more name (first ∷ sessions) o =
    elim (cases_Bool (is_named name first)) [
      | inl is ↦ rw is refl
      | inr fails ↦ rw fails (has_more name sessions o)
    ]

none_without : (name : Name) (sessions : List Session) → session_named name sessions ≡ None → without_session name sessions ≡ sessions
none_without name [] is = refl
none_without name (o ∷ sessions) is =
    elim (cases_Bool (is_named name o)) [
      | inl holds ↦ let e : Some o ≡ None = subst (λ (b : Bool). (if b then Some o else session_named name sessions) ≡ None) holds is in absurd (cc)
      | inr fails ↦ rw fails (ap (λ (l : List Session). o ∷ l) (none_without name sessions (subst (λ (b : Bool). (if b then Some o else session_named name sessions) ≡ None) fails is)))
    ]

has_gone : (name : Name) (sessions : List Session) → has_named name (without_session name sessions) ≡ false
has_gone name [] = refl
has_gone name (o ∷ sessions) =
    elim (cases_Bool (is_named name o)) [
      | inl is ↦ rw is (has_gone name sessions)
      | inr fails ↦ rw (fails, fails) (has_gone name sessions)
    ]

has_it : (name : Name) (sessions : List Session) (y : Session) → session_named name sessions ≡ Some y → has_named name sessions ≡ true
has_it name [] y is = absurd (cc)
has_it name (o ∷ sessions) y is =
    elim (cases_Bool (is_named name o)) [
      | inl holds ↦ rw holds refl
      | inr fails ↦ rw fails (has_it name sessions y (subst (λ (b : Bool). (if b then Some o else session_named name sessions) ≡ Some y) fails is))
    ]

or_false : (b : Bool) → (b || false) ≡ b
or_false true = refl
or_false false = refl

-- none has a name that isn't found
unnamed : (name : Name) (sessions : List Session) → session_named name sessions ≡ None → AllByRecursion (λ (other : Session). name_of other ≢ name) sessions
unnamed name [] is = tt
unnamed name (o ∷ sessions) is =
    elim (cases_Bool (is_named name o)) [
      | inl holds ↦ let e : Some o ≡ None = subst (λ (b : Bool). (if b then Some o else session_named name sessions) ≡ None) holds is in absurd (cc)
      | inr fails ↦ (
        (λ same. let e : false ≡ true = sym fails ∙ subst (λ (n : Name). is_same name n ≡ true) (sym same) (names_same name) in absurd (cc)),
        unnamed name sessions (subst (λ (b : Bool). (if b then Some o else session_named name sessions) ≡ None) fails is),
      )
    ]

module _ (before : List Session) (before_apart : Apart before) where
  module _ (x : ℕ) where
    put_drawn : (b y : Session) (sessions : List Session) → Apart sessions → session_named (name_of b) sessions ≡ Some y → all_drawn x (with_session b sessions) + drawn x y ≡ all_drawn x sessions + drawn x b
    put_drawn b y [] apart is = absurd (cc)
    put_drawn b y (o ∷ sessions) apart is =
        elim (cases_Bool (is_named (name_of b) o)) [
          | inl holds ↦
              let same : Some o ≡ Some y = subst (λ (t : Bool). (if t then Some o else session_named (name_of b) sessions) ≡ Some y) holds is in
              let e : o ≡ y = cc in
              let name : name_of b ≡ name_of o = same_names (name_of b) (name_of o) holds in
              let rest : with_session b sessions ≡ sessions = none_put b sessions (subst (λ (n : Name). AllByRecursion (λ (other : Session). n ≢ name_of other) sessions) (sym name) apart.0) in
              rw holds (omega (arith, first_drawn x b (with_session b sessions), first_drawn x o sessions, ap (all_drawn x) rest, ap (λ (s : Session). drawn x s) e))
          | inr fails ↦
              let rest = put_drawn b y sessions apart.1 (subst (λ (t : Bool). (if t then Some o else session_named (name_of b) sessions) ≡ Some y) fails is) in
              rw fails (omega (arith, rest, first_drawn x o (with_session b sessions), first_drawn x o sessions))
        ]

    -- what is lost by its name is missing then, as it was before
    miss_lost : (name : Name) (sessions : List Session) (y : Session) → session_named name sessions ≡ Some y → (bs : List Session) → Apart bs
        → ((b : Session) → Contains bs b → Grows x before b (session_named (name_of b) sessions))
        → all_drawn x (missing bs (without_session name sessions)) ≤ all_drawn x (missing bs sessions) + drawn x y
    miss_lost name sessions y is [] apart h = omega arith
    miss_lost name sessions y is (b ∷ bs) apart h =
        elim (cases_names (name_of b) name) [
          | inl same ↦
              let left : List Session = without_session name sessions in
              let alike : missing bs left ≡ missing bs sessions =
              missing_alike x bs sessions left (λ other among. has_without x (name_of other) name
              (λ at. each_of (λ (o : Session). name_of b ≢ name_of o) bs apart.0 other among (same ∙ sym at)) sessions) in
              let gone : has_named (name_of b) left ≡ false = ap (λ (n : Name). has_named n left) same ∙ has_gone name sessions in
              let there : has_named (name_of b) sessions ≡ true = ap (λ (n : Name). has_named n sessions) same ∙ has_it name sessions y is in
              let grew : drawn x b ≤ drawn x y = subst (λ (f : Option Session). Grows x before b f) (ap (λ (n : Name). session_named n sessions) same ∙ is) (h b (here b bs)) in
              rw (gone, there) (omega (arith, grew, first_drawn x b (missing bs left), ap (all_drawn x) alike))
          | inr differs ↦
              let rest = miss_lost name sessions y is bs apart.1 (λ other among. h other (later other b bs among)) in
              let same : has_named (name_of b) (without_session name sessions) ≡ has_named (name_of b) sessions = has_without x (name_of b) name differs sessions in
              elim (cases_Bool (has_named (name_of b) sessions)) [
                | inl has ↦ rw (same ∙ has, has) rest
                | inr none ↦
                    rw (same ∙ none, none) (omega (arith, rest, first_drawn x b (missing bs (without_session name sessions)), first_drawn x b (missing bs sessions)))
              ]
        ]

    abbrev pub total : List Session → ℕ
    total sessions = all_drawn x (missing before sessions) + all_drawn x sessions

    lost_by : (name : Name) (sessions : List Session) → Holds x before sessions → (found : Option Session) → session_named name sessions ≡ found → total (without_session name sessions) ≤ total sessions
    lost_by name sessions h None is = let e = ap total (none_without name sessions is) in omega (arith, e)
    lost_by name sessions h (Some y) is =
        let miss = miss_lost name sessions y is before before_apart h in
        let one = one_drawn x name sessions y is in
        omega (arith, miss, one)

    lost_total : (name : Name) (sessions : List Session) → Holds x before sessions → total (without_session name sessions) ≤ total sessions
    lost_total name sessions h = lost_by name sessions h (session_named name sessions) refl

    -- one more is made, or stands last
    missing_more : (bs sessions : List Session) (o : Session) → all_drawn x (missing bs (sessions ++ o ∷ [])) ≤ all_drawn x (missing bs sessions)
    missing_more [] sessions o = omega arith
    missing_more (b ∷ bs) sessions o =
        let rest = missing_more bs sessions o in
        elim (cases_Bool (has_named (name_of b) sessions)) [
          | inl is ↦
              let more : has_named (name_of b) (sessions ++ o ∷ []) ≡ true = has_more (name_of b) sessions o ∙ ap (λ (t : Bool). t || is_named (name_of b) o) is in
              rw (is, more) rest
          | inr fails ↦
              let same : has_named (name_of b) (sessions ++ o ∷ []) ≡ is_named (name_of b) o = has_more (name_of b) sessions o ∙ ap (λ (t : Bool). t || is_named (name_of b) o) fails in
              elim (cases_Bool (is_named (name_of b) o)) [
                | inl its ↦ rw (fails, same ∙ its) (omega (arith, rest, first_drawn x b (missing bs sessions)))
                | inr other ↦ rw (fails, same ∙ other) (omega (arith, rest, first_drawn x b (missing bs sessions), first_drawn x b (missing bs (sessions ++ o ∷ []))))
              ]
        ]

    made_total : (sessions : List Session) (o : Session) → total (sessions ++ o ∷ []) ≤ total sessions + drawn x o
    made_total sessions o = omega (arith, missing_more before sessions o, more_drawn x sessions (o ∷ []), first_drawn x o [])

    has_last : (session : Session) (sessions : List Session) → session_named (name_of session) sessions ≡ Some session → (name : Name)
        → has_named name (without_session (name_of session) sessions ++ session ∷ []) ≡ has_named name sessions
    has_last session sessions is name =
        elim (cases_names name (name_of session)) [
          | inl same ↦
              has_more name (without_session (name_of session) sessions) session
              ∙ ap (λ (n : Name). has_named n (without_session (name_of session) sessions) || is_named n session) same
              ∙ ap (λ (t : Bool). t || is_named (name_of session) session) (has_gone (name_of session) sessions)
              ∙ names_same (name_of session) ∙ sym (ap (λ (n : Name). has_named n sessions) same ∙ has_it (name_of session) sessions session is)
          | inr differs ↦
              let fails : is_named name session ≡ false =
              elim (cases_Bool (is_named name session)) [
                | inl holds ↦ absurd (differs (same_names name (name_of session) holds))
                | inr no_so ↦ no_so
              ] in
              has_more name (without_session (name_of session) sessions) session
              ∙ ap (λ (t : Bool). has_named name (without_session (name_of session) sessions) || t) fails
              ∙ or_false (has_named name (without_session (name_of session) sessions)) ∙ has_without x name (name_of session) differs sessions
        ]

    kept_total : (session : Session) (sessions : List Session) → session_named (name_of session) sessions ≡ Some session
        → total (without_session (name_of session) sessions ++ session ∷ []) ≤ total sessions
    kept_total session sessions is =
        let left : List Session = without_session (name_of session) sessions in
        let alike : missing before (left ++ session ∷ []) ≡ missing before sessions =
        missing_alike x before sessions (left ++ session ∷ []) (λ other among. has_last session sessions is (name_of other)) in
        let one = one_drawn x (name_of session) sessions session is in
        omega (arith, one, more_drawn x left (session ∷ []), first_drawn x session [], ap (all_drawn x) alike)

  abbrev pub so_far : List Session → Counts
  so_far sessions x = total x sessions

  abbrev pub at_first : Counts
  at_first x = all_drawn x before

  -- so far
  pub record Fits {S : Type 0} (step : S → ℕ × S) (begun : S) (sessions : List Session) (draw : S) : Type 0 where
    pub holds : (x : ℕ) → Holds x before sessions
    pub apart : Apart sessions
    pub within : IsLater step begun at_first draw (so_far sessions)

  module _ {S : Type 0} (k : Speaks S) (alone : Themselves S) (setting : Setting S) (begun : S) where
    abbrev pub So : State S → Type 0
    So state = Fits setting.step begun state.sessions state.draw

    abbrev SpeaksSo : (Speaker S → Speaker S) → Type 0
    SpeaksSo speak = (speaker : Speaker S) → (name_of (speak speaker).session ≡ name_of speaker.session) × ((x : ℕ) → drawn x speaker.session ≤ drawn x (speak speaker).session)
        × From setting speaker (speak speaker)

    found_within : (at : Name) (speak : Speaker S → Speaker S) (state : State S) → SpeaksSo speak → So state → (found : Option Session) → session_named at state.sessions ≡ found
        → Apart (spoken_by found speak state).sessions × IsLater setting.step begun at_first (spoken_by found speak state).draw (so_far (spoken_by found speak state).sessions)
    found_within at speak state so h None is = (h.apart, h.within)
    found_within at speak state so h (Some y) is =
        let b : Speaker S = speak (speaker_in state y) in
        let z : Session = b.session in
        let its = so (speaker_in state y) in
        let name_z : name_of z ≡ at = its.0 ∙ sym (same_names at (name_of y) (found_is (is_named at) state.sessions y is)) in
        let found : session_named (name_of z) state.sessions ≡ Some y = ap (λ (n : Name). session_named n state.sessions) name_z ∙ is in
        let on : IsLater setting.step state.draw (so_far state.sessions) b.draw (so_far (with_session z state.sessions)) =
        let more = its.2 in
        let within = more.within in
        record {
          many = more.many;
          later = more.later;
          within = λ x.
              let le = within x in
              let put = put_drawn x z y state.sessions h.apart found in
              let alike : missing before (with_session z state.sessions) ≡ missing before state.sessions =
              missing_alike x before state.sessions (with_session z state.sessions) (λ other among. has_put (name_of other) z state.sessions) in
              omega (arith, le, put, ap (all_drawn x) alike);
        } in (
          apart_put z state.sessions h.apart,
          later_then setting.step begun state.draw b.draw at_first (so_far state.sessions) (so_far (with_session z state.sessions)) h.within on,
        )

    speaks_so : (at : Name) (speak : Speaker S → Speaker S) (state : State S) → SpeaksSo speak → So state → So (speaks at speak state)
    speaks_so at speak state so h =
        let its = found_within at speak state so h (session_named at state.sessions) refl in
        record {
          holds = λ x. speaks_holds x before k alone setting at speak state (λ speaker. let s = so speaker in let grown = s.1 in (s.0, grown x)) (let holds = h.holds in holds x);
          apart = its.0;
          within = its.1;
        }

    sessions_so : (sessions : List Session) (state : State S) → So state → Apart sessions → ((x : ℕ) → Holds x before sessions) → ((x : ℕ) → total x sessions ≤ total x state.sessions)
        → Fits setting.step begun sessions state.draw
    sessions_so sessions state h apart holds fewer =
        record {
          holds = holds;
          apart = apart;
          within =
              let was = h.within in
              let within = was.within in
              record { many = was.many; later = was.later; within = λ x. let le = fewer x in let had = within x in omega (arith, le, had) };
        }

    pub lost_so : (name : Name) (state : State S) → So state → So (lost name state)
    lost_so name state h =
        let was = h.holds in
        sessions_so (without_session name state.sessions) state h (apart_filter (λ (session : Session). not (is_named name session)) state.sessions h.apart)
        (λ x. lost_holds x before k alone setting name state.sessions (was x)) (λ x. lost_total x name state.sessions (was x))

    -- ---- what its events do

    alike : (speaker : Speaker S) (x : ℕ) → drawn x speaker.session ≤ drawn x speaker.session
    alike speaker x = omega arith

    given_so : (content : List ℕ) (job : Option Job) (state : State S) → So state → So (given_up setting content job state)
    given_so content None state h = h
    given_so content (Some job) state h =
        speaks_so (record { key = job.key; session = job.session }) (gives_up setting content job) state
        (λ speaker. (said_name 0 before k alone setting speaker (gives_up setting content job speaker) (alone.gives_up setting speaker content job), alike speaker, gives_up_later setting content job speaker)) h

    all_given_so : (content : List ℕ) (first : Queue → Option Job × Queue) (n : ℕ) (state : State S) → So state → So (all_given_up setting content first n state)
    all_given_so content first zero state h = h
    all_given_so content first (suc n) state h =
        all_given_so content first n (first_given_up setting content first state)
        (given_so content (first state.jobs).0 (record state { jobs = (first state.jobs).1 }) h)

    failures_so : (state : State S) → So state → So (after_failures setting state)
    failures_so state h = all_given_so _ _ (length state.jobs) state h

    pub ticks_so : (state : State S) → So state → So (ticks setting state)
    ticks_so state h = failures_so (after_timeouts setting state) (all_given_so _ _ (length state.jobs) state h)

    pub attached_so : (name : Name) (state : State S) → So state → So (speaks name (attaches setting) state)
    attached_so name state h =
        speaks_so name (attaches setting) state
        (λ speaker. (said_name 0 before k alone setting speaker (attaches setting speaker) (alone.attaches setting speaker), (λ x. salts_grown x setting speaker (attaches setting speaker) (alone.salts.attaches setting speaker)), salts_later setting speaker (attaches setting speaker) (alone.salts.attaches setting speaker))) h

    pub runs_so : (place : ℕ) (job : Job) (reply : List ℕ) (state : State S) → So state → So (runs setting place job reply state)
    runs_so place job reply state h =
        let ready : State S = record state { jobs = without_ready place state.jobs } in
        failures_so (speaks (record { key = job.key; session = job.session }) (finishes setting job reply) ready)
        (speaks_so (record { key = job.key; session = job.session }) (finishes setting job reply) ready
        (λ speaker. (said_name 0 before k alone setting speaker (finishes setting job reply speaker) (alone.finishes setting speaker job reply), alike speaker, finishes_later setting job reply speaker)) h)

    says_so : (name : Name) (item : Item) (state : State S) → So state → So (speaks name (says setting item) state)
    says_so name item state h = speaks_so name (says setting item) state (λ speaker. (refl, alike speaker, itself setting speaker)) h

    destroys_so : (number destroyed : ℕ) (name : Name) (state : State S) → So state → So (destroys setting number destroyed name state)
    destroys_so number destroyed name state h =
        let other : Name = record name { session = destroyed } in
        cond_both (not (destroyed == name.session) && is_some (session_named other state.sessions))
        (speaks name (says setting (DestroySessionOk destroyed)) (lost other state)) (speaks name (says setting (DestroySessionNone destroyed)) state) So
        (λ is. says_so name (DestroySessionOk destroyed) (lost other state) (lost_so other state h))
        (λ is. says_so name (DestroySessionNone destroyed) state h)

    owes_so : (name : Name) (number seq : ℕ) (verdict : Verdict) (body : List ℕ) (state : State S) → So state → So (speaks name (owes setting number seq verdict body) state)
    owes_so name number seq verdict body state h =
        speaks_so name (owes setting number seq verdict body) state
        (λ speaker. (
          said_name 0 before k alone setting speaker (owes setting number seq verdict body speaker) (alone.owes setting speaker number seq verdict body),
          (λ x. salts_grown x setting speaker (owes setting number seq verdict body speaker) (alone.salts.owes setting speaker number seq verdict body)),
          salts_later setting speaker (owes setting number seq verdict body speaker) (alone.salts.owes setting speaker number seq verdict body),
        )) h

    accepted_so : (name : Name) (number seq : ℕ) (item : Item) (body : List ℕ) (state : State S) → So state → So (row setting name number seq (Accepted item) body state)
    accepted_so name number seq (DestroySession destroyed) body state h = destroys_so number destroyed name state h
    accepted_so name number seq item body state h = owes_so name number seq (Accepted item) body state h

    row_so : (name : Name) (number seq : ℕ) (verdict : Verdict) (body : List ℕ) (state : State S) → So state → So (row setting name number seq verdict body state)
    row_so name number seq (Noticed code) body state h = owes_so name number seq (Noticed code) body state h
    row_so name number seq (Again mark) body state h = owes_so name number seq (Again mark) body state h
    row_so name number seq (Accepted item) body state h = accepted_so name number seq item body state h

    settled_so : (name : Name) (judged : List (Judgement × List ℕ)) (state : State S) → So state → So (fold (settles setting name) state judged)
    settled_so name [] state h = h
    settled_so name (one ∷ judged) state h =
        let done : State S = row setting name one.0.number one.0.seq one.0.verdict one.1 state in
        settled_so name judged (settles setting name state one)
        (failures_so (speaks name (tells_of one.0.number) done)
        (speaks_so name (tells_of one.0.number) done (λ speaker. (refl, alike speaker, itself setting speaker)) (row_so name one.0.number one.0.seq one.0.verdict one.1 state h)))

    taken_so : (envelope : Envelope) (found : Option Session) (state : State S) → So state → So (takes_by setting envelope found state)
    taken_so envelope None state h = h
    taken_so envelope (Some session) state h =
        let way = InEnvelope setting.now session.salts envelope.salt in
        let message : Message = message_in envelope in
        let judged = judgements way (remembered session) message in
        let bodies = map (λ (one : Message). one.body) (messages_judged way session message) in
        let history = (session_after way (remembered session) message).history in
        settled_so (name_of session) (zip judged bodies) (speaks (name_of session) (opens setting history judged) state)
        (speaks_so (name_of session) (opens setting history judged) state
        (λ speaker. (opens_name 0 before k alone setting history judged speaker, (λ x. salts_grown x setting speaker (opens setting history judged speaker) (alone.salts.opens setting speaker history judged)), salts_later setting speaker (opens setting history judged speaker) (alone.salts.opens setting speaker history judged))) h)

    -- ---- the session of a packet

    placed_so : (sessions : List Session) (state : State S) → So state → So (without_first sessions state)
    placed_so [] state h = h
    placed_so (session ∷ sessions) state h = lost_so (name_of session) state h

    place_so : (state : State S) → So state → So (with_place state)
    place_so state h = cond_both _ state (without_first state.sessions state) So (λ is. h) (λ is. placed_so state.sessions state h)

    unnamed_first : (name : Name) (sessions : List Session) (state : State S) → AllByRecursion (λ (other : Session). name_of other ≢ name) state.sessions
        → AllByRecursion (λ (other : Session). name_of other ≢ name) (without_first sessions state).sessions
    unnamed_first name [] state h = h
    unnamed_first name (session ∷ sessions) state h =
        all_filter (λ (other : Session). name_of other ≢ name) (λ (o : Session). not (is_named (name_of session) o)) state.sessions h

    unnamed_place : (name : Name) (state : State S) → AllByRecursion (λ (other : Session). name_of other ≢ name) state.sessions
        → AllByRecursion (λ (other : Session). name_of other ≢ name) (with_place state).sessions
    unnamed_place name state h =
        cond_both _ state (without_first state.sessions state) (λ (s : State S). AllByRecursion (λ (other : Session). name_of other ≢ name) s.sessions)
        (λ is. h) (λ is. unnamed_first name state.sessions state h)

    makes_so : (envelope : Envelope) (state : State S) → So state → AllByRecursion (λ (other : Session). name_of other ≢ name_in envelope) state.sessions
        → ((x : ℕ) → Holds x before (makes setting envelope state).sessions) → So (makes setting envelope state)
    makes_so envelope state h unnamed holds =
        let new : Session = session_for setting envelope state.draw in
        record {
          holds = holds;
          apart = apart_more state.sessions new h.apart unnamed;
          within = later_then setting.step begun state.draw (draw_after setting.step 2 state.draw) at_first (so_far state.sessions) (so_far (state.sessions ++ new ∷ [])) h.within
              (record { many = 2; later = refl; within = λ x. made_total x state.sessions new });
        }

    kept_so : (session : Session) (state : State S) → So state → session_named (name_of session) state.sessions ≡ Some session
        → ((x : ℕ) → Holds x before (without_session (name_of session) state.sessions ++ session ∷ [])) → Fits setting.step begun (without_session (name_of session) state.sessions ++ session ∷ []) state.draw
    kept_so session state h is holds =
        sessions_so (without_session (name_of session) state.sessions ++ session ∷ []) state h
        (apart_more (without_session (name_of session) state.sessions) session (apart_filter (λ (o : Session). not (is_named (name_of session) o)) state.sessions h.apart) (without_named (name_of session) state.sessions))
        holds (λ x. kept_total x session state.sessions is)

    hears_so : (envelope : Envelope) (found : Option Session) (state : State S) → state.sessions ≡ before → session_named (name_in envelope) state.sessions ≡ found → So state
        → So (hears_by setting envelope found state)
    hears_so envelope None state all is h =
        let was = h.holds in
        makes_so envelope (with_place state) (place_so state h) (unnamed_place (name_in envelope) state (unnamed (name_in envelope) state.sessions is))
        (λ x. hears_hold x before k alone setting envelope None state all is (was x))
    hears_so envelope (Some session) state all is h =
        let was = h.holds in
        let name : name_in envelope ≡ name_of session = same_names (name_in envelope) (name_of session) (found_is (is_named (name_in envelope)) state.sessions session is) in
        kept_so session state h (subst (λ (n : Name). session_named n state.sessions ≡ Some session) name is)
        (λ x. hears_hold x before k alone setting envelope (Some session) state all is (was x))

    pub takes_so : (envelope : Envelope) (state : State S) → state.sessions ≡ before → So state → So (takes setting envelope state)
    takes_so envelope state all h =
        let heard : State S = hears setting envelope state in
        taken_so envelope (session_named (name_in envelope) heard.sessions) heard (hears_so envelope (session_named (name_in envelope) state.sessions) state all refl h)

    -- ---- its end

    names_sent : (owed : List Owed) (names : List Name) (state : State S) → So state
        → So (fold (λ so_far name. speaks name (sends setting (messages_by name owed)) so_far) state names)
    names_sent owed [] state h = h
    names_sent owed (name ∷ names) state h =
        names_sent owed names (speaks name (sends setting (messages_by name owed)) state)
        (speaks_so name (sends setting (messages_by name owed)) state
        (λ speaker. (sends_name 0 before k alone setting (messages_by name owed) speaker, (λ x. sends_grown x setting (messages_by name owed) speaker), sends_later setting (messages_by name owed) speaker)) h)

    pub sent_so : (state : State S) → So state → So (all_sent setting state)
    sent_so state h = names_sent state.owed (names_in state.owed) state h
