-- Sessions that are there, or lost, by their names.
use Rattle.std.proofs.Common.{◌≡◌, ℕ, zero, suc, Option, None, Some, length, ◌≢◌, ◌<◌, ◌||◌, not, Bool, true, false, List, [], ◌∷◌, ◌++◌, filter, if◌then◌else◌, map, inl, inr, refl, sym, ap, subst, ◌∙◌, arith}
use Rattle.std.specs.Prelude.{◌⊎◌}
use Rattle.std.specs.List.{AllByRecursion, Contains}
use Rattle.std.proofs.lemmas.Bool.{cases_Bool}
use Rattle.std.proofs.lemmas.List.Elements.{Contains-append_left, Contains-append_right}
use Rattle.salt_line.specs.Line.{Line}
use Rattle.waits.specs.declared.job.Job.{Job}
use Rattle.waits.specs.Jobs.{Queue, without_ready}
use Rattle.server_rules.specs.Server.{Name, Session, is_named, is_same, name_of, session_named, with_session, without_session}
use Rattle.server_rules.specs.Event.{Setting, Speaker, State, speaker_in, speaks, spoken_by}
use Rattle.server_rules.specs.Speaking.{msg_wait_failed, msg_wait_timeout}
use Rattle.server_rules.specs.Waiting.{after_failures, after_timeouts, all_given_up, first_failed, first_given_up, first_overdue, given_up, gives_up}
use Rattle.server_rules.specs.Answer.{finishes, runs, ticks}
use Rattle.world_rules.specs.World.{has_named}
use Rattle.law_moves.specs.World.{World}
use Rattle.law_server_moves.specs.Servers.{AreApart, Past, ServerStands, with_lost}
use Rattle.law_server_moves.specs.Events.{AreLost, EventStands, lined, with_lines}
use Rattle.law_server_moves.proofs.Lists.{all_append, all_of, first_or, from_filter, here, kept_in, later, map_all}
use Rattle.law_server_moves.proofs.Losing.{append_nothing, named_itself, not_true}
use Rattle.law_server_moves.proofs.One.{put}
use Rattle.law_server_moves.proofs.Others.{empty_has, one_of_number}
use Rattle.law_server_moves.proofs.Events.{mapped_in, name_is}

pub named_among : (sessions : List Session) (o : Session) → Contains sessions o → has_named (name_of o) sessions ≡ true
named_among [] o h = absurd (empty_has o h)
named_among (first ∷ sessions) o h =
    elim (first_or o first sessions h) [
      | inl same ↦ subst (λ (s : Session). has_named (name_of s) (first ∷ sessions) ≡ true) same (rw (named_itself first) refl)
      | inr other ↦
          elim (cases_Bool (is_named (name_of o) first)) [
            | inl is ↦ rw is refl
            | inr fails ↦ rw fails (named_among sessions o other)
          ]
    ]

-- one that has the name
pub has_one : (name : Name) (sessions : List Session) → has_named name sessions ≡ true → (o : Session) × Contains sessions o × (is_named name o ≡ true)
has_one name [] is = absurd (cc)
has_one name (first ∷ sessions) is =
    elim (cases_Bool (is_named name first)) [
      | inl holds ↦ (first, here first sessions, holds)
      | inr fails ↦ let rest = has_one name sessions (subst (λ (b : Bool). (b || has_named name sessions) ≡ true) fails is) in (rest.0, later rest.0 first sessions rest.1, rest.2)
    ]

pub none_has : (name : Name) (sessions : List Session) → ((o : Session) → Contains sessions o → is_named name o ≡ false) → has_named name sessions ≡ false
none_has name [] each = refl
none_has name (first ∷ sessions) each = rw (each first (here first sessions)) (none_has name sessions (λ o there. each o (later o first sessions there)))

pub has_none : (name : Name) (sessions : List Session) → has_named name sessions ≡ false → (o : Session) → Contains sessions o → is_named name o ≡ false
has_none name [] is o h = absurd (empty_has o h)
has_none name (first ∷ sessions) is o h =
    elim (cases_Bool (is_named name first)) [
      | inl holds ↦ let e : true ≡ false = subst (λ (b : Bool). (b || has_named name sessions) ≡ false) holds is in absurd (cc)
      | inr fails ↦
          elim (first_or o first sessions h) [
            | inl same ↦ subst (λ (s : Session). is_named name s ≡ false) same fails
            | inr other ↦ has_none name sessions (subst (λ (b : Bool). (b || has_named name sessions) ≡ false) fails is) o other
          ]
    ]

pub nothing_lost : (w : World) (past : Past) (sessions : List Session) (jobs : Queue) → ServerStands w past sessions jobs → ServerStands w (with_lost [] past) sessions jobs
nothing_lost w past sessions jobs h = subst (λ (l : List Session). ServerStands w (record past { lost = l }) sessions jobs) (sym (append_nothing past.lost)) h

pub none_lost : {S : Type 0} (w : World) (past : Past) (lines : Name → Line) (state : State S) → EventStands w past lines state → EventStands w (with_lost [] past) lines state
none_lost w past lines state h = subst (λ (l : List Session). EventStands w (record past { lost = l }) lines state) (sym (append_nothing past.lost)) h

pub none_are_lost : (told : Session → Session) (sessions : List Session) → AreLost told sessions sessions []
none_are_lost told sessions = record {
  each = tt;
  others = all_of (λ (o : Session). (has_named (name_of o) sessions ≡ true) ⊎ Contains [] (told o)) sessions (λ o there. inl (named_among sessions o there));
}

-- ---- names that stay, and one that goes

pub still_none : (name other : Name) (sessions : List Session) → has_named name sessions ≡ false → has_named name (without_session other sessions) ≡ false
still_none name other sessions is =
    none_has name (without_session other sessions)
    (λ o there. has_none name sessions is o (from_filter (λ (o : Session). not (is_named other o)) sessions o there).0)

pub gone_now : (name : Name) (sessions : List Session) → has_named name (without_session name sessions) ≡ false
gone_now name sessions =
    none_has name (without_session name sessions)
    (λ o there. not_true (is_named name o) (from_filter (λ (o : Session). not (is_named name o)) sessions o there).1)

still_named : (other : Name) (o : Session) (sessions : List Session) → is_named other o ≡ false → has_named (name_of o) sessions ≡ true → has_named (name_of o) (without_session other sessions) ≡ true
still_named other o sessions differs is =
    let one = has_one (name_of o) sessions is in
    let same : name_of o ≡ name_of one.0 = name_is (name_of o) one.0 one.2 in
    let apart : is_named other one.0 ≡ false = ap (λ (n : Name). is_same other n) (sym same) ∙ differs in
    subst (λ (n : Name). has_named n (without_session other sessions) ≡ true) (sym same)
    (named_among (without_session other sessions) one.0 (kept_in (λ (o : Session). not (is_named other o)) sessions one.0 one.1 (ap not apart)))

mapped_from : {X Y : Type 0} (f : X → Y) (xs : List X) (y : Y) → Contains (map f xs) y → (x : X) × Contains xs x × (y ≡ f x)
mapped_from f [] y h = let below : h.0 < 0 = h.1 in absurd (omega (arith, below))
mapped_from f (x ∷ xs) y h =
    elim (first_or y (f x) (map f xs) h) [
      | inl same ↦ (x, here x xs, sym same)
      | inr other ↦ let rest = mapped_from f xs y other in (rest.0, later rest.0 x xs rest.1, rest.2)
    ]

pub apart_lines : (lines : Name → Line) (sessions : List Session) → AreApart (with_lines lines sessions) → AreApart sessions
apart_lines lines [] h = tt
apart_lines lines (x ∷ sessions) h = (differ sessions h.0, apart_lines lines sessions h.1) where
  differ : (list : List Session) → AllByRecursion (λ (o : Session). o.number ≢ x.number) (with_lines lines list) → AllByRecursion (λ (o : Session). o.number ≢ x.number) list
  differ [] h = tt
  differ (o ∷ list) h = (h.0, differ list h.1)

-- two of these that have one name are one
abbrev pub AreNamedApart : List Session → Type 0
AreNamedApart from = (one other : Session) → Contains from one → Contains from other → name_of one ≡ name_of other → one ≡ other

pub named_apart : (sessions : List Session) → AreApart sessions → AreNamedApart sessions
named_apart sessions apart one other a b same = one_of_number sessions apart one other a b (ap (λ (n : Name). n.session) same)

-- other sessions with the same names
pub lost_alike : (told : Session → Session) (from now later more : List Session) → ((name : Name) → has_named name later ≡ has_named name now) → AreLost told from now more → AreLost told from later more
lost_alike told from now later more same h = record {
  each = map_all (λ (one : Session). (session : Session) × Contains from session × (one ≡ told session) × (has_named (name_of session) now ≡ false))
      (λ (one : Session). (session : Session) × Contains from session × (one ≡ told session) × (has_named (name_of session) later ≡ false)) more
      (λ one there k. (k.0, k.1, k.2, same (name_of k.0) ∙ k.3)) h.each;
  others = map_all (λ (o : Session). (has_named (name_of o) now ≡ true) ⊎ Contains more (told o)) (λ (o : Session). (has_named (name_of o) later ≡ true) ⊎ Contains more (told o)) from
      (λ o among k. elim k [ inl is ↦ inl (same (name_of o) ∙ is) | inr old ↦ inr old ]) h.others;
}

-- a session that speaks keeps the names
put_name : (b o : Session) → name_of (put b o) ≡ name_of o
put_name b o =
    elim (cases_Bool (is_named (name_of b) o)) [
      | inl is ↦ rw is (name_is (name_of b) o is)
      | inr not_so ↦ rw not_so refl
    ]

pub has_put : (name : Name) (b : Session) (sessions : List Session) → has_named name (with_session b sessions) ≡ has_named name sessions
has_put name b [] = refl
has_put name b (o ∷ sessions) =
    ap (λ (n : Name). is_same name n || has_named name (with_session b sessions)) (put_name b o)
    ∙ ap (λ (h : Bool). is_named name o || h) (has_put name b sessions)

-- the one that has its name is it
pub only_put : (b : Session) (sessions : List Session) (z : Session) → Contains (with_session b sessions) z → name_of z ≡ name_of b → z ≡ b
only_put b [] z there is = absurd (empty_has z there)
only_put b (o ∷ sessions) z there is =
    elim (first_or z (put b o) (with_session b sessions) there) [
      | inl same ↦
          elim (cases_Bool (is_named (name_of b) o)) [
            | inl named ↦ sym same ∙ ap (λ (c : Bool). if c then b else o) named
            | inr fails ↦
                let its : name_of o ≡ name_of b = sym (put_name b o) ∙ ap (λ (s : Session). name_of s) same ∙ is in
                let e : false ≡ true = sym fails ∙ ap (λ (n : Name). is_same (name_of b) n) its ∙ named_itself b in absurd (cc)
          ]
      | inr other ↦ only_put b sessions z other is
    ]

has_by : {S : Type 0} (name : Name) (speak : Speaker S → Speaker S) (state : State S) (found : Option Session) → has_named name (spoken_by found speak state).sessions ≡ has_named name state.sessions
has_by name speak state None = refl
has_by name speak state (Some y) = has_put name (speak (speaker_in state y)).session state.sessions

pub has_spoken : {S : Type 0} (name at : Name) (speak : Speaker S → Speaker S) (state : State S) → has_named name (speaks at speak state).sessions ≡ has_named name state.sessions
has_spoken name at speak state = has_by name speak state (session_named at state.sessions)

has_given : {S : Type 0} (setting : Setting S) (content : List ℕ) (name : Name) (found : Option Job) (state : State S) → has_named name (given_up setting content found state).sessions ≡ has_named name state.sessions
has_given setting content name None state = refl
has_given setting content name (Some job) state = has_spoken name (record { key = job.key; session = job.session }) (gives_up setting content job) state

pub has_all_given : {S : Type 0} (setting : Setting S) (content : List ℕ) (first : Queue → Option Job × Queue) (name : Name) (n : ℕ) (state : State S)
    → has_named name (all_given_up setting content first n state).sessions ≡ has_named name state.sessions
has_all_given setting content first name zero state = refl
has_all_given setting content first name (suc n) state =
    has_all_given setting content first name n (first_given_up setting content first state) ∙ has_given setting content name (first state.jobs).0 (record state { jobs = (first state.jobs).1 })

pub has_failures : {S : Type 0} (setting : Setting S) (name : Name) (state : State S) → has_named name (after_failures setting state).sessions ≡ has_named name state.sessions
has_failures setting name state = has_all_given setting msg_wait_failed first_failed name (length state.jobs) state

pub has_ticked : {S : Type 0} (setting : Setting S) (name : Name) (state : State S) → has_named name (ticks setting state).sessions ≡ has_named name state.sessions
has_ticked setting name state =
    has_failures setting name (after_timeouts setting state) ∙ has_all_given setting msg_wait_timeout (first_overdue setting.now) name (length state.jobs) state

pub has_run : {S : Type 0} (setting : Setting S) (place : ℕ) (job : Job) (reply : List ℕ) (name : Name) (state : State S)
    → has_named name (runs setting place job reply state).sessions ≡ has_named name state.sessions
has_run setting place job reply name state =
    let rest : State _ = record state { jobs = without_ready place state.jobs } in
    let at : Name = record { key = job.key; session = job.session } in
    has_failures setting name (speaks at (finishes setting job reply) rest) ∙ has_spoken name at (finishes setting job reply) rest

-- the session of a name is lost, as it was before
pub lost_named : (lines : Name → Line) (from now more : List Session) (name : Name) → AreNamedApart from → ((o : Session) → Contains now o → is_named name o ≡ true → Contains from o)
    → AreLost (lined lines) from now more → AreLost (lined lines) from (without_session name now) (more ++ filter (is_named name) (with_lines lines now))
lost_named lines from now more name apart same h =
    let extra : List Session = filter (is_named name) (with_lines lines now) in
    let left : List Session = without_session name now in
    let Gone : Session → Type 0 = λ one. (session : Session) × Contains from session × (one ≡ lined lines session) × (has_named (name_of session) left ≡ false) in
    let Either : Session → Type 0 = λ o. (has_named (name_of o) left ≡ true) ⊎ Contains (more ++ extra) (lined lines o) in
    let gone_here : (one : Session) → Contains extra one → Gone one = λ one there.
    let f = from_filter (is_named name) (with_lines lines now) one there in
    let o = mapped_from (lined lines) now one f.0 in
    let is : is_named name o.0 ≡ true = sym (ap (λ (s : Session). is_named name s) o.2) ∙ f.1 in
    (o.0, same o.0 o.1 is, o.2, subst (λ (n : Name). has_named n left ≡ false) (name_is name o.0 is) (gone_now name now)) in
    let there_or : (o : Session) → Contains from o → has_named (name_of o) now ≡ true → Either o = λ o among is.
    elim (cases_Bool (is_named name o)) [
      | inl named ↦
          let one = has_one (name_of o) now is in
          let its : name_of o ≡ name_of one.0 = name_is (name_of o) one.0 one.2 in
          let also : is_named name one.0 ≡ true = ap (λ (n : Name). is_same name n) (sym its) ∙ named in
          let it : one.0 ≡ o = apart one.0 o (same one.0 one.1 also) among (sym its) in
          inr (Contains-append_right more extra (lined lines o)
          (subst (λ (s : Session). Contains extra (lined lines s)) it (kept_in (is_named name) (with_lines lines now) (lined lines one.0) (mapped_in (lined lines) now one.0 one.1) also)))
      | inr not_so ↦ inl (still_named name o now not_so is)
    ] in
    record {
      each = all_append Gone more extra
          (map_all (λ (one : Session). (session : Session) × Contains from session × (one ≡ lined lines session) × (has_named (name_of session) now ≡ false)) Gone more
          (λ one there k. (k.0, k.1, k.2, still_none (name_of k.0) name now k.3)) h.each)
          (all_of Gone extra gone_here);
      others = map_all (λ (o : Session). (has_named (name_of o) now ≡ true) ⊎ Contains more (lined lines o)) Either from
          (λ o among k.
          elim k [
            | inl is ↦ there_or o among is
            | inr old ↦ inr (Contains-append_left more extra (lined lines o) old)
          ]) h.others;
    }
