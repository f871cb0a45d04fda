-- A session speaks in an event, or is lost in it.
use Rattle.std.proofs.Common.{◌≡◌, ℕ, ◌<◌, arith, ◌==◌, ◌&&◌, not, Bool, true, false, Option, None, Some, List, [], ◌∷◌, ◌++◌, map, filter, inl, inr, refl, sym, ap, subst, ◌∙◌}
use Rattle.std.specs.List.{All, AllByRecursion, Contains}
use Rattle.std.proofs.lemmas.Bool.{cases_Bool}
use Rattle.std.proofs.lemmas.List.Elements.{All-contains}
use Rattle.salt_line.specs.Line.{Line}
use Rattle.waits.specs.Jobs.{without_session as without_jobs_of}
use Rattle.server_rules.specs.Server.{Name, Session, is_named, name_of, session_named, with_session, without_session}
use Rattle.server_rules.specs.Event.{Owed, Speaker, State, lost, speaker_in, speaks, spoken, spoken_by}
use Rattle.law_server.specs.Speech.{SaidFor}
use Rattle.law_moves.specs.Table as moves
use Rattle.law_moves.specs.World.{World}
use Rattle.law_moves.specs.Reached.{after_all}
use Rattle.law_server_moves.specs.Leading.{Leads}
use Rattle.law_server_moves.specs.Servers.{Past, ServerStands, with_entries, with_lost}
use Rattle.law_server_moves.specs.Speaking.{IsOwedThere, SpeaksThere, with_line}
use Rattle.law_server_moves.specs.Events.{EventStands, with_lines}
use Rattle.law_server_moves.proofs.Lists.{all_append, all_of, each_of, first_or, from_filter, here, later as one_later}
use Rattle.law_server_moves.proofs.Leading.{stays}
use Rattle.law_server_moves.proofs.Losing.{and_right, eq_true, loses, named_itself}
use Rattle.law_server_moves.proofs.One.{put, with_itself}
use Rattle.law_server_moves.proofs.Found.{found_in}
use Rattle.law_server_moves.proofs.Speech.{Adds, owed_still}

-- ---- lists and names

pub mapped_in : {X Y : Type 0} (f : X → Y) (xs : List X) (x : X) → Contains xs x → Contains (map f xs) (f x)
mapped_in f [] x h = let below : h.0 < 0 = h.1 in absurd (omega (arith, below))
mapped_in f (y ∷ xs) x h =
    elim (first_or x y xs h) [
      | inl same ↦ subst (λ (z : _). Contains (f z ∷ map f xs) (f x)) (sym same) (here (f x) (map f xs))
      | inr other ↦ one_later (f x) (f y) (map f xs) (mapped_in f xs x other)
    ]

pub all_mapped : {X Y : Type 0} (P : Y → Type 0) (f : X → Y) (xs : List X) → ((x : X) → Contains xs x → P (f x)) → AllByRecursion P (map f xs)
all_mapped P f [] each = tt
all_mapped P f (x ∷ xs) each = (each x (here x xs), all_mapped P f xs (λ y among. each y (one_later y x xs among)))

pub and_first : (a b : Bool) → (a && b) ≡ true → a ≡ true
and_first true b is = refl
and_first false b is = absurd (cc)

abbrev named : ℕ → ℕ → Name
named key session = record { key = key; session = session }

pub name_is : (name : Name) (x : Session) → is_named name x ≡ true → name ≡ name_of x
name_is name x is =
    let key : name.key ≡ x.key = eq_true name.key x.key (and_first (name.key == x.key) (name.session == x.number) is) in
    let session : name.session ≡ x.number = eq_true name.session x.number (and_right (name.key == x.key) (name.session == x.number) is) in
    ap (λ (k : ℕ). named k (name.session)) key ∙ ap (λ (n : ℕ). named x.key n) session

named_so : (name : Name) (o : Session) → name ≡ name_of o → is_named name o ≡ true
named_so name o is = subst (λ (n : Name). is_named n o ≡ true) (sym is) (named_itself o)

-- ---- lines

put_line : (lines : Name → Line) (name : Name) (b o : Session) → name_of b ≡ name
    → with_line (lines (name_of (put b o))) (put b o) ≡ put (with_line (lines name) b) (with_line (lines (name_of o)) o)
put_line lines name b o is =
    elim (cases_Bool (is_named (name_of b) o)) [
      | inl named ↦ rw named (ap (λ (n : Name). with_line (lines n) b) is)
      | inr not_so ↦ rw not_so refl
    ]

pub lines_put : (lines : Name → Line) (name : Name) (b : Session) (sessions : List Session) → name_of b ≡ name
    → with_lines lines (with_session b sessions) ≡ with_session (with_line (lines name) b) (with_lines lines sessions)
lines_put lines name b [] is = refl
lines_put lines name b (o ∷ sessions) is =
    ap (λ (z : Session). z ∷ with_lines lines (with_session b sessions)) (put_line lines name b o is)
    ∙ ap (λ (l : List Session). put (with_line (lines name) b) (with_line (lines (name_of o)) o) ∷ l) (lines_put lines name b sessions is)

-- ---- what is owed stays

module _ (w later : World) (o : Session) (forgotten : (number : ℕ) → Contains (w.servers o.unique).forgotten number → Contains (later.servers o.unique).forgotten number)
    (ups : (message : moves.Message) → Contains w.ups message → Contains later.ups message) where
  owed_on : (owed : List Owed) → AllByRecursion (IsOwedThere w o) owed → AllByRecursion (IsOwedThere later o) owed
  owed_on owed h = owed_still w later o o.counters o.replies (λ reply same. same) forgotten ups owed h

-- ---- a session speaks

-- what it did is its own: it is the same session, and what is owed further is its own
pub record IsItsOwn (S : Type 0) (before after : Speaker S) : Type 0 where
  pub key : after.session.key ≡ before.session.key
  pub number : after.session.number ≡ before.session.number
  pub owed : (further : List Owed) × (after.owed ≡ before.owed ++ further) × All (λ one. one.name ≡ name_of before.session) further

pub own_of : {S : Type 0} (before after : Speaker S) → SaidFor S before after → IsItsOwn S before after
own_of before after said = record { key = said.key; number = said.number; owed = said.owed }

module _ {S : Type 0} (adds : Adds) (w : World) (gone : Past) (lines : Name → Line) (state : State S) (h : EventStands w gone lines state) (name : Name) where
  abbrev xs : List Session
  xs = with_lines lines state.sessions

  module _ (x : Session) (found : session_named name state.sessions ≡ Some x) where
    its_name : name ≡ name_of x
    its_name = name_is name x (found_in (is_named name) state.sessions x found).1

    abbrev its : Session
    its = with_line (lines name) x

    among : Contains xs its
    among =
        subst (λ (n : Name). Contains xs (with_line (lines n) x)) (sym its_name)
        (mapped_in (λ (session : Session). with_line (lines (name_of session)) session) state.sessions x (found_in (is_named name) state.sessions x found).0)

    begins : SpeaksThere w gone xs (lines name) (speaker_in state x)
    begins =
        let same : with_session its xs ≡ xs = with_itself xs h.stands.apart its among in
        record {
          stands = subst (λ (l : List Session). ServerStands w (with_entries state.entries gone) l state.jobs) (sym same) h.stands;
          among = subst (λ (l : List Session). Contains l its) (sym same) among;
          owed = each_of (λ (o : Session). AllByRecursion (IsOwedThere w o) state.owed) xs h.owed its among;
        }

    module _ (b : Speaker S) (said : IsItsOwn S (speaker_in state x) b) (later : World)
        (forgotten : (unique number : ℕ) → Contains (w.servers unique).forgotten number → Contains (later.servers unique).forgotten number)
        (ups : (message : moves.Message) → Contains w.ups message → Contains later.ups message)
        (k : SpeaksThere later gone xs (lines name) b) where
      named_b : name_of b.session ≡ name
      named_b =
          ap (λ (key : ℕ). named key (b.session.number)) said.key
          ∙ ap (λ (number : ℕ). named x.key (number)) said.number
          ∙ sym its_name

      abbrev now : Session
      now = with_line (lines name) b.session

      same_list : with_lines lines (with_session b.session state.sessions) ≡ with_session now xs
      same_list = lines_put lines name b.session state.sessions named_b

      others_owe : (o : Session) → Contains xs o → is_named (name_of now) o ≡ false → AllByRecursion (IsOwedThere later o) b.owed
      others_owe o there not_so =
          let more = said.owed in
          subst (λ (l : List Owed). AllByRecursion (IsOwedThere later o) l) (sym more.1)
          (all_append (IsOwedThere later o) state.owed more.0
          (owed_on w later o (λ number is. forgotten o.unique number is) ups state.owed (each_of (λ (o : Session). AllByRecursion (IsOwedThere w o) state.owed) xs h.owed o there))
          (all_of (IsOwedThere later o) more.0
          (λ one is of.
          let its_own : name_of now ≡ name_of o = named_b ∙ its_name ∙ sym (All-contains (λ (one : Owed). one.name ≡ name_of x) more.0 one more.2 is) ∙ of in
          let e : false ≡ true = sym not_so ∙ named_so (name_of now) o its_own in absurd (cc))))

      put_owes : (o : Session) → Contains xs o → AllByRecursion (IsOwedThere later (put now o)) b.owed
      put_owes o there =
          elim (cases_Bool (is_named (name_of now) o)) [
            | inl is ↦ rw is k.owed
            | inr not_so ↦ rw not_so (others_owe o there not_so)
          ]

      ends : EventStands later gone lines (spoken state b)
      ends = record {
        stands = subst (λ (l : List Session). ServerStands later (with_entries b.entries gone) l b.jobs) (sym same_list) k.stands;
        owed = subst (λ (l : List Session). AllByRecursion (λ (o : Session). AllByRecursion (IsOwedThere later o) b.owed) l) (sym same_list)
            (all_mapped (λ (o : Session). AllByRecursion (IsOwedThere later o) b.owed) (put now) xs put_owes);
      }

  -- and what it leads to beside it
  pub speaks_with : (x : Session) → session_named name state.sessions ≡ Some x → (speak : Speaker S → Speaker S) (Q : World → Type 0)
      → IsItsOwn S (speaker_in state x) (speak (speaker_in state x))
      → (SpeaksThere w gone xs (lines name) (speaker_in state x) → Leads w (λ later. SpeaksThere later gone xs (lines name) (speak (speaker_in state x)) × Q later))
      → Leads w (λ later. EventStands later gone lines (spoken state (speak (speaker_in state x))) × Q later)
  speaks_with x found speak Q own leads =
      let l = leads (begins x found) in
      record {
        moves = l.moves;
        lawful = l.lawful;
        own = l.own;
        gives = (ends x found (speak (speaker_in state x)) own (after_all w l.moves) (λ unique number has. adds.forgotten w l.moves l.lawful unique number has) (λ m has. adds.messages w l.moves l.lawful m has) l.gives.0, l.gives.1);
      }

  -- what a session of the name says
  abbrev pub IsSpeech : (Speaker S → Speaker S) → Session → Type 0
  IsSpeech speak x =
      SaidFor S (speaker_in state x) (speak (speaker_in state x))
      × (SpeaksThere w gone xs (lines name) (speaker_in state x) → Leads w (λ later. SpeaksThere later gone xs (lines name) (speak (speaker_in state x))))

  spoken_so : (speak : Speaker S → Speaker S) (found : Option Session) → session_named name state.sessions ≡ found → ((x : Session) → session_named name state.sessions ≡ Some x → IsSpeech speak x)
      → Leads w (λ later. EventStands later gone lines (spoken_by found speak state))
  spoken_so speak None is each = stays w (λ later. EventStands later gone lines state) h
  spoken_so speak (Some x) is each =
      let its_speech = each x is in
      let l = its_speech.1 (begins x is) in
      record {
        moves = l.moves;
        lawful = l.lawful;
        own = l.own;
        gives = ends x is (speak (speaker_in state x)) (own_of (speaker_in state x) (speak (speaker_in state x)) its_speech.0) (after_all w l.moves) (λ unique number has. adds.forgotten w l.moves l.lawful unique number has) (λ m has. adds.messages w l.moves l.lawful m has) l.gives;
      }

  pub speaks_on : (speak : Speaker S → Speaker S) → ((x : Session) → session_named name state.sessions ≡ Some x → IsSpeech speak x)
      → Leads w (λ later. EventStands later gone lines (speaks name speak state))
  speaks_on speak each = spoken_so speak (session_named name state.sessions) refl each

  -- ---- a session is lost

  lines_without : (sessions : List Session) → with_lines lines (without_session name sessions) ≡ without_session name (with_lines lines sessions)
  lines_without [] = refl
  lines_without (o ∷ sessions) =
      elim (cases_Bool (is_named name o)) [
        | inl is ↦ rw is (lines_without sessions)
        | inr not_so ↦ rw not_so (ap (λ (l : List Session). with_line (lines (name_of o)) o ∷ l) (lines_without sessions))
      ]

  pub lost_on : Leads w (λ later. EventStands later (with_lost (filter (is_named name) xs) gone) lines (lost name state))
  lost_on =
      let l = loses w (with_entries state.entries gone) xs state.jobs name h.stands in
      let v : World = after_all w l.moves in
      record {
        moves = l.moves;
        lawful = l.lawful;
        own = l.own;
        gives = record {
          stands = subst (λ (s : List Session). ServerStands v (with_lost (filter (is_named name) xs) (with_entries state.entries gone)) s (without_jobs_of name.key name.session state.jobs)) (sym (lines_without state.sessions)) l.gives;
          owed = subst (λ (s : List Session). AllByRecursion (λ (o : Session). AllByRecursion (IsOwedThere v o) state.owed) s) (sym (lines_without state.sessions))
              (all_of (λ (o : Session). AllByRecursion (IsOwedThere v o) state.owed) (without_session name xs)
              (λ o there. owed_on w v o (λ number has. adds.forgotten w l.moves l.lawful o.unique number has) (λ m has. adds.messages w l.moves l.lawful m has) state.owed
              (each_of (λ (o : Session). AllByRecursion (IsOwedThere w o) state.owed) xs h.owed o (from_filter (λ (o : Session). not (is_named name o)) xs o there).0)));
        };
      }
