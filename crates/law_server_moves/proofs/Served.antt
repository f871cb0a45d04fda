-- An event of a world's server in which no session is lost before all is said.
use Rattle.std.proofs.Common.{◌≡◌, ◌≢◌, not, true, false, Option, List, [], ◌∷◌, ◌++◌, filter, fold, map, inl, inr, refl, sym, ap, subst, ◌∙◌, append_assoc}
use Rattle.std.specs.Prelude.{◌⊎◌}
use Rattle.std.specs.List.{All, AllByRecursion, Contains}
use Rattle.std.proofs.lemmas.Bool.{cases_Bool}
use Rattle.std.proofs.lemmas.List.Elements.{Contains-append_left, Contains-append_right}
use Rattle.salt_line.specs.Line.{Line}
use Rattle.salt_line.specs.Rows.{Row}
use Rattle.envelope.specs.declared.parts.Dir.TheVariants.{Down}
use Rattle.server_rules.specs.Server.{Name, Session, is_named, name_of, without_session}
use Rattle.server_rules.specs.Event.{Owed, Setting, State, lost, speaks}
use Rattle.server_rules.specs.Answer.{is_spent, without_spent}
use Rattle.server_rules.specs.Sending.{all_sent, messages_by, names_in, sends}
use Rattle.world_rules.specs.World as rules
use Rattle.world_rules.specs.World.{Entered, Packet, has_named, lost_in, missing}
use Rattle.world_rules.specs.Setting.{as_heard}
use Rattle.world_rules.specs.Ends.{sent_down}
use Rattle.law_moves.specs.World.{World}
use Rattle.law_moves.specs.Reached.{Reached}
use Rattle.law_server_moves.specs.Leading.{Leads}
use Rattle.law_server_moves.specs.Servers.{Past, ServerStands, with_lost}
use Rattle.law_server_moves.specs.Events.{AreLines}
use Rattle.law_server_moves.specs.Sending.{EventEnds, WentOut}
use Rattle.law_server_moves.specs.Worlds.{StandsIn, past_in}
use Rattle.law_server_moves.proofs.Lists.{kept_in}
use Rattle.law_server_moves.proofs.Leading.{leads_so}
use Rattle.law_server_moves.proofs.Losing.{append_nothing}
use Rattle.law_server_moves.proofs.Others.{empty_has}
use Rattle.law_server_moves.proofs.Events.{name_is}
use Rattle.law_server_moves.proofs.Gone.{AreNamedApart, gone_now, has_spoken, named_apart, named_among, still_none}
use Rattle.law_server_moves.proofs.Growth.{AllFrom}
use Rattle.law_server_moves.proofs.Chosen.{last_by, last_of, line_at, more_at, said_line, some_found}
use Rattle.law_server_moves.proofs.Fresh.{AreDistinct, IsBlank, across_sessions, drawn_for, word_drawn}
use Rattle.law_server_moves.proofs.Drawn.{are_lines}
use Rattle.law_server_moves.proofs.Whole.{all_down, missing_in, none_missing, stands_after}

-- ---- names

-- all that is said leaves the names
sent_names : {S : Type 0} (setting : Setting S) (owed : List Owed) (name : Name) (names : List Name) (state : State S)
    → has_named name (fold (λ so_far name. speaks name (sends setting (messages_by name owed)) so_far) state names).sessions ≡ has_named name state.sessions
sent_names setting owed name [] state = refl
sent_names setting owed name (first ∷ names) state =
    sent_names setting owed name names (speaks first (sends setting (messages_by first owed)) state) ∙ has_spoken name first (sends setting (messages_by first owed)) state

pub has_sent : {S : Type 0} (setting : Setting S) (name : Name) (state : State S) → has_named name (all_sent setting state).sessions ≡ has_named name state.sessions
has_sent setting name state = sent_names setting state.owed name (names_in state.owed) state

-- a session is there when those without room are lost, or its name is gone
lost_or : {S : Type 0} (spent : List Session) (state : State S) (y : Session) → Contains state.sessions y ⊎ (has_named (name_of y) state.sessions ≡ false)
    → Contains (fold (λ so_far session. lost (name_of session) so_far) state spent).sessions y ⊎ (has_named (name_of y) (fold (λ so_far session. lost (name_of session) so_far) state spent).sessions ≡ false)
lost_or [] state y h = h
lost_or (session ∷ spent) state y (inr none) = lost_or spent (lost (name_of session) state) y (inr (still_none (name_of y) (name_of session) state.sessions none))
lost_or (session ∷ spent) state y (inl there) =
    elim (cases_Bool (is_named (name_of session) y)) [
      | inl is ↦
          lost_or spent (lost (name_of session) state) y
          (inr (subst (λ (n : Name). has_named n (without_session (name_of session) state.sessions) ≡ false) (name_is (name_of session) y is) (gone_now (name_of session) state.sessions)))
      | inr not_so ↦
          lost_or spent (lost (name_of session) state) y
          (inl (kept_in (λ (o : Session). not (is_named (name_of session) o)) state.sessions y there (ap not not_so)))
    ]

pub spent_or : {S : Type 0} (state : State S) (y : Session) → Contains state.sessions y → Contains (without_spent state).sessions y ⊎ (has_named (name_of y) (without_spent state).sessions ≡ false)
spent_or state y there = lost_or (filter is_spent state.sessions) state y (inl there)

-- ---- the event

nothing_before : {S : Type 0} (w : World) (past : Past) (lines : Name → Line) (said : List Session) (state : State S) → EventEnds w past lines said state → EventEnds w (with_lost [] past) lines said state
nothing_before w past lines said state h = subst (λ (l : List Session). EventEnds w (record past { lost = l }) lines said state) (sym (append_nothing past.lost)) h

module _ {S V : Type 0} (blank : IsBlank) (setting : Setting S) (w : World) (world : rules.World S V) (done : State S) (reached : Reached w) (s : StandsIn w world)
    (comes : AllFrom world.server.sessions (all_sent setting done).sessions) (names : (name : Name) → has_named name done.sessions ≡ has_named name world.server.sessions) where
  abbrev from : List Session
  from = world.server.sessions

  abbrev pub said : List Session
  said = (all_sent setting done).sessions

  abbrev pub end : State S
  end = without_spent (all_sent setting done)

  abbrev gone : List Session
  gone = lost_in from said end.sessions

  pub apart : AreNamedApart from
  apart = named_apart from s.apart

  abbrev pub lives_after : List Session
  lives_after = (world.lost ++ gone) ++ end.sessions

  abbrev pub lines : Name → Line
  lines = line_at from said apart comes

  abbrev pub more : Name → List Row
  more = more_at from said apart comes

  pub named_said : (x : Session) → Contains from x → has_named (name_of x) said ≡ true
  named_said x there = has_sent setting (name_of x) done ∙ names (name_of x) ∙ named_among from x there

  none_early : missing from said ≡ []
  none_early = none_missing from said named_said

  said_lives : (y : Session) → Contains said y → Contains (gone ++ end.sessions) y
  said_lives y there =
      elim (spent_or (all_sent setting done) y there) [
        | inl stays ↦ Contains-append_right gone end.sessions y stays
        | inr none ↦ Contains-append_left gone end.sessions y (Contains-append_right (missing from said) (missing said end.sessions) y (missing_in said end.sessions y there none))
      ]

  last_lives : (x : Session) → Contains from x → Contains (gone ++ end.sessions) (last_of from said apart comes x)
  last_lives x there =
      let f = some_found (name_of x) said (named_said x there) in
      subst (λ (found : Option Session). Contains (gone ++ end.sessions) (last_by found x)) (sym f.found) (said_lives f.session f.there)

  module _ (some : All (λ word. word ≢ 0) (drawn_for lives_after)) (distinct : AreDistinct (drawn_for lives_after)) where
    distinct_parts : AreDistinct (drawn_for (world.lost ++ (gone ++ end.sessions)))
    distinct_parts = subst (λ (l : List Session). AreDistinct (drawn_for l)) (append_assoc world.lost gone end.sessions) distinct

    pub lines_are : AreLines w lines more from
    lines_are =
        are_lines blank w (past_in world) from said lives_after world.server.jobs apart comes reached s some distinct
        (λ x there.
        subst (λ (l : List Session). Contains l (last_of from said apart comes x)) (sym (append_assoc world.lost gone end.sessions))
        (Contains-append_right world.lost (gone ++ end.sessions) (last_of from said apart comes x) (last_lives x there)))
        (λ o was x there word of_o of_x.
        across_sessions world.lost (gone ++ end.sessions) distinct_parts o (last_of from said apart comes x) was (last_lives x there) word (word_drawn o word of_o)
        (word_drawn (last_of from said apart comes x) word of_x))

    -- what it leads to, where it ends by lawful moves
    abbrev pub Stands : World → Type 0
    Stands later =
        ServerStands later
        (record { lost = world.lost ++ gone; entries = map (λ (entered : Entered). entered.entry) (world.entries ++ map (λ entry. record { start = world.start; entry = entry }) end.entries) })
        end.sessions end.jobs
        × AllByRecursion (λ (packet : Packet). (packet.dir ≡ Down) × WentOut later (as_heard packet.envelope)) (map sent_down end.sent)

    ends_so : (later : World) → EventEnds later (past_in world) lines said end → Stands later
    ends_so later h =
        let k = nothing_before later (past_in world) lines said end h in
        let line_said : (y : Session) → Contains said y → lines (name_of y) ≡ y.salts = λ y there. said_line from said apart comes (named_apart said h.apart) y there in (
          stands_after later (past_in world) [] lines said end k line_said from
              (λ o there. absurd (empty_has o (subst (λ (l : List Session). Contains l o) none_early there)))
              (λ o there. absurd (empty_has o there)) world.start world.entries refl,
          all_down later (past_in world) [] lines said end k line_said,
        )

    pub leads_on : Leads w (λ later. EventEnds later (past_in world) lines said end) → Leads w Stands
    leads_on l = leads_so w (λ later. EventEnds later (past_in world) lines said end) Stands ends_so l
