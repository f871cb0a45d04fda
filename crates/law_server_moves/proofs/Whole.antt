-- What an event of a world's server made of it stands there.
use Rattle.std.proofs.Common.{◌≡◌, ℕ, Bool, true, false, not, List, [], ◌∷◌, ◌++◌, filter, map, inl, inr, refl, sym, ap, subst, ◌∙◌}
use Rattle.std.specs.Prelude.{◌⊎◌}
use Rattle.std.specs.List.{AllByRecursion, Contains}
use Rattle.std.proofs.lemmas.Bool.{cases_Bool}
use Rattle.std.proofs.lemmas.List.Elements.{Contains-append_cases, Contains-append_left, Contains-append_right}
use Rattle.salt_line.specs.Line.{Line}
use Rattle.waits.specs.Jobs.{Queue}
use Rattle.envelope.specs.declared.parts.Dir.TheVariants.{Down}
use Rattle.server_rules.specs.Server.{Name, Session, is_named, name_of, without_session}
use Rattle.server_rules.specs.Event.{Entry, Sent, State}
use Rattle.world_rules.specs.World.{Entered, Packet, has_named, lost_in, missing}
use Rattle.world_rules.specs.Setting.{as_heard}
use Rattle.world_rules.specs.Ends.{sent_down}
use Rattle.law_moves.specs.World.{World}
use Rattle.law_server_moves.specs.Servers.{IsLost, Past, ServerStands, with_lost}
use Rattle.law_server_moves.specs.Speaking.{with_line}
use Rattle.law_server_moves.specs.Events.{AreLost, lined, with_lines}
use Rattle.law_server_moves.specs.Sending.{EventEnds, WentOut}
use Rattle.law_server_moves.proofs.Lists.{all_of, each_of, filtered_out, from_filter, here, kept_in, later}
use Rattle.law_server_moves.proofs.Entered.{AllLiveOn, LivesOn, entered_on, itself_on, one_on}
use Rattle.law_server_moves.proofs.Losing.{append_nothing}
use Rattle.law_server_moves.proofs.Events.{all_mapped, name_is}
use Rattle.law_server_moves.proofs.Gone.{gone_now, named_among}

-- ---- lists of worlds

pub missing_in : (sessions left : List Session) (o : Session) → Contains sessions o → has_named (name_of o) left ≡ false → Contains (missing sessions left) o
missing_in sessions left o there is = kept_in (λ session. not (has_named (name_of session) left)) sessions o there (ap not is)

pub missing_from : (sessions left : List Session) (o : Session) → Contains (missing sessions left) o → Contains sessions o × (has_named (name_of o) left ≡ false)
missing_from sessions left o there =
    let f = from_filter (λ session. not (has_named (name_of session) left)) sessions o there in
    (f.0, unnot (has_named (name_of o) left) f.1) where
      unnot : (b : Bool) → not b ≡ true → b ≡ false
      unnot true is = absurd (cc)
      unnot false is = refl

pub none_missing : (sessions left : List Session) → ((o : Session) → Contains sessions o → has_named (name_of o) left ≡ true) → missing sessions left ≡ []
none_missing sessions left all = filtered_out (λ session. not (has_named (name_of session) left)) sessions
    (all_of (λ (session : Session). not (has_named (name_of session) left) ≡ false) sessions (λ o there. ap not (all o there)))

-- the entries of a world
entered_so : (start : ℕ) (entries : List Entered) (more : List Entry)
    → map (λ (entered : Entered). entered.entry) (entries ++ map (λ entry. record { start = start; entry = entry }) more) ≡ map (λ (entered : Entered). entered.entry) entries ++ more
entered_so start [] [] = refl
entered_so start [] (entry ∷ more) = ap (λ (l : List Entry). entry ∷ l) (entered_so start [] more)
entered_so start (entered ∷ entries) more = ap (λ (l : List Entry). entered.entry ∷ l) (entered_so start entries more)

-- ---- other lists of what was lost

abbrev past_of : List Session → List Entry → Past
past_of lost entries = record { lost = lost; entries = entries }

pub relost : (w : World) (old new : List Session) (entries : List Entry) (sessions : List Session) (jobs : Queue) → ServerStands w (past_of old entries) sessions jobs
    → ((o : Session) → Contains new o → IsLost w o) → ((o : Session) → Contains old o → LivesOn (new ++ sessions) o) → ServerStands w (past_of new entries) sessions jobs
relost w old new entries sessions jobs s lost_new lives =
    let on : AllLiveOn (old ++ sessions) (new ++ sessions) = λ one there.
    elim (Contains-append_cases old sessions one there) [
      | inl was ↦ lives one was
      | inr stands ↦ itself_on (new ++ sessions) one (Contains-append_right new sessions one stands)
    ] in
    record {
      standing = s.standing;
      working = s.working;
      gone = all_of (IsLost w) new lost_new;
      apart = s.apart;
      only = λ u is. one_on (old ++ sessions) (new ++ sessions) on u (s.only u is);
      entered = entered_on (old ++ sessions) (new ++ sessions) on _ w.entries s.entered;
    }

-- ---- the end of an event

module _ {S : Type 0} (w : World) (past : Past) (before_lost : List Session) (lines : Name → Line) (said : List Session) (state : State S) (h : EventEnds w (with_lost before_lost past) lines said state)
    (line_said : (y : Session) → Contains said y → lines (name_of y) ≡ y.salts) where
  lined_said : (y : Session) → Contains said y → lined lines y ≡ y
  lined_said y there = ap (λ (line : Line). with_line line y) (line_said y there)

  same_lines : (sessions : List Session) → ((o : Session) → Contains sessions o → Contains said o) → with_lines lines sessions ≡ sessions
  same_lines [] within = refl
  same_lines (o ∷ sessions) within =
      ap (λ (z : Session). z ∷ with_lines lines sessions) (lined_said o (within o (here o sessions)))
      ∙ ap (λ (l : List Session). o ∷ l) (same_lines sessions (λ z there. within z (later z o sessions there)))

  kept : (o : Session) → Contains state.sessions o → Contains said o
  kept o there = each_of (Contains said) state.sessions h.kept o there

  -- those that it has stand there as they are
  pub stands_now : ServerStands w (past_of ((past.lost ++ before_lost) ++ h.more) (past.entries ++ state.entries)) state.sessions state.jobs
  stands_now =
      subst (λ (l : List Session). ServerStands w (past_of ((past.lost ++ before_lost) ++ h.more) (past.entries ++ state.entries)) l state.jobs) (same_lines state.sessions kept) h.stands.stands

  -- what was lost before all was said, as worlds have it
  module _ (before : List Session) (was_lost : (o : Session) → Contains (missing before said) o → IsLost w o)
      (found_lost : (o : Session) → Contains before_lost o → LivesOn (missing before said) o) where
    abbrev gone : List Session
    gone = lost_in before said state.sessions

    lost_now : (o : Session) → Contains (missing said state.sessions) o → IsLost w o
    lost_now o there =
        let f = missing_from said state.sessions o there in
        elim (each_of (λ (y : Session). (has_named (name_of y) state.sessions ≡ true) ⊎ Contains h.more (lined lines y)) said h.lost.others o f.0) [
          | inl is ↦ let e : true ≡ false = sym is ∙ f.1 in absurd (cc)
          | inr among ↦
              subst (λ (z : Session). IsLost w z) (lined_said o f.0)
              (each_of (IsLost w) ((past.lost ++ before_lost) ++ h.more) stands_now.gone (lined lines o) (Contains-append_right (past.lost ++ before_lost) h.more (lined lines o) among))
        ]

    all_lost : (o : Session) → Contains (past.lost ++ gone) o → IsLost w o
    all_lost o there =
        elim (Contains-append_cases past.lost gone o there) [
          | inl old ↦
              each_of (IsLost w) ((past.lost ++ before_lost) ++ h.more) stands_now.gone o
              (Contains-append_left (past.lost ++ before_lost) h.more o (Contains-append_left past.lost before_lost o old))
          | inr new ↦
              elim (Contains-append_cases (missing before said) (missing said state.sessions) o new) [
                | inl early ↦ was_lost o early
                | inr late ↦ lost_now o late
              ]
        ]

    abbrev lives : List Session
    lives = (past.lost ++ gone) ++ state.sessions

    in_gone : (o : Session) → Contains gone o → Contains lives o
    in_gone o there = Contains-append_left (past.lost ++ gone) state.sessions o (Contains-append_right past.lost gone o there)

    lives_by : (o : Session) → LivesOn (missing before said) o → LivesOn lives o
    lives_by o l = record {
      life = l.life;
      among = in_gone l.life (Contains-append_left (missing before said) (missing said state.sessions) l.life l.among);
      unique = l.unique;
      key = l.key;
      number = l.number;
    }

    late_lives : (o : Session) → Contains h.more o → LivesOn lives o
    late_lives o there =
        let k = each_of (λ (one : Session). (session : Session) × Contains said session × (one ≡ lined lines session) × (has_named (name_of session) state.sessions ≡ false)) h.more h.lost.each o there in
        subst (λ (z : Session). LivesOn lives z) (sym (k.2 ∙ lined_said k.0 k.1))
        (itself_on lives k.0 (in_gone k.0 (Contains-append_right (missing before said) (missing said state.sessions) k.0 (missing_in said state.sessions k.0 k.1 k.3))))

    all_live : (o : Session) → Contains ((past.lost ++ before_lost) ++ h.more) o → LivesOn lives o
    all_live o there =
        elim (Contains-append_cases (past.lost ++ before_lost) h.more o there) [
          | inl early ↦
              elim (Contains-append_cases past.lost before_lost o early) [
                | inl old ↦ itself_on lives o (Contains-append_left (past.lost ++ gone) state.sessions o (Contains-append_left past.lost gone o old))
                | inr lost_early ↦ lives_by o (found_lost o lost_early)
              ]
          | inr late ↦ late_lives o late
        ]

    pub stands_after : (start : ℕ) (entries : List Entered) → map (λ (entered : Entered). entered.entry) entries ≡ past.entries
        → ServerStands w (past_of (past.lost ++ gone) (map (λ (entered : Entered). entered.entry) (entries ++ map (λ entry. record { start = start; entry = entry }) state.entries))) state.sessions state.jobs
    stands_after start entries same =
        subst (λ (l : List Entry). ServerStands w (past_of (past.lost ++ gone) l) state.sessions state.jobs)
        (sym (entered_so start entries state.entries ∙ ap (λ (l : List Entry). l ++ state.entries) same))
        (relost w ((past.lost ++ before_lost) ++ h.more) (past.lost ++ gone) (past.entries ++ state.entries) state.sessions state.jobs stands_now all_lost all_live)

  pub all_down : AllByRecursion (λ (packet : Packet). (packet.dir ≡ Down) × WentOut w (as_heard packet.envelope)) (map sent_down state.sent)
  all_down =
      all_mapped (λ (packet : Packet). (packet.dir ≡ Down) × WentOut w (as_heard packet.envelope)) sent_down state.sent
      (λ sent there. (refl, each_of (λ (sent : Sent). WentOut w sent.envelope) state.sent h.out sent there))

-- ---- an event in which nothing is said

pub lost_quietly : (w : World) (past : Past) (before after more : List Session) (jobs : Queue) → ServerStands w (with_lost more past) after jobs → AreLost (λ o. o) before after more
    → (start : ℕ) (entries : List Entered) → map (λ (entered : Entered). entered.entry) entries ≡ past.entries
    → ServerStands w (past_of (past.lost ++ lost_in before before after) (map (λ (entered : Entered). entered.entry) (entries ++ map (λ entry. record { start = start; entry = entry }) []))) after jobs
lost_quietly w past before after more jobs s h start entries same =
    let gone : List Session = lost_in before before after in
    let none : missing before before ≡ [] = none_missing before before (λ o there. named_among before o there) in
    let only_late : (o : Session) → Contains gone o → Contains (missing before after) o =
    λ o there. subst (λ (l : List Session). Contains (l ++ missing before after) o) none there in
    let late : (o : Session) → Contains (missing before after) o → Contains gone o = λ o there. Contains-append_right (missing before before) (missing before after) o there in
    subst (λ (l : List Entry). ServerStands w (past_of (past.lost ++ gone) l) after jobs)
    (sym (entered_so start entries [] ∙ append_nothing (map (λ (entered : Entered). entered.entry) entries) ∙ same))
    (relost w (past.lost ++ more) (past.lost ++ gone) past.entries after jobs s
    (λ o there.
    elim (Contains-append_cases past.lost gone o there) [
      | inl old ↦ each_of (IsLost w) (past.lost ++ more) s.gone o (Contains-append_left past.lost more o old)
      | inr new ↦
          let f = missing_from before after o (only_late o new) in
          elim (each_of (λ (y : Session). (has_named (name_of y) after ≡ true) ⊎ Contains more y) before h.others o f.0) [
            | inl is ↦ let e : true ≡ false = sym is ∙ f.1 in absurd (cc)
            | inr among ↦ each_of (IsLost w) (past.lost ++ more) s.gone o (Contains-append_right past.lost more o among)
          ]
    ])
    (λ o there.
    itself_on ((past.lost ++ gone) ++ after) o
    (Contains-append_left (past.lost ++ gone) after o
    (elim (Contains-append_cases past.lost more o there) [
      | inl old ↦ Contains-append_left past.lost gone o old
      | inr new ↦
          let k = each_of (λ (one : Session). (session : Session) × Contains before session × (one ≡ session) × (has_named (name_of session) after ≡ false)) more h.each o new in
          subst (λ (z : Session). Contains (past.lost ++ gone) z) (sym k.2) (Contains-append_right past.lost gone k.0 (late k.0 (missing_in before after k.0 k.1 k.3)))
    ]))))

-- the session of a name is lost
pub loss_of : (name : Name) (sessions : List Session) → AreLost (λ o. o) sessions (without_session name sessions) (filter (is_named name) sessions)
loss_of name sessions = record {
  each = all_of (λ (one : Session). (session : Session) × Contains sessions session × (one ≡ session) × (has_named (name_of session) (without_session name sessions) ≡ false)) (filter (is_named name) sessions)
      (λ o there.
      let f = from_filter (is_named name) sessions o there in
      (o, f.0, refl, subst (λ (n : Name). has_named n (without_session name sessions) ≡ false) (name_is name o f.1) (gone_now name sessions)));
  others = all_of (λ (o : Session). (has_named (name_of o) (without_session name sessions) ≡ true) ⊎ Contains (filter (is_named name) sessions) o) sessions
      (λ o there.
      elim (cases_Bool (is_named name o)) [
        | inl is ↦ inr (kept_in (is_named name) sessions o there is)
        | inr not_so ↦ inl (named_among (without_session name sessions) o (kept_in (λ (o : Session). not (is_named name o)) sessions o there (ap not not_so)))
      ]);
}

-- all are
pub restart_of : (sessions : List Session) → AreLost (λ o. o) sessions [] sessions
restart_of sessions = record {
  each = all_of (λ (one : Session). (session : Session) × Contains sessions session × (one ≡ session) × (has_named (name_of session) [] ≡ false)) sessions (λ o there. (o, there, refl, refl));
  others = all_of (λ (o : Session). (has_named (name_of o) [] ≡ true) ⊎ Contains sessions o) sessions (λ o there. inr there);
}
