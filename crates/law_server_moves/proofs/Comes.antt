-- A packet that opens, from before it is heard until the end of its event.
use Rattle.std.proofs.Common.{◌≡◌, ◌≢◌, ℕ, true, false, Option, None, Some, List, ◌++◌, inl, inr, refl, sym, ap, subst, ◌∙◌, append_assoc}
use Rattle.std.specs.Prelude.{◌⊎◌}
use Rattle.std.specs.List.{All, Contains}
use Rattle.std.proofs.lemmas.Bool.{cases_Bool}
use Rattle.std.proofs.lemmas.List.Elements.{Contains-append_cases, Contains-append_left, Contains-append_right}
use Rattle.salt_line.specs.Line.{Line}
use Rattle.salt_line.specs.Rows.{Row}
use Rattle.waits.specs.Jobs.{Queue}
use Rattle.server_rules.specs.Server.{Name, Session, is_named, name_of, session_named}
use Rattle.server_rules.specs.Event.{State}
use Rattle.world_rules.specs.World.{has_named, lost_in, missing}
use Rattle.world_rules.specs.Premises.{drawn_for_session}
use Rattle.law_moves.specs.Table.Status.{Unmade}
use Rattle.law_moves.specs.World.{World}
use Rattle.law_moves.specs.Reached.{Reached}
use Rattle.law_server_moves.specs.Servers.{IsLost, IsNewSalt, Past, ServerStands, with_lost}
use Rattle.law_server_moves.specs.Speaking.{with_line}
use Rattle.law_server_moves.specs.Events.{AreLines, AreLost, lined}
use Rattle.law_server_moves.specs.Sending.{EventEnds}
use Rattle.law_server_moves.proofs.Lists.{each_of}
use Rattle.law_server_moves.proofs.Entered.{LivesOn, itself_on}
use Rattle.law_server_moves.proofs.Found.{found_in}
use Rattle.law_server_moves.proofs.Gone.{AreNamedApart, has_none, named_among}
use Rattle.law_server_moves.proofs.Growth.{AllFrom, ComesFrom}
use Rattle.law_server_moves.proofs.Chosen.{last_by, last_line, last_name, last_of, last_rows, last_unique, line_at, more_at, some_found}
use Rattle.law_server_moves.proofs.Fresh.{AreDistinct, IsBlank, IsSaltOf, across_sessions, back_sessions, drawn_for, made_or_not, none_zero, one_of_word, salt_owner, unique_drawn, word_drawn, words_append, words_of}
use Rattle.law_server_moves.proofs.Drawn.{are_lines}
use Rattle.law_server_moves.proofs.Whole.{missing_from, missing_in}

-- a name isn't there, so it isn't one of those that come from there
pub none_said : (from said : List Session) → AllFrom from said → (name : Name) → has_named name from ≡ false → has_named name said ≡ false
none_said from said comes name none =
    elim (cases_Bool (has_named name said)) [
      | inl is ↦
          let f = some_found name said is in
          let old = each_of (ComesFrom from) said comes f.session f.there in
          let e : true ≡ false = sym (subst (λ (n : Name). has_named n from ≡ true) (old.name ∙ sym f.named) (named_among from old.x old.there)) ∙ none in absurd (cc)
      | inr fails ↦ fails
    ]

-- the sessions of a packet's event: those before it, those when it was heard, those that have spoken, and those in the end
module _ (before heard said end past_lost : List Session) (own : Name)
    (before_apart : AreNamedApart before) (heard_apart : AreNamedApart heard) (comes : AllFrom heard said)
    (from_before : (o : Session) → Contains heard o → Contains before o ⊎ (name_of o ≡ own))
    (own_said : has_named own said ≡ true)
    (ends : (y : Session) → Contains said y → Contains end y ⊎ (has_named (name_of y) end ≡ false)) where
  abbrev gone : List Session
  gone = lost_in before said end

  abbrev pub last : Session → Session
  last x = last_of heard said heard_apart comes x

  abbrev rest : List Session
  rest = gone ++ end

  said_rest : (y : Session) → Contains said y → Contains rest y
  said_rest y there =
      elim (ends y there) [
        | inl stays ↦ Contains-append_right gone end y stays
        | inr none ↦ Contains-append_left gone end y (Contains-append_right (missing before said) (missing said end) y (missing_in said end y there none))
      ]

  early_rest : (o : Session) → Contains before o → has_named (name_of o) said ≡ false → Contains rest o
  early_rest o there none = Contains-append_left gone end o (Contains-append_left (missing before said) (missing said end) o (missing_in before said o there none))

  -- one that was heard and has no session of its name among those that have spoken
  pub unsaid_before : (o : Session) → Contains heard o → has_named (name_of o) said ≡ false → Contains before o
  unsaid_before o there none =
      elim (from_before o there) [
        | inl old ↦ old
        | inr its ↦ let e : true ≡ false = sym own_said ∙ subst (λ (n : Name). has_named n said ≡ false) its none in absurd (cc)
      ]

  none_last : (o : Session) → has_named (name_of o) said ≡ false → (found : Option Session) → session_named (name_of o) said ≡ found → last_by found o ≡ o
  none_last o none None is = refl
  none_last o none (Some y) is =
      let e : false ≡ true = sym (has_none (name_of o) said none y (found_in (is_named (name_of o)) said y is).0) ∙ (found_in (is_named (name_of o)) said y is).1 in absurd (cc)

  pub last_there : (x : Session) → Contains heard x → Contains rest (last x)
  last_there x there =
      elim (cases_Bool (has_named (name_of x) said)) [
        | inl is ↦
            let f = some_found (name_of x) said is in
            subst (λ (found : Option Session). Contains rest (last_by found x)) (sym f.found) (said_rest f.session f.there)
        | inr none ↦
            subst (λ (o : Session). Contains rest o) (sym (none_last x none (session_named (name_of x) said) refl)) (early_rest x (unsaid_before x there none) none)
      ]

  -- a session before the event is there, or lost, with its rows
  pub record IsLater (o : Session) : Type 0 where
    pub later : Session
    pub there : Contains rest later
    pub name : name_of later ≡ name_of o
    pub unique : later.unique ≡ o.unique
    pub rows : (word : ℕ) → Contains (words_of o.salts.rows) word → Contains (words_of later.salts.rows) word

  pub before_later : (o : Session) → Contains before o → name_of o ≢ own → IsLater o
  before_later o there differs =
      elim (cases_Bool (has_named (name_of o) said)) [
        | inl is ↦
            let f = some_found (name_of o) said is in
            let old = each_of (ComesFrom heard) said comes f.session f.there in
            let same : name_of old.x ≡ name_of o = old.name ∙ sym f.named in
            let one : old.x ≡ o =
            elim (from_before old.x old.there) [
              | inl was ↦ before_apart old.x o was there same
              | inr its ↦ absurd (differs (sym same ∙ its))
            ] in
            record {
              later = f.session;
              there = said_rest f.session f.there;
              name = sym f.named;
              unique = sym old.unique ∙ ap (λ (s : Session). s.unique) one;
              rows = λ word has.
                  subst (λ (line : Line). Contains (words_of line.rows) word) (sym old.grown.1)
                  (subst (λ (l : List ℕ). Contains l word) (sym (words_append old.x.salts.rows old.grown.0))
                  (Contains-append_left (words_of old.x.salts.rows) (words_of old.grown.0) word (subst (λ (s : Session). Contains (words_of s.salts.rows) word) (sym one) has)));
            }
        | inr none ↦ record { later = o; there = early_rest o there none; name = refl; unique = refl; rows = λ word has. has }
      ]

  module _ (some : All (λ word. word ≢ 0) (drawn_for ((past_lost ++ gone) ++ end))) (distinct : AreDistinct (drawn_for ((past_lost ++ gone) ++ end))) where
    distinct_parts : AreDistinct (drawn_for (past_lost ++ rest))
    distinct_parts = subst (λ (l : List Session). AreDistinct (drawn_for l)) (append_assoc past_lost gone end) distinct

    distinct_rest : AreDistinct (drawn_for rest)
    distinct_rest = back_sessions past_lost rest distinct_parts

    in_all : (o : Session) → Contains rest o → Contains ((past_lost ++ gone) ++ end) o
    in_all o there = subst (λ (l : List Session). Contains l o) (sym (append_assoc past_lost gone end)) (Contains-append_right past_lost rest o there)

    -- ---- a session that is made

    module _ (z : Session) (z_heard : Contains heard z) (z_own : name_of z ≡ own) (none_before : has_named own before ≡ false) (w : World) (entries : Past) (is_lost : entries.lost ≡ past_lost) (jobs : Queue)
        (blank : IsBlank) (reached : Reached w) (s : ServerStands w entries before jobs) where
      abbrev y : Session
      y = last z

      y_there : Contains rest y
      y_there = last_there z z_heard

      pub unique_some : z.unique ≢ 0
      unique_some = subst (λ (n : ℕ). n ≢ 0) (last_unique heard said heard_apart comes z z_heard) (none_zero ((past_lost ++ gone) ++ end) some y (in_all y y_there) y.unique (unique_drawn y))

      other_name : (o : Session) → Contains before o → name_of o ≢ own
      other_name o there same = let e : true ≡ false = sym (subst (λ (n : Name). has_named n before ≡ true) same (named_among before o there)) ∙ none_before in absurd (cc)

      -- no session before has a word of it
      foreign : (o : Session) (o_there : Contains before o) (word : ℕ) → Contains (drawn_for_session (before_later o o_there (other_name o o_there)).later) word → Contains (drawn_for_session y) word → ⊥
      foreign o o_there word of_o of_y =
          let l = before_later o o_there (other_name o o_there) in
          let same : l.later ≡ y = one_of_word rest distinct_rest l.later y l.there y_there word of_o of_y in
          other_name o o_there (sym l.name ∙ ap (λ (x : Session). name_of x) same ∙ last_name heard said heard_apart comes z z_heard ∙ z_own)

      pub unmade : (w.servers z.unique).status ≡ Unmade
      unmade =
          elim (made_or_not (w.servers z.unique).status) [
            | inl is ↦ is
            | inr made ↦
                let one = s.only z.unique made in
                let its : y.unique ≡ one.0.unique = last_unique heard said heard_apart comes z z_heard ∙ sym one.2 in
                elim (Contains-append_cases entries.lost before one.0 one.1) [
                  | inl was ↦
                      absurd (across_sessions past_lost rest distinct_parts one.0 y (subst (λ (l : List Session). Contains l one.0) is_lost was) y_there one.0.unique (unique_drawn one.0)
                      (subst (λ (n : ℕ). Contains (drawn_for_session y) n) its (unique_drawn y)))
                  | inr stands ↦
                      let l = before_later one.0 stands (other_name one.0 stands) in
                      absurd (foreign one.0 stands y.unique (subst (λ (n : ℕ). Contains (drawn_for_session l.later) n) (l.unique ∙ sym its) (unique_drawn l.later)) (unique_drawn y))
                ]
          ]

      module _ (word : ℕ) (its : Contains (words_of z.salts.rows) word) where
        y_word : Contains (words_of y.salts.rows) word
        y_word =
            subst (λ (rows : List Row). Contains (words_of rows) word) (sym (last_rows heard said heard_apart comes z z_heard))
            (subst (λ (l : List ℕ). Contains l word) (sym (words_append z.salts.rows (more_at heard said heard_apart comes (name_of z))))
            (Contains-append_left (words_of z.salts.rows) (words_of (more_at heard said heard_apart comes (name_of z))) word its))

        no_salt : (u : ℕ) → Contains (w.servers u).salts word → ⊥
        no_salt u has =
            let owner : IsSaltOf entries before u word = salt_owner blank w entries before jobs reached s u word has in
            elim owner.there [
              | inl was ↦
                  across_sessions past_lost rest distinct_parts owner.session y (subst (λ (l : List Session). Contains l owner.session) is_lost was) y_there word (word_drawn owner.session word owner.word_there) (word_drawn y word y_word)
              | inr stands ↦
                  let l = before_later owner.session stands (other_name owner.session stands) in
                  foreign owner.session stands word (word_drawn l.later word (l.rows word owner.word_there)) (word_drawn y word y_word)
            ]

        pub new_salt : IsNewSalt w word
        new_salt = (none_zero ((past_lost ++ gone) ++ end) some y (in_all y y_there) word (word_drawn y word y_word), no_salt)

    -- ---- lines of salts, where the session was heard

    pub lines_are : IsBlank → (w : World) (entries : Past) (early : List Session) (jobs : Queue) → Reached w → entries.lost ≡ past_lost ++ early
        → ((o : Session) → Contains early o → Contains before o × (has_named (name_of o) heard ≡ false)) → ServerStands w entries heard jobs
        → AreLines w (line_at heard said heard_apart comes) (more_at heard said heard_apart comes) heard
    lines_are blank w entries early jobs reached is_lost early_lost s =
        are_lines blank w entries heard said ((past_lost ++ gone) ++ end) jobs heard_apart comes reached s some distinct (λ x there. in_all (last x) (last_there x there))
        (λ o was x there word of_o of_x.
        elim (Contains-append_cases past_lost early o (subst (λ (l : List Session). Contains l o) is_lost was)) [
          | inl old ↦ across_sessions past_lost rest distinct_parts o (last x) old (last_there x there) word (word_drawn o word of_o) (word_drawn (last x) word of_x)
          | inr new ↦
              let f = early_lost o new in
              let same : o ≡ last x =
              one_of_word rest distinct_rest o (last x) (early_rest o f.0 (none_said heard said comes (name_of o) f.1)) (last_there x there) word (word_drawn o word of_o) (word_drawn (last x) word of_x) in
              let e : true ≡ false =
              sym (subst (λ (n : Name). has_named n heard ≡ true) (sym (last_name heard said heard_apart comes x there) ∙ sym (ap (λ (z : Session). name_of z) same)) (named_among heard x there)) ∙ f.1 in absurd (cc)
        ])

  -- ---- what was lost before all was said

  abbrev lines : Name → Line
  lines = line_at heard said heard_apart comes

  -- one that has no session of its name among those that have spoken is told with its own line
  unsaid_line : (o : Session) → Contains heard o → has_named (name_of o) said ≡ false → lined lines o ≡ o
  unsaid_line o there none =
      ap (λ (line : Line). with_line line o)
      (last_line heard said heard_apart comes o there ∙ ap (λ (x : Session). x.salts) (none_last o none (session_named (name_of o) said) refl))

  module _ {S : Type 0} (w : World) (past : Past) (early late : List Session) (done : List Session) (state : State S) (h : EventEnds w (with_lost (early ++ late) past) lines said state)
      (same_names : (name : Name) → has_named name said ≡ has_named name done)
      (early_each : (o : Session) → Contains early o → Contains before o × (has_named (name_of o) heard ≡ false))
      (early_others : (o : Session) → Contains before o → Contains heard o ⊎ Contains early o)
      (late_lost : AreLost (lined lines) heard done late) where
    gone_there : (o : Session) → Contains (early ++ late) o → IsLost w o
    gone_there o there =
        each_of (IsLost w) ((past.lost ++ (early ++ late)) ++ h.more) h.stands.stands.gone o
        (Contains-append_left (past.lost ++ (early ++ late)) h.more o (Contains-append_right past.lost (early ++ late) o there))

    pub was_lost : (o : Session) → Contains (missing before said) o → IsLost w o
    was_lost o there =
        let f = missing_from before said o there in
        elim (early_others o f.0) [
          | inr lost ↦ gone_there o (Contains-append_left early late o lost)
          | inl among ↦
              elim (each_of (λ (x : Session). (has_named (name_of x) done ≡ true) ⊎ Contains late (lined lines x)) heard late_lost.others o among) [
                | inl is ↦ let e : true ≡ false = sym (same_names (name_of o) ∙ is) ∙ f.1 in absurd (cc)
                | inr lost ↦ subst (λ (x : Session). IsLost w x) (unsaid_line o among f.1) (gone_there (lined lines o) (Contains-append_right early late (lined lines o) lost))
              ]
        ]

    pub found_lost : (o : Session) → Contains (early ++ late) o → LivesOn (missing before said) o
    found_lost o there =
        elim (Contains-append_cases early late o there) [
          | inl lost ↦
              let f = early_each o lost in
              itself_on (missing before said) o (missing_in before said o f.0 (none_said heard said comes (name_of o) f.1))
          | inr lost ↦
              let k = each_of (λ (one : Session). (session : Session) × Contains heard session × (one ≡ lined lines session) × (has_named (name_of session) done ≡ false)) late late_lost.each o lost in
              let none : has_named (name_of k.0) said ≡ false = same_names (name_of k.0) ∙ k.3 in
              subst (λ (x : Session). LivesOn (missing before said) x) (sym (k.2 ∙ unsaid_line k.0 k.1 none))
              (itself_on (missing before said) k.0 (missing_in before said k.0 (unsaid_before k.0 k.1 none) none))
        ]
