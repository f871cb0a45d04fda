-- What an event draws is new.
use Rattle.std.proofs.Common.{◌≡◌, ◌≢◌, ℕ, List, [], ◌∷◌, ◌++◌, inl, inr, sym, ap, subst, ◌∙◌, arith}
use Rattle.std.specs.List.{All, AllByRecursion, Contains, flat_map}
use Rattle.std.proofs.lemmas.List.Elements.{Contains-append_cases, Contains-append_left, Contains-append_right}
use Rattle.salt_line.specs.Rows.{Row}
use Rattle.waits.specs.Jobs.{Queue}
use Rattle.server_rules.specs.Server.{Name, Session, name_of}
use Rattle.law_moves.specs.World.{World}
use Rattle.law_moves.specs.Reached.{Reached}
use Rattle.law_server_moves.specs.Servers.{AreApart, IsNewSalt, Past, ServerStands}
use Rattle.law_server_moves.specs.Events.{AreLines}
use Rattle.law_server_moves.proofs.Lists.{all_append, all_of, each_of, first_or, here, later}
use Rattle.law_server_moves.proofs.Gone.{AreNamedApart}
use Rattle.law_server_moves.proofs.Growth.{AllFrom}
use Rattle.law_server_moves.proofs.Chosen.{ahead, last_name, last_of, last_rows, line_at, more_at}
use Rattle.law_server_moves.proofs.Fresh.{AreDistinct, IsBlank, IsSaltOf, distinct_across, distinct_back, distinct_together, drawn_for, new_rows, none_zero, one_of_word, own_distinct, salt_owner, word_drawn, words_append, words_of}

module _ (blank : IsBlank) (w : World) (past : Past) (from said all : List Session) (jobs : Queue) (apart : AreNamedApart from) (comes : AllFrom from said)
    (reached : Reached w) (s : ServerStands w past from jobs)
    (some : All (λ word. word ≢ 0) (drawn_for all)) (distinct : AreDistinct (drawn_for all))
    (there : (x : Session) → Contains from x → Contains all (last_of from said apart comes x))
    (others : (o : Session) → Contains past.lost o → (x : Session) → Contains from x → (word : ℕ) → Contains (words_of o.salts.rows) word
    → Contains (words_of (last_of from said apart comes x).salts.rows) word → ⊥) where
  abbrev last : Session → Session
  last x = last_of from said apart comes x

  abbrev more : Name → List Row
  more name = more_at from said apart comes name

  -- a word of its rows, and of its further rows, is a word of its last rows
  old_word : (x : Session) → Contains from x → (word : ℕ) → Contains (words_of x.salts.rows) word → Contains (words_of (last x).salts.rows) word
  old_word x among word is =
      subst (λ (rows : List Row). Contains (words_of rows) word) (sym (last_rows from said apart comes x among))
      (subst (λ (l : List ℕ). Contains l word) (sym (words_append x.salts.rows (more (name_of x)))) (Contains-append_left (words_of x.salts.rows) (words_of (more (name_of x))) word is))

  more_word : (x : Session) → Contains from x → (word : ℕ) → Contains (words_of (more (name_of x))) word → Contains (words_of (last x).salts.rows) word
  more_word x among word is =
      subst (λ (rows : List Row). Contains (words_of rows) word) (sym (last_rows from said apart comes x among))
      (subst (λ (l : List ℕ). Contains l word) (sym (words_append x.salts.rows (more (name_of x)))) (Contains-append_right (words_of x.salts.rows) (words_of (more (name_of x))) word is))

  -- two whose last rows have a word in common are one
  one_of_last : (a b : Session) → Contains from a → Contains from b → (word : ℕ) → Contains (words_of (last a).salts.rows) word → Contains (words_of (last b).salts.rows) word → a ≡ b
  one_of_last a b at_a at_b word of_a of_b =
      let same : last a ≡ last b = one_of_word all distinct (last a) (last b) (there a at_a) (there b at_b) word (word_drawn (last a) word of_a) (word_drawn (last b) word of_b) in
      apart a b at_a at_b (sym (last_name from said apart comes a at_a) ∙ ap (λ (o : Session). name_of o) same ∙ last_name from said apart comes b at_b)

  last_distinct : (x : Session) → Contains from x → AreDistinct (words_of x.salts.rows ++ words_of (more (name_of x)))
  last_distinct x among =
      subst AreDistinct (words_append x.salts.rows (more (name_of x)))
      (subst (λ (rows : List Row). AreDistinct (words_of rows)) (last_rows from said apart comes x among) (own_distinct all distinct (last x) (there x among)).1)

  module _ (x : Session) (among : Contains from x) (word : ℕ) (is : Contains (words_of (more (name_of x))) word) where
    not_salt : (u : ℕ) → Contains (w.servers u).salts word → ⊥
    not_salt u has =
        let owner : IsSaltOf past from u word = salt_owner blank w past from jobs reached s u word has in
        elim owner.there [
          | inl was ↦ others owner.session was x among word owner.word_there (more_word x among word is)
          | inr stands ↦
              let one : owner.session ≡ x = one_of_last owner.session x stands among word (old_word owner.session stands word owner.word_there) (more_word x among word is) in
              distinct_across (words_of x.salts.rows) (words_of (more (name_of x))) (last_distinct x among) word
              (subst (λ (o : Session). Contains (words_of o.salts.rows) word) one owner.word_there) is
        ]

    new_word : IsNewSalt w word
    new_word = (none_zero all some (last x) (there x among) word (word_drawn (last x) word (more_word x among word is)), not_salt)

  abbrev rows_of : List Session → List Row
  rows_of sessions = flat_map (λ session. more (name_of session)) sessions

  row_words : (rows : List Row) (row : Row) → Contains rows row → Contains (words_of rows) row.word
  row_words [] row (k, below, is) = absurd (omega (arith, below))
  row_words (first ∷ rows) row h =
      elim (first_or row first rows h) [
        | inl same ↦ subst (λ (r : Row). Contains (first.word ∷ words_of rows) r.word) same (here first.word (words_of rows))
        | inr other ↦ later row.word first.word (words_of rows) (row_words rows row other)
      ]

  each_new : (rest : List Session) → ((o : Session) → Contains rest o → Contains from o) → AllByRecursion (λ (row : Row). IsNewSalt w row.word) (rows_of rest)
  each_new [] within = tt
  each_new (x ∷ rest) within =
      all_append (λ (row : Row). IsNewSalt w row.word) (more (name_of x)) (rows_of rest)
      (all_of (λ (row : Row). IsNewSalt w row.word) (more (name_of x)) (λ row is. new_word x (within x (here x rest)) row.word (row_words (more (name_of x)) row is)))
      (each_new rest (λ o is. within o (later o x rest is)))

  -- which session a word of the further rows is of
  row_owner : (rest : List Session) → (word : ℕ) → Contains (words_of (rows_of rest)) word → (o : Session) × Contains rest o × Contains (words_of (more (name_of o))) word
  row_owner [] word (k, below, is) = absurd (omega (arith, below))
  row_owner (x ∷ rest) word is =
      elim (Contains-append_cases (words_of (more (name_of x))) (words_of (rows_of rest)) word
      (subst (λ (l : List ℕ). Contains l word) (words_append (more (name_of x)) (rows_of rest)) is)) [
        | inl own ↦ (x, here x rest, own)
        | inr other ↦ let o = row_owner rest word other in (o.0, later o.0 x rest o.1, o.2)
      ]

  all_distinct : (rest : List Session) → ((o : Session) → Contains rest o → Contains from o) → AreApart rest → AreDistinct (words_of (rows_of rest))
  all_distinct [] within differ = tt
  all_distinct (x ∷ rest) within differ =
      let at_x : Contains from x = within x (here x rest) in
      subst AreDistinct (sym (words_append (more (name_of x)) (rows_of rest)))
      (distinct_together (words_of (more (name_of x))) (words_of (rows_of rest)) (distinct_back (words_of x.salts.rows) (words_of (more (name_of x))) (last_distinct x at_x))
      (all_distinct rest (λ o is. within o (later o x rest is)) differ.1)
      (λ word own other.
      let o = row_owner rest word other in
      let at_o : Contains from o.0 = within o.0 (later o.0 x rest o.1) in
      let one : o.0 ≡ x = one_of_last o.0 x at_o at_x word (more_word o.0 at_o word o.2) (more_word x at_x word own) in
      each_of (λ (z : Session). z.number ≢ x.number) rest differ.0 o.0 o.1 (ap (λ (z : Session). z.number) one)))

  pub are_lines : AreLines w (line_at from said apart comes) (more_at from said apart comes) from
  are_lines = record {
    ahead = all_of (λ (x : Session). line_at from said apart comes (name_of x) ≡ record x.salts { rows = x.salts.rows ++ more (name_of x) }) from
        (λ x is. ahead from said apart comes x is);
    new = new_rows w (rows_of from) (each_new from (λ o is. is)) (all_distinct from (λ o is. is) s.apart);
  }
