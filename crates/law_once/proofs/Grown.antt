-- The words that a server's sessions drew stay, each as often: nothing that a session says takes one away.
use Rattle.std.proofs.Common.{◌≡◌, ℕ, zero, suc, ◌≤◌, ◌==◌, List, [], ◌∷◌, ◌++◌, map, fold, inl, inr, refl, ap, arith}
use Rattle.std.proofs.lemmas.Bool.{cases_Bool}
use Rattle.salt_line.specs.Rows.{Row, period_at}
use Rattle.salt_line.specs.Line.{current_salt}
use Rattle.salt_line.specs.Needed.{has_row, needed, needed_from}
use Rattle.service_tl.specs.declared.lists.Message.{Message}
use Rattle.packing.specs.Packing.{after_packets, packets_of}
use Rattle.server_rules.specs.Server.{Session}
use Rattle.server_rules.specs.Event.{Setting, Speaker}
use Rattle.server_rules.specs.Speaking.{needs_salts}
use Rattle.server_rules.specs.Sending.{seals, sends}
use Rattle.world_rules.specs.Premises.{drawn_for_session}
use Rattle.law_server.specs.Drawing.{DrawsSalts}
use Rattle.law_once.proofs.Counting.{count, count_append}

words_more : (rows more : List Row) → map (λ (row : Row). row.word) (rows ++ more) ≡ map (λ (row : Row). row.word) rows ++ map (λ (row : Row). row.word) more
words_more [] more = refl
words_more (row ∷ rows) more = ap (λ (l : List ℕ). row.word ∷ l) (words_more rows more)

module _ (x : ℕ) where
  -- how often the number is one that the session drew
  abbrev pub drawn : Session → ℕ
  drawn session = count x (drawn_for_session session)

  abbrev in_rows : List Row → ℕ
  in_rows rows = count x (map (λ (row : Row). row.word) rows)

  rows_grown : (unique : ℕ) (one other : List Row) → in_rows one ≤ in_rows other
      → count x (unique ∷ map (λ (row : Row). row.word) one) ≤ count x (unique ∷ map (λ (row : Row). row.word) other)
  rows_grown unique one other le =
      elim (cases_Bool (unique == x)) [
        | inl is ↦ rw is (omega (arith, le))
        | inr not_so ↦ rw not_so le
      ]

  module _ {S : Type 0} (setting : Setting S) where
    needed_more : (period : ℕ) (rows : List Row) (draw : S) → in_rows rows ≤ in_rows (needed setting.step period (rows, draw)).0
    needed_more period rows draw =
        let more : List Row = record { period = period; word = (setting.step draw).0 } ∷ [] in
        elim (cases_Bool (has_row period rows)) [
          | inl is ↦ rw is (omega arith)
          | inr not_so ↦ rw not_so (omega (arith, ap (count x) (words_more rows more), count_append x (map (λ (row : Row). row.word) rows) (map (λ (row : Row). row.word) more)))
        ]

    needed_all : (period n : ℕ) (rows : List Row) (draw : S) → in_rows rows ≤ in_rows (needed_from setting.step period n (rows, draw)).0
    needed_all period zero rows draw = omega arith
    needed_all period (suc n) rows draw =
        let next = needed setting.step period (rows, draw) in
        let one = needed_more period rows draw in
        let rest = needed_all (suc period) n next.0 next.1 in
        omega (arith, one, rest)

    abbrev pub From : Speaker S → Speaker S → Type 0
    From before after = drawn before.session ≤ drawn after.session

    -- what it draws for salts alone takes none away
    pub salts_grown : (before after : Speaker S) → DrawsSalts setting before after → From before after
    salts_grown before after h =
        let period = period_at before.session.salts.start setting.now in
        let periods = h.1.periods in
        let all = needed_from setting.step period periods (before.session.salts.rows, before.draw) in
        let le = rows_grown before.session.unique before.session.salts.rows all.0 (needed_all period periods before.session.salts.rows before.draw) in
        let unique = h.0 in
        let rows = h.1.rows_then in
        let same : drawn after.session ≡ count x (before.session.unique ∷ map (λ (row : Row). row.word) all.0) = λ i. count x (unique i ∷ map (λ (row : Row). row.word) (rows i)) in
        omega (arith, le, same)

    needs_grown : (number : ℕ) (speaker : Speaker S) → From speaker (needs_salts setting number speaker)
    needs_grown number speaker =
        rows_grown speaker.session.unique speaker.session.salts.rows (needs_salts setting number speaker).session.salts.rows
        (needed_all (period_at speaker.session.salts.start setting.now) number speaker.session.salts.rows speaker.draw)

    sealed_session : (salt : ℕ) (packets : List Message) (speaker : Speaker S) → (fold (seals setting salt) speaker packets).session ≡ speaker.session
    sealed_session salt [] speaker = refl
    sealed_session salt (packet ∷ packets) speaker = sealed_session salt packets (seals setting salt speaker packet)

    pub sends_grown : (messages : List Message) (speaker : Speaker S) → From speaker (sends setting messages speaker)
    sends_grown messages speaker =
        let ready : Speaker S = needs_salts setting 1 speaker in
        let counters = after_packets setting.now ready.session.counters messages in
        let counted : Speaker S = record ready { session = record ready.session { counters = counters } } in
        let one = needs_grown 1 speaker in
        let two = ap (λ (s : Session). drawn s) (sealed_session (current_salt ready.session.salts setting.now) (packets_of setting.now ready.session.counters messages) counted) in
        omega (arith, one, two)
