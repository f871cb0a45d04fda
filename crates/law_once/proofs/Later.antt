-- What a session draws in what it says is among the words drawn by that, each as often.
use Rattle.std.proofs.Common.{◌≡◌, ℕ, zero, suc, ◌+◌, ◌≤◌, sym, ◌∙◌, length, ◌==◌, List, [], ◌∷◌, ◌++◌, map, fold, inl, inr, refl, ap, arith}
use Rattle.std.proofs.lemmas.Bool.{cases_Bool}
use Rattle.draws.specs.Draws.{draw_after, next_words, words_for}
use Rattle.salt_line.specs.Rows.{Row, period_at}
use Rattle.salt_line.specs.Line.{current_salt}
use Rattle.salt_line.specs.Needed.{has_row, needed, needed_from}
use Rattle.service_tl.specs.declared.lists.Message.{Message}
use Rattle.packing.specs.Packing.{after_packets, packets_of}
use Rattle.waits.specs.declared.job.Job.{Job}
use Rattle.server_rules.specs.Server.{Session}
use Rattle.server_rules.specs.Event.{Setting, Speaker}
use Rattle.server_rules.specs.Speaking.{needs_salts}
use Rattle.server_rules.specs.Waiting.{gives_up}
use Rattle.server_rules.specs.Sending.{padding_bytes, seals, sends}
use Rattle.server_rules.specs.Answer.{finishes}
use Rattle.law_server.specs.Drawing.{DrawsSalts}
use Rattle.law_once.proofs.Counting.{count, count_append}
use Rattle.law_once.proofs.Grown.{drawn}

words_more : (rows more : List Row) → map (λ (row : Row). row.word) (rows ++ more) ≡ map (λ (row : Row). row.word) rows ++ map (λ (row : Row). row.word) more
words_more [] more = refl
words_more (row ∷ rows) more = ap (λ (l : List ℕ). row.word ∷ l) (words_more rows more)

-- how many words of each kind there are
abbrev pub Counts : Type 0
Counts = ℕ → ℕ

-- between two moments of a draw, the one is some words later, and each count grew by no more than those words have
pub record IsLater {S : Type 0} (step : S → ℕ × S) (before : S) (had : Counts) (behind : S) (has : Counts) : Type 0 where
  pub many : ℕ
  pub later : behind ≡ draw_after step many before
  pub within : (x : ℕ) → has x ≤ had x + count x (next_words step many before)

module _ {S : Type 0} (step : S → ℕ × S) where
  pub after_more : (n m : ℕ) (draw : S) → draw_after step (n + m) draw ≡ draw_after step m (draw_after step n draw)
  after_more zero m draw = let e : 0 + m ≡ m = omega arith in ap (λ (n : ℕ). draw_after step n draw) e
  after_more (suc n) m draw = let e : suc n + m ≡ suc (n + m) = omega arith in ap (λ (n : ℕ). draw_after step n draw) e ∙ after_more n m (step draw).1

  pub count_more : (x n m : ℕ) (draw : S) → count x (next_words step (n + m) draw) ≡ count x (next_words step n draw) + count x (next_words step m (draw_after step n draw))
  count_more x zero m draw = let e : 0 + m ≡ m = omega arith in omega (arith, ap (λ (n : ℕ). count x (next_words step n draw)) e)
  count_more x (suc n) m draw =
      let e : suc n + m ≡ suc (n + m) = omega arith in
      let rest = count_more x n m (step draw).1 in
      ap (λ (n : ℕ). count x (next_words step n draw)) e
      ∙ elim (cases_Bool ((step draw).0 == x)) [
        | inl is ↦ rw is (omega (arith, rest))
        | inr not_so ↦ rw not_so rest
      ]

  pub later_itself : (draw : S) (had : Counts) → IsLater step draw had draw had
  later_itself draw had = record { many = 0; later = refl; within = λ x. omega arith }

  pub later_then : (a b c : S) (l m n : Counts) → IsLater step a l b m → IsLater step b m c n → IsLater step a l c n
  later_then a b c l m n one two = record {
    many = one.many + two.many;
    later = two.later ∙ ap (draw_after step two.many) one.later ∙ sym (after_more one.many two.many a);
    within = λ x.
        let h = one.within in let first = h x in
        let k = two.within in let second = k x in
        let e : count x (next_words step (one.many + two.many) a) ≡ count x (next_words step one.many a) + count x (next_words step two.many b) =
        count_more x one.many two.many a ∙ ap (λ (d : S). count x (next_words step one.many a) + count x (next_words step two.many d)) (sym one.later) in
        omega (arith, first, second, e);
  }

abbrev in_rows : List Row → Counts
in_rows rows x = count x (map (λ (row : Row). row.word) rows)

module _ {S : Type 0} (setting : Setting S) where
  needed_more : (period : ℕ) (rows : List Row) (draw : S)
      → IsLater setting.step draw (in_rows rows) (needed setting.step period (rows, draw)).1 (in_rows (needed setting.step period (rows, draw)).0)
  needed_more period rows draw =
      let more : List Row = record { period = period; word = (setting.step draw).0 } ∷ [] in
      elim (cases_Bool (has_row period rows)) [
        | inl is ↦ rw is (later_itself setting.step draw (in_rows rows))
        | inr not_so ↦
            rw not_so (record {
              many = 1;
              later = refl;
              within = λ x. omega (arith, ap (count x) (words_more rows more), count_append x (map (λ (row : Row). row.word) rows) (map (λ (row : Row). row.word) more));
            })
      ]

  needed_all : (period n : ℕ) (rows : List Row) (draw : S)
      → IsLater setting.step draw (in_rows rows) (needed_from setting.step period n (rows, draw)).1 (in_rows (needed_from setting.step period n (rows, draw)).0)
  needed_all period zero rows draw = later_itself setting.step draw (in_rows rows)
  needed_all period (suc n) rows draw =
      let next = needed setting.step period (rows, draw) in
      later_then setting.step draw next.1 (needed_from setting.step (suc period) n next).1 (in_rows rows) (in_rows next.0) (in_rows (needed_from setting.step (suc period) n next).0)
      (needed_more period rows draw) (needed_all (suc period) n next.0 next.1)

  -- what a session drew
  abbrev pub drew : Session → Counts
  drew session x = drawn x session

  abbrev pub From : Speaker S → Speaker S → Type 0
  From before after = IsLater setting.step before.draw (drew before.session) after.draw (drew after.session)

  pub itself : (speaker : Speaker S) → From speaker speaker
  itself speaker = later_itself setting.step speaker.draw (drew speaker.session)

  and_then : (a b c : Speaker S) → From a b → From b c → From a c
  and_then a b c one two = later_then setting.step a.draw b.draw c.draw (drew a.session) (drew b.session) (drew c.session) one two

  rows_later : (unique : ℕ) (one other : List Row) (a b : S) → IsLater setting.step a (in_rows one) b (in_rows other)
      → IsLater setting.step a (λ x. count x (unique ∷ map (λ (row : Row). row.word) one)) b (λ x. count x (unique ∷ map (λ (row : Row). row.word) other))
  rows_later unique one other a b h =
      let within = h.within in
      record {
        many = h.many;
        later = h.later;
        within = λ x.
            let le = within x in
            elim (cases_Bool (unique == x)) [
              | inl is ↦ rw is (omega (arith, le))
              | inr not_so ↦ rw not_so le
            ];
      }

  -- what it draws for salts alone
  pub salts_later : (before after : Speaker S) → DrawsSalts setting before after → From before after
  salts_later before after h =
      let period = period_at before.session.salts.start setting.now in
      let periods = h.1.periods in
      let all = needed_from setting.step period periods (before.session.salts.rows, before.draw) in
      let own = rows_later before.session.unique before.session.salts.rows all.0 before.draw all.1 (needed_all period periods before.session.salts.rows before.draw) in
      let within = own.within in
      let unique = h.0 in
      let rows = h.1.rows_then in
      record {
        many = own.many;
        later = h.1.draw_then ∙ own.later;
        within = λ x.
            let le = within x in
            let same : drawn x after.session ≡ count x (before.session.unique ∷ map (λ (row : Row). row.word) all.0) = λ i. count x (unique i ∷ map (λ (row : Row). row.word) (rows i)) in
            omega (arith, le, same);
      }

  needs_later : (number : ℕ) (speaker : Speaker S) → From speaker (needs_salts setting number speaker)
  needs_later number speaker =
      rows_later speaker.session.unique speaker.session.salts.rows (needs_salts setting number speaker).session.salts.rows speaker.draw (needs_salts setting number speaker).draw
      (needed_all (period_at speaker.session.salts.start setting.now) number speaker.session.salts.rows speaker.draw)

  seals_later : (salt : ℕ) (packets : List Message) (speaker : Speaker S) → From speaker (fold (seals setting salt) speaker packets)
  seals_later salt [] speaker = itself speaker
  seals_later salt (packet ∷ packets) speaker =
      let next = seals setting salt speaker packet in
      and_then speaker next (fold (seals setting salt) next packets)
      (record { many = words_for (padding_bytes (length packet.body)); later = refl; within = λ x. omega arith }) (seals_later salt packets next)

  pub sends_later : (messages : List Message) (speaker : Speaker S) → From speaker (sends setting messages speaker)
  sends_later messages speaker =
      let ready : Speaker S = needs_salts setting 1 speaker in
      let counters = after_packets setting.now ready.session.counters messages in
      let counted : Speaker S = record ready { session = record ready.session { counters = counters } } in
      and_then speaker counted (sends setting messages speaker) (needs_later 1 speaker)
      (seals_later (current_salt ready.session.salts setting.now) (packets_of setting.now ready.session.counters messages) counted)

  pub finishes_later : (job : Job) (reply : List ℕ) (speaker : Speaker S) → From speaker (finishes setting job reply speaker)
  finishes_later job reply speaker = itself speaker

  pub gives_up_later : (content : List ℕ) (job : Job) (speaker : Speaker S) → From speaker (gives_up setting content job speaker)
  gives_up_later content job speaker = itself speaker
