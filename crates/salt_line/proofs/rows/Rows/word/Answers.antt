use Rattle.std.proofs.Common.{◌≡◌, ℕ, ◌∙◌, ◌-◌, ◌+◌, ◌++◌, ◌∷◌, [], List, ap, sym, arith, length, drop, length-append}
use Rattle.std.proofs.lemmas.Option.{slice_get_within}
use Rattle.salt_line.specs.Rows.{Row}
use Rattle.salt_line.specs.Needed.{has_row, word_in}
use Rattle.salt_line.specs.Held.{rows_of}
use Rattle.salt_line.proofs.HeldLemmas.{row_at, no_row_past, rows_of-push, none_past}
use Rattle.salt_line.proofs.NeededLemmas.{needed-there, needed-missing, word_in-push}
use Rattle.salt_line.proofs.rows.Rows.word.Goals as goal

pub returns-in-Some-clause-needed : goal.returns-in-Some-clause-needed
returns-in-Some-clause-needed g c =
    let first = c.args.self.now.first in
    let items = c.args.self.now.words.items in
    let got = sym c.get.ensures ∙ sym c.copied.ensures ∙ c.in-Some.is in
    let at = row_at first (c.args.period - first) c.in-Some.word items got in
    let place : first + (c.args.period - first) ≡ c.args.period = omega arith in
    sym (needed-there g.D.Draw.step c.args.period (rows_of first items, c.args.draw.now)
    (ap (λ q. has_row q (rows_of first items)) (sym place) ∙ at.0))

pub returns-in-Some-clause-word : goal.returns-in-Some-clause-word
returns-in-Some-clause-word g c =
    let first = c.args.self.now.first in
    let items = c.args.self.now.words.items in
    let got = sym c.get.ensures ∙ sym c.copied.ensures ∙ c.in-Some.is in
    let at = row_at first (c.args.period - first) c.in-Some.word items got in
    let place : first + (c.args.period - first) ≡ c.args.period = omega arith in
    sym at.1 ∙ ap (λ q. word_in q (rows_of first items)) place

pub returns-in-Some-clause-count : goal.returns-in-Some-clause-count
returns-in-Some-clause-count g c =
    let got = sym c.get.ensures ∙ sym c.copied.ensures ∙ c.in-Some.is in
    let inside = slice_get_within c.args.self.now.words.items (c.args.period - c.args.self.now.first) c.in-Some.word got in
    omega arith

pub returns-in-None-clause-needed : goal.returns-in-None-clause-needed
returns-in-None-clause-needed g c =
    let first = c.args.self.now.first in
    let items = c.args.self.now.words.items in
    let w = c.word-word.result in
    let past = none_past items (c.args.period - first) (sym c.get.ensures ∙ sym c.copied.ensures ∙ c.in-None.is) in
    let at : first + length items ≡ c.args.period = omega arith in
    let long = length-append items (w ∷ []) in
    let room : length (items ++ w ∷ []) - c.args.self.now.words.capacity ≡ 0 = omega arith in
    let row : ℕ → ℕ → List Row = λ q v. record { period = q; word = v } ∷ [] in
    let held : c.push_back.new.self.items ≡ items ++ w ∷ [] =
    ap (λ b. b.items) c.push_back.ensures.items ∙ ap (λ n. drop n (items ++ w ∷ [])) room in
    ap (λ l. (rows_of first l, c.word-word.new.self)) held
    ∙ ap (λ l. (l, c.word-word.new.self)) (rows_of-push first w items ∙ ap (λ q. rows_of first items ++ row q w) at)
    ∙ ap (λ v. (rows_of first items ++ row c.args.period v, c.word-word.new.self)) c.word-word.ensures.word
    ∙ ap (λ d. (rows_of first items ++ row c.args.period (g.D.Draw.step c.args.draw.now).0, d)) c.word-word.ensures.after
    ∙ sym (needed-missing g.D.Draw.step c.args.period (rows_of first items, c.args.draw.now)
    (no_row_past c.args.period first items (omega arith)))

pub returns-in-None-clause-word : goal.returns-in-None-clause-word
returns-in-None-clause-word g c =
    let first = c.args.self.now.first in
    let items = c.args.self.now.words.items in
    let w = c.word-word.result in
    let past = none_past items (c.args.period - first) (sym c.get.ensures ∙ sym c.copied.ensures ∙ c.in-None.is) in
    let at : first + length items ≡ c.args.period = omega arith in
    let long = length-append items (w ∷ []) in
    let room : length (items ++ w ∷ []) - c.args.self.now.words.capacity ≡ 0 = omega arith in
    let row : ℕ → List Row = λ q. record { period = q; word = w } ∷ [] in
    let held : c.push_back.new.self.items ≡ items ++ w ∷ [] =
    ap (λ b. b.items) c.push_back.ensures.items ∙ ap (λ n. drop n (items ++ w ∷ [])) room in
    sym (ap (λ l. word_in c.args.period (rows_of first l)) held
    ∙ ap (word_in c.args.period) (rows_of-push first w items ∙ ap (λ q. rows_of first items ++ row q) at)
    ∙ word_in-push c.args.period w (rows_of first items) (no_row_past c.args.period first items (omega arith)))

pub returns-in-None-clause-count : goal.returns-in-None-clause-count
returns-in-None-clause-count g c =
    let first = c.args.self.now.first in
    let items = c.args.self.now.words.items in
    let w = c.word-word.result in
    let past = none_past items (c.args.period - first) (sym c.get.ensures ∙ sym c.copied.ensures ∙ c.in-None.is) in
    let long = length-append items (w ∷ []) in
    let room : length (items ++ w ∷ []) - c.args.self.now.words.capacity ≡ 0 = omega arith in
    let held : c.push_back.new.self.items ≡ items ++ w ∷ [] =
    ap (λ b. b.items) c.push_back.ensures.items ∙ ap (λ n. drop n (items ++ w ∷ [])) room in
    ap length held ∙ omega arith
