-- Words that differ over a world's sessions are new where they are drawn.
use Rattle.std.proofs.Common.{◌≡◌, ◌≢◌, ℕ, zero, suc, ◌<◌, List, [], ◌∷◌, ◌++◌, length, map, reverse, inl, inr, refl, sym, ap, subst, ◌∙◌, arith, append_assoc}
use Rattle.std.specs.Prelude.{⊤, ◌⊎◌}
use Rattle.std.specs.List.{All, AllByRecursion, AllPairs, Contains, flat_map}
use Rattle.std.proofs.lemmas.List.{reverse-append}
use Rattle.std.proofs.lemmas.List.Elements.{All-contains, All-from_recursion, Contains-append_cases, Contains-append_left, Contains-append_right}
use Rattle.salt_line.specs.Rows.{Row}
use Rattle.server_rules.specs.Server.{Session}
use Rattle.law_moves.specs.Table as moves
use Rattle.law_moves.specs.Table.Status.{Unmade, Standing, Lost}
use Rattle.law_moves.specs.World.{World}
use Rattle.law_moves.specs.Reached.{Reached}
use Rattle.world_rules.specs.Premises.{drawn_for_session}
use Rattle.waits.specs.Jobs.{Queue}
use Rattle.law_server_moves.specs.Servers.{AreNewSalts, IsLost, IsNewSalt, IsStanding, Past, ServerStands}
use Rattle.law_server_moves.proofs.Lists.{all_of, each_of, first_or, here, later}

none_there : {X : Type 0} (x : X) → Contains [] x → ⊥
none_there x h = let below : h.0 < 0 = h.1 in omega (arith, below)

-- ---- words that differ

abbrev pub AreDistinct : List ℕ → Type 0
AreDistinct [] = ⊤
AreDistinct (n ∷ ns) = ((m : ℕ) → Contains ns m → m ≢ n) × AreDistinct ns

pairs_head : (n : ℕ) (ns : List ℕ) → AllPairs (λ word other. word ≢ other) (n ∷ ns) → (m : ℕ) → Contains ns m → m ≢ n
pairs_head n ns h m c same =
    let below : c.0 < length ns = c.1 in
    h zero (suc c.0) m (omega arith) (omega (arith, below)) (sym same ∙ sym c.2)

pairs_tail : (n : ℕ) (ns : List ℕ) → AllPairs (λ word other. word ≢ other) (n ∷ ns) → AllPairs (λ word other. word ≢ other) ns
pairs_tail n ns h = λ i j d lt within. h (suc i) (suc j) d (omega (arith, lt)) (omega (arith, within))

pub distinct_of : (ns : List ℕ) → AllPairs (λ word other. word ≢ other) ns → AreDistinct ns
distinct_of [] h = tt
distinct_of (n ∷ ns) h = (pairs_head n ns h, distinct_of ns (pairs_tail n ns h))

pub distinct_front : (xs ys : List ℕ) → AreDistinct (xs ++ ys) → AreDistinct xs
distinct_front [] ys h = tt
distinct_front (x ∷ xs) ys h = (λ m there. h.0 m (Contains-append_left xs ys m there), distinct_front xs ys h.1)

pub distinct_back : (xs ys : List ℕ) → AreDistinct (xs ++ ys) → AreDistinct ys
distinct_back [] ys h = h
distinct_back (x ∷ xs) ys h = distinct_back xs ys h.1

-- one of the front is none of the back
pub distinct_across : (xs ys : List ℕ) → AreDistinct (xs ++ ys) → (a : ℕ) → Contains xs a → Contains ys a → ⊥
distinct_across [] ys h a at_x at_y = none_there a at_x
distinct_across (x ∷ xs) ys h a at_x at_y =
    elim (first_or a x xs at_x) [
      | inl same ↦ h.0 a (Contains-append_right xs ys a at_y) (sym same)
      | inr other ↦ distinct_across xs ys h.1 a other at_y
    ]

-- ---- words of sessions

abbrev pub words_of : List Row → List ℕ
words_of rows = map (λ row. row.word) rows

abbrev pub drawn_for : List Session → List ℕ
drawn_for lives = flat_map drawn_for_session lives

drawn_in : (lives : List Session) (o : Session) → Contains lives o → (word : ℕ) → Contains (drawn_for_session o) word → Contains (drawn_for lives) word
drawn_in [] o there word is = absurd (none_there o there)
drawn_in (first ∷ lives) o there word is =
    elim (first_or o first lives there) [
      | inl same ↦ Contains-append_left (drawn_for_session first) (drawn_for lives) word (subst (λ (s : Session). Contains (drawn_for_session s) word) (sym same) is)
      | inr other ↦ Contains-append_right (drawn_for_session first) (drawn_for lives) word (drawn_in lives o other word is)
    ]

-- two that have a word in common are one
pub one_of_word : (lives : List Session) → AreDistinct (drawn_for lives) → (a b : Session) → Contains lives a → Contains lives b → (word : ℕ) → Contains (drawn_for_session a) word → Contains (drawn_for_session b) word → a ≡ b
one_of_word [] h a b at_a at_b word of_a of_b = absurd (none_there a at_a)
one_of_word (first ∷ lives) h a b at_a at_b word of_a of_b =
    let own : List ℕ = drawn_for_session first in
    let rest : List ℕ = drawn_for lives in
    elim (first_or a first lives at_a) [
      | inl same_a ↦
          elim (first_or b first lives at_b) [
            | inl same_b ↦ sym same_a ∙ same_b
            | inr other_b ↦
                absurd (distinct_across own rest h word (subst (λ (s : Session). Contains (drawn_for_session s) word) (sym same_a) of_a) (drawn_in lives b other_b word of_b))
          ]
      | inr other_a ↦
          elim (first_or b first lives at_b) [
            | inl same_b ↦
                absurd (distinct_across own rest h word (subst (λ (s : Session). Contains (drawn_for_session s) word) (sym same_b) of_b) (drawn_in lives a other_a word of_a))
            | inr other_b ↦ one_of_word lives (distinct_back own rest h) a b other_a other_b word of_a of_b
          ]
    ]

pub own_distinct : (lives : List Session) → AreDistinct (drawn_for lives) → (o : Session) → Contains lives o → AreDistinct (drawn_for_session o)
own_distinct [] h o there = absurd (none_there o there)
own_distinct (first ∷ lives) h o there =
    elim (first_or o first lives there) [
      | inl same ↦ subst (λ (s : Session). AreDistinct (drawn_for_session s)) same (distinct_front (drawn_for_session first) (drawn_for lives) h)
      | inr other ↦ own_distinct lives (distinct_back (drawn_for_session first) (drawn_for lives) h) o other
    ]

drawn_append : (xs ys : List Session) → drawn_for (xs ++ ys) ≡ drawn_for xs ++ drawn_for ys
drawn_append [] ys = refl
drawn_append (x ∷ xs) ys = ap (λ (l : List ℕ). drawn_for_session x ++ l) (drawn_append xs ys) ∙ sym (append_assoc (drawn_for_session x) (drawn_for xs) (drawn_for ys))

-- one of some sessions has no word of the others
pub across_sessions : (xs ys : List Session) → AreDistinct (drawn_for (xs ++ ys)) → (a b : Session) → Contains xs a → Contains ys b → (word : ℕ) → Contains (drawn_for_session a) word → Contains (drawn_for_session b) word → ⊥
across_sessions xs ys h a b at_a at_b word of_a of_b =
    distinct_across (drawn_for xs) (drawn_for ys) (subst AreDistinct (drawn_append xs ys) h) word (drawn_in xs a at_a word of_a) (drawn_in ys b at_b word of_b)

pub back_sessions : (xs ys : List Session) → AreDistinct (drawn_for (xs ++ ys)) → AreDistinct (drawn_for ys)
back_sessions xs ys h = distinct_back (drawn_for xs) (drawn_for ys) (subst AreDistinct (drawn_append xs ys) h)

-- none of them is 0
pub none_zero : (lives : List Session) → All (λ word. word ≢ 0) (drawn_for lives) → (o : Session) → Contains lives o → (word : ℕ) → Contains (drawn_for_session o) word → word ≢ 0
none_zero lives h o there word is = All-contains (λ (n : ℕ). n ≢ 0) (drawn_for lives) word h (drawn_in lives o there word is)

-- a word of rows is one that was drawn
pub word_drawn : (o : Session) (word : ℕ) → Contains (words_of o.salts.rows) word → Contains (drawn_for_session o) word
word_drawn o word is = later word o.unique (words_of o.salts.rows) is

pub unique_drawn : (o : Session) → Contains (drawn_for_session o) o.unique
unique_drawn o = here o.unique (words_of o.salts.rows)

pub words_append : (xs ys : List Row) → words_of (xs ++ ys) ≡ words_of xs ++ words_of ys
words_append [] ys = refl
words_append (x ∷ xs) ys = ap (λ (l : List ℕ). x.word ∷ l) (words_append xs ys)

-- ---- salts there

unreversed : (ns : List ℕ) (n : ℕ) → Contains (reverse ns) n → Contains ns n
unreversed [] n h = h
unreversed (m ∷ ns) n h =
    elim (Contains-append_cases (reverse ns) (m ∷ []) n (subst (λ (l : List ℕ). Contains l n) (reverse-append (m ∷ []) ns) h)) [
      | inl old ↦ later n m ns (unreversed ns n old)
      | inr last ↦
          elim (first_or n m [] last) [
            | inl same ↦ subst (λ (k : ℕ). Contains (k ∷ ns) n) (sym same) (here n ns)
            | inr none ↦ absurd (none_there n none)
          ]
    ]

-- what the law on moves promises of a server session that wasn't made
abbrev pub IsBlank : Type 0
IsBlank =
    (w : World) (unique : ℕ) → Reached w → (w.servers unique).status ≡ Unmade
    → ((w.servers unique).salts ≡ []) × ((w.servers unique).judged ≡ []) × ((w.servers unique).forgotten ≡ [])

pub made_or_not : (status : moves.Status) → (status ≡ Unmade) ⊎ (status ≢ Unmade)
made_or_not Unmade = inl refl
made_or_not Standing = inr (λ is. cc)
made_or_not (Lost at) = inr (λ is. cc)

-- the session to which a salt belongs
pub record IsSaltOf (past : Past) (sessions : List Session) (u word : ℕ) : Type 0 where
  pub session : Session
  pub there : Contains past.lost session ⊎ Contains sessions session
  pub unique : session.unique ≡ u
  pub word_there : Contains (words_of session.salts.rows) word

pub salt_owner : IsBlank → (w : World) (past : Past) (sessions : List Session) (jobs : Queue) → Reached w → ServerStands w past sessions jobs → (u word : ℕ) → Contains (w.servers u).salts word
    → IsSaltOf past sessions u word
salt_owner blank w past sessions jobs reached s u word has =
    elim (made_or_not (w.servers u).status) [
      | inl unmade ↦ absurd (none_there word (subst (λ (l : List ℕ). Contains l word) (blank w u reached unmade).0 has))
      | inr made ↦
          let one = s.only u made in
          let there : Contains (w.servers one.0.unique).salts word = subst (λ (n : ℕ). Contains (w.servers n).salts word) (sym one.2) has in
          elim (Contains-append_cases past.lost sessions one.0 one.1) [
            | inl was ↦
                record {
                  session = one.0;
                  there = inl was;
                  unique = one.2;
                  word_there = unreversed (words_of one.0.salts.rows) word (subst (λ (l : List ℕ). Contains l word) (each_of (IsLost w) past.lost s.gone one.0 was).made.salts there);
                }
            | inr stands ↦
                record {
                  session = one.0;
                  there = inr stands;
                  unique = one.2;
                  word_there = unreversed (words_of one.0.salts.rows) word (subst (λ (l : List ℕ). Contains l word) (each_of (IsStanding w) sessions s.standing one.0 stands).made.salts there);
                }
          ]
    ]

-- ---- new rows

pub new_rows : (w : World) (rows : List Row) → AllByRecursion (λ (row : Row). IsNewSalt w row.word) rows → AreDistinct (words_of rows) → AreNewSalts w rows
new_rows w [] new distinct = tt
new_rows w (row ∷ rows) new distinct = (new.0, differ rows distinct.0, new_rows w rows new.1 distinct.1) where
  differ : (others : List Row) → ((m : ℕ) → Contains (words_of others) m → m ≢ row.word) → AllByRecursion (λ (other : Row). other.word ≢ row.word) others
  differ [] each = tt
  differ (other ∷ others) each = (each other.word (here other.word (words_of others)), differ others (λ m there. each m (later m other.word (words_of others) there)))

pub distinct_together : (xs ys : List ℕ) → AreDistinct xs → AreDistinct ys → ((a : ℕ) → Contains xs a → Contains ys a → ⊥) → AreDistinct (xs ++ ys)
distinct_together [] ys h k apart = k
distinct_together (x ∷ xs) ys h k apart = (
  λ m there same.
      elim (Contains-append_cases xs ys m there) [
        | inl own ↦ h.0 m own same
        | inr other ↦ apart x (here x xs) (subst (λ (n : ℕ). Contains ys n) same other)
      ],
  distinct_together xs ys h.1 k (λ a at_x at_y. apart a (later a x xs at_x) at_y),
)

pub some_back : (xs ys : List ℕ) → All (λ word. word ≢ 0) (xs ++ ys) → All (λ word. word ≢ 0) ys
some_back xs ys h =
    All-from_recursion (λ (n : ℕ). n ≢ 0) ys
    (all_of (λ (n : ℕ). n ≢ 0) ys (λ n there. All-contains (λ (n : ℕ). n ≢ 0) (xs ++ ys) n h (Contains-append_right xs ys n there)))
