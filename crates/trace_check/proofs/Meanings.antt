-- What words say, as a function, is what the definition of a fact's words says.
use Rattle.std.proofs.Common.{◌≡◌, ◌∙◌, ℕ, Bool, true, false, List, [], ◌∷◌, codes, unwrap_or, Option, Some, None, ◌⊎◌, inl, inr, subst, refl, sym, ap}
use Rattle.std.specs.Fmt.{decimal}
use Rattle.std.specs.Str.{bytes_eq}
use Rattle.std.specs.Option.{option_map}
use Rattle.std.proofs.lemmas.Slice.Eq.{bytes_eq-Decides}
use Rattle.sched_text.specs.Lines.{Line, Say, lines_in, words_of}
use Rattle.sched_text.specs.Words.{IsHex, IsNumber}
use Rattle.sched_text.specs.Reading.{bytes_from, find, hex_at, number_at, number_from}
use Rattle.trace_check.specs.declared.numbered.Numbered.{Numbered}
use Rattle.trace_check.specs.declared.fact.Cause.{Cause}
use Rattle.trace_check.specs.declared.fact.Cause.TheVariants as cause
use Rattle.trace_check.specs.declared.fact.Told.{Told}
use Rattle.trace_check.specs.declared.fact.Told.TheVariants as told
use Rattle.trace_check.specs.declared.fact.Entry as entry
use Rattle.trace_check.specs.declared.fact.Fact.{Fact}
use Rattle.trace_check.specs.declared.fact.Fact.TheVariants as fact
use Rattle.trace_check.specs.declared.fact.Kind.{Kind}
use Rattle.trace_check.specs.declared.fact.Kind.TheVariants as kind
use Rattle.trace_check.specs.declared.fact.Standing.{Standing}
use Rattle.trace_check.specs.declared.fact.Standing.TheVariants as standing
use Rattle.trace_check.specs.Facts.{AreNumbers, IsFact, IsTold, SaysFact, Spells, cause_word, ran_word}
use Rattle.trace_check.specs.Reading.{at_end, body_at, causes, entry_at, fact_at, fact_with, facts_of, gone_at, kinds, name_at, numbered_from, only, said_by, session_at, standings, state_at, told_at, told_with, ways}
use Rattle.trace_check.proofs.Steps.{branch, given, gives, mapped, none_unless}

abbrev Words : Type 0
Words = List (List ℕ)

-- ---- words of a table

same_word : (word text : List ℕ) → bytes_eq word text ≡ true → word ≡ text
same_word word text = (bytes_eq-Decides word text).0

abbrev EachRow : {T : Type 0} → (List ℕ → T → Type 0) → List (List ℕ × T) → Type 0
EachRow P [] = Unit {0}
EachRow P (row ∷ rows) = P row.0 row.1 × EachRow P rows

found : {T : Type 0} (P : List ℕ → T → Type 0) (word : List ℕ) (rows : List (List ℕ × T)) (value : T) → EachRow P rows → find word rows ≡ Some value → P word value
found P word [] value each e = cc
found P word (row ∷ rows) value each e =
    elim (branch (bytes_eq word row.0) _ _ _ e) [
      | inl h ↦ let v : row.1 ≡ value = cc h.1 in subst (λ x. P word x) v (subst (λ w. P w row.1) (sym (same_word word row.0 h.0)) each.0)
      | inr h ↦ found P word rows value each.1 h.1
    ]

abbrev kind_word : Kind → List ℕ
kind_word kind.Body = codes "body"
kind_word kind.Name = codes "name"
kind_word kind.State = codes "state"
kind_word kind.Entry = codes "entry"
kind_word kind.Made = codes "made"
kind_word kind.Left = codes "left"
kind_word kind.Closed = codes "closed"
kind_word kind.Gone = codes "gone"

abbrev standing_word : Standing → List ℕ
standing_word standing.Queued = codes "queued"
standing_word standing.Sent = codes "sent"
standing_word standing.Held = codes "held"
standing_word standing.Done = codes "done"
standing_word standing.Refused = codes "refused"
standing_word standing.Unknown = codes "unknown"

kind_is : (word : List ℕ) (k : Kind) → find word kinds ≡ Some k → word ≡ kind_word k
kind_is word k = found (λ w x. w ≡ kind_word x) word kinds k (refl, (refl, (refl, (refl, (refl, (refl, (refl, (refl, tt))))))))

standing_is : (word : List ℕ) (s : Standing) → find word standings ≡ Some s → word ≡ standing_word s
standing_is word s = found (λ w x. w ≡ standing_word x) word standings s (refl, (refl, (refl, (refl, (refl, (refl, tt))))))

cause_is : (word : List ℕ) (c : Cause) → find word causes ≡ Some c → word ≡ cause_word c
cause_is word c = found (λ w x. w ≡ cause_word x) word causes c (refl, (refl, (refl, (refl, tt))))

way_is : (word : List ℕ) (ran : Bool) → find word ways ≡ Some ran → word ≡ ran_word ran
way_is word ran = found (λ w x. w ≡ ran_word x) word ways ran (refl, (refl, tt))

cause_of : (c : Cause) → find (cause_word c) causes ≡ Some c
cause_of cause.Session = refl
cause_of cause.Renewed = refl
cause_of cause.Ended = refl
cause_of cause.Forgotten = refl

way_of : (ran : Bool) → find (ran_word ran) ways ≡ Some ran
way_of true = refl
way_of false = refl

-- What is read of words as numbers and as bytes is what they stand for: the law `words_are_read` of `sched_text`.
pub record AreRead : Type 0 where
  pub number : (word : List ℕ) (number : ℕ) → number_at word ≡ Some number → IsNumber number × (word ≡ decimal number)
  pub every_number : (number : ℕ) → IsNumber number → number_at (decimal number) ≡ Some number
  pub bytes : (word bytes : List ℕ) → hex_at word ≡ Some bytes → IsHex bytes word
  pub all_bytes : (word bytes : List ℕ) → IsHex bytes word → hex_at word ≡ Some bytes

module _ (known : AreRead) where
  -- ---- the first of the words

  number_is : (words : Words) (n : ℕ) (rest : Words) → number_from words ≡ Some (n, rest) → IsNumber n × (words ≡ decimal n ∷ rest)
  number_is [] n rest e = cc
  number_is (word ∷ words) n rest e =
      let g = given (number_at word) _ (n, rest) e in
      let pair : (g.0, words) ≡ (n, rest) = cc g.2 in
      let same : g.0 ≡ n = ap (λ (p : ℕ × Words). p.0) pair in
      let left : words ≡ rest = ap (λ (p : ℕ × Words). p.1) pair in
      let h = known.number word n (g.1 ∙ ap Some same) in
      (h.0, λ i. h.1 i ∷ left i)

  number_of : (n : ℕ) (rest : Words) → IsNumber n → number_from (decimal n ∷ rest) ≡ Some (n, rest)
  number_of n rest fits = gives (number_at (decimal n)) _ n _ (known.every_number n fits) refl

  bytes_are : (words : Words) (bytes : List ℕ) (rest : Words) → bytes_from words ≡ Some (bytes, rest) → (word : List ℕ) × IsHex bytes word × (words ≡ word ∷ rest)
  bytes_are [] bytes rest e = cc
  bytes_are (word ∷ words) bytes rest e =
      let g = given (hex_at word) _ (bytes, rest) e in
      let pair : (g.0, words) ≡ (bytes, rest) = cc g.2 in
      let same : g.0 ≡ bytes = ap (λ (p : List ℕ × Words). p.0) pair in
      let left : words ≡ rest = ap (λ (p : List ℕ × Words). p.1) pair in
      (word, known.bytes word bytes (g.1 ∙ ap Some same), ap (λ (r : Words). word ∷ r) left)

  bytes_of : (bytes word : List ℕ) (rest : Words) → IsHex bytes word → bytes_from (word ∷ rest) ≡ Some (bytes, rest)
  bytes_of bytes word rest is = gives (hex_at word) _ bytes _ (known.all_bytes word bytes is) refl

  pair_is : (words : Words) (pair : Numbered) (rest : Words) → numbered_from words ≡ Some (pair, rest) → AreNumbers pair × (words ≡ decimal pair.owner ∷ decimal pair.number ∷ rest)
  pair_is words pair rest e =
      let g = given (number_from words) _ (pair, rest) e in
      let h = given (number_from g.0.1) _ (pair, rest) g.2 in
      let whole : (record { owner = g.0.0; number = h.0.0 }, h.0.1) ≡ (pair, rest) = cc h.2 in
      let same : record { owner = g.0.0; number = h.0.0 } ≡ pair = ap (λ (p : Numbered × Words). p.0) whole in
      let left : h.0.1 ≡ rest = ap (λ (p : Numbered × Words). p.1) whole in
      let first = number_is words g.0.0 g.0.1 g.1 in
      let second = number_is g.0.1 h.0.0 h.0.1 h.1 in
      let all : words ≡ decimal g.0.0 ∷ decimal h.0.0 ∷ h.0.1 = first.1 ∙ ap (λ (r : Words). decimal g.0.0 ∷ r) second.1 in
      let fits : AreNumbers (record { owner = g.0.0; number = h.0.0 }) = (first.0, second.0) in
      (subst AreNumbers same fits, all ∙ (λ i. decimal (same i).owner ∷ decimal (same i).number ∷ left i))

  pair_of : (pair : Numbered) (rest : Words) → AreNumbers pair → numbered_from (decimal pair.owner ∷ decimal pair.number ∷ rest) ≡ Some (pair, rest)
  pair_of pair rest fits =
      gives (number_from (decimal pair.owner ∷ decimal pair.number ∷ rest)) _ (pair.owner, decimal pair.number ∷ rest) _ (number_of pair.owner (decimal pair.number ∷ rest) fits.0)
      (gives (number_from (decimal pair.number ∷ rest)) _ (pair.number, rest) _ (number_of pair.number rest fits.1) refl)

  ended : {T : Type 0} (value other : T) (words : Words) → at_end value words ≡ Some other → (value ≡ other) × (words ≡ [])
  ended value other [] e = (cc, refl)
  ended value other (word ∷ words) e = cc

  only_is : {T : Type 0} (rows : List (List ℕ × T)) (words : Words) (value : T) → only rows words ≡ Some value → (word : List ℕ) × (find word rows ≡ Some value) × (words ≡ word ∷ [])
  only_is rows [] value e = cc
  only_is rows (word ∷ []) value e = (word, e, refl)
  only_is rows (word ∷ other ∷ words) value e = cc

  -- ---- states

  told_is_with : (s : Standing) (words : Words) (t : Told) → told_with s words ≡ Some t → IsTold t (standing_word s ∷ words)
  told_is_with standing.Queued words t e = let h = ended told.Queued t words e in subst (λ (x : Told). IsTold x (codes "queued" ∷ words)) h.0 (ap (λ (r : Words). codes "queued" ∷ r) h.1)
  told_is_with standing.Sent words t e = let h = ended told.Sent t words e in subst (λ (x : Told). IsTold x (codes "sent" ∷ words)) h.0 (ap (λ (r : Words). codes "sent" ∷ r) h.1)
  told_is_with standing.Held words t e = let h = ended told.Held t words e in subst (λ (x : Told). IsTold x (codes "held" ∷ words)) h.0 (ap (λ (r : Words). codes "held" ∷ r) h.1)
  told_is_with standing.Done words t e =
      let g = given (bytes_from words) _ t e in
      let h = ended (told.Done g.0.0) t g.0.1 g.2 in
      let b = bytes_are words g.0.0 g.0.1 g.1 in
      subst (λ (x : Told). IsTold x (codes "done" ∷ words)) h.0 (b.0, b.1, ap (λ (r : Words). codes "done" ∷ r) (b.2 ∙ ap (λ (r : Words). b.0 ∷ r) h.1))
  told_is_with standing.Refused words t e =
      let g = given (number_from words) _ t e in
      let h = ended (told.Refused g.0.0) t g.0.1 g.2 in
      let n = number_is words g.0.0 g.0.1 g.1 in
      subst (λ (x : Told). IsTold x (codes "refused" ∷ words)) h.0 (n.0, ap (λ (r : Words). codes "refused" ∷ r) (n.1 ∙ ap (λ (r : Words). decimal g.0.0 ∷ r) h.1))
  told_is_with standing.Unknown words t e =
      let m = mapped told.Unknown (only causes words) t e in
      let o = only_is causes words m.0 m.1 in
      subst (λ (x : Told). IsTold x (codes "unknown" ∷ words)) m.2 (ap (λ (r : Words). codes "unknown" ∷ r) (o.2 ∙ ap (λ (w : List ℕ). w ∷ []) (cause_is o.0 m.0 o.1)))

  told_is : (words : Words) (t : Told) → told_at words ≡ Some t → IsTold t words
  told_is [] t e = cc
  told_is (word ∷ words) t e =
      let g = given (find word standings) _ t e in
      subst (λ (w : List ℕ). IsTold t (w ∷ words)) (sym (standing_is word g.0 g.1)) (told_is_with g.0 words t g.2)

  told_of : (t : Told) (words : Words) → IsTold t words → told_at words ≡ Some t
  told_of told.Queued words is = ap told_at is
  told_of told.Sent words is = ap told_at is
  told_of told.Held words is = ap told_at is
  told_of (told.Done reply) words is =
      ap told_at is.2 ∙ gives (bytes_from (is.0 ∷ [])) _ (reply, []) _ (bytes_of reply is.0 [] is.1) refl
  told_of (told.Refused code) words is =
      ap told_at is.1 ∙ gives (number_from (decimal code ∷ [])) _ (code, []) _ (number_of code [] is.0) refl
  told_of (told.Unknown why) words is = ap told_at is ∙ ap (λ (o : Option Cause). option_map told.Unknown o) (cause_of why)

  -- ---- facts

  body_is : (words : Words) (f : Fact) → body_at words ≡ Some f → IsFact f (codes "body" ∷ words)
  body_is words f e =
      let g = given (numbered_from words) _ f e in
      let b = given (bytes_from g.0.1) _ f g.2 in
      let h = ended (fact.Body g.0.0 b.0.0) f b.0.1 b.2 in
      let p = pair_is words g.0.0 g.0.1 g.1 in
      let w = bytes_are g.0.1 b.0.0 b.0.1 b.1 in
      let all : words ≡ decimal g.0.0.owner ∷ decimal g.0.0.number ∷ w.0 ∷ [] =
      p.1 ∙ ap (λ (r : Words). decimal g.0.0.owner ∷ decimal g.0.0.number ∷ r) (w.2 ∙ ap (λ (r : Words). w.0 ∷ r) h.1) in
      subst (λ (x : Fact). IsFact x (codes "body" ∷ words)) h.0 (p.0, (w.0, w.1, ap (λ (r : Words). codes "body" ∷ r) all))

  name_is : (words : Words) (f : Fact) → name_at words ≡ Some f → IsFact f (codes "name" ∷ words)
  name_is words f e =
      let g = given (numbered_from words) _ f e in
      let n = given (numbered_from g.0.1) _ f g.2 in
      let h = ended (fact.Name g.0.0 n.0.0) f n.0.1 n.2 in
      let p = pair_is words g.0.0 g.0.1 g.1 in
      let q = pair_is g.0.1 n.0.0 n.0.1 n.1 in
      let all : words ≡ decimal g.0.0.owner ∷ decimal g.0.0.number ∷ decimal n.0.0.owner ∷ decimal n.0.0.number ∷ [] =
      p.1 ∙ ap (λ (r : Words). decimal g.0.0.owner ∷ decimal g.0.0.number ∷ r) (q.1 ∙ ap (λ (r : Words). decimal n.0.0.owner ∷ decimal n.0.0.number ∷ r) h.1) in
      subst (λ (x : Fact). IsFact x (codes "name" ∷ words)) h.0 (p.0, q.0, ap (λ (r : Words). codes "name" ∷ r) all)

  state_is : (words : Words) (f : Fact) → state_at words ≡ Some f → IsFact f (codes "state" ∷ words)
  state_is words f e =
      let g = given (numbered_from words) _ f e in
      let t = given (told_at g.0.1) _ f g.2 in
      let same : fact.State g.0.0 t.0 ≡ f = cc t.2 in
      let p = pair_is words g.0.0 g.0.1 g.1 in
      subst (λ (x : Fact). IsFact x (codes "state" ∷ words)) same (p.0, (g.0.1, told_is g.0.1 t.0 t.1, ap (λ (r : Words). codes "state" ∷ r) p.1))

  entry_is : (words : Words) (f : Fact) → entry_at words ≡ Some f → IsFact f (codes "entry" ∷ words)
  entry_is words f e =
      let s = given (number_from words) _ f e in
      let g = given (numbered_from s.0.1) _ f s.2 in
      let a = given (bytes_from g.0.1) _ f g.2 in
      let b = given (bytes_from a.0.1) _ f a.2 in
      let r = given (only ways b.0.1) _ f b.2 in
      let one : entry.Entry = record { start = s.0.0; name = g.0.0; request = a.0.0; reply = b.0.0; ran = r.0 } in
      let same : fact.Entry one ≡ f = cc r.2 in
      let n = number_is words s.0.0 s.0.1 s.1 in
      let p = pair_is s.0.1 g.0.0 g.0.1 g.1 in
      let x = bytes_are g.0.1 a.0.0 a.0.1 a.1 in
      let y = bytes_are a.0.1 b.0.0 b.0.1 b.1 in
      let o = only_is ways b.0.1 r.0 r.1 in
      let last : b.0.1 ≡ ran_word r.0 ∷ [] = o.2 ∙ ap (λ (w : List ℕ). w ∷ []) (way_is o.0 r.0 o.1) in
      let third : g.0.1 ≡ x.0 ∷ y.0 ∷ ran_word r.0 ∷ [] = x.2 ∙ ap (λ (l : Words). x.0 ∷ l) (y.2 ∙ ap (λ (l : Words). y.0 ∷ l) last) in
      let all : words ≡ decimal s.0.0 ∷ decimal g.0.0.owner ∷ decimal g.0.0.number ∷ x.0 ∷ y.0 ∷ ran_word r.0 ∷ [] =
      n.1 ∙ ap (λ (l : Words). decimal s.0.0 ∷ l) (p.1 ∙ ap (λ (l : Words). decimal g.0.0.owner ∷ decimal g.0.0.number ∷ l) third) in
      subst (λ (z : Fact). IsFact z (codes "entry" ∷ words)) same (n.0, p.0, (x.0, y.0, x.1, y.1, ap (λ (l : Words). codes "entry" ∷ l) all))

  session_is : (words : Words) (session : ℕ) → session_at words ≡ Some session → IsNumber session × (words ≡ decimal session ∷ [])
  session_is words session e =
      let g = given (number_from words) _ session e in
      let h = ended g.0.0 session g.0.1 g.2 in
      let n = number_is words g.0.0 g.0.1 g.1 in
      (subst IsNumber h.0 n.0, n.1 ∙ (λ i. decimal (h.0 i) ∷ h.1 i))

  gone_is : (words : Words) (f : Fact) → gone_at words ≡ Some f → IsFact f (codes "gone" ∷ words)
  gone_is words f e =
      let g = given (numbered_from words) _ f e in
      let h = ended (fact.Gone g.0.0) f g.0.1 g.2 in
      let p = pair_is words g.0.0 g.0.1 g.1 in
      subst (λ (x : Fact). IsFact x (codes "gone" ∷ words)) h.0
      (p.0, ap (λ (r : Words). codes "gone" ∷ r) (p.1 ∙ ap (λ (r : Words). decimal g.0.0.owner ∷ decimal g.0.0.number ∷ r) h.1))

  fact_is_with : (k : Kind) (words : Words) (f : Fact) → fact_with k words ≡ Some f → IsFact f (kind_word k ∷ words)
  fact_is_with kind.Body words f e = body_is words f e
  fact_is_with kind.Name words f e = name_is words f e
  fact_is_with kind.State words f e = state_is words f e
  fact_is_with kind.Entry words f e = entry_is words f e
  fact_is_with kind.Made words f e =
      let m = mapped fact.Made (session_at words) f e in
      let s = session_is words m.0 m.1 in
      subst (λ (x : Fact). IsFact x (codes "made" ∷ words)) m.2 (s.0, ap (λ (r : Words). codes "made" ∷ r) s.1)
  fact_is_with kind.Left words f e =
      let m = mapped fact.Left (session_at words) f e in
      let s = session_is words m.0 m.1 in
      subst (λ (x : Fact). IsFact x (codes "left" ∷ words)) m.2 (s.0, ap (λ (r : Words). codes "left" ∷ r) s.1)
  fact_is_with kind.Closed words f e =
      let m = mapped fact.Closed (session_at words) f e in
      let s = session_is words m.0 m.1 in
      subst (λ (x : Fact). IsFact x (codes "closed" ∷ words)) m.2 (s.0, ap (λ (r : Words). codes "closed" ∷ r) s.1)
  fact_is_with kind.Gone words f e = gone_is words f e

  -- what is read of words they stand for
  pub fact_is : (words : Words) (f : Fact) → fact_at words ≡ Some f → IsFact f words
  fact_is [] f e = cc
  fact_is (word ∷ words) f e =
      let g = given (find word kinds) _ f e in
      subst (λ (w : List ℕ). IsFact f (w ∷ words)) (sym (kind_is word g.0 g.1)) (fact_is_with g.0 words f g.2)

  session_of : (session : ℕ) → IsNumber session → session_at (decimal session ∷ []) ≡ Some session
  session_of session fits = gives (number_from (decimal session ∷ [])) _ (session, []) _ (number_of session [] fits) refl

  -- and what they stand for is read
  pub fact_of : (f : Fact) (words : Words) → IsFact f words → fact_at words ≡ Some f
  fact_of (fact.Body call body) words is =
      ap fact_at is.1.2
      ∙ gives (numbered_from (decimal call.owner ∷ decimal call.number ∷ is.1.0 ∷ [])) _ (call, is.1.0 ∷ []) _ (pair_of call (is.1.0 ∷ []) is.0)
      (gives (bytes_from (is.1.0 ∷ [])) _ (body, []) _ (bytes_of body is.1.0 [] is.1.1) refl)
  fact_of (fact.Name call name) words is =
      ap fact_at is.2
      ∙ gives (numbered_from (decimal call.owner ∷ decimal call.number ∷ decimal name.owner ∷ decimal name.number ∷ [])) _ (call, decimal name.owner ∷ decimal name.number ∷ []) _
      (pair_of call (decimal name.owner ∷ decimal name.number ∷ []) is.0)
      (gives (numbered_from (decimal name.owner ∷ decimal name.number ∷ [])) _ (name, []) _ (pair_of name [] is.1) refl)
  fact_of (fact.State call t) words is =
      ap fact_at is.1.2
      ∙ gives (numbered_from (decimal call.owner ∷ decimal call.number ∷ is.1.0)) _ (call, is.1.0) _ (pair_of call is.1.0 is.0) (gives (told_at is.1.0) _ t _ (told_of t is.1.0 is.1.1) refl)
  fact_of (fact.Entry one) words is =
      let way = ran_word one.ran ∷ [] in
      let replied = is.2.1 ∷ way in
      let asked = is.2.0 ∷ replied in
      let named = decimal one.name.owner ∷ decimal one.name.number ∷ asked in
      ap fact_at is.2.4
      ∙ gives (number_from (decimal one.start ∷ named)) _ (one.start, named) _ (number_of one.start named is.0)
      (gives (numbered_from named) _ (one.name, asked) _ (pair_of one.name asked is.1)
      (gives (bytes_from asked) _ (one.request, replied) _ (bytes_of one.request is.2.0 replied is.2.2)
      (gives (bytes_from replied) _ (one.reply, way) _ (bytes_of one.reply is.2.1 way is.2.3) (gives (only ways way) _ one.ran _ (way_of one.ran) refl))))
  fact_of (fact.Made session) words is = ap fact_at is.1 ∙ ap (λ (o : Option ℕ). option_map fact.Made o) (session_of session is.0)
  fact_of (fact.Left session) words is = ap fact_at is.1 ∙ ap (λ (o : Option ℕ). option_map fact.Left o) (session_of session is.0)
  fact_of (fact.Closed session) words is = ap fact_at is.1 ∙ ap (λ (o : Option ℕ). option_map fact.Closed o) (session_of session is.0)
  fact_of (fact.Gone name) words is =
      ap fact_at is.1 ∙ gives (numbered_from (decimal name.owner ∷ decimal name.number ∷ [])) _ (name, []) _ (pair_of name [] is.0) refl
  fact_of fact.Outside words is = absurd is

  -- ---- lines

  abbrev Says : Words → Fact → Type 0
  Says words f = IsFact f words ⊎ ((f ≡ fact.Outside) × ((other : Fact) → IsFact other words → ⊥))

  says_read : (words : Words) (o : Option Fact) → fact_at words ≡ o → Says words (unwrap_or o fact.Outside)
  says_read words None e = inr (refl, λ other is. let found = fact_of other words is in absurd cc)
  says_read words (Some f) e = inl (fact_is words f e)

  said_is : (words : Words) (f : Fact) → Says words f → f ≡ said_by words
  said_is words f (inl is) = sym (ap (λ (o : Option Fact). unwrap_or o fact.Outside) (fact_of f words is))
  said_is words f (inr none) =
      none.0 ∙ sym (ap (λ (o : Option Fact). unwrap_or o fact.Outside) (none_unless (fact_at words) (λ x e. none.1 x (fact_is words x e))))

  -- the lines say what is read of them, and nothing else
  pub lines_say : (lines : List Line) → Say SaysFact lines (facts_of lines)
  lines_say [] = tt
  lines_say (line ∷ lines) = (says_read (words_of line.text) (fact_at (words_of line.text)) refl, lines_say lines)

  pub lines_said : (lines : List Line) (facts : List Fact) → Say SaysFact lines facts → facts ≡ facts_of lines
  lines_said [] [] say = refl
  lines_said [] (f ∷ facts) say = absurd say
  lines_said (line ∷ lines) [] say = absurd say
  lines_said (line ∷ lines) (f ∷ facts) say =
      let first = said_is (words_of line.text) f say.0 in
      let more = lines_said lines facts say.1 in
      λ i. first i ∷ more i

  pub one_spelling : (text : List ℕ) (facts others : List Fact) → Spells text facts → Spells text others → facts ≡ others
  one_spelling text facts others say more = lines_said (lines_in text) facts say ∙ sym (lines_said (lines_in text) others more)
