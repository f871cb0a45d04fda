-- What words say, as a function, is what the grammar says.
use Rattle.std.proofs.Common.{◌≡◌, ◌∙◌, ℕ, ◌+◌, ◌%◌, ◌≤◌, ◌<◌, ◌^◌, nat_le, true, false, List, [], ◌∷◌, ◌++◌, codes, All, Option, Some, None, inl, inr, subst, refl, sym, ap, arith}
use Rattle.std.specs.Fmt.{decimal}
use Rattle.std.specs.Str.{bytes_eq}
use Rattle.std.specs.Option.{option_map}
use Rattle.std.proofs.lemmas.Fmt.{decimal_by_steps}
use Rattle.std.proofs.lemmas.Bool.{leb-true, le-leb}
use Rattle.std.proofs.lemmas.List.Elements.{All-cons, All-nil, All-append, All-head}
use Rattle.std.proofs.lemmas.Slice.Eq.{bytes_eq-Decides}
use Rattle.regs_service.specs.Requests.{is_name}
use Rattle.sched_text.specs.declared.verb.Verb.{Verb}
use Rattle.sched_text.specs.declared.verb.Verb.TheVariants as verb
use Rattle.sched_text.specs.declared.verb.Short.{Short}
use Rattle.sched_text.specs.declared.verb.Short.TheVariants as short
use Rattle.sched_text.specs.declared.verb.Kind.{Kind}
use Rattle.sched_text.specs.declared.verb.Kind.TheVariants as kind
use Rattle.sched_text.specs.declared.body.CallLine.{CallLine}
use Rattle.sched_text.specs.declared.event.Event.{Event}
use Rattle.sched_text.specs.declared.event.Event.TheVariants.{Client, ClientTemp, ClockAll, ClockServer, ClockClient, Call, Flush, Give, ForeignServer, ForeignClient, Work, TickServer, TickClient, AttachServer, AttachClient, Ping, Salts, DropAnswer, Renew, End, Lose, Restart}
use Rattle.sched_text.specs.Words.{IsNumber}
use Rattle.sched_text.specs.Bodies.{IsBody, IsAfter, SaysCall, add_body, get_body, pad_body, packed_body, pad_bytes_max}
use Rattle.sched_text.specs.Bodies as bodies
use Rattle.sched_text.specs.Events.{IsEvent, salts_max}
use Rattle.sched_text.specs.Reading.{number_at, hex_at, find, verbs, kinds, few, is_server, one_number, two_numbers, client_at, clock_at, tick_at, attach_at, salts_at, drop_at, restart_at, foreign_at, short_event, body_with, body_at, after_at, call_at, call_event, event_with, event_at}
use Rattle.sched_text.proofs.Steps.{skip, keep, branch, not_equal, given, gives, mapped}
use Rattle.sched_text.proofs.Numbers.{number_at-decimal, number_at-is}
use Rattle.sched_text.proofs.Hexes.{hex_at-is, hex_at-of}

-- ---- words

same_word : (word text : List ℕ) → bytes_eq word text ≡ true → word ≡ text
same_word word text = (bytes_eq-Decides word text).0

abbrev pub IsFigure : ℕ → Type 0
IsFigure byte = (48 ≤ byte) × (byte ≤ 57)

pub figures : (n : ℕ) → n < 2 ^ 64 → All IsFigure (decimal n)
figures = decimal_by_steps (λ n digits. All IsFigure digits)
    (λ n small. All-cons IsFigure (48 + n) [] (omega (arith), omega (arith)) (All-nil IsFigure))
    (λ n digits large before. All-append IsFigure digits ((48 + n % 10) ∷ []) before (All-cons IsFigure (48 + n % 10) [] (omega (arith), omega (arith)) (All-nil IsFigure)))

-- a number isn't the word `server`
not_server : (n : ℕ) → IsNumber n → is_server (decimal n) ≡ false
not_server n fits = not_equal _ (λ yes.
    let first = All-head IsFigure 115 (codes "erver") (subst (All IsFigure) (same_word (decimal n) (codes "server") yes) (figures n fits)) in
    omega (arith, first))

-- ---- first words

abbrev EachRow : {T : Type 0} → (List ℕ → T → Type 0) → List (List ℕ × T) → Type 0
EachRow P [] = Unit {0}
EachRow P (row ∷ rows) = P row.0 row.1 × EachRow P rows

found : {T : Type 0} (P : List ℕ → T → Type 0) (word : List ℕ) (rows : List (List ℕ × T)) (value : T) → EachRow P rows → find word rows ≡ Some value → P word value
found P word [] value each e = cc
found P word (row ∷ rows) value each e =
    elim (branch (bytes_eq word row.0) _ _ _ e) [
      | inl h ↦ let v : row.1 ≡ value = cc h.1 in subst (λ x. P word x) v (subst (λ w. P w row.1) (sym (same_word word row.0 h.0)) each.0)
      | inr h ↦ found P word rows value each.1 h.1
    ]

abbrev short_text : Short → List ℕ
short_text short.Client = codes "client"
short_text short.Clock = codes "clock"
short_text short.Flush = codes "flush"
short_text short.Give = codes "give"
short_text short.Work = codes "work"
short_text short.Tick = codes "tick"
short_text short.Attach = codes "attach"
short_text short.Ping = codes "ping"
short_text short.Salts = codes "salts"
short_text short.DropAnswer = codes "drop"
short_text short.Renew = codes "renew"
short_text short.End = codes "end"
short_text short.Lose = codes "lose"
short_text short.Restart = codes "restart"

abbrev text_of : Verb → List ℕ
text_of verb.Call = codes "call"
text_of verb.Foreign = codes "foreign"
text_of (verb.Plain first) = short_text first

abbrev kind_text : Kind → List ℕ
kind_text kind.Add = codes "add"
kind_text kind.Get = codes "get"
kind_text kind.Pad = codes "pad"
kind_text kind.Packed = codes "packed"
kind_text kind.Hex = codes "hex"

verb_is : (word : List ℕ) (v : Verb) → find word verbs ≡ Some v → word ≡ text_of v
verb_is word v = found (λ w x. w ≡ text_of x) word verbs v
    (refl, (refl, (refl, (refl, (refl, (refl, (refl, (refl, (refl, (refl, (refl, (refl, (refl, (refl, (refl, (refl, tt))))))))))))))))

kind_is : (word : List ℕ) (k : Kind) → find word kinds ≡ Some k → word ≡ kind_text k
kind_is word k = found (λ w x. w ≡ kind_text x) word kinds k (refl, (refl, (refl, (refl, (refl, tt)))))

few_are : (words some : List (List ℕ)) → few words ≡ Some some → words ≡ some
few_are [] some e = cc
few_are (a ∷ []) some e = cc
few_are (a ∷ b ∷ []) some e = cc
few_are (a ∷ b ∷ d ∷ words) some e = cc

-- ---- from the function to the grammar

one_is : (words : List (List ℕ)) (n : ℕ) → one_number words ≡ Some n → IsNumber n × (words ≡ decimal n ∷ [])
one_is [] n e = cc
one_is (word ∷ []) n e = let h = number_at-is word n e in (h.0, ap (λ w. w ∷ []) h.1)
one_is (word ∷ next ∷ words) n e = cc

two_are : (words : List (List ℕ)) (m n : ℕ) → two_numbers words ≡ Some (m, n) → IsNumber m × IsNumber n × (words ≡ decimal m ∷ decimal n ∷ [])
two_are [] m n e = cc
two_are (word ∷ []) m n e = cc
two_are (first ∷ second ∷ []) m n e =
    let a = given (number_at first) _ (m, n) e in
    let b = given (number_at second) _ (m, n) a.2 in
    let pair : (a.0, b.0) ≡ (m, n) = cc b.2 in
    let is_m : a.0 ≡ m = ap (λ (p : ℕ × ℕ). p.0) pair in
    let is_n : b.0 ≡ n = ap (λ (p : ℕ × ℕ). p.1) pair in
    let f = number_at-is first m (a.1 ∙ ap Some is_m) in
    let g = number_at-is second n (b.1 ∙ ap Some is_n) in
    (f.0, g.0, ap (λ w. w ∷ second ∷ []) f.1 ∙ ap (λ w. decimal m ∷ w ∷ []) g.1)
two_are (first ∷ second ∷ third ∷ words) m n e = cc

with_one : (make : ℕ → Event) (first : List ℕ) → ((n : ℕ) → IsNumber n → IsEvent (make n) (first ∷ decimal n ∷ []))
    → (words : List (List ℕ)) (event : Event) → option_map make (one_number words) ≡ Some event → IsEvent event (first ∷ words)
with_one make first build words event e =
    let m = mapped make (one_number words) event e in
    let n = one_is words m.0 m.1 in
    subst (λ ev. IsEvent ev (first ∷ words)) m.2 (subst (λ ws. IsEvent (make m.0) (first ∷ ws)) (sym n.1) (build m.0 n.0))

-- one word that is a number
at_word : (make : ℕ → Event) (say : List ℕ → List (List ℕ)) → ((n : ℕ) → IsNumber n → IsEvent (make n) (say (decimal n)))
    → (word : List ℕ) (event : Event) → option_map make (number_at word) ≡ Some event → IsEvent event (say word)
at_word make say build word event e =
    let m = mapped make (number_at word) event e in
    let n = number_at-is word m.0 m.1 in
    subst (λ ev. IsEvent ev (say word)) m.2 (subst (λ w. IsEvent (make m.0) (say w)) (sym n.1) (build m.0 n.0))

client_is : (words : List (List ℕ)) (event : Event) → client_at words ≡ Some event → IsEvent event (codes "client" ∷ words)
client_is [] event e = let is : Client ≡ event = cc in subst (λ ev. IsEvent ev (codes "client" ∷ [])) is refl
client_is (word ∷ []) event e =
    elim (branch (bytes_eq word (codes "temp")) _ _ _ e) [
      | inl h ↦
          let is : ClientTemp ≡ event = cc h.1 in
          subst (λ ev. IsEvent ev (codes "client" ∷ word ∷ [])) is (ap (λ w. codes "client" ∷ w ∷ []) (same_word word (codes "temp") h.0))
      | inr h ↦ cc h.1
    ]
client_is (a ∷ b ∷ words) event e = cc

clock_is : (words : List (List ℕ)) (event : Event) → clock_at words ≡ Some event → IsEvent event (codes "clock" ∷ words)
clock_is [] event e = cc
clock_is (at ∷ []) event e = at_word ClockAll (λ w. codes "clock" ∷ w ∷ []) (λ n fits. (fits, refl)) at event e
clock_is (first ∷ at ∷ []) event e =
    elim (branch (is_server first) _ _ _ e) [
      | inl h ↦ subst (λ w. IsEvent event (codes "clock" ∷ w ∷ at ∷ [])) (sym (same_word first (codes "server") h.0))
          (at_word ClockServer (λ w. codes "clock" ∷ codes "server" ∷ w ∷ []) (λ n fits. (fits, refl)) at event h.1)
      | inr h ↦
          let a = given (number_at first) _ event h.1 in
          let b = given (number_at at) _ event a.2 in
          let m = number_at-is first a.0 a.1 in
          let n = number_at-is at b.0 b.1 in
          let is : ClockClient a.0 b.0 ≡ event = cc b.2 in
          subst (λ ev. IsEvent ev (codes "clock" ∷ first ∷ at ∷ [])) is
          (m.0, n.0, ap (λ w. codes "clock" ∷ w ∷ at ∷ []) m.1 ∙ ap (λ w. codes "clock" ∷ decimal a.0 ∷ w ∷ []) n.1)
    ]
clock_is (a ∷ b ∷ d ∷ words) event e = cc

tick_is : (words : List (List ℕ)) (event : Event) → tick_at words ≡ Some event → IsEvent event (codes "tick" ∷ words)
tick_is [] event e = cc
tick_is (word ∷ []) event e =
    elim (branch (is_server word) _ _ _ e) [
      | inl h ↦
          let is : TickServer ≡ event = cc h.1 in
          subst (λ ev. IsEvent ev (codes "tick" ∷ word ∷ [])) is (ap (λ w. codes "tick" ∷ w ∷ []) (same_word word (codes "server") h.0))
      | inr h ↦ at_word TickClient (λ w. codes "tick" ∷ w ∷ []) (λ n fits. (fits, refl)) word event h.1
    ]
tick_is (a ∷ b ∷ words) event e = cc

attach_is : (words : List (List ℕ)) (event : Event) → attach_at words ≡ Some event → IsEvent event (codes "attach" ∷ words)
attach_is [] event e = cc
attach_is (client ∷ []) event e = at_word AttachClient (λ w. codes "attach" ∷ w ∷ []) (λ n fits. (fits, refl)) client event e
attach_is (first ∷ client ∷ []) event e =
    elim (branch (is_server first) _ _ _ e) [
      | inl h ↦ subst (λ w. IsEvent event (codes "attach" ∷ w ∷ client ∷ [])) (sym (same_word first (codes "server") h.0))
          (at_word AttachServer (λ w. codes "attach" ∷ codes "server" ∷ w ∷ []) (λ n fits. (fits, refl)) client event h.1)
      | inr h ↦ cc h.1
    ]
attach_is (a ∷ b ∷ d ∷ words) event e = cc

salts_are : (words : List (List ℕ)) (event : Event) → salts_at words ≡ Some event → IsEvent event (codes "salts" ∷ words)
salts_are words event e =
    let g = given (two_numbers words) _ event e in
    let t = two_are words g.0.0 g.0.1 g.1 in
    elim (branch (nat_le g.0.1 salts_max) _ _ _ g.2) [
      | inl h ↦
          let is : Salts g.0.0 g.0.1 ≡ event = cc h.1 in
          subst (λ ev. IsEvent ev (codes "salts" ∷ words)) is (t.0, leb-true g.0.1 salts_max h.0, ap (λ ws. codes "salts" ∷ ws) t.2)
      | inr h ↦ cc h.1
    ]

drop_is : (words : List (List ℕ)) (event : Event) → drop_at words ≡ Some event → IsEvent event (codes "drop" ∷ words)
drop_is words event e =
    let g = mapped (λ (numbers : ℕ × ℕ). DropAnswer numbers.0 numbers.1) (two_numbers words) event e in
    let t = two_are words g.0.0 g.0.1 g.1 in
    subst (λ ev. IsEvent ev (codes "drop" ∷ words)) g.2 (t.0, t.1, ap (λ ws. codes "drop" ∷ ws) t.2)

restart_is : (words : List (List ℕ)) (event : Event) → restart_at words ≡ Some event → IsEvent event (codes "restart" ∷ words)
restart_is [] event e = let is : Restart ≡ event = cc in subst (λ ev. IsEvent ev (codes "restart" ∷ [])) is refl
restart_is (word ∷ words) event e = cc

foreign_is : (words : List (List ℕ)) (event : Event) → foreign_at words ≡ Some event → IsEvent event (codes "foreign" ∷ words)
foreign_is [] event e = cc
foreign_is (a ∷ []) event e = cc
foreign_is (first ∷ word ∷ []) event e =
    elim (branch (is_server first) _ _ _ e) [
      | inl h ↦
          let m = mapped ForeignServer (hex_at word) event h.1 in
          subst (λ ev. IsEvent ev (codes "foreign" ∷ first ∷ word ∷ [])) m.2
          (word, hex_at-is word m.0 m.1, ap (λ w. codes "foreign" ∷ w ∷ word ∷ []) (same_word first (codes "server") h.0))
      | inr h ↦
          let a = given (number_at first) _ event h.1 in
          let b = given (hex_at word) _ event a.2 in
          let m = number_at-is first a.0 a.1 in
          let is : ForeignClient a.0 b.0 ≡ event = cc b.2 in
          subst (λ ev. IsEvent ev (codes "foreign" ∷ first ∷ word ∷ [])) is
          (m.0, (word, hex_at-is word b.0 b.1, ap (λ w. codes "foreign" ∷ w ∷ word ∷ []) m.1))
    ]
foreign_is (a ∷ b ∷ d ∷ words) event e = cc

short_is : (first : Short) (words : List (List ℕ)) (event : Event) → short_event first words ≡ Some event → IsEvent event (short_text first ∷ words)
short_is short.Client words event e = client_is words event e
short_is short.Clock words event e = clock_is words event e
short_is short.Flush words event e = with_one Flush (codes "flush") (λ n fits. (fits, refl)) words event e
short_is short.Give words event e = with_one Give (codes "give") (λ n fits. (fits, refl)) words event e
short_is short.Work words event e = with_one Work (codes "work") (λ n fits. (fits, refl)) words event e
short_is short.Tick words event e = tick_is words event e
short_is short.Attach words event e = attach_is words event e
short_is short.Ping words event e = with_one Ping (codes "ping") (λ n fits. (fits, refl)) words event e
short_is short.Salts words event e = salts_are words event e
short_is short.DropAnswer words event e = drop_is words event e
short_is short.Renew words event e = with_one Renew (codes "renew") (λ n fits. (fits, refl)) words event e
short_is short.End words event e = with_one End (codes "end") (λ n fits. (fits, refl)) words event e
short_is short.Lose words event e = with_one Lose (codes "lose") (λ n fits. (fits, refl)) words event e
short_is short.Restart words event e = restart_is words event e

-- ---- calls

-- a body, the words that stand for it, and those behind them
pub record IsFront (body : List ℕ) (rest words : List (List ℕ)) : Type 0 where
  pub front : List (List ℕ)
  pub body_is : IsBody body front
  pub parted : words ≡ front ++ rest

kind_body_is : (k : Kind) (words : List (List ℕ)) (body : List ℕ) (rest : List (List ℕ)) → body_with k words ≡ Some (body, rest) → IsFront body rest (kind_text k ∷ words)
kind_body_is kind.Add [] body rest e = cc
kind_body_is kind.Add (a ∷ []) body rest e = cc
kind_body_is kind.Add (name ∷ amount ∷ words) body rest e =
    elim (branch (is_name name) _ _ _ e) [
      | inl h ↦
          let a = given (number_at amount) _ (body, rest) h.1 in
          let n = number_at-is amount a.0 a.1 in
          let pair : (add_body name a.0, words) ≡ (body, rest) = cc a.2 in
          let is : add_body name a.0 ≡ body = ap (λ (p : List ℕ × List (List ℕ)). p.0) pair in
          let left : words ≡ rest = ap (λ (p : List ℕ × List (List ℕ)). p.1) pair in
          record {
            front = codes "add" ∷ name ∷ amount ∷ [];
            body_is = bodies.Add (name, a.0, h.0, n.0, ap (λ w. codes "add" ∷ name ∷ w ∷ []) n.1, sym is);
            parted = ap (λ ws. codes "add" ∷ name ∷ amount ∷ ws) left;
          }
      | inr h ↦ cc h.1
    ]
kind_body_is kind.Get [] body rest e = cc
kind_body_is kind.Get (name ∷ words) body rest e =
    elim (branch (is_name name) _ _ _ e) [
      | inl h ↦
          let pair : (get_body name, words) ≡ (body, rest) = cc h.1 in
          let is : get_body name ≡ body = ap (λ (p : List ℕ × List (List ℕ)). p.0) pair in
          let left : words ≡ rest = ap (λ (p : List ℕ × List (List ℕ)). p.1) pair in
          record {
            front = codes "get" ∷ name ∷ [];
            body_is = bodies.Get (name, h.0, refl, sym is);
            parted = ap (λ ws. codes "get" ∷ name ∷ ws) left;
          }
      | inr h ↦ cc h.1
    ]
kind_body_is kind.Pad [] body rest e = cc
kind_body_is kind.Pad (len ∷ words) body rest e =
    let a = given (number_at len) _ (body, rest) e in
    let n = number_at-is len a.0 a.1 in
    elim (branch (nat_le a.0 pad_bytes_max) _ _ _ a.2) [
      | inl h ↦
          let pair : (pad_body a.0, words) ≡ (body, rest) = cc h.1 in
          let is : pad_body a.0 ≡ body = ap (λ (p : List ℕ × List (List ℕ)). p.0) pair in
          let left : words ≡ rest = ap (λ (p : List ℕ × List (List ℕ)). p.1) pair in
          record {
            front = codes "pad" ∷ len ∷ [];
            body_is = bodies.Pad (a.0, leb-true a.0 pad_bytes_max h.0, ap (λ w. codes "pad" ∷ w ∷ []) n.1, sym is);
            parted = ap (λ ws. codes "pad" ∷ len ∷ ws) left;
          }
      | inr h ↦ cc h.1
    ]
kind_body_is kind.Packed words body rest e =
    let pair : (packed_body, words) ≡ (body, rest) = cc in
    let is : packed_body ≡ body = ap (λ (p : List ℕ × List (List ℕ)). p.0) pair in
    let left : words ≡ rest = ap (λ (p : List ℕ × List (List ℕ)). p.1) pair in
    record {
      front = codes "packed" ∷ [];
      body_is = bodies.Packed (refl, sym is);
      parted = ap (λ ws. codes "packed" ∷ ws) left;
    }
kind_body_is kind.Hex [] body rest e = cc
kind_body_is kind.Hex (word ∷ words) body rest e =
    let a = given (hex_at word) _ (body, rest) e in
    let pair : (a.0, words) ≡ (body, rest) = cc a.2 in
    let is : a.0 ≡ body = ap (λ (p : List ℕ × List (List ℕ)). p.0) pair in
    let left : words ≡ rest = ap (λ (p : List ℕ × List (List ℕ)). p.1) pair in
    record {
      front = codes "hex" ∷ word ∷ [];
      body_is = bodies.Hex (word, hex_at-is word body (a.1 ∙ ap Some is), refl);
      parted = ap (λ ws. codes "hex" ∷ word ∷ ws) left;
    }

body_front : (words : List (List ℕ)) (body : List ℕ) (rest : List (List ℕ)) → body_at words ≡ Some (body, rest) → IsFront body rest words
body_front [] body rest e = cc
body_front (word ∷ words) body rest e =
    let g = given (find word kinds) _ (body, rest) e in
    subst (λ w. IsFront body rest (w ∷ words)) (sym (kind_is word g.0 g.1)) (kind_body_is g.0 words body rest g.2)

after_is : (words : List (List ℕ)) (after : Option ℕ) → after_at words ≡ Some after → IsAfter after words
after_is [] after e = let is : None ≡ after = cc in subst (λ a. IsAfter a []) is refl
after_is (a ∷ []) after e = cc
after_is (word ∷ call ∷ []) after e =
    elim (branch (bytes_eq word (codes "after")) _ _ _ e) [
      | inl h ↦
          let m = mapped Some (number_at call) after h.1 in
          let n = number_at-is call m.0 m.1 in
          subst (λ a. IsAfter a (word ∷ call ∷ [])) m.2
          (n.0, ap (λ w. w ∷ call ∷ []) (same_word word (codes "after") h.0) ∙ ap (λ w. codes "after" ∷ w ∷ []) n.1)
      | inr h ↦ cc h.1
    ]
after_is (a ∷ b ∷ d ∷ words) after e = cc

pub call_at-is : (words : List (List ℕ)) (call : CallLine) → call_at words ≡ Some call → SaysCall call.body call.after words
call_at-is words call e =
    let b = given (body_at words) _ call e in
    let a = given (after_at b.0.1) _ call b.2 in
    let front = body_front words b.0.0 b.0.1 b.1 in
    let line : CallLine = record { body = b.0.0; after = a.0 } in
    let is : line ≡ call = cc a.2 in
    subst (λ (l : CallLine). SaysCall l.body l.after words) is
    (record { front = front.front; rest = b.0.1; body_is = front.body_is; after_is = after_is b.0.1 a.0 a.1; parted = front.parted })

call_is : (words : List (List ℕ)) (event : Event) → call_event words ≡ Some event → IsEvent event (codes "call" ∷ words)
call_is [] event e = cc
call_is (client ∷ words) event e =
    let a = given (number_at client) _ event e in
    let b = given (call_at words) _ event a.2 in
    let n = number_at-is client a.0 a.1 in
    let is : Call a.0 b.0.body b.0.after ≡ event = cc b.2 in
    subst (λ ev. IsEvent ev (codes "call" ∷ client ∷ words)) is
    (n.0, (words, call_at-is words b.0 b.1, ap (λ w. codes "call" ∷ w ∷ words) n.1))

event_with-is : (v : Verb) (words : List (List ℕ)) (event : Event) → event_with v words ≡ Some event → IsEvent event (text_of v ∷ words)
event_with-is verb.Call words event e = call_is words event e
event_with-is verb.Foreign words event e =
    let g = given (few words) foreign_at event e in
    subst (λ ws. IsEvent event (codes "foreign" ∷ ws)) (sym (few_are words g.0 g.1)) (foreign_is g.0 event g.2)
event_with-is (verb.Plain first) words event e =
    let g = given (few words) (short_event first) event e in
    subst (λ ws. IsEvent event (short_text first ∷ ws)) (sym (few_are words g.0 g.1)) (short_is first g.0 event g.2)

-- words that are read as an event say it
pub event_at-is : (words : List (List ℕ)) (event : Event) → event_at words ≡ Some event → IsEvent event words
event_at-is [] event e = cc
event_at-is (word ∷ words) event e =
    let g = given (find word verbs) _ event e in
    subst (λ w. IsEvent event (w ∷ words)) (sym (verb_is word g.0 g.1)) (event_with-is g.0 words event g.2)

-- ---- from the grammar to the function

body_at-of : (body : List ℕ) (front rest : List (List ℕ)) → IsBody body front → body_at (front ++ rest) ≡ Some (body, rest)
body_at-of body front rest (bodies.Add (name, amount, named, fits, e, is)) =
    subst (λ ws. body_at (ws ++ rest) ≡ Some (body, rest)) (sym e)
    (keep (is_name name) _ _ _ named (gives (number_at (decimal amount)) _ amount _ (number_at-decimal amount fits) (ap (λ b. Some (b, rest)) (sym is))))
body_at-of body front rest (bodies.Get (name, named, e, is)) =
    subst (λ ws. body_at (ws ++ rest) ≡ Some (body, rest)) (sym e) (keep (is_name name) _ _ _ named (ap (λ b. Some (b, rest)) (sym is)))
body_at-of body front rest (bodies.Pad (len, fits, e, is)) =
    subst (λ ws. body_at (ws ++ rest) ≡ Some (body, rest)) (sym e)
    (gives (number_at (decimal len)) _ len _ (number_at-decimal len (omega (arith, fits)))
    (keep (nat_le len pad_bytes_max) _ _ _ (le-leb len pad_bytes_max fits) (ap (λ b. Some (b, rest)) (sym is))))
body_at-of body front rest (bodies.Packed (e, is)) =
    subst (λ ws. body_at (ws ++ rest) ≡ Some (body, rest)) (sym e) (ap (λ b. Some (b, rest)) (sym is))
body_at-of body front rest (bodies.Hex (word, hex, e)) =
    subst (λ ws. body_at (ws ++ rest) ≡ Some (body, rest)) (sym e) (gives (hex_at word) _ body _ (hex_at-of word body hex) refl)

after_at-of : (after : Option ℕ) (words : List (List ℕ)) → IsAfter after words → after_at words ≡ Some after
after_at-of None words h = ap after_at h
after_at-of (Some call) words (fits, e) = ap after_at e ∙ ap (option_map Some) (number_at-decimal call fits)

pub call_at-of : (body : List ℕ) (after : Option ℕ) (words : List (List ℕ)) → SaysCall body after words → call_at words ≡ Some (record { body = body; after = after })
call_at-of body after words h =
    ap call_at h.parted
    ∙ gives (body_at (h.front ++ h.rest)) _ (body, h.rest) _ (body_at-of body h.front h.rest h.body_is) (gives (after_at h.rest) _ after _ (after_at-of after h.rest h.after_is) refl)

-- what words say is read from them
pub event_at-of : (event : Event) (words : List (List ℕ)) → IsEvent event words → event_at words ≡ Some event
event_at-of Client words e = ap event_at e
event_at-of ClientTemp words e = ap event_at e
event_at-of (ClockAll at) words (fits, e) = ap event_at e ∙ ap (option_map ClockAll) (number_at-decimal at fits)
event_at-of (ClockServer at) words (fits, e) = ap event_at e ∙ ap (option_map ClockServer) (number_at-decimal at fits)
event_at-of (ClockClient client at) words (fits, small, e) =
    ap event_at e ∙ skip (is_server (decimal client)) _ _ _ (not_server client fits)
    (gives (number_at (decimal client)) _ client _ (number_at-decimal client fits) (gives (number_at (decimal at)) _ at _ (number_at-decimal at small) refl))
event_at-of (Call client body after) words (fits, (rest, says, e)) =
    ap event_at e ∙ gives (number_at (decimal client)) _ client _ (number_at-decimal client fits) (gives (call_at rest) _ _ _ (call_at-of body after rest says) refl)
event_at-of (Flush client) words (fits, e) = ap event_at e ∙ ap (option_map Flush) (number_at-decimal client fits)
event_at-of (Give packet) words (fits, e) = ap event_at e ∙ ap (option_map Give) (number_at-decimal packet fits)
event_at-of (ForeignServer bytes) words (word, hex, e) = ap event_at e ∙ ap (option_map ForeignServer) (hex_at-of word bytes hex)
event_at-of (ForeignClient client bytes) words (fits, (word, hex, e)) =
    ap event_at e ∙ skip (is_server (decimal client)) _ _ _ (not_server client fits)
    (gives (number_at (decimal client)) _ client _ (number_at-decimal client fits) (gives (hex_at word) _ bytes _ (hex_at-of word bytes hex) refl))
event_at-of (Work job) words (fits, e) = ap event_at e ∙ ap (option_map Work) (number_at-decimal job fits)
event_at-of TickServer words e = ap event_at e
event_at-of (TickClient client) words (fits, e) =
    ap event_at e ∙ skip (is_server (decimal client)) _ _ _ (not_server client fits) (ap (option_map TickClient) (number_at-decimal client fits))
event_at-of (AttachServer client) words (fits, e) = ap event_at e ∙ ap (option_map AttachServer) (number_at-decimal client fits)
event_at-of (AttachClient client) words (fits, e) = ap event_at e ∙ ap (option_map AttachClient) (number_at-decimal client fits)
event_at-of (Ping client) words (fits, e) = ap event_at e ∙ ap (option_map Ping) (number_at-decimal client fits)
event_at-of (Salts client count) words (fits, small, e) =
    ap event_at e
    ∙ gives (two_numbers (decimal client ∷ decimal count ∷ [])) _ (client, count) _
    (gives (number_at (decimal client)) _ client _ (number_at-decimal client fits) (gives (number_at (decimal count)) _ count _ (number_at-decimal count (omega (arith, small))) refl))
    (keep (nat_le count salts_max) _ _ _ (le-leb count salts_max small) refl)
event_at-of (DropAnswer client call) words (fits, small, e) =
    ap event_at e
    ∙ ap (option_map (λ (numbers : ℕ × ℕ). DropAnswer numbers.0 numbers.1))
    (gives (number_at (decimal client)) _ client (Some (client, call)) (number_at-decimal client fits) (gives (number_at (decimal call)) _ call _ (number_at-decimal call small) refl))
event_at-of (Renew client) words (fits, e) = ap event_at e ∙ ap (option_map Renew) (number_at-decimal client fits)
event_at-of (End client) words (fits, e) = ap event_at e ∙ ap (option_map End) (number_at-decimal client fits)
event_at-of (Lose client) words (fits, e) = ap event_at e ∙ ap (option_map Lose) (number_at-decimal client fits)
event_at-of Restart words e = ap event_at e
