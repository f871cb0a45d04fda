-- A message that nothing refuses is accepted.
use Rattle.std.proofs.Common.{◌≡◌, ◌≢◌, ℕ, ◌+◌, ◌%◌, ◌<◌, ◌≤◌, Bool, true, false, cond, nat_eq, nat_lt, Option, Some, None, refl, ◌∙◌, ap, arith}
use Rattle.std.specs.Option.{option_or}
use Rattle.std.proofs.lemmas.Bool.Decides.{nat_tests}
use Rattle.service_tl.specs.declared.lists.Message.{Message}
use Rattle.salt_line.specs.Line.{Line}
use Rattle.id_window.specs.declared.mark.Mark.{Mark}
use Rattle.id_window.specs.Marks.{mark_of}
use Rattle.id_window.specs.History.{is_kept, floor}
use Rattle.inbox.specs.declared.kind.Kind.{Kind}
use Rattle.inbox.specs.declared.kind.Kind.TheVariants.{Container, Unlawful, Acknowledgement, Call, Other}
use Rattle.inbox.specs.Verdicts.{Accepted}
use Rattle.inbox.specs.Kinds.{kind_of, item_told}
use Rattle.inbox.specs.Refusals.{InEnvelope, second_of, is_valid_salt, needs_even, needs_odd, by_number, by_neighbours, by_body, refusal}
use Rattle.inbox.specs.Judging.{Session, verdict_by, judge}
use Rattle.inbox.specs.Acceptance.{IsAcceptable}
use Rattle.inbox.proofs.TestLemmas.{valid_passes}

number_taken : (floor number : ℕ) → floor < number → number % 4 ≡ 0 → by_number floor number ≡ None
number_taken floor number above fourfold = grind (arith, nat_tests)

time_taken : (now second : ℕ) (valid : Bool) → now ≤ second + 300 → second ≤ now + 30 → valid ≡ true
    → cond {A = Option ℕ} (nat_lt (second + 300) now) (Some 16) (cond {A = Option ℕ} (nat_lt (now + 30) second) (Some 17) (cond {A = Option ℕ} valid None (Some 48))) ≡ None
time_taken now second valid not_old not_early is = grind (arith, nat_tests)

parity_taken : (seq : ℕ) (even odd : Bool) → (even ≡ true → seq % 2 ≡ 0) → (odd ≡ true → seq % 2 ≡ 1)
    → cond {A = Option ℕ} (nat_eq (seq % 2) 1) (cond {A = Option ℕ} even (Some 34) None) (cond {A = Option ℕ} odd (Some 35) None) ≡ None
parity_taken seq true true is_even is_odd = grind (arith, nat_tests)
parity_taken seq true false is_even is_odd = grind (arith, nat_tests)
parity_taken seq false true is_even is_odd = grind (arith, nat_tests)
parity_taken seq false false is_even is_odd = grind (arith, nat_tests)

body_taken : (kind : Kind) → kind ≢ Unlawful → by_body kind ≡ None
body_taken Container other = refl
body_taken Unlawful other = absurd (other refl)
body_taken Acknowledgement other = refl
body_taken Call other = refl
body_taken Other other = refl

none_first : (a b c d e : Option ℕ) → a ≡ None → b ≡ None → c ≡ None → d ≡ None → e ≡ None → option_or a (option_or b (option_or c (option_or d e))) ≡ None
none_first a b c d e a_is b_is c_is d_is e_is = rw (a_is, b_is, c_is, d_is, e_is) refl

not_found : (kept : Bool) (mark : Option Mark) → kept ≡ false → cond kept mark None ≡ None
not_found true mark is = cc
not_found false mark is = refl

pub none_refused : (now : ℕ) (line : Line) (salt : ℕ) (session : Session) (message : Message) → IsAcceptable now line salt session message
    → refusal (InEnvelope now line salt) session.history message ≡ None
none_refused now line salt session message is =
    none_first _ _ _ _ _
    (number_taken (floor session.history) message.number is.above_floor is.fourfold)
    (time_taken now (second_of message.number) (is_valid_salt line now salt) is.not_old is.not_early (valid_passes line now salt is.salted))
    (parity_taken message.seq (needs_even (kind_of message)) (needs_odd (kind_of message)) is.even is.odd)
    (ap by_neighbours is.apart)
    (body_taken (kind_of message) is.lawful)

pub acceptable_judged : (now : ℕ) (line : Line) (salt : ℕ) (session : Session) (message : Message) → IsAcceptable now line salt session message
    → judge (InEnvelope now line salt) session message ≡ Accepted (item_told message.body)
acceptable_judged now line salt session message is =
    ap (λ (mark : Option Mark). verdict_by mark (refusal (InEnvelope now line salt) session.history message) (kind_of message) (item_told message.body))
    (not_found (is_kept message.number session.history) (mark_of message.number session.marks) is.new)
    ∙ ap (λ (code : Option ℕ). verdict_by None code (kind_of message) (item_told message.body)) (none_refused now line salt session message is)
