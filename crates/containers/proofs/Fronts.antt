-- What it means that nothing is wrong with the message at the front of a text.
use Rattle.std.proofs.Common.{◌≡◌, ℕ, ◌+◌, ◌%◌, ◌<◌, ◌≤◌, Bool, true, false, cond, ltb, leb, List, length, Option, Some, None, refl, arith}
use Rattle.std.proofs.lemmas.Bool.{ltb-false, leb-false, le-ltb, lt-leb}
use Rattle.containers.specs.declared.fault.Why.{Why}
use Rattle.containers.specs.declared.fault.Why.TheVariants.{Nested, NotBelow, Odd, Short}
use Rattle.containers.specs.Container.{message_head, begins_container}
use Rattle.containers.specs.Parts.{said_length, message_in, cause_in}

pub record IsLawfulFront (number : ℕ) (text : List ℕ) : Type 0 where
  pub head : message_head ≤ length text
  pub whole_words : said_length text % 4 ≡ 0
  pub whole : message_head + said_length text ≤ length text
  pub below : (message_in text).number < number
  pub unnested : begins_container (message_in text).body ≡ false

pub passed : (b : Bool) (why : Why) (others : Option Why) → cond b (Some why) others ≡ None → (b ≡ false) × (others ≡ None)
passed true why others e = absurd cc
passed false why others e = (refl, e)

pub lawful_front : (number : ℕ) (text : List ℕ) → cause_in number text ≡ None → IsLawfulFront number text
unfolding cause_in
lawful_front number text e =
    let said = said_length text in
    let nested = cond (begins_container (message_in text).body) (Some Nested) None in
    let high = cond (leb number (message_in text).number) (Some NotBelow) nested in
    let cut = cond (ltb (length text) (message_head + said)) (Some Short) high in
    let odd = cond (ltb 0 (said % 4)) (Some Odd) cut in
    let a = passed (ltb (length text) message_head) Short odd e in
    let b = passed (ltb 0 (said % 4)) Odd cut a.1 in
    let d = passed (ltb (length text) (message_head + said)) Short high b.1 in
    let f = passed (leb number (message_in text).number) NotBelow nested d.1 in
    let g = passed (begins_container (message_in text).body) Nested None f.1 in
    let words : said % 4 ≤ 0 = ltb-false _ _ b.0 in
    record {
      head = ltb-false _ _ a.0;
      whole_words = omega arith;
      whole = ltb-false _ _ d.0;
      below = leb-false _ _ f.0;
      unnested = g.0;
    }

pub no_cause : (number : ℕ) (text : List ℕ) → IsLawfulFront number text → cause_in number text ≡ None
unfolding cause_in
no_cause number text lawful =
    let whole_words : said_length text % 4 ≤ 0 = omega (arith, lawful.whole_words) in
    let head : ltb (length text) message_head ≡ false = le-ltb _ _ lawful.head in
    let words : ltb 0 (said_length text % 4) ≡ false = le-ltb _ _ whole_words in
    let whole : ltb (length text) (message_head + said_length text) ≡ false = le-ltb _ _ lawful.whole in
    let below : leb number (message_in text).number ≡ false = lt-leb _ _ lawful.below in
    rw (head, words, whole, below, lawful.unnested) refl
