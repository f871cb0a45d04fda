use Rattle.std.proofs.Common.{◌≡◌, ◌∙◌, ℕ, List, take, drop, drop-drop, refl}
use Rattle.std.proofs.lemmas.List.{take_rest}
use Rattle.byteorder.specs.Endian.{little_number}
use Rattle.containers.specs.Container.{message_head}
use Rattle.containers.specs.Parts.{after, message_in, said_length}
use Rattle.containers.proofs.front.front.Goals as goal

read_part : (text behind body : List ℕ) (number seq said : ℕ) → number ≡ little_number 8 text → seq ≡ little_number 4 (drop 8 text)
    → said ≡ said_length text → behind ≡ drop message_head text → body ≡ take said behind → record { number = number; seq = seq; body = body } ≡ message_in text
unfolding message_in
read_part text behind body number seq said n s l b t = rw (n, s, t, l, b) refl

pub returns-clause-part : goal.returns-clause-part
returns-clause-part c =
    let seq = rw take_rest at c.read_u32-seq.ensures in
    read_part c.args.text.now _ _ _ _ _ c.read_u64-number.ensures seq c.said.ensures.length c.split_at.ensures.back c.split_at-2.ensures.front

pub returns-clause-rest : goal.returns-clause-rest
unfolding after
returns-clause-rest c = c.split_at-2.ensures.back ∙ rw (c.split_at.ensures.back, c.said.ensures.length, drop-drop) refl
