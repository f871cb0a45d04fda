-- Rows over a text that grows.
use Rattle.std.proofs.Common.{◌≡◌, ◌∙◌, ℕ, ◌+◌, ◌%◌, ◌≤◌, List, [], ◌∷◌, ◌++◌, length, take, drop, map, ap, refl, arith, length-append, Bool, ◌||◌, ◌==◌}
use Rattle.std.proofs.lemmas.List.{take-append-le, drop-append-le, map-append, length-drop, length-take}
use Rattle.std.proofs.lemmas.List.Sums.{sum_by-cons, sum_by_push}
use Rattle.std.proofs.Math.Seq.{drop-append_seam, take-length}
use Rattle.std.specs.List.{AllByRecursion, list_any}
use Rattle.service_tl.specs.declared.lists.Message.{Message}
use Rattle.envelope.specs.Packet.{body_max}
use Rattle.server_output.specs.declared.owing.Row.{Row}
use Rattle.server_output.specs.Dues.{IsRow, CanGo, bodies_bytes, message_at, has_number, rows_bytes}

-- what all members of a list are, and one more
pub all-push : {X : Type 0} (P : X → Type 0) (xs : List X) (x : X) → AllByRecursion P xs → P x → AllByRecursion P (xs ++ x ∷ [])
all-push P [] x all here = (here, tt)
all-push P (y ∷ xs) x all here = (all.0, all-push P xs x all.1 here)

-- a part of a text stays where more comes behind it
part-kept : (text more : List ℕ) (start count : ℕ) → start + count ≤ length text → take count (drop start (text ++ more)) ≡ take count (drop start text)
part-kept text more start count within =
    let behind : start ≤ length text = omega arith in
    let few : count ≤ length (drop start text) = omega (arith, length-drop start text) in
    ap (λ (rest : List ℕ). take count rest) (drop-append-le start text more behind) ∙ take-append-le count (drop start text) more few

part-new : (text more : List ℕ) (start count : ℕ) → start ≡ length text → count ≡ length more → take count (drop start (text ++ more)) ≡ more
part-new text more start count begins whole =
    rw (begins, drop-append_seam text more, whole) (take-length more)

abbrev with_body : Row → List ℕ → Message
with_body row body = record { number = row.number; seq = row.seq; body = body }

part-length : (text : List ℕ) (start count : ℕ) → start + count ≤ length text → length (take count (drop start text)) ≡ count
part-length text start count within =
    let few : count ≤ length (drop start text) = omega (arith, length-drop start text) in
    omega (arith, length-take count (drop start text))

pub rows-kept : (text more : List ℕ) (rows : List Row) → AllByRecursion (IsRow text) rows → map (message_at (text ++ more)) rows ≡ map (message_at text) rows
rows-kept text more [] all = refl
rows-kept text more (row ∷ rows) all =
    let here : message_at (text ++ more) row ≡ message_at text row =
    ap (λ (body : List ℕ). with_body row body) (part-kept text more row.start row.length all.0.within) in
    rw (here, rows-kept text more rows all.1) refl

pub rows-stay : (text more : List ℕ) (rows : List Row) → AllByRecursion (IsRow text) rows → AllByRecursion (IsRow (text ++ more)) rows
rows-stay text more [] all = tt
rows-stay text more (row ∷ rows) all =
    (record { within = omega (arith, all.0.within, length-append text more); words = all.0.words; short = all.0.short }, rows-stay text more rows all.1)

-- a further row, whose body was put at the end of the text
pub rows-more : (text more : List ℕ) (rows : List Row) (row : Row) → AllByRecursion (IsRow text) rows → row.start ≡ length text → row.length ≡ length more
    → map (message_at (text ++ more)) (rows ++ row ∷ []) ≡ map (message_at text) rows ++ record { number = row.number; seq = row.seq; body = more } ∷ []
rows-more text more rows row all begins whole =
    let kept : map (message_at (text ++ more)) rows ≡ map (message_at text) rows = rows-kept text more rows all in
    let body : take row.length (drop row.start (text ++ more)) ≡ more = part-new text more row.start row.length begins whole in
    map-append (message_at (text ++ more)) rows (row ∷ []) ∙ rw (kept, body) refl

pub rows-hold : (text more : List ℕ) (rows : List Row) (row : Row) → AllByRecursion (IsRow text) rows → row.start ≡ length text → row.length ≡ length more
    → length more % 4 ≡ 0 → length more ≤ body_max → AllByRecursion (IsRow (text ++ more)) (rows ++ row ∷ [])
rows-hold text more rows row all begins whole words short =
    all-push (IsRow (text ++ more)) rows row (rows-stay text more rows all)
    (record { within = omega (arith, length-append text more); words = ap (λ (n : ℕ). n % 4) whole ∙ words; short = omega arith })

-- the messages of rows can go in packets
pub rows-go : (text : List ℕ) (rows : List Row) → AllByRecursion (IsRow text) rows → AllByRecursion CanGo (map (message_at text) rows)
rows-go text [] all = tt
rows-go text (row ∷ rows) all =
    let count : length (take row.length (drop row.start text)) ≡ row.length = part-length text row.start row.length all.0.within in
    (record { words = ap (λ (n : ℕ). n % 4) count ∙ all.0.words; short = omega (arith, count, all.0.short) }, rows-go text rows all.1)

-- whether a row has a number
pub rows-number : (text : List ℕ) (number : ℕ) (rows : List Row) → has_number number (map (message_at text) rows) ≡ list_any (λ row. row.number == number) rows
rows-number text number [] = refl
rows-number text number (row ∷ rows) = ap (λ (others : Bool). (row.number == number) || others) (rows-number text number rows)

-- the bytes of the messages of rows
pub rows-bytes : (text : List ℕ) (rows : List Row) → AllByRecursion (IsRow text) rows → bodies_bytes (map (message_at text) rows) ≡ rows_bytes rows
rows-bytes text [] all = refl
rows-bytes text (row ∷ rows) all =
    let count : length (take row.length (drop row.start text)) ≡ row.length = part-length text row.start row.length all.0.within in
    omega (
      arith,
      count,
      rows-bytes text rows all.1,
      sum_by-cons (λ (one : Row). one.length) row rows,
      sum_by-cons (λ (one : Message). length one.body) (message_at text row) (map (message_at text) rows),
    )

pub rows-bytes-more : (text more : List ℕ) (rows : List Row) (row : Row) → rows_bytes rows ≡ length text → row.length ≡ length more
    → rows_bytes (rows ++ row ∷ []) ≡ length (text ++ more)
rows-bytes-more text more rows row same whole =
    omega (arith, same, whole, sum_by_push (λ (one : Row). one.length) rows row, length-append text more)
