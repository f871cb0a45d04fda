-- The clients of a world, as far as they were gone through.
use Rattle.std.proofs.Common.{◌≡◌, ◌∙◌, ℕ, ◌+◌, ◌<◌, List, [], ◌∷◌, ◌++◌, Some, length, take, get_or, slice_get, ap, sym, append-nil, append_assoc, arith}
use Rattle.std.specs.List.{flat_map}
use Rattle.std.proofs.lemmas.Grind.{flat_map-append}
use Rattle.std.proofs.lemmas.List.{length-take-le}
use Rattle.std.proofs.lemmas.Option.{slice_get-get_or, slice_get_within}
use Rattle.client_rules.specs.Client.{calls_of}
use Rattle.call_table.specs.Table.{Call}
use Rattle.world_rules.specs.Report.{call_lines, client_lines}
use Rattle.world_rules.specs.World.{Seat}
use Rattle.sim_text.proofs.BagLemmas.{take_more}

clients_append : (number : ℕ) (seats : List Seat) (seat : Seat)
    → client_lines number (seats ++ seat ∷ []) ≡ client_lines number seats ++ call_lines (number + length seats) 1 (calls_of seat.client)
clients_append number [] seat =
    let same : number ≡ number + 0 = omega arith in
    append-nil (call_lines number 1 (calls_of seat.client)) ∙ ap (λ n. call_lines n 1 (calls_of seat.client)) same
clients_append number (first ∷ seats) seat =
    let same : number + 1 + length seats ≡ number + length (first ∷ seats) = omega arith in
    let front = call_lines number 1 (calls_of first.client) in
    ap (λ lines. front ++ lines) (clients_append (number + 1) seats seat)
    ∙ (ap (λ n. front ++ (client_lines (number + 1) seats ++ call_lines n 1 (calls_of seat.client))) same
    ∙ sym (append_assoc front (client_lines (number + 1) seats) (call_lines (number + length (first ∷ seats)) 1 (calls_of seat.client))))

clients_more : (seats : List Seat) (place : ℕ) (seat : Seat) → slice_get seats place ≡ Some seat
    → client_lines 1 (take (place + 1) seats) ≡ client_lines 1 (take place seats) ++ call_lines (place + 1) 1 (calls_of seat.client)
clients_more seats place seat here =
    let less = slice_get_within seats place seat here in
    let count : length (take place seats) ≡ place = length-take-le place seats (omega arith) in
    let same : 1 + length (take place seats) ≡ place + 1 = omega arith in
    ap (client_lines 1) (take_more seats place seat here)
    ∙ (clients_append 1 (take place seats) seat ∙ ap (λ n. client_lines 1 (take place seats) ++ call_lines n 1 (calls_of seat.client)) same)

-- with the lines of one more client the lines so far are those of one more client
pub clients_on : (old text : List ℕ) (seats : List Seat) (place : ℕ) (seat : Seat) → slice_get seats place ≡ Some seat
    → text ≡ old ++ client_lines 1 (take place seats)
    → text ++ call_lines (place + 1) 1 (calls_of seat.client) ≡ old ++ client_lines 1 (take (place + 1) seats)
clients_on old text seats place seat here so_far =
    ap (λ front. front ++ call_lines (place + 1) 1 (calls_of seat.client)) so_far
    ∙ (append_assoc old (client_lines 1 (take place seats)) (call_lines (place + 1) 1 (calls_of seat.client))
    ∙ ap (λ lines. old ++ lines) (sym (clients_more seats place seat here)))

-- the calls so far, and those of one more client
pub calls_on : (seats : List Seat) (place : ℕ) (seat : Seat) → slice_get seats place ≡ Some seat
    → flat_map (λ (one : Seat). calls_of one.client) (take place seats) ++ calls_of seat.client ≡ flat_map (λ (one : Seat). calls_of one.client) (take (place + 1) seats)
calls_on seats place seat here =
    let all : Seat → List Call = λ one. calls_of one.client in
    sym (ap (flat_map all) (take_more seats place seat here)
    ∙ (flat_map-append all (take place seats) (seat ∷ []) ∙ ap (λ last. flat_map all (take place seats) ++ last) (append-nil (calls_of seat.client))))

pub seat_within : (seats : List Seat) (place : ℕ) → place < length seats → (seat : Seat) × (slice_get seats place ≡ Some seat)
seat_within [] place less = absurd (omega (arith, less))
seat_within (first ∷ seats) place less = (get_or (first ∷ seats) place first, slice_get-get_or (first ∷ seats) place first less)
