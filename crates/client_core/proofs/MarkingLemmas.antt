-- Calls of a client that are to be sent again, by its table.
use Rattle.std.proofs.Common.{◌≡◌, ◌∙◌, ℕ, List, [], ◌∷◌, length, fold, ap, refl, Option, Some, None}
use Rattle.std.specs.Prelude.{◌==◌, if◌then◌else◌, true, false}
use Rattle.std.specs.List.{zip}
use Rattle.call_table.specs.declared.call.CallNo.{CallNo}
use Rattle.call_table.specs.Table.{owner}
use Rattle.client_rules.specs.Client.{Client, StateRequest, calls_of}
use Rattle.client_rules.specs.Taking.{alone_call, alone_number, goes_again, told_of, told_state, told_states}
use Rattle.client_calls.specs.Marks.{table_alone, table_alone_at, table_states, table_told}
use Rattle.client_core.specs.Brought.{table_told_of}

-- ---- by numbers

alone_lifted : (own : Option CallNo) (client : Client) → alone_call own client ≡ record client { table = table_alone_at own client.table }
alone_lifted None client = refl
alone_lifted (Some call) client = refl

pub number_lifted : (client : Client) (number : ℕ) → alone_number client number ≡ record client { table = table_alone client.table number }
number_lifted client number = alone_lifted (owner number (calls_of client)) client

pub numbers_lifted : (numbers : List ℕ) (client : Client) → fold alone_number client numbers ≡ record client { table = fold table_alone client.table numbers }
numbers_lifted [] client = refl
numbers_lifted (number ∷ numbers) client =
    ap (λ now. fold alone_number now numbers) (number_lifted client number)
    ∙ numbers_lifted numbers (record client { table = table_alone client.table number })

state_lifted : (client : Client) (number byte : ℕ) → told_state client (number, byte) ≡ record client { table = table_told client.table (number, byte) }
state_lifted client number byte = elim (goes_again byte) as (λ b. (if b then alone_number client number else client) ≡ record client { table = if b then table_alone client.table number else client.table }) [ true ↦ number_lifted client number | false ↦ refl ]

pub states_lifted : (pairs : List (ℕ × ℕ)) (client : Client) → fold told_state client pairs ≡ record client { table = fold table_told client.table pairs }
states_lifted [] client = refl
states_lifted (pair ∷ pairs) client =
    ap (λ now. fold told_state now pairs) (state_lifted client pair.0 pair.1)
    ∙ states_lifted pairs (record client { table = table_told client.table pair })

-- ---- by states

pub states_of_lifted : (numbers info : List ℕ) (client : Client) → told_states numbers info client ≡ record client { table = table_states numbers info client.table }
states_of_lifted numbers info client =
    elim (length info == length numbers) as (λ b. (if b then fold told_state client (zip numbers info) else client) ≡ record client { table = if b then fold table_told client.table (zip numbers info) else client.table }) [ true ↦ states_lifted (zip numbers info) client | false ↦ refl ]

pub told_of_lifted : (asked : Option StateRequest) (request : ℕ) (info : List ℕ) (client : Client) → told_of asked request info client ≡ record client { table = table_told_of asked request info client.table }
told_of_lifted None request info client = refl
told_of_lifted (Some asked) request info client =
    elim (asked.number == request) as (λ b. (if b then told_states asked.numbers info client else client) ≡ record client { table = if b then table_states asked.numbers info client.table else client.table }) [ true ↦ states_of_lifted asked.numbers info client | false ↦ refl ]
