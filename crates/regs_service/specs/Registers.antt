-- The registers: named sums.
use Rattle.std.specs.Prelude.{ℕ, ◌+◌, ◌^◌, nat_lt, ◌||◌, if◌then◌else◌, List, [], length, Option, Some, None, is_some, unwrap_or, Bool}
use Rattle.std.specs.BTreeMap.{insert_entry, is_at}
use Rattle.std.specs.Map.{lookup}
use Rattle.std.specs.Ordering.{nat_cmp}
use Rattle.std.specs.Cmp.Lexicographic.{slice_cmp}
use Rattle.regs_service.specs.Requests.{Asked, Add, Get, request_of}
use Rattle.regs_service.specs.Replies.{value_reply, refused}
use Rattle.regs_service.specs.declared.reply.Refusal.TheVariants.{BadRequest, TooLarge, TooMany}

-- the names in order, each with its sum
abbrev pub Sums : Type 0
Sums = List (List ℕ × ℕ)

abbrev pub fresh : Sums
fresh = []

-- the most names
abbrev pub names_max : ℕ
names_max = 65536

-- the sum of a name that is there
abbrev pub find : Sums → List ℕ → Option ℕ
find sums name = lookup (is_at (slice_cmp nat_cmp name)) sums

-- a name that isn't there has 0
abbrev pub sum_of : Sums → List ℕ → ℕ
sum_of sums name = unwrap_or (find sums name) 0

-- with this sum at the name, which is made at its place where it isn't there
abbrev pub with_sum : Sums → List ℕ → ℕ → Sums
with_sum sums name sum = insert_entry (slice_cmp nat_cmp) sums name sum

-- the name is there, or may be made
abbrev pub has_place : Sums → List ℕ → Bool
has_place sums name = is_some (find sums name) || nat_lt (length sums) names_max

-- What an add is answered, and the sums after it. The amount is below 2^64, so TOO_LARGE needs a name that
-- is there; TOO_MANY needs one that isn't, so the two exclude one another.
abbrev pub added : Sums → List ℕ → ℕ → List ℕ × Sums
added sums name amount =
    let sum = sum_of sums name + amount in
    if nat_lt sum (2 ^ 64) then
    if has_place sums name then (value_reply sum, with_sum sums name sum) else (refused TooMany, sums)
    else (refused TooLarge, sums)

abbrev pub answered : Sums → Option Asked → List ℕ × Sums
answered sums (Some (Add name amount)) = added sums name amount
answered sums (Some (Get name)) = (value_reply (sum_of sums name), sums)
answered sums None = (refused BadRequest, sums)

-- The reply to a request, which is the value after it or an error, and the sums after it. What is refused
-- changes nothing.
abbrev pub step : Sums → List ℕ → List ℕ × Sums
step sums request = answered sums (request_of request)
