-- Tests of bytes and of numbers, for what is worked out.
use Rattle.std.specs.Prelude.{ℕ, nat_lt, Bool, List}
use Rattle.std.specs.List.{list_all}

-- each is a byte
abbrev pub are_bytes : List ℕ → Bool
are_bytes bytes = list_all (λ byte. nat_lt byte 256) bytes

-- it has 32 bits, and 64
abbrev pub is_int : ℕ → Bool
is_int number = nat_lt number 4294967296

abbrev pub is_long : ℕ → Bool
is_long number = nat_lt number 18446744073709551616
