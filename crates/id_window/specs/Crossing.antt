-- When sequence numbers contradict message numbers (core.telegram.org/mtproto/service_messages_about_messages,
-- "Notice of Ignored Error Message", codes 32 and 33).
use Rattle.std.specs.Prelude.{ℕ, Bool, nat_lt, ◌==◌, ◌&&◌, ◌||◌, if◌then◌else◌, List}
use Rattle.std.specs.List.{list_any}
use Rattle.msg_ids.specs.Counters.{is_odd}
use Rattle.id_window.specs.declared.rows.Accepted.{Accepted}
use Rattle.id_window.specs.declared.cross.Cross.{Cross}
use Rattle.id_window.specs.declared.cross.Cross.TheVariants.{None as Apart, Low, High}

-- an accepted seq is above this one, or equal to it and odd
abbrev pub is_past : ℕ → ℕ → Bool
is_past seq accepted = nat_lt seq accepted || (accepted == seq && is_odd accepted)

-- an accepted seq is below this one, or equal to it and odd
abbrev pub is_short : ℕ → ℕ → Bool
is_short seq accepted = nat_lt accepted seq || (accepted == seq && is_odd accepted)

-- an accepted message of a lower number whose seq is past this one: this seq is too low (code 32)
abbrev pub makes_low : ℕ → ℕ → Accepted → Bool
makes_low number seq accepted = nat_lt accepted.number number && is_past seq accepted.seq

-- an accepted message of a higher number whose seq is short of this one: this seq is too high (code 33)
abbrev pub makes_high : ℕ → ℕ → Accepted → Bool
makes_high number seq accepted = nat_lt number accepted.number && is_short seq accepted.seq

-- whether a message of this number and seq crosses accepted ones; too low goes before too high
abbrev pub crossing : ℕ → ℕ → List Accepted → Cross
crossing number seq accepted =
    if list_any (makes_low number seq) accepted then Low
    else (if list_any (makes_high number seq) accepted then High else Apart)
