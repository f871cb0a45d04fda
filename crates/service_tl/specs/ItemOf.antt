-- What a body is.
use Rattle.std.specs.Prelude.{ℕ, ◌==◌, if◌then◌else◌, List, length, Option, Some, None, Result, Ok, Err}
use Rattle.tl_codec.specs.declared.fault.TlFault.{TlFault}
use Rattle.tl_codec.specs.Spelling.{Int}
use Rattle.tl_codec.specs.Reading.{read_at}
use Rattle.service_tl.specs.declared.item.Item.{Item}
use Rattle.service_tl.specs.declared.item.Item.TheVariants.{Packed, Call, Broken}
use Rattle.service_tl.specs.Schema.{schema, gzip_packed, item_in}

-- What was read behind a constructor is the item where the body ends there. A constructor that no row
-- has begins a call. Else the body is misspelt.
abbrev pub whole : ℕ → Result (Option Item × List ℕ) TlFault → Item
whole number (Ok (Some item, rest)) = if length rest == 0 then item else Broken number
whole number (Ok (None, rest)) = Call
whole number (Err fault) = Broken number

abbrev pub item_behind : ℕ → List ℕ → Item
item_behind number text = if number == gzip_packed then Packed else whole number (item_in schema number text)

-- a body of fewer than 4 bytes is a call
abbrev pub item_after : Result (ℕ × List ℕ) TlFault → Item
item_after (Ok (number, text)) = item_behind number text
item_after (Err fault) = Call

abbrev pub item_of : List ℕ → Item
item_of body = item_after (read_at Int body)
