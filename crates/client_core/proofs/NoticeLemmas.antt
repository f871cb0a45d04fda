-- What a notice changes, by what its number is.
use Rattle.std.proofs.Common.{◌≡◌, ◌∙◌, ℕ, Bool, true, false, List, Option, Some, None, fold, ap, refl, sym, arith}
use Rattle.std.specs.Prelude.{◌==◌, ◌||◌, if◌then◌else◌, option_map}
use Rattle.call_table.specs.Table.{inner_of, owner}
use Rattle.call_table.specs.Kept.{Stands as StandsFor}
use Rattle.client_rules.specs.Client.{Client, calls_of}
use Rattle.client_rules.specs.Learning.{with_clock}
use Rattle.client_rules.specs.Taking.{Notice, alone_among, has_asked, noticed, noticed_by, packet_noticed, with_notice_clock, with_notice_salt}
use Rattle.client_calls.specs.Marks.{table_alone}
use Rattle.client_core.specs.Kept.{Contents, Stands}
use Rattle.client_core.proofs.MarkingLemmas.{numbers_lifted}

-- the client with what stood in a packet marked
abbrev marks_packet : List ℕ → Client → Client
marks_packet numbers client =
    record client { temporary = option_map (alone_among numbers) client.temporary; table = fold table_alone client.table numbers }

packet_lifted : (numbers : List ℕ) (client : Client) → packet_noticed numbers client ≡ marks_packet numbers client
packet_lifted numbers client = numbers_lifted numbers (record client { temporary = option_map (alone_among numbers) client.temporary })

pub packet_stands : (old new : Contents) (client : Client) (numbers : List ℕ) → Stands old client
    → new.rest ≡ record old.rest { temporary = option_map (alone_among numbers) old.rest.temporary }
    → StandsFor new.calls (fold table_alone client.table numbers)
    → Stands new (packet_noticed numbers client)
packet_stands old new client numbers stands rest calls =
    rw (packet_lifted numbers client) (record {
      rest = rest ∙ ap (λ (own : Client). record own { temporary = option_map (alone_among numbers) own.temporary }) stands.rest;
      calls = calls;
    })

-- taking over the clock and the salt, and marking, come in either order
over_if : (is : Bool) (outer : ℕ) (salt : Option ℕ) (numbers : List ℕ) (client : Client)
    → with_notice_salt salt (if is then with_clock outer (marks_packet numbers client) else marks_packet numbers client)
    ≡ marks_packet numbers (with_notice_salt salt (if is then with_clock outer client else client))
over_if true outer None numbers client = refl
over_if false outer None numbers client = refl
over_if true outer (Some salt) numbers client = refl
over_if false outer (Some salt) numbers client = refl

pub over_packet : (outer code : ℕ) (salt : Option ℕ) (numbers : List ℕ) (client : Client)
    → with_notice_salt salt (with_notice_clock outer code (packet_noticed numbers client)) ≡ packet_noticed numbers (with_notice_salt salt (with_notice_clock outer code client))
over_packet outer code salt numbers client =
    ap (λ now. with_notice_salt salt (with_notice_clock outer code now)) (packet_lifted numbers client)
    ∙ (over_if (code == 16 || code == 17) outer salt numbers client
    ∙ sym (packet_lifted numbers (with_notice_salt salt (with_notice_clock outer code client))))

abbrev notice_of : ℕ → ℕ → Option ℕ → Notice
notice_of about code salt = record { about = about; code = code; salt = salt }

noticed_as : (outer about code : ℕ) (salt : Option ℕ) (client : Client) (asked : Bool) (packet : Option (List ℕ)) → owner about (calls_of client) ≡ None
    → has_asked about client.temporary ≡ asked → inner_of about client.table.packets ≡ packet
    → noticed outer (notice_of about code salt) client ≡ noticed_by None asked packet outer (notice_of about code salt) client
noticed_as outer about code salt client asked packet own is told =
    ap (λ now. noticed_by now (has_asked about client.temporary) (inner_of about client.table.packets) outer (notice_of about code salt) client) own
    ∙ (ap (λ now. noticed_by None now (inner_of about client.table.packets) outer (notice_of about code salt) client) is
    ∙ ap (λ now. noticed_by None asked now outer (notice_of about code salt) client) told)

-- about a packet that is remembered
pub noticed_packet : (outer about code : ℕ) (salt : Option ℕ) (client : Client) (numbers : List ℕ) → owner about (calls_of client) ≡ None → has_asked about client.temporary ≡ false
    → inner_of about client.table.packets ≡ Some numbers
    → with_notice_salt salt (with_notice_clock outer code (packet_noticed numbers client)) ≡ noticed outer (notice_of about code salt) client
noticed_packet outer about code salt client numbers own is told =
    over_packet outer code salt numbers client ∙ sym (noticed_as outer about code salt client false (Some numbers) own is told)

-- ---- what looking for the packet tells

-- the packet was remembered, and is marked
pub was_packet : (new : Contents) (client : Client) (packet : Option (List ℕ)) (found : Bool) → found ≡ true
    → ((numbers : List ℕ) → packet ≡ Some numbers → (found ≡ true) × Stands new (packet_noticed numbers client))
    → (packet ≡ None → (found ≡ false) × Stands new client)
    → (numbers : List ℕ) × ((packet ≡ Some numbers) × Stands new (packet_noticed numbers client))
was_packet new client None found is some none = absurd (grind (arith, is, (none refl).0))
was_packet new client (Some numbers) found is some none = (numbers, (refl, (some numbers refl).1))
