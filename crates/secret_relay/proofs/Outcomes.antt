-- A connection has one outcome.
use Rattle.std.proofs.Common.{◌≡◌, ◌≢◌, ℕ, ◌<◌, List, ◌++◌, length, take, drop, sym, ap, subst, ◌∙◌, arith, inl, inr, length-append, Option, Some}
use Rattle.std.proofs.lemmas.List.{take_at, drop_at}
use Rattle.cipher_modes.specs.CounterMode.{applied}
use Rattle.tl_codec.specs.declared.fault.FrameFault.{FrameFault}
use Rattle.framing.specs.Streams.{Stream, Faulty, IsBegun, Shows, number_after}
use Rattle.obfus.specs.Reads.{Reads, IsFaultOf}
use Rattle.obfus.specs.declared.fault.ObfusFault.{ObfusFault}
use Rattle.obfus.specs.declared.fault.ObfusFault.TheVariants as obfus
use Rattle.obfus.specs.declared.init.Pair.{Pair}
use Rattle.obfus.specs.declared.tag.Tag.TheVariants as tags
use Rattle.obfus.specs.declared.tag.Tag.{Tag}
use Rattle.transport.specs.Forms.{framing_of}
use Rattle.transport.specs.Lawful.{lawful}
use Rattle.transport.specs.Starts.{form_of_tag}
use Rattle.transport.specs.declared.form.Form.{Form}
use Rattle.transport.specs.declared.form.Form.TheVariants.{Full}
use Rattle.secret_relay.specs.declared.fault.RelayFault.{RelayFault}
use Rattle.secret_relay.specs.declared.fault.RelayFault.TheVariants as faults
use Rattle.secret_relay.specs.Written.{frames_of, written, CanGoOut}
use Rattle.secret_relay.specs.Passing.{Passes, HasFault, HasMisfit, Halts}
use Rattle.secret_relay.specs.Stories.{Story, Opens, form_in, GoesOn, Relayed, HasNoTag, ClientHalts, ServerHalts, UpEnds, DownEnds}
use Rattle.secret_relay.proofs.Plain.{plain_shows}
use Rattle.secret_relay.proofs.Readings.{not_begun, not_shown, all_read, one_first}

-- what the crates below promise
pub record Below : Type 0 where
  pub stream : (form : Form) (packets others : List (List ℕ)) (rest other bytes : List ℕ)
      → Stream (framing_of form) packets rest bytes → Stream (framing_of form) others other bytes → (packets ≡ others) × (rest ≡ other)
  pub apart : (form : Form) (packets others : List (List ℕ)) (rest bytes : List ℕ) (fault : FrameFault)
      → Stream (framing_of form) packets rest bytes → Faulty (framing_of form) others fault bytes → ⊥
  pub fault : (form : Form) (packets others : List (List ℕ)) (one other : FrameFault) (bytes : List ℕ)
      → Faulty (framing_of form) packets one bytes → Faulty (framing_of form) others other bytes → (packets ≡ others) × (one ≡ other)
  pub pair : (secret : Option (List ℕ)) (wire : List ℕ) (pair other : Pair) → Reads secret wire pair → Reads secret wire other → pair ≡ other
  pub not_both : (secret : Option (List ℕ)) (wire : List ℕ) (pair : Pair) (fault : ObfusFault) → Reads secret wire pair → IsFaultOf secret wire fault → ⊥
  pub one_tag : (secret : Option (List ℕ)) (wire : List ℕ) (fault other : ObfusFault) → IsFaultOf secret wire fault → IsFaultOf secret wire other → fault ≡ other

pub plain_tag : (tag : Tag) → form_of_tag tag ≢ Full
plain_tag tags.Abridged = λ e. cc
plain_tag tags.Intermediate = λ e. cc
plain_tag tags.Padded = λ e. cc

-- ---- one side

module _ (laws : Below) (from to : Form) (plain : from ≢ Full) where
  pub passes_alike : (ps qs : List (List ℕ)) (stream : List ℕ) → Passes from to ps stream → Passes from to qs stream → ps ≡ qs
  passes_alike ps qs stream f g = (laws.stream from ps qs f.rest g.rest stream f.stream g.stream).0

  no_misfit : (ps qs : List (List ℕ)) (len : ℕ) (stream : List ℕ) → Passes from to ps stream → HasMisfit from to qs len stream → ⊥
  no_misfit ps qs len stream f g =
      g.misfit
      (all_read (framing_of from) (lawful from) (λ (at : ℕ) (text : List ℕ). IsBegun (framing_of from) text)
      (λ count p x r text frame e begun. not_begun (framing_of from) (lawful from) (number_after count) p x r text frame e begun)
      (CanGoOut to) 0 qs g.packet ps g.begins.frames f.stream.frames g.begins.rest f.rest g.begins.each f.stream.each
      (sym g.begins.whole ∙ f.stream.whole) (λ at. f.stream.begun) f.go_out)

  no_fault_and_misfit : (ps qs : List (List ℕ)) (fault : FrameFault) (len : ℕ) (stream : List ℕ)
      → HasFault from to ps fault stream → HasMisfit from to qs len stream → ⊥
  no_fault_and_misfit ps qs fault len stream f g =
      g.misfit
      (all_read (framing_of from) (lawful from) (λ (at : ℕ) (text : List ℕ). Shows (framing_of from) (number_after at) fault text)
      (λ count p x r text frame e shown. not_shown (framing_of from) (lawful from) (number_after count) p x r text fault frame e shown)
      (CanGoOut to) 0 qs g.packet ps g.begins.frames f.faulty.frames g.begins.rest f.faulty.rest g.begins.each f.faulty.each
      (sym g.begins.whole ∙ f.faulty.whole)
      (λ at. plain_shows from plain (number_after (length ps)) (number_after at) fault f.faulty.rest f.faulty.shown) f.go_out)

  pub no_halt : (ps qs : List (List ℕ)) (fault : RelayFault) (stream : List ℕ) → Passes from to ps stream → Halts from to qs fault stream → ⊥
  no_halt ps qs faults.Early stream f g = g
  no_halt ps qs (faults.Start found) stream f g = g
  no_halt ps qs (faults.Frame fault) stream f g = laws.apart from ps qs f.rest stream fault f.stream g.faulty
  no_halt ps qs (faults.Length len) stream f g = no_misfit ps qs len stream f g
  no_halt ps qs faults.Memory stream f g = g

  halt_as_fault : (ps qs : List (List ℕ)) (fault : FrameFault) (other : RelayFault) (stream : List ℕ)
      → HasFault from to ps fault stream → Halts from to qs other stream → (ps ≡ qs) × (faults.Frame fault ≡ other)
  halt_as_fault ps qs fault faults.Early stream f g = absurd g
  halt_as_fault ps qs fault (faults.Start found) stream f g = absurd g
  halt_as_fault ps qs fault (faults.Frame other) stream f g =
      let both = laws.fault from ps qs fault other stream f.faulty g.faulty in
      (both.0, ap faults.Frame both.1)
  halt_as_fault ps qs fault (faults.Length len) stream f g = absurd (no_fault_and_misfit ps qs fault len stream f g)
  halt_as_fault ps qs fault faults.Memory stream f g = absurd g

  halt_as_misfit : (ps qs : List (List ℕ)) (len : ℕ) (other : RelayFault) (stream : List ℕ)
      → HasMisfit from to ps len stream → Halts from to qs other stream → (ps ≡ qs) × (faults.Length len ≡ other)
  halt_as_misfit ps qs len faults.Early stream f g = absurd g
  halt_as_misfit ps qs len (faults.Start found) stream f g = absurd g
  halt_as_misfit ps qs len (faults.Frame other) stream f g = absurd (no_fault_and_misfit qs ps other len stream g f)
  halt_as_misfit ps qs len (faults.Length other) stream f g =
      let both = one_first (framing_of from) (lawful from) (CanGoOut to) 0 ps f.packet qs g.packet
      f.begins.frames g.begins.frames f.begins.rest g.begins.rest f.begins.each g.begins.each (sym f.begins.whole ∙ g.begins.whole)
      f.go_out f.misfit g.go_out g.misfit in
      (both.0, ap faults.Length (f.size ∙ ap length both.1 ∙ sym g.size))
  halt_as_misfit ps qs len faults.Memory stream f g = absurd g

  pub one_halt : (ps qs : List (List ℕ)) (one other : RelayFault) (stream : List ℕ)
      → Halts from to ps one stream → Halts from to qs other stream → (ps ≡ qs) × (one ≡ other)
  one_halt ps qs faults.Early other stream f g = absurd f
  one_halt ps qs (faults.Start found) other stream f g = absurd f
  one_halt ps qs (faults.Frame fault) other stream f g = halt_as_fault ps qs fault other stream f g
  one_halt ps qs (faults.Length len) other stream f g = halt_as_misfit ps qs len other stream f g
  one_halt ps qs faults.Memory other stream f g = absurd f

-- ---- the start

same_wire : (wire rest other more : List ℕ) → length wire ≡ 64 → length other ≡ 64 → wire ++ rest ≡ other ++ more → (wire ≡ other) × (rest ≡ more)
same_wire wire rest other more n m e = (
  sym (take_at wire rest 64 n) ∙ ap (λ (l : List ℕ). take 64 l) e ∙ take_at other more 64 m,
  sym (drop_at wire rest 64 n) ∙ ap (λ (l : List ℕ). drop 64 l) e ∙ drop_at other more 64 m,
)

pub enough : (wire rest client : List ℕ) → length wire ≡ 64 → client ≡ wire ++ rest → length client < 64 → ⊥
enough wire rest client n e few = omega (arith, ap length e, length-append wire rest)

module _ (laws : Below) (secret client : List ℕ) (o p : Opens secret client) where
  one_wire : o.wire ≡ p.wire
  one_wire = (same_wire o.wire o.rest p.wire p.rest o.size p.size (sym o.whole ∙ p.whole)).0

  one_rest : o.rest ≡ p.rest
  one_rest = (same_wire o.wire o.rest p.wire p.rest o.size p.size (sym o.whole ∙ p.whole)).1

  one_pair : o.pair ≡ p.pair
  one_pair = laws.pair (Some secret) p.wire o.pair p.pair (subst (λ (w : List ℕ). Reads (Some secret) w o.pair) one_wire o.reads) p.reads

  -- what is said of the one is said of the other
  pub moved : (P : Pair → List ℕ → Type 0) → P p.pair p.rest → P o.pair o.rest
  moved P holds = subst (λ (q : Pair). P q o.rest) (sym one_pair) (subst (λ (r : List ℕ). P p.pair r) (sym one_rest) holds)

untagged : Below → (secret client : List ℕ) → Opens secret client → (wire rest found : List ℕ) → length wire ≡ 64 → client ≡ wire ++ rest
    → IsFaultOf (Some secret) wire (obfus.Tag found) → ⊥
untagged laws secret client o wire rest found n e none =
    let same = same_wire o.wire o.rest wire rest o.size n (sym o.whole ∙ e) in
    laws.not_both (Some secret) wire o.pair (obfus.Tag found) (subst (λ (w : List ℕ). Reads (Some secret) w o.pair) same.0 o.reads) none

-- ---- both sides

module _ (laws : Below) (form : Form) (plain : form ≢ Full) (secret : List ℕ) (story : Story) (up down : List ℕ) where
  abbrev Other : Story
  Other = record story { upwards = up; downwards = down }

  pub up_goes_or_ends : (fault : RelayFault) → Relayed form secret story → UpEnds form secret fault Other → ⊥
  up_goes_or_ends faults.Early f g = g
  up_goes_or_ends (faults.Start found) (inl early) g = enough g.wire g.rest story.client g.size g.whole early.few
  up_goes_or_ends (faults.Start found) (inr goes) g = untagged laws secret story.client goes.opens g.wire g.rest found g.size g.whole g.none
  up_goes_or_ends (faults.Frame fault) (inl early) g = enough g.opens.wire g.opens.rest story.client g.opens.size g.opens.whole early.few
  up_goes_or_ends (faults.Frame fault) (inr goes) g =
      no_halt laws (form_in goes.opens.pair) form (plain_tag goes.opens.pair.tag) goes.up g.up (faults.Frame fault) (applied goes.opens.pair.up goes.opens.rest)
      goes.client (moved laws secret story.client goes.opens g.opens
      (λ (pair : Pair) (rest : List ℕ). Halts (form_in pair) form g.up (faults.Frame fault) (applied pair.up rest)) g.client)
  up_goes_or_ends (faults.Length len) (inl early) g = enough g.opens.wire g.opens.rest story.client g.opens.size g.opens.whole early.few
  up_goes_or_ends (faults.Length len) (inr goes) g =
      no_halt laws (form_in goes.opens.pair) form (plain_tag goes.opens.pair.tag) goes.up g.up (faults.Length len) (applied goes.opens.pair.up goes.opens.rest)
      goes.client (moved laws secret story.client goes.opens g.opens
      (λ (pair : Pair) (rest : List ℕ). Halts (form_in pair) form g.up (faults.Length len) (applied pair.up rest)) g.client)
  up_goes_or_ends faults.Memory f g = g

  clients_alike : (one other : RelayFault) → ClientHalts form secret one story → ClientHalts form secret other Other → one ≡ other
  clients_alike one other f g =
      (one_halt laws (form_in f.opens.pair) form (plain_tag f.opens.pair.tag) f.up g.up one other (applied f.opens.pair.up f.opens.rest)
      f.client (moved laws secret story.client f.opens g.opens
      (λ (pair : Pair) (rest : List ℕ). Halts (form_in pair) form g.up other (applied pair.up rest)) g.client)).1

  clients_end : (one other : RelayFault) → ClientHalts form secret one story → UpEnds form secret other Other → one ≡ other
  clients_end one faults.Early f g = absurd g
  clients_end one (faults.Start found) f g = absurd (untagged laws secret story.client f.opens g.wire g.rest found g.size g.whole g.none)
  clients_end one (faults.Frame fault) f g = clients_alike one (faults.Frame fault) f g
  clients_end one (faults.Length len) f g = clients_alike one (faults.Length len) f g
  clients_end one faults.Memory f g = absurd g

  tag_ends : (found : List ℕ) (other : RelayFault) → HasNoTag secret found story → UpEnds form secret other Other → faults.Start found ≡ other
  tag_ends found faults.Early f g = absurd g
  tag_ends found (faults.Start more) f g =
      let same = same_wire f.wire f.rest g.wire g.rest f.size g.size (sym f.whole ∙ g.whole) in
      let tag : obfus.Tag found ≡ obfus.Tag more =
      laws.one_tag (Some secret) g.wire (obfus.Tag found) (obfus.Tag more)
      (subst (λ (w : List ℕ). IsFaultOf (Some secret) w (obfus.Tag found)) same.0 f.none) g.none in
      let one : found ≡ more = cc in
      ap faults.Start one
  tag_ends found (faults.Frame fault) f g = absurd (untagged laws secret story.client g.opens f.wire f.rest found f.size f.whole f.none)
  tag_ends found (faults.Length len) f g = absurd (untagged laws secret story.client g.opens f.wire f.rest found f.size f.whole f.none)
  tag_ends found faults.Memory f g = absurd g

  pub one_up_end : (one other : RelayFault) → UpEnds form secret one story → UpEnds form secret other Other → one ≡ other
  one_up_end faults.Early other f g = absurd f
  one_up_end (faults.Start found) other f g = tag_ends found other f g
  one_up_end (faults.Frame fault) other f g = clients_end (faults.Frame fault) other f g
  one_up_end (faults.Length len) other f g = clients_end (faults.Length len) other f g
  one_up_end faults.Memory other f g = absurd f

  servers_halt : (fault : RelayFault) → GoesOn form secret story → ServerHalts form secret fault Other → ⊥
  servers_halt fault f g =
      no_halt laws form (form_in f.opens.pair) plain f.down g.down fault story.server f.server
      (moved laws secret story.client f.opens g.opens
      (λ (pair : Pair) (rest : List ℕ). Halts form (form_in pair) g.down fault story.server) g.server)

  pub down_goes_or_ends : (fault : RelayFault) → GoesOn form secret story → DownEnds form secret fault Other → ⊥
  down_goes_or_ends faults.Early f g = g
  down_goes_or_ends (faults.Start found) f g = g
  down_goes_or_ends (faults.Frame fault) f g = servers_halt (faults.Frame fault) f g
  down_goes_or_ends (faults.Length len) f g = servers_halt (faults.Length len) f g
  down_goes_or_ends faults.Memory f g = g

  servers_alike : (one other : RelayFault) → ServerHalts form secret one story → ServerHalts form secret other Other → one ≡ other
  servers_alike one other f g =
      (one_halt laws form (form_in f.opens.pair) plain f.down g.down one other story.server f.server
      (moved laws secret story.client f.opens g.opens
      (λ (pair : Pair) (rest : List ℕ). Halts form (form_in pair) g.down other story.server) g.server)).1

  servers_end : (one other : RelayFault) → ServerHalts form secret one story → DownEnds form secret other Other → one ≡ other
  servers_end one faults.Early f g = absurd g
  servers_end one (faults.Start found) f g = absurd g
  servers_end one (faults.Frame fault) f g = servers_alike one (faults.Frame fault) f g
  servers_end one (faults.Length len) f g = servers_alike one (faults.Length len) f g
  servers_end one faults.Memory f g = absurd g

  pub one_down_end : (one other : RelayFault) → DownEnds form secret one story → DownEnds form secret other Other → one ≡ other
  one_down_end faults.Early other f g = absurd f
  one_down_end (faults.Start found) other f g = absurd f
  one_down_end (faults.Frame fault) other f g = servers_end (faults.Frame fault) other f g
  one_down_end (faults.Length len) other f g = servers_end (faults.Length len) other f g
  one_down_end faults.Memory other f g = absurd f

  one_text : GoesOn form secret story → GoesOn form secret Other → (story.upwards ≡ up) × (story.downwards ≡ down)
  one_text f g =
      let client = passes_alike laws (form_in f.opens.pair) form (plain_tag f.opens.pair.tag) f.up g.up (applied f.opens.pair.up f.opens.rest) f.client
      (moved laws secret story.client f.opens g.opens
      (λ (pair : Pair) (rest : List ℕ). Passes (form_in pair) form g.up (applied pair.up rest)) g.client) in
      let server = passes_alike laws form (form_in f.opens.pair) plain f.down g.down story.server f.server
      (moved laws secret story.client f.opens g.opens
      (λ (pair : Pair) (rest : List ℕ). Passes form (form_in pair) g.down story.server) g.server) in
      let back : down ≡ applied f.opens.pair.down (frames_of (form_in f.opens.pair) g.down) =
      moved laws secret story.client f.opens g.opens
      (λ (pair : Pair) (rest : List ℕ). down ≡ applied pair.down (frames_of (form_in pair) g.down)) g.out.downwards in (
        f.out.upwards ∙ ap (written form) client ∙ sym g.out.upwards,
        f.out.downwards
            ∙ ap (λ (ps : List (List ℕ)). applied f.opens.pair.down (frames_of (form_in f.opens.pair) ps)) server ∙ sym back,
      )

  -- what came in tells what went out
  pub told : Relayed form secret story → Relayed form secret Other → (story.upwards ≡ up) × (story.downwards ≡ down)
  told (inl f) (inl g) = (f.upwards ∙ sym g.upwards, f.downwards ∙ sym g.downwards)
  told (inl f) (inr g) = absurd (enough g.opens.wire g.opens.rest story.client g.opens.size g.opens.whole f.few)
  told (inr f) (inl g) = absurd (enough f.opens.wire f.opens.rest story.client f.opens.size f.opens.whole g.few)
  told (inr f) (inr g) = one_text f g
