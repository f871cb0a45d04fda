-- A connection that is obfuscated with a secret, and what a relay makes of it
-- (core.telegram.org/mtproto/mtproto-transports#transport-obfuscation).
use Rattle.std.specs.Prelude.{◌≡◌, ◌<◌, ◌⊎◌, ℕ, List, [], ◌++◌, length, Some}
use Rattle.cipher_modes.specs.CounterMode.{applied}
use Rattle.obfus.specs.Reads.{Reads, IsFaultOf}
use Rattle.obfus.specs.declared.fault.ObfusFault.TheVariants as obfus
use Rattle.obfus.specs.declared.init.Pair.{Pair}
use Rattle.transport.specs.Starts.{form_of_tag}
use Rattle.transport.specs.declared.form.Form.{Form}
use Rattle.secret_relay.specs.declared.fault.RelayFault.{RelayFault}
use Rattle.secret_relay.specs.declared.fault.RelayFault.TheVariants as faults
use Rattle.secret_relay.specs.Written.{frames_of, written}
use Rattle.secret_relay.specs.Passing.{Passes, Halts}

-- All bytes of a connection so far, however they were cut and mixed: what the client has sent, what the server has sent,
-- and what of it went out upwards, to the server, and downwards, to the client.
pub record Story : Type 0 where
  pub client : List ℕ
  pub server : List ℕ
  pub upwards : List ℕ
  pub downwards : List ℕ

abbrev pub nothing : Story
nothing = record { client = []; server = []; upwards = []; downwards = [] }

-- the client has sent a piece more, and so much more went out upwards
abbrev pub with_up : List ℕ → List ℕ → Story → Story
with_up piece more story = record story { client = story.client ++ piece; upwards = story.upwards ++ more }

-- the server has sent a piece more, and so much more went out downwards
abbrev pub with_down : List ℕ → List ℕ → Story → Story
with_down piece more story = record story { server = story.server ++ piece; downwards = story.downwards ++ more }

-- the client has sent these bytes, the server nothing, and so much went out upwards
abbrev pub begun_with : List ℕ → List ℕ → Story
begun_with client more = record { client = client; server = []; upwards = more; downwards = [] }

-- the same bytes came in, and this went out
abbrev pub other_text : List ℕ → List ℕ → Story → Story
other_text upwards downwards story = record story { upwards = upwards; downwards = downwards }

-- the client's first 64 bytes aren't there yet, and nothing went out
pub record IsEarly (story : Story) : Type 0 where
  pub few : length story.client < 64
  pub server : story.server ≡ []
  pub upwards : story.upwards ≡ []
  pub downwards : story.downwards ≡ []

-- The client's first 64 bytes carry a tag under the secret, which names the form inside, and tell the key streams of both
-- directions. Behind them stands the client's stream, through the one up.
pub record Opens (secret client : List ℕ) : Type 0 where
  pub wire : List ℕ
  pub rest : List ℕ
  pub size : length wire ≡ 64
  pub whole : client ≡ wire ++ rest
  pub pair : Pair
  pub reads : Reads (Some secret) wire pair

-- the form inside
abbrev pub form_in : Pair → Form
form_in pair = form_of_tag pair.tag

-- What went out of these packets: upwards the start bytes of the form and its frames, downwards the frames of the client's
-- form, through the stream down.
pub record WentOut (form : Form) (pair : Pair) (up down : List (List ℕ)) (story : Story) : Type 0 where
  pub upwards : story.upwards ≡ written form up
  pub downwards : story.downwards ≡ applied pair.down (frames_of (form_in pair) down)

-- Both sides' packets so far went out, and what is left on either side is a proper prefix of a frame.
pub record GoesOn (form : Form) (secret : List ℕ) (story : Story) : Type 0 where
  pub opens : Opens secret story.client
  pub up : List (List ℕ)
  pub down : List (List ℕ)
  pub out : WentOut form opens.pair up down story
  pub client : Passes (form_in opens.pair) form up (applied opens.pair.up opens.rest)
  pub server : Passes form (form_in opens.pair) down story.server

-- Written by the relay: nothing yet, or all packets of both sides.
abbrev pub Relayed : Form → List ℕ → Story → Type 0
Relayed form secret story = IsEarly story ⊎ GoesOn form secret story

-- ---- what ends a relay

-- the client's first 64 bytes carry no tag under the secret, and nothing went out
pub record HasNoTag (secret found : List ℕ) (story : Story) : Type 0 where
  pub wire : List ℕ
  pub rest : List ℕ
  pub size : length wire ≡ 64
  pub whole : story.client ≡ wire ++ rest
  pub none : IsFaultOf (Some secret) wire (obfus.Tag found)
  pub server : story.server ≡ []
  pub upwards : story.upwards ≡ []
  pub downwards : story.downwards ≡ []

-- The client's stream has this fault, and all packets of either side before it went out.
pub record ClientHalts (form : Form) (secret : List ℕ) (fault : RelayFault) (story : Story) : Type 0 where
  pub opens : Opens secret story.client
  pub up : List (List ℕ)
  pub down : List (List ℕ)
  pub out : WentOut form opens.pair up down story
  pub client : Halts (form_in opens.pair) form up fault (applied opens.pair.up opens.rest)
  pub server : Passes form (form_in opens.pair) down story.server

-- the server's stream has it
pub record ServerHalts (form : Form) (secret : List ℕ) (fault : RelayFault) (story : Story) : Type 0 where
  pub opens : Opens secret story.client
  pub up : List (List ℕ)
  pub down : List (List ℕ)
  pub out : WentOut form opens.pair up down story
  pub client : Passes (form_in opens.pair) form up (applied opens.pair.up opens.rest)
  pub server : Halts form (form_in opens.pair) down fault story.server

-- a piece of the client's ended the relay
abbrev pub UpEnds : Form → List ℕ → RelayFault → Story → Type 0
UpEnds form secret faults.Early story = ⊥
UpEnds form secret (faults.Start found) story = HasNoTag secret found story
UpEnds form secret (faults.Frame fault) story = ClientHalts form secret (faults.Frame fault) story
UpEnds form secret (faults.Length len) story = ClientHalts form secret (faults.Length len) story
UpEnds form secret faults.Memory story = ⊥

-- a piece of the server's ended the relay
abbrev pub DownEnds : Form → List ℕ → RelayFault → Story → Type 0
DownEnds form secret faults.Early story = ⊥
DownEnds form secret (faults.Start found) story = ⊥
DownEnds form secret (faults.Frame fault) story = ServerHalts form secret (faults.Frame fault) story
DownEnds form secret (faults.Length len) story = ServerHalts form secret (faults.Length len) story
DownEnds form secret faults.Memory story = ⊥
