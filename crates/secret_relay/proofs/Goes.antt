-- From what a piece changes of a link to the connection that the relay stands for.
use Rattle.std.proofs.Common.{◌≡◌, ◌≢◌, ℕ, suc, ◌+◌, ◌%◌, ◌^◌, List, [], ◌∷◌, ◌++◌, length, refl, sym, ap, ap₂, subst, ◌∙◌, arith, inl, append_assoc, append-nil, length-append, Option, None, Some}
use Rattle.std.specs.List.{concat}
use Rattle.std.proofs.lemmas.List.Elements.{All-append}
use Rattle.std.proofs.Math.Nat.{mod-add-mod}
use Rattle.cipher_modes.specs.CounterMode.{CtrState, applied, advanced, applied_in_turn, xor_stream}
use Rattle.framing.specs.Streams.{IsBegun, number_after}
use Rattle.obfus.specs.Reads.{Reads}
use Rattle.obfus.specs.Streams.{up_stream, down_stream}
use Rattle.obfus.specs.declared.init.Pair.{Pair}
use Rattle.transport.specs.Forms.{framing_of}
use Rattle.transport.specs.Lawful.{lawful}
use Rattle.transport.specs.Starts.{start_of}
use Rattle.transport.specs.declared.form.Form.{Form}
use Rattle.transport.specs.declared.form.Form.TheVariants.{Full}
use Rattle.secret_relay.specs.declared.fault.RelayFault.{RelayFault}
use Rattle.secret_relay.specs.declared.fault.RelayFault.TheVariants as faults
use Rattle.secret_relay.specs.declared.link.Link.{Link}
use Rattle.secret_relay.specs.Written.{frames_of, CanGoOut}
use Rattle.secret_relay.specs.Passing.{Passes, Halts}
use Rattle.secret_relay.specs.Going.{BeginsMisfit, Shown, Takes}
use Rattle.secret_relay.specs.Stories.{Story, Opens, form_in, WentOut, ClientHalts, ServerHalts, UpEnds, DownEnds, with_up, with_down}
use Rattle.secret_relay.specs.Links.{PassesUp, PassesDown}
use Rattle.secret_relay.specs.Standing.{KeepsLink, Adds}
use Rattle.secret_relay.proofs.Plain.{plain_shows, frames-append, one_frame_of, frames_of-append}
use Rattle.secret_relay.proofs.Every.{all_none}
use Rattle.secret_relay.proofs.Outcomes.{plain_tag}

-- ---- key streams

abbrev pub Pieces : Type 0
Pieces = (stream : CtrState) (pieces : List (List ℕ)) → applied_in_turn stream pieces ≡ applied stream (concat pieces)

applied-append : Pieces → (s : CtrState) (one other : List ℕ) → applied s (one ++ other) ≡ applied s one ++ applied (advanced s (length one)) other
applied-append laws s one other =
    ap (λ (l : List ℕ). applied s (one ++ l)) (sym (append-nil other))
    ∙ sym (laws s (one ∷ other ∷ []))
    ∙ ap (λ (l : List ℕ). applied s one ++ l) (append-nil (applied (advanced s (length one)) other))

advanced-add : (s : CtrState) (n m : ℕ) → advanced (advanced s n) m ≡ advanced s (n + m)
advanced-add s n m =
    let sum : s.place + n + m ≡ s.place + (n + m) = omega arith in
    ap (λ (p : ℕ). let o : CtrState = record s { place = p } in o)
    (mod-add-mod (s.place + n) (2 ^ 132) m ∙ ap (λ (k : ℕ). k % 2 ^ 132) sum)

length-xor_stream : (stream : ℕ → ℕ) (k : ℕ) (xs : List ℕ) → length (xor_stream stream k xs) ≡ length xs
length-xor_stream stream k [] = refl
length-xor_stream stream k (x ∷ xs) = ap suc (length-xor_stream stream (k + 1) xs)

length-applied : (s : CtrState) (text : List ℕ) → length (applied s text) ≡ length text
length-applied s text = length-xor_stream _ _ text

up_stands : (secret : Option (List ℕ)) (wire : List ℕ) → advanced (up_stream secret wire 64) 0 ≡ up_stream secret wire 64
unfolding up_stream
up_stands secret wire = refl

down_stands : (secret : Option (List ℕ)) (wire : List ℕ) → advanced (down_stream secret wire 0) 0 ≡ down_stream secret wire 0
unfolding up_stream
down_stands secret wire = refl

-- ---- one side

module _ (from to : Form) (plain : from ≢ Full) (ps qs : List (List ℕ)) (stream piece left text : List ℕ) (whole : text ≡ stream ++ piece)
    (f : Passes from to ps stream) (t : Takes from to qs (f.rest ++ piece) left) where
  whole_behind : text ≡ f.stream.frames ++ t.frames ++ left
  whole_behind =
      whole ∙ ap (λ (l : List ℕ). l ++ piece) f.stream.whole ∙ append_assoc f.stream.frames f.rest piece
      ∙ ap (λ (l : List ℕ). f.stream.frames ++ l) t.whole ∙ sym (append_assoc f.stream.frames t.frames left)

  abbrev passes_more : IsBegun (framing_of from) left → Passes from to (ps ++ qs) text
  passes_more begun = record {
    rest = left;
    stream = record {
      frames = f.stream.frames ++ t.frames;
      each = frames-append from plain 0 0 ps qs f.stream.frames t.frames f.stream.each t.each;
      begun = begun;
      whole = whole_behind;
    };
    go_out = All-append (CanGoOut to) ps qs f.go_out t.go_out;
  }

  misfit_behind : (len : ℕ) → BeginsMisfit from to len left → Halts from to (ps ++ qs) (faults.Length len) text
  misfit_behind len m = record {
    packet = m.packet;
    begins = record {
      frames = (f.stream.frames ++ t.frames) ++ m.front;
      rest = m.back;
      each = frames-append from plain 0 0 (ps ++ qs) (m.packet ∷ []) (f.stream.frames ++ t.frames) m.front
          (frames-append from plain 0 0 ps qs f.stream.frames t.frames f.stream.each t.each)
          (one_frame_of from plain 0 0 m.packet m.front m.frame);
      whole = whole_behind ∙ ap (λ (l : List ℕ). f.stream.frames ++ t.frames ++ l) m.whole
          ∙ sym (append_assoc (f.stream.frames ++ t.frames) m.front m.back);
    };
    go_out = All-append (CanGoOut to) ps qs f.go_out t.go_out;
    misfit = m.misfit;
    size = m.size;
  }

  halts_behind : (fault : RelayFault) → Shown from to fault left → Halts from to (ps ++ qs) fault text
  halts_behind faults.Early shown = shown
  halts_behind (faults.Start found) shown = shown
  halts_behind (faults.Frame fault) shown = record {
    faulty = record {
      frames = f.stream.frames ++ t.frames;
      rest = left;
      each = frames-append from plain 0 0 ps qs f.stream.frames t.frames f.stream.each t.each;
      shown = plain_shows from plain 0 (number_after (length (ps ++ qs))) fault left shown;
      whole = whole_behind;
    };
    go_out = All-append (CanGoOut to) ps qs f.go_out t.go_out;
  }
  halts_behind (faults.Length len) shown = misfit_behind len shown
  halts_behind faults.Memory shown = shown

-- ---- upwards

module _ (pieces : Pieces) (form : Form) (secret : List ℕ) (old new : Link) (story : Story) (piece before after : List ℕ) (fault : Option RelayFault)
    (keeps : KeepsLink form secret old story) (passed : PassesUp form old new piece before after fault) where
  abbrev its_form : Form
  its_form = form_in keeps.so_far.opens.pair

  abbrev packets : List (List ℕ)
  packets = passed.passed.packets

  abbrev later : Opens secret (story.client ++ piece)
  later = record {
    wire = keeps.so_far.opens.wire;
    rest = keeps.so_far.opens.rest ++ piece;
    size = keeps.so_far.opens.size;
    whole = ap (λ (l : List ℕ). l ++ piece) keeps.so_far.opens.whole ∙ append_assoc keeps.so_far.opens.wire keeps.so_far.opens.rest piece;
    pair = keeps.so_far.opens.pair;
    reads = keeps.so_far.opens.reads;
  }

  text_up : applied keeps.so_far.opens.pair.up (keeps.so_far.opens.rest ++ piece) ≡ applied keeps.so_far.opens.pair.up keeps.so_far.opens.rest ++ applied old.up piece
  text_up =
      applied-append pieces keeps.so_far.opens.pair.up keeps.so_far.opens.rest piece
      ∙ ap (λ (s : CtrState). applied keeps.so_far.opens.pair.up keeps.so_far.opens.rest ++ applied s piece) (sym keeps.up)

  takes_up : Takes its_form form packets (keeps.so_far.client.rest ++ applied old.up piece) new.client
  takes_up =
      subst (λ (g : Form). Takes g form packets (keeps.so_far.client.rest ++ applied old.up piece) new.client) keeps.inside
      (subst (λ (l : List ℕ). Takes old.form form packets (l ++ applied old.up piece) new.client) keeps.client passed.passed.takes)

  out_up : WentOut form keeps.so_far.opens.pair (keeps.so_far.up ++ packets) keeps.so_far.down (with_up piece (frames_of form packets) story)
  out_up = record {
    upwards = ap (λ (l : List ℕ). l ++ frames_of form packets) keeps.so_far.out.upwards
        ∙ append_assoc (start_of form) (frames_of form keeps.so_far.up) (frames_of form packets)
        ∙ ap (λ (l : List ℕ). start_of form ++ l) (sym (frames_of-append form keeps.so_far.up packets));
    downwards = keeps.so_far.out.downwards;
  }

  halts_up : (end : RelayFault) → Shown old.form form end new.client → ClientHalts form secret end (with_up piece (frames_of form packets) story)
  halts_up end shown = record {
    opens = later;
    up = keeps.so_far.up ++ packets;
    down = keeps.so_far.down;
    out = out_up;
    client = halts_behind its_form form (plain_tag keeps.so_far.opens.pair.tag) keeps.so_far.up packets
        (applied keeps.so_far.opens.pair.up keeps.so_far.opens.rest) (applied old.up piece) new.client
        (applied keeps.so_far.opens.pair.up (keeps.so_far.opens.rest ++ piece)) text_up keeps.so_far.client takes_up end
        (subst (λ (g : Form). Shown g form end new.client) keeps.inside shown);
    server = keeps.so_far.server;
  }

  goes_up : IsBegun (framing_of old.form) new.client → KeepsLink form secret new (with_up piece (frames_of form packets) story)
  goes_up begun =
      let begins : IsBegun (framing_of its_form) new.client = subst (λ (g : Form). IsBegun (framing_of g) new.client) keeps.inside begun in
      record {
        so_far = record {
          opens = later;
          up = keeps.so_far.up ++ packets;
          down = keeps.so_far.down;
          out = out_up;
          client = passes_more its_form form (plain_tag keeps.so_far.opens.pair.tag) keeps.so_far.up packets
              (applied keeps.so_far.opens.pair.up keeps.so_far.opens.rest) (applied old.up piece) new.client
              (applied keeps.so_far.opens.pair.up (keeps.so_far.opens.rest ++ piece)) text_up keeps.so_far.client takes_up begins;
          server = keeps.so_far.server;
        };
        inside = passed.same_form ∙ keeps.inside;
        up = passed.up ∙ ap (λ (s : CtrState). advanced s (length piece)) keeps.up
            ∙ advanced-add keeps.so_far.opens.pair.up (length keeps.so_far.opens.rest) (length piece)
            ∙ ap (λ (n : ℕ). advanced keeps.so_far.opens.pair.up n) (sym (length-append keeps.so_far.opens.rest piece));
        down = passed.down ∙ keeps.down;
        client = refl;
        server = passed.server ∙ keeps.server;
      }

pub up_goes : Pieces → (form : Form) (secret : List ℕ) (old new : Link) (story : Story) (piece before after : List ℕ)
    → KeepsLink form secret old story → PassesUp form old new piece before after None
    → Adds before after (λ (more : List ℕ). KeepsLink form secret new (with_up piece more story))
up_goes pieces form secret old new story piece before after keeps passed = record {
  more = frames_of form passed.passed.packets;
  appended = passed.passed.written;
  holds = goes_up pieces form secret old new story piece before after None keeps passed passed.passed.ends;
}

up_ends_with : Pieces → (form : Form) (secret : List ℕ) (old new : Link) (story : Story) (piece before after : List ℕ) (fault : RelayFault)
    (keeps : KeepsLink form secret old story) (passed : PassesUp form old new piece before after (Some fault))
    → UpEnds form secret fault (with_up piece (frames_of form passed.passed.packets) story)
up_ends_with pieces form secret old new story piece before after faults.Early keeps passed = passed.passed.ends
up_ends_with pieces form secret old new story piece before after (faults.Start found) keeps passed = absurd passed.passed.ends
up_ends_with pieces form secret old new story piece before after (faults.Frame fault) keeps passed =
    halts_up pieces form secret old new story piece before after (Some (faults.Frame fault)) keeps passed (faults.Frame fault) passed.passed.ends
up_ends_with pieces form secret old new story piece before after (faults.Length len) keeps passed =
    halts_up pieces form secret old new story piece before after (Some (faults.Length len)) keeps passed (faults.Length len) passed.passed.ends
up_ends_with pieces form secret old new story piece before after faults.Memory keeps passed = passed.passed.ends

pub up_ends : Pieces → (form : Form) (secret : List ℕ) (old new : Link) (story : Story) (piece before after : List ℕ) (fault : RelayFault)
    → KeepsLink form secret old story → PassesUp form old new piece before after (Some fault)
    → Adds before after (λ (more : List ℕ). UpEnds form secret fault (with_up piece more story))
up_ends pieces form secret old new story piece before after fault keeps passed = record {
  more = frames_of form passed.passed.packets;
  appended = passed.passed.written;
  holds = up_ends_with pieces form secret old new story piece before after fault keeps passed;
}

-- ---- downwards

module _ (pieces : Pieces) (form : Form) (plain : form ≢ Full) (secret : List ℕ) (old new : Link) (story : Story) (piece before after : List ℕ)
    (fault : Option RelayFault) (keeps : KeepsLink form secret old story) (passed : PassesDown form old new piece before after fault) where
  abbrev within : Form
  within = form_in keeps.so_far.opens.pair

  abbrev told : List (List ℕ)
  told = passed.packets

  abbrev more_down : List ℕ
  more_down = applied old.down (frames_of old.form told)

  takes_down : Takes form within told (keeps.so_far.server.rest ++ piece) new.server
  takes_down =
      subst (λ (g : Form). Takes form g told (keeps.so_far.server.rest ++ piece) new.server) keeps.inside
      (subst (λ (l : List ℕ). Takes form old.form told (l ++ piece) new.server) keeps.server passed.takes)

  length_so_far : length story.downwards ≡ length (frames_of within keeps.so_far.down)
  length_so_far = ap length keeps.so_far.out.downwards ∙ length-applied keeps.so_far.opens.pair.down (frames_of within keeps.so_far.down)

  text_down : story.downwards ++ more_down ≡ applied keeps.so_far.opens.pair.down (frames_of within (keeps.so_far.down ++ told))
  text_down =
      let pair : Pair = keeps.so_far.opens.pair in
      let so_far : List ℕ = frames_of within keeps.so_far.down in
      let stream : old.down ≡ advanced pair.down (length so_far) = keeps.down ∙ ap (λ (n : ℕ). advanced pair.down n) length_so_far in
      ap₂ (λ (l k : List ℕ). l ++ k) keeps.so_far.out.downwards
      (ap₂ (λ (s : CtrState) (g : Form). applied s (frames_of g told)) stream keeps.inside)
      ∙ sym (applied-append pieces pair.down so_far (frames_of within told))
      ∙ ap (λ (l : List ℕ). applied pair.down l) (sym (frames_of-append within keeps.so_far.down told))

  out_down : WentOut form keeps.so_far.opens.pair keeps.so_far.up (keeps.so_far.down ++ told) (with_down piece more_down story)
  out_down = record { upwards = keeps.so_far.out.upwards; downwards = text_down }

  halts_down : (end : RelayFault) → Shown form old.form end new.server → ServerHalts form secret end (with_down piece more_down story)
  halts_down end shown = record {
    opens = keeps.so_far.opens;
    up = keeps.so_far.up;
    down = keeps.so_far.down ++ told;
    out = out_down;
    client = keeps.so_far.client;
    server = halts_behind form within plain keeps.so_far.down told story.server piece new.server (story.server ++ piece) refl
        keeps.so_far.server takes_down end (subst (λ (g : Form). Shown form g end new.server) keeps.inside shown);
  }

  goes_down : IsBegun (framing_of form) new.server → KeepsLink form secret new (with_down piece more_down story)
  goes_down begun = record {
    so_far = record {
      opens = keeps.so_far.opens;
      up = keeps.so_far.up;
      down = keeps.so_far.down ++ told;
      out = out_down;
      client = keeps.so_far.client;
      server = passes_more form within plain keeps.so_far.down told story.server piece new.server (story.server ++ piece) refl
          keeps.so_far.server takes_down begun;
    };
    inside = passed.same_form ∙ keeps.inside;
    up = passed.up ∙ keeps.up;
    down =
        passed.down ∙ ap (λ (s : CtrState). advanced s (length (frames_of old.form told))) keeps.down
        ∙ advanced-add keeps.so_far.opens.pair.down (length story.downwards) (length (frames_of old.form told))
        ∙ ap (λ (n : ℕ). advanced keeps.so_far.opens.pair.down n)
        (ap (λ (n : ℕ). length story.downwards + n) (sym (length-applied old.down (frames_of old.form told))) ∙ sym (length-append story.downwards more_down));
    client = passed.client ∙ keeps.client;
    server = refl;
  }

pub down_goes : Pieces → (form : Form) → form ≢ Full → (secret : List ℕ) (old new : Link) (story : Story) (piece before after : List ℕ)
    → KeepsLink form secret old story → PassesDown form old new piece before after None
    → Adds before after (λ (more : List ℕ). KeepsLink form secret new (with_down piece more story))
down_goes pieces form plain secret old new story piece before after keeps passed = record {
  more = applied old.down (frames_of old.form passed.packets);
  appended = passed.written;
  holds = goes_down pieces form plain secret old new story piece before after None keeps passed passed.ends;
}

down_ends_with : Pieces → (form : Form) → form ≢ Full → (secret : List ℕ) (old new : Link) (story : Story) (piece before after : List ℕ) (fault : RelayFault)
    (keeps : KeepsLink form secret old story) (passed : PassesDown form old new piece before after (Some fault))
    → DownEnds form secret fault (with_down piece (applied old.down (frames_of old.form passed.packets)) story)
down_ends_with pieces form plain secret old new story piece before after faults.Early keeps passed = passed.ends
down_ends_with pieces form plain secret old new story piece before after (faults.Start found) keeps passed = passed.ends
down_ends_with pieces form plain secret old new story piece before after (faults.Frame fault) keeps passed =
    halts_down pieces form plain secret old new story piece before after (Some (faults.Frame fault)) keeps passed (faults.Frame fault) passed.ends
down_ends_with pieces form plain secret old new story piece before after (faults.Length len) keeps passed =
    halts_down pieces form plain secret old new story piece before after (Some (faults.Length len)) keeps passed (faults.Length len) passed.ends
down_ends_with pieces form plain secret old new story piece before after faults.Memory keeps passed = passed.ends

pub down_ends : Pieces → (form : Form) → form ≢ Full → (secret : List ℕ) (old new : Link) (story : Story) (piece before after : List ℕ) (fault : RelayFault)
    → KeepsLink form secret old story → PassesDown form old new piece before after (Some fault)
    → Adds before after (λ (more : List ℕ). DownEnds form secret fault (with_down piece more story))
down_ends pieces form plain secret old new story piece before after fault keeps passed = record {
  more = applied old.down (frames_of old.form passed.packets);
  appended = passed.written;
  holds = down_ends_with pieces form plain secret old new story piece before after fault keeps passed;
}

-- ---- the start

-- a link whose client's first bytes were read so, before anything behind them came
pub starts : (form : Form) (secret wire : List ℕ) (pair : Pair) (link : Link) → length wire ≡ 64 → Reads (Some secret) wire pair
    → link.form ≡ form_in pair → link.up ≡ pair.up → link.down ≡ pair.down → link.client ≡ [] → link.server ≡ []
    → KeepsLink form secret link (record { client = wire; server = []; upwards = start_of form; downwards = [] })
starts form secret wire pair link size reads named up down client server =
    let stands : CtrState → Type 0 = λ (t : CtrState). advanced t 0 ≡ t in
    record {
      so_far = record {
        opens = record { wire = wire; rest = []; size = size; whole = sym (append-nil wire); pair = pair; reads = reads };
        up = [];
        down = [];
        out = record { upwards = sym (append-nil (start_of form)); downwards = refl };
        client = record {
          rest = [];
          stream = record { frames = []; each = refl; begun = inl (lawful (form_in pair)).empty; whole = refl };
          go_out = all_none (CanGoOut form);
        };
        server = record {
          rest = [];
          stream = record { frames = []; each = refl; begun = inl (lawful form).empty; whole = refl };
          go_out = all_none (CanGoOut (form_in pair));
        };
      };
      inside = named;
      up = up ∙ sym (subst stands (sym reads.up) (up_stands (Some secret) wire));
      down = down ∙ sym (subst stands (sym reads.down) (down_stands (Some secret) wire));
      client = client;
      server = server;
    }
