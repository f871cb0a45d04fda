-- Runs of which one move isn't lawful, and which break the law.
use Rattle.std.specs.Prelude.{ℕ, if◌then◌else◌, true, false, List, [], ◌∷◌, Some, None}
use Rattle.law_moves.specs.Table.{Message, call_at, same_call}
use Rattle.law_moves.specs.Table.State.{Queued}
use Rattle.law_moves.specs.Table.Item.{NewSession, Result, Notice, WrongSalt}
use Rattle.law_moves.specs.Table.Outcome.{AcceptedCall, AcceptedOther, Noticed}
use Rattle.law_moves.specs.World.{World, start}
use Rattle.law_moves.specs.Move.{Move}
use Rattle.law_moves.specs.Move.OwnAct.{NewClient, Renew, Submit, GiveUp}
use Rattle.law_moves.specs.Move.Part.{First, Again, Other, OtherAgain}
use Rattle.law_moves.specs.Move.Move.{Own, Send, Make, Draw, Judge, Forget, Answer, Speak, Hear, Lose}
use Rattle.law_moves.specs.After.{after}
use Rattle.law_moves.specs.Lawful.{IsLawful}
use Rattle.law_moves.specs.LawfulBut.{IsLawfulBut}
use Rattle.law_moves.specs.Reached.{AreLawful, after_all}
use Rattle.law_moves.specs.Once.{AtMostOne, Once, IsOfCall}
use Rattle.law_moves.specs.Safe.{OneTaker}
use Rattle.law_moves.specs.Witness.{question, reply, told_to, told, opened, asked, no_call_of, ran, replaced, lost}

-- lawful moves, one move that lacks the condition at one place, and lawful moves after it
pub record OddRun : Type 0 where
  pub before : List Move
  pub odd : Move
  pub lacks : ℕ
  pub rest : List Move

-- the world in which the odd move comes, and the one at the end
abbrev pub world_before : OddRun → World
world_before run = after_all start run.before

abbrev pub world_after : OddRun → World
world_after run = after_all (after (world_before run) run.odd) run.rest

-- all moves of the run but the odd one are lawful, the odd one lacks one condition alone, and at the end the law doesn't hold
abbrev pub BreaksLaw : (World → Type 0) → OddRun → Type 0
BreaksLaw Law run =
    AreLawful start run.before
    × IsLawfulBut run.lacks (world_before run) run.odd
    × (IsLawful (world_before run) run.odd → ⊥)
    × AreLawful (after (world_before run) run.odd) run.rest
    × (Law (world_after run) → ⊥)

abbrev pub Breaks : OddRun → Type 0
Breaks = BreaksLaw Once

-- the same of the law that one server session alone takes a name
abbrev pub BreaksOneTaker : OddRun → Type 0
BreaksOneTaker = BreaksLaw OneTaker

-- A client by itself

-- a client is made under a session number that another one has: a call that ran is queued, by a notice of a server session that it hasn't learnt
abbrev pub taken_session : OddRun
taken_session =
    record {
      before = opened [];
      odd = Own (NewClient 1 1);
      lacks = 2;
      rest =
          Own (Submit 1 question)
          ∷ Hear 1 (record { server = 11; items = NewSession 11 21 ∷ [] }) []
          ∷ Send 1 (First 0 4 ∷ [])
          ∷ Judge 11 (asked 21 4) (AcceptedCall question)
          ∷ Answer 11 4 question reply
          ∷ Lose 11
          ∷ Make 12 1
          ∷ Draw 12 22
          ∷ told 12 (NewSession 12 22 ∷ []) [] (
          Send 0 (Other 8 ∷ [])
          ∷ Judge 12 (record { session = 1; salt = 22; number = 8; call = None; known = 12 ∷ 11 ∷ [] }) AcceptedOther
          ∷ Judge 12 (asked 21 4) (Noticed 48)
          ∷ Speak 12 (WrongSalt 4 22 ∷ [])
          ∷ Hear 1 (record { server = 12; items = WrongSalt 4 22 ∷ [] }) (true ∷ [])
          ∷ []
          );
    }

-- the same of a client that renews
abbrev pub taken_by_renewal : OddRun
taken_by_renewal =
    record {
      before = opened (Own (NewClient 1 2) ∷ []);
      odd = Own (Renew 1 1);
      lacks = 2;
      rest = taken_session.rest;
    }

-- a client is made that was made already: an entry's session number is nobody's
abbrev pub made_again : OddRun
made_again = record { before = opened (ran []); odd = Own (NewClient 0 2); lacks = 0; rest = [] }

-- a call that was sent, and ran, is given up
abbrev pub given_up_sent : OddRun
given_up_sent = record { before = opened (ran []); odd = Own (GiveUp (call_at 0 0)); lacks = 0; rest = [] }

-- A client sends

-- a number is given to two calls: one entry is of both
abbrev pub given_again : OddRun
given_again =
    record {
      before = opened (Send 0 (First 0 4 ∷ []) ∷ Own (Submit 0 question) ∷ []);
      odd = Send 0 (First 1 4 ∷ []);
      lacks = 2;
      rest = Judge 11 (asked 21 4) (AcceptedCall question) ∷ Answer 11 4 question reply ∷ [];
    }

-- a call that was sent gets a new number: its replaced name ran
abbrev pub not_queued : OddRun
not_queued = record { before = opened (ran []); odd = Send 0 (First 0 8 ∷ []); lacks = 1; rest = [] }

-- a message that the client sends when it knows both server sessions, 11 and 12
abbrev pub known_to_both : ℕ → Message
known_to_both salt = record { session = 1; salt = salt; number = 4; call = Some question; known = 12 ∷ 11 ∷ [] }

-- a call is sent again that is queued: it runs
abbrev pub again_unsent : OddRun
again_unsent =
    record {
      before =
          opened (
          Send 0 (First 0 4 ∷ [])
          ∷ Judge 11 (asked 21 4) (Noticed 48)
          ∷ told 11 (NewSession 11 21 ∷ WrongSalt 4 21 ∷ []) [] (
          replaced (Draw 12 22 ∷ told 12 (NewSession 12 22 ∷ []) [] [])
          )
          );
      odd = Send 0 (Again 0 4 ∷ []);
      lacks = 1;
      rest = Judge 12 (known_to_both 22) (AcceptedCall question) ∷ Answer 12 4 question reply ∷ [];
    }

-- a call is sent again under a number that isn't its own: its entry is of no call
abbrev pub other_number : OddRun
other_number =
    record {
      before = opened (Send 0 (First 0 4 ∷ []) ∷ []);
      odd = Send 0 (Again 0 8 ∷ []);
      lacks = 2;
      rest = Judge 11 (asked 21 8) (AcceptedCall question) ∷ Answer 11 8 question reply ∷ [];
    }

-- what is no call gets the number of a call: a later server session can accept the number
abbrev pub old_number : OddRun
old_number = record { before = lost; odd = Send 0 (Other 4 ∷ []); lacks = 2; rest = [] }

-- the same of what is no call, and is sent again
abbrev pub number_of_a_call : OddRun
number_of_a_call = record { before = lost; odd = Send 0 (OtherAgain 4 ∷ []); lacks = 2; rest = [] }

-- A server session is made, and draws salts

-- a server session is made where one stands: a call that is sent under the salts of both runs twice
abbrev pub two_at_once : OddRun
two_at_once =
    record {
      before = opened [];
      odd = Make 12 1;
      lacks = 3;
      rest =
          Draw 12 22
          ∷ told 12 (NewSession 12 22 ∷ []) [] (
          Send 0 (First 0 4 ∷ [])
          ∷ Judge 12 (known_to_both 22) (AcceptedCall question)
          ∷ Answer 12 4 question reply
          ∷ told 11 (NewSession 11 21 ∷ []) [] (
          Send 0 (Other 8 ∷ [])
          ∷ Judge 11 (record { session = 1; salt = 22; number = 8; call = None; known = 12 ∷ 11 ∷ [] }) (Noticed 48)
          ∷ told 11 (NewSession 11 21 ∷ WrongSalt 8 21 ∷ []) (false ∷ true ∷ []) (
          Send 0 (Again 0 4 ∷ []) ∷ Judge 11 (known_to_both 21) (AcceptedCall question) ∷ Answer 11 4 question reply ∷ []
          )
          )
          );
    }

-- a server session has salt 0: a call that was sent by a client that has learnt nothing runs, and is queued
abbrev pub salt_of_zero : OddRun
salt_of_zero =
    record {
      before = Own (NewClient 0 1) ∷ Own (Submit 0 question) ∷ Make 11 1 ∷ [];
      odd = Draw 11 0;
      lacks = 1;
      rest =
          Send 0 (First 0 4 ∷ [])
          ∷ Judge 11 (record { session = 1; salt = 0; number = 4; call = Some question; known = [] }) (AcceptedCall question)
          ∷ Answer 11 4 question reply
          ∷ told 11 (NewSession 11 0 ∷ []) [] [];
    }

-- the client has a new salt, under which it has sent nothing yet, and a later server session draws it again: a call that ran runs once more
abbrev pub drawn_again : OddRun
drawn_again =
    record {
      before =
          opened (
          ran (
          Send 0 (Other 8 ∷ [])
          ∷ Judge 11 (no_call_of 21 8) (Noticed 48)
          ∷ Draw 11 22
          ∷ told 11 (WrongSalt 8 22 ∷ []) (true ∷ []) (replaced [])
          )
          );
      odd = Draw 12 22;
      lacks = 2;
      rest =
          Send 0 (Again 0 4 ∷ []) ∷ Judge 12 (asked 22 4) (AcceptedCall question) ∷ Answer 12 4 question reply ∷ [];
    }

-- A server session judges and forgets

-- a message that nobody sent is accepted: its entry is of no call
abbrev pub invented_message : OddRun
invented_message =
    record {
      before = opened [];
      odd = Judge 11 (asked 21 4) (AcceptedCall question);
      lacks = 1;
      rest = Answer 11 4 question reply ∷ [];
    }

-- a message of another session number is judged: a notice on a call comes from a server session that was lost before the call was sent
abbrev pub judged_elsewhere : OddRun
judged_elsewhere =
    record {
      before =
          opened (
          Send 0 (First 0 4 ∷ [])
          ∷ Own (NewClient 1 2)
          ∷ Own (Submit 1 question)
          ∷ Make 12 2
          ∷ Draw 12 22
          ∷ told_to 1 12 (NewSession 12 22 ∷ []) [] []
          );
      odd = Judge 12 (asked 21 4) (Noticed 48);
      lacks = 2;
      rest = Speak 12 (NewSession 12 22 ∷ WrongSalt 4 22 ∷ []) ∷ Lose 12 ∷ Send 1 (First 0 4 ∷ []) ∷ [];
    }

-- a message that was refused is judged again: a call that is queued runs
abbrev pub judged_again : OddRun
judged_again =
    record {
      before =
          opened (
          Send 0 (First 0 4 ∷ [])
          ∷ Judge 11 (asked 21 4) (Noticed 48)
          ∷ told 11 (NewSession 11 21 ∷ WrongSalt 4 21 ∷ []) [] []
          );
      odd = Judge 11 (asked 21 4) (AcceptedCall question);
      lacks = 3;
      rest = Answer 11 4 question reply ∷ [];
    }

-- what is accepted isn't what was sent
abbrev pub other_body : OddRun
other_body =
    record {
      before = opened (Send 0 (First 0 4 ∷ []) ∷ []);
      odd = Judge 11 (asked 21 4) (AcceptedCall []);
      lacks = 4;
      rest = Answer 11 4 [] reply ∷ [];
    }

-- a message is accepted under the salt of another server session: its call runs twice
abbrev pub foreign_salt : OddRun
foreign_salt =
    record {
      before = opened (ran (replaced (Draw 12 22 ∷ [])));
      odd = Judge 12 (asked 21 4) (AcceptedCall question);
      lacks = 5;
      rest = Answer 12 4 question reply ∷ [];
    }

-- notice 20 as an outcome: a call counts as forgotten, and nothing was
abbrev pub outcome_of_twenty : OddRun
outcome_of_twenty =
    record {
      before = opened (Send 0 (First 0 4 ∷ []) ∷ []);
      odd = Judge 11 (asked 21 4) (Noticed 20);
      lacks = 6;
      rest = told 11 (NewSession 11 21 ∷ Notice 4 20 ∷ []) [] [];
    }

-- A number is forgotten before it is given: the server session says so and is lost, and then the number is given. A notice on the name comes from
-- a server session that didn't stand when the name was first sent
abbrev pub early_forget : OddRun
early_forget =
    record {
      before = opened [];
      odd = Forget 11 4;
      lacks = 1;
      rest = Speak 11 (NewSession 11 21 ∷ Notice 4 20 ∷ []) ∷ Lose 11 ∷ Send 0 (First 0 4 ∷ []) ∷ [];
    }

-- A server session answers and speaks

-- what is run isn't what was sent
abbrev pub other_request : OddRun
other_request =
    record {
      before = opened (Send 0 (First 0 4 ∷ []) ∷ Judge 11 (asked 21 4) (AcceptedCall question) ∷ []);
      odd = Answer 11 4 [] reply;
      lacks = 1;
      rest = [];
    }

-- a call is answered again: it runs twice
abbrev pub answered_again : OddRun
answered_again = record { before = opened (ran []); odd = Answer 11 4 question reply; lacks = 2; rest = [] }

-- another unique number than its own: a call is unknown, and no server session was lost
abbrev pub names_another : OddRun
names_another =
    record {
      before = opened (ran []);
      odd = Speak 11 (NewSession 12 21 ∷ []);
      lacks = 1;
      rest = Hear 0 (record { server = 11; items = NewSession 12 21 ∷ [] }) [] ∷ [];
    }

-- a `new_session_created` has a salt that isn't the server session's own: it refuses the call for its salt, so the call is queued, and a later
-- one draws the salt and runs the call
abbrev pub foreign_first_salt : OddRun
foreign_first_salt =
    record {
      before = Own (NewClient 0 1) ∷ Own (Submit 0 question) ∷ Make 11 1 ∷ Draw 11 21 ∷ [];
      odd = Speak 11 (NewSession 11 22 ∷ []);
      lacks = 2;
      rest =
          Hear 0 (record { server = 11; items = NewSession 11 22 ∷ [] }) []
          ∷ Send 0 (First 0 4 ∷ [])
          ∷ Judge 11 (asked 22 4) (Noticed 48)
          ∷ told 11 (NewSession 11 21 ∷ WrongSalt 4 21 ∷ []) (false ∷ true ∷ []) (
          replaced (Draw 12 22 ∷ Judge 12 (asked 22 4) (AcceptedCall question) ∷ Answer 12 4 question reply ∷ [])
          );
    }

-- a result that is no entry's reply: a call is done that never ran
abbrev pub invented_result : OddRun
invented_result =
    record {
      before = opened (Send 0 (First 0 4 ∷ []) ∷ []);
      odd = Speak 11 (NewSession 11 21 ∷ Result 4 reply ∷ []);
      lacks = 3;
      rest = Hear 0 (record { server = 11; items = NewSession 11 21 ∷ Result 4 reply ∷ [] }) [] ∷ [];
    }

-- a result for a number that wasn't given yet: the call that gets it is done, and never ran
abbrev pub early_result : OddRun
early_result =
    record {
      before = opened [];
      odd = Speak 11 (NewSession 11 21 ∷ Result 4 reply ∷ []);
      lacks = 3;
      rest = Send 0 (First 0 4 ∷ []) ∷ Hear 0 (record { server = 11; items = NewSession 11 21 ∷ Result 4 reply ∷ [] }) [] ∷ [];
    }

-- a notice that is no outcome: a call that ran is queued
abbrev pub invented_notice : OddRun
invented_notice =
    record {
      before = opened (ran []);
      odd = Speak 11 (Notice 4 16 ∷ []);
      lacks = 4;
      rest = Hear 0 (record { server = 11; items = Notice 4 16 ∷ [] }) [] ∷ [];
    }

-- the same by a wrong salt
abbrev pub invented_wrong_salt : OddRun
invented_wrong_salt =
    record {
      before = opened (ran []);
      odd = Speak 11 (WrongSalt 4 21 ∷ []);
      lacks = 5;
      rest = Hear 0 (record { server = 11; items = WrongSalt 4 21 ∷ [] }) (true ∷ []) ∷ [];
    }

-- a wrong salt's new salt isn't the server session's own: a later one draws it, and a call that ran runs once more
abbrev pub foreign_new_salt : OddRun
foreign_new_salt =
    record {
      before = opened (ran (Send 0 (Other 8 ∷ []) ∷ Judge 11 (no_call_of 21 8) (Noticed 48) ∷ []));
      odd = Speak 11 (WrongSalt 8 22 ∷ []);
      lacks = 6;
      rest =
          Hear 0 (record { server = 11; items = WrongSalt 8 22 ∷ [] }) (true ∷ [])
          ∷ replaced (
          Draw 12 22 ∷ Send 0 (Again 0 4 ∷ []) ∷ Judge 12 (asked 22 4) (AcceptedCall question) ∷ Answer 12 4 question reply ∷ []
          );
    }

-- a server session that has accepted nothing doesn't begin its packet with `new_session_created`: a call that ran is queued
abbrev pub silent : OddRun
silent =
    record {
      before = opened (ran (replaced (Draw 12 22 ∷ Judge 12 (asked 21 4) (Noticed 48) ∷ [])));
      odd = Speak 12 (WrongSalt 4 22 ∷ []);
      lacks = 7;
      rest = Hear 0 (record { server = 12; items = WrongSalt 4 22 ∷ [] }) (true ∷ []) ∷ [];
    }

-- A client hears

-- a packet that nobody made: a call is done that never ran
abbrev pub invented_packet : OddRun
invented_packet =
    record {
      before = opened (Send 0 (First 0 4 ∷ []) ∷ []);
      odd = Hear 0 (record { server = 11; items = Result 4 reply ∷ [] }) [];
      lacks = 0;
      rest = [];
    }

-- a packet of another session number: the call of another client that has the same number is done, and never ran
abbrev pub foreign_packet : OddRun
foreign_packet =
    record {
      before =
          opened (
          ran (
          Own (NewClient 1 2) ∷ Own (Submit 1 question) ∷ Send 1 (First 0 4 ∷ []) ∷ Speak 11 (Result 4 reply ∷ []) ∷ []
          )
          );
      odd = Hear 1 (record { server = 11; items = Result 4 reply ∷ [] }) [];
      lacks = 1;
      rest = [];
    }

-- A call that is queued again

-- the world in which a client, told of a second server session, queues its call again in place of calling it unknown
abbrev pub requeued : World
requeued =
    let w : World = after_all start lost in
    record w {
      calls = λ call. record (w.calls call) { state = if same_call call (call_at 0 0) then Queued else (w.calls call).state };
    }

-- the call gets a new number, and runs at the second server session
abbrev pub rerun : List Move
rerun =
    Send 0 (First 0 8 ∷ [])
    ∷ Judge 12 (record { session = 1; salt = 22; number = 8; call = Some question; known = 12 ∷ 11 ∷ [] }) (AcceptedCall question)
    ∷ Answer 12 8 question reply
    ∷ []

-- all of that is lawful but for the queueing, and the call runs twice
abbrev pub RunsTwice : Type 0
RunsTwice =
    AreLawful requeued rerun
    × (AtMostOne (IsOfCall (after_all requeued rerun) (call_at 0 0)) (after_all requeued rerun).entries → ⊥)
