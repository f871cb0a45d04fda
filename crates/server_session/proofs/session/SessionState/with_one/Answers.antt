use Rattle.std.proofs.Common.{◌∙◌, length, sym, ap, arith}
use Rattle.std.specs.Prelude.{◌||◌}
use Rattle.std.specs.Option.{option_copied}
use Rattle.server_session.proofs.UnsaidLemmas.{bytes-few, called-found, called-none, count-few}
use Rattle.server_session.proofs.session.SessionState.with_one.Goals as goal

pub returns-then-not-is_in_order : goal.returns-then-not-is_in_order
returns-then-not-is_in_order c = λ which test found once is.
    let replies = c.args.self.now.outbox.replies in
    let count = count-few (λ kept. test kept || which kept) replies in
    let bytes = bytes-few (λ kept. test kept || which kept) replies in
    record {
      count = omega (arith, count, c.len-count.ensures.value);
      bytes = omega (arith, bytes, c.bytes-bytes.ensures.value);
      few = c.len-count.ensures.few;
      short = c.bytes-bytes.ensures.few;
    }

pub returns-in-Some : goal.returns-in-Some
returns-in-Some c = λ which test found once is.
    let replies = c.args.self.now.outbox.replies in
    let kept = c.in-Some.kept.now in
    let has = found ∙ ap option_copied c.in-Some.is in
    let passes = once (c.is_in_order.ensures c.if-not-is_in_order.false) in
    let count = called-found test which (λ kept. 1) replies kept c.args.called.count passes has is.count in
    let bytes = called-found test which (λ kept. length kept.body) replies kept c.args.called.bytes passes has is.bytes in
    let all_count = count-few (λ kept. test kept || which kept) replies in
    let all_bytes = bytes-few (λ kept. test kept || which kept) replies in
    record {
      count = omega arith;
      bytes = omega arith;
      few = omega (arith, c.len-count.ensures.few);
      short = omega (arith, c.bytes-bytes.ensures.few);
    }

pub returns-in-None : goal.returns-in-None
returns-in-None c = λ which test found once is.
    let replies = c.args.self.now.outbox.replies in
    let none = found ∙ ap option_copied c.in-None.is in
    record {
      count = called-none test which (λ kept. 1) replies c.args.called.count none is.count;
      bytes = called-none test which (λ kept. length kept.body) replies c.args.called.bytes none is.bytes;
      few = is.few;
      short = is.short;
    }
