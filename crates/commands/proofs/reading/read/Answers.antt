use Rattle.std.proofs.Common.{◌≡◌, ◌∙◌, ap, sym, rules, codes, string_bytes, Some}
use Rattle.commands.proofs.Lawful.{pair_lawful, serve_lawful}
use Rattle.commands.proofs.Numbers.{passed_on}
use Rattle.commands.proofs.Sayings.{begins, asked, refused-sim, refused-load, refused-serve, refused-call, refused-pair, refused-check, refused-relay, refused-help}
use Rattle.commands.proofs.reading.read.Goals as goal

pub returns-in-Some-page_of-clause-said : goal.returns-in-Some-page_of-clause-said
returns-in-Some-page_of-clause-said c = record {
  first = begins string_bytes c.args.words.now c.in-Some.first.now c.in-Some.ensures.value ∙ ap Some (sym c.as_str.ensures.value ∙ c.in-Some-page_of.ensures.found);
  means = sym (asked string_bytes c.args.words.now _ c.asks_help.ensures) ∙ c.if-asks_help.true;
}

pub returns-in-None-clause-refused : goal.returns-in-None-clause-refused
returns-in-None-clause-refused c = λ _. refused-help _ _
    (begins string_bytes c.args.words.now c.in-Some.first.now c.in-Some.ensures.value)
    (sym (asked string_bytes c.args.words.now _ c.asks_help.ensures) ∙ c.if-asks_help.true)
    (λ page e. c.in-None.ensures.none page (c.as_str.ensures.value ∙ e))

pub returns-in_err-told_sim-in-sim-clause-refused : goal.returns-in_err-told_sim-in-sim-clause-refused
returns-in_err-told_sim-in-sim-clause-refused c =
    let word : c.as_str-2.result.now ≡ codes "sim" = search rules in
    passed_on c.from_residual.result _ _ c.from_residual.ensures.1 (λ fault. refused-sim _
    (begins string_bytes c.args.words.now c.in-Some.first.now c.in-Some.ensures.value ∙ ap Some (sym c.as_str-2.ensures.value ∙ word))
    (sym (asked string_bytes c.args.words.now _ c.asks_help.ensures) ∙ c.if-asks_help.false)
    (c.in_err-told_sim-in-sim.ensures.refused fault))

pub returns-in_ok-told_sim-in-sim-clause-said : goal.returns-in_ok-told_sim-in-sim-clause-said
returns-in_ok-told_sim-in-sim-clause-said c =
    let word : c.as_str-2.result.now ≡ codes "sim" = search rules in
    let told = c.in_ok-told_sim-in-sim.ensures.found in
    record {
      first = begins string_bytes c.args.words.now c.in-Some.first.now c.in-Some.ensures.value ∙ ap Some (sym c.as_str-2.ensures.value ∙ word);
      means = (
        record {
          plain = sym (asked string_bytes c.args.words.now _ c.asks_help.ensures) ∙ c.if-asks_help.false;
          taken = told.taken;
        },
        told.tells,
      );
    }

pub returns-in_err-told_load-in-load-clause-refused : goal.returns-in_err-told_load-in-load-clause-refused
returns-in_err-told_load-in-load-clause-refused c =
    let word : c.as_str-2.result.now ≡ codes "load" = search rules in
    passed_on c.from_residual-in_err-told_load-in-load.result _ _ c.from_residual-in_err-told_load-in-load.ensures.1 (λ fault. refused-load _
    (begins string_bytes c.args.words.now c.in-Some.first.now c.in-Some.ensures.value ∙ ap Some (sym c.as_str-2.ensures.value ∙ word))
    (sym (asked string_bytes c.args.words.now _ c.asks_help.ensures) ∙ c.if-asks_help.false)
    (c.in_err-told_load-in-load.ensures.refused fault))

pub returns-in_ok-told_load-in-load-clause-said : goal.returns-in_ok-told_load-in-load-clause-said
returns-in_ok-told_load-in-load-clause-said c =
    let word : c.as_str-2.result.now ≡ codes "load" = search rules in
    let told = c.in_ok-told_load-in-load.ensures.found in
    record {
      first = begins string_bytes c.args.words.now c.in-Some.first.now c.in-Some.ensures.value ∙ ap Some (sym c.as_str-2.ensures.value ∙ word);
      means = (
        record {
          plain = sym (asked string_bytes c.args.words.now _ c.asks_help.ensures) ∙ c.if-asks_help.false;
          taken = told.taken;
        },
        told.tells,
      );
    }

pub returns-in_err-told_serve-in-serve-clause-refused : goal.returns-in_err-told_serve-in-serve-clause-refused
returns-in_err-told_serve-in-serve-clause-refused c =
    let word : c.as_str-2.result.now ≡ codes "serve" = search rules in
    passed_on c.from_residual-in_err-told_serve-in-serve.result _ _ c.from_residual-in_err-told_serve-in-serve.ensures.1 (λ fault. refused-serve _
    (begins string_bytes c.args.words.now c.in-Some.first.now c.in-Some.ensures.value ∙ ap Some (sym c.as_str-2.ensures.value ∙ word))
    (sym (asked string_bytes c.args.words.now _ c.asks_help.ensures) ∙ c.if-asks_help.false)
    (c.in_err-told_serve-in-serve.ensures.refused fault))

pub returns-in_ok-told_serve-in-serve-clause-said : goal.returns-in_ok-told_serve-in-serve-clause-said
returns-in_ok-told_serve-in-serve-clause-said c =
    let word : c.as_str-2.result.now ≡ codes "serve" = search rules in
    let told = c.in_ok-told_serve-in-serve.ensures.found in
    record {
      first = begins string_bytes c.args.words.now c.in-Some.first.now c.in-Some.ensures.value ∙ ap Some (sym c.as_str-2.ensures.value ∙ word);
      means = (
        record {
          plain = sym (asked string_bytes c.args.words.now _ c.asks_help.ensures) ∙ c.if-asks_help.false;
          taken = told.taken;
        },
        told.tells,
      );
    }

pub returns-in_err-told_call-in-call-clause-refused : goal.returns-in_err-told_call-in-call-clause-refused
returns-in_err-told_call-in-call-clause-refused c =
    let word : c.as_str-2.result.now ≡ codes "call" = search rules in
    passed_on c.from_residual-in_err-told_call-in-call.result _ _ c.from_residual-in_err-told_call-in-call.ensures.1 (λ fault. refused-call _
    (begins string_bytes c.args.words.now c.in-Some.first.now c.in-Some.ensures.value ∙ ap Some (sym c.as_str-2.ensures.value ∙ word))
    (sym (asked string_bytes c.args.words.now _ c.asks_help.ensures) ∙ c.if-asks_help.false)
    (c.in_err-told_call-in-call.ensures.refused fault))

pub returns-in_ok-told_call-in-call-clause-said : goal.returns-in_ok-told_call-in-call-clause-said
returns-in_ok-told_call-in-call-clause-said c =
    let word : c.as_str-2.result.now ≡ codes "call" = search rules in
    let told = c.in_ok-told_call-in-call.ensures.found in
    record {
      first = begins string_bytes c.args.words.now c.in-Some.first.now c.in-Some.ensures.value ∙ ap Some (sym c.as_str-2.ensures.value ∙ word);
      means = (
        record {
          plain = sym (asked string_bytes c.args.words.now _ c.asks_help.ensures) ∙ c.if-asks_help.false;
          taken = told.taken;
        },
        told.tells,
      );
    }

pub returns-in_err-told_pair-in-pair-clause-refused : goal.returns-in_err-told_pair-in-pair-clause-refused
returns-in_err-told_pair-in-pair-clause-refused c =
    let word : c.as_str-2.result.now ≡ codes "pair" = search rules in
    passed_on c.from_residual-in_err-told_pair-in-pair.result _ _ c.from_residual-in_err-told_pair-in-pair.ensures.1 (λ fault. refused-pair _
    (begins string_bytes c.args.words.now c.in-Some.first.now c.in-Some.ensures.value ∙ ap Some (sym c.as_str-2.ensures.value ∙ word))
    (sym (asked string_bytes c.args.words.now _ c.asks_help.ensures) ∙ c.if-asks_help.false)
    (c.in_err-told_pair-in-pair.ensures.refused fault))

pub returns-in_ok-told_pair-in-pair-clause-said : goal.returns-in_ok-told_pair-in-pair-clause-said
returns-in_ok-told_pair-in-pair-clause-said c =
    let word : c.as_str-2.result.now ≡ codes "pair" = search rules in
    let told = c.in_ok-told_pair-in-pair.ensures.found in
    record {
      first = begins string_bytes c.args.words.now c.in-Some.first.now c.in-Some.ensures.value ∙ ap Some (sym c.as_str-2.ensures.value ∙ word);
      means = (
        record {
          plain = sym (asked string_bytes c.args.words.now _ c.asks_help.ensures) ∙ c.if-asks_help.false;
          taken = told.taken;
        },
        told.tells,
      );
    }

pub returns-in_err-told_check-in-check-clause-refused : goal.returns-in_err-told_check-in-check-clause-refused
returns-in_err-told_check-in-check-clause-refused c =
    let word : c.as_str-2.result.now ≡ codes "check" = search rules in
    passed_on c.from_residual-in_err-told_check-in-check.result _ _ c.from_residual-in_err-told_check-in-check.ensures.1 (λ fault. refused-check _
    (begins string_bytes c.args.words.now c.in-Some.first.now c.in-Some.ensures.value ∙ ap Some (sym c.as_str-2.ensures.value ∙ word))
    (sym (asked string_bytes c.args.words.now _ c.asks_help.ensures) ∙ c.if-asks_help.false)
    (c.in_err-told_check-in-check.ensures.refused fault))

pub returns-in_ok-told_check-in-check-clause-said : goal.returns-in_ok-told_check-in-check-clause-said
returns-in_ok-told_check-in-check-clause-said c =
    let word : c.as_str-2.result.now ≡ codes "check" = search rules in
    let told = c.in_ok-told_check-in-check.ensures.found in
    record {
      first = begins string_bytes c.args.words.now c.in-Some.first.now c.in-Some.ensures.value ∙ ap Some (sym c.as_str-2.ensures.value ∙ word);
      means = record {
        plain = sym (asked string_bytes c.args.words.now _ c.asks_help.ensures) ∙ c.if-asks_help.false;
        taken = told.taken;
      };
    }

pub returns-in_err-told_relay-in-relay-clause-refused : goal.returns-in_err-told_relay-in-relay-clause-refused
returns-in_err-told_relay-in-relay-clause-refused c =
    let word : c.as_str-2.result.now ≡ codes "relay" = search rules in
    passed_on c.from_residual-in_err-told_relay-in-relay.result _ _ c.from_residual-in_err-told_relay-in-relay.ensures.1 (λ fault. refused-relay _
    (begins string_bytes c.args.words.now c.in-Some.first.now c.in-Some.ensures.value ∙ ap Some (sym c.as_str-2.ensures.value ∙ word))
    (sym (asked string_bytes c.args.words.now _ c.asks_help.ensures) ∙ c.if-asks_help.false)
    (c.in_err-told_relay-in-relay.ensures.refused fault))

pub returns-in_ok-told_relay-in-relay-clause-said : goal.returns-in_ok-told_relay-in-relay-clause-said
returns-in_ok-told_relay-in-relay-clause-said c =
    let word : c.as_str-2.result.now ≡ codes "relay" = search rules in
    let told = c.in_ok-told_relay-in-relay.ensures.found in
    record {
      first = begins string_bytes c.args.words.now c.in-Some.first.now c.in-Some.ensures.value ∙ ap Some (sym c.as_str-2.ensures.value ∙ word);
      means = (
        record {
          plain = sym (asked string_bytes c.args.words.now _ c.asks_help.ensures) ∙ c.if-asks_help.false;
          taken = told.taken;
        },
        told.tells,
      );
    }

-- ---- what any words say

pub returns-in_ok-told_serve-in-serve-clause-lawful : goal.returns-in_ok-told_serve-in-serve-clause-lawful
returns-in_ok-told_serve-in-serve-clause-lawful c = serve_lawful _ _ c.in_ok-told_serve-in-serve.ensures.found.tells

pub returns-in_ok-told_call-in-call-clause-lawful : goal.returns-in_ok-told_call-in-call-clause-lawful
returns-in_ok-told_call-in-call-clause-lawful c = c.in_ok-told_call-in-call.ensures.found.tells.lawful

pub returns-in_ok-told_pair-in-pair-clause-lawful : goal.returns-in_ok-told_pair-in-pair-clause-lawful
returns-in_ok-told_pair-in-pair-clause-lawful c = pair_lawful _ _ c.in_ok-told_pair-in-pair.ensures.found.tells

pub returns-in_ok-told_relay-in-relay-clause-lawful : goal.returns-in_ok-told_relay-in-relay-clause-lawful
returns-in_ok-told_relay-in-relay-clause-lawful c = c.in_ok-told_relay-in-relay.ensures.found.tells.lawful
