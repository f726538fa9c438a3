use Rattle.std.proofs.Common.{inl, inr, arith}
use Rattle.server_run.proofs.ConfigLemmas.{config-refused, config-unread, ends-test-unwritten, ends-tested}
use Rattle.server_run.proofs.FormLemmas.{test-unconfigured}
use Rattle.server_run.proofs.InvocationLemmas.{test-config}
use Rattle.server_run.proofs.config_test.test_config.Goals as goal

pub returns-in-Ok : goal.returns-in-Ok
returns-in-Ok g c words command =
    let known = c.pass.ensures.known in
    record {
      known = elim known [ inl zero ↦ inl zero | inr other ↦ elim other [ inl five ↦ inr (inr (inr (inl five))) | inr six ↦ inr (inr (inr (inr six))) ] ];
      tested =
          λ zero. ends-tested _ c.args.name.now c.read_bytes-answer.result (c.in-Ok.field-0-0, c.in-Ok.told) command c.read_bytes-answer.ensures c.in-Ok.ensures
          c.pass.ensures.shown (c.pass.ensures.written zero);
      misconfigured = λ one. absurd (omega (arith, known, one));
      unread = λ three. absurd (omega (arith, known, three));
      unwritten =
          λ five. ends-test-unwritten _ c.args.name.now c.read_bytes-answer.result (c.in-Ok.field-0-0, c.in-Ok.told) command c.read_bytes-answer.ensures c.in-Ok.ensures
          c.pass.ensures.shown (c.pass.ensures.unwritten five);
      silent = c.pass.ensures.silent;
    }

pub returns : goal.returns
returns g c words command =
    let refused = c.refuse_config_of.ensures in
    let status = c.refuse_config_of.result.status in
    test-unconfigured _ status refused.known
    (λ one. config-refused _ c.args.name.now c.read_bytes-answer.result c.in-Err.why status (test-config words c.args.name.now command)
    c.read_bytes-answer.ensures c.in-Err.ensures (refused.refused (inl one)) one)
    (λ three. config-unread _ c.args.name.now c.read_bytes-answer.result c.in-Err.why status (test-config words c.args.name.now command)
    c.read_bytes-answer.ensures c.in-Err.ensures (refused.refused (inr three)) three)
    refused.silent
