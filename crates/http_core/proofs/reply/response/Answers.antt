use Rattle.std.proofs.Common.{ap, ◌∙◌, if◌then◌else◌}
use Rattle.http_core.specs.declared.reply.Body.TheVariants as body
use Rattle.http_core.proofs.reply.response.Goals as goal

pub returns : goal.returns
returns c =
    let written = c.in_ok-write_head.ensures in
    record {
      date = c.date_at-date.result;
      second = c.date_at-date.ensures;
      changed = written.changed;
      is_changed = written.is_changed;
      head = written.added;
      body = c.sent_body-body.ensures ∙ ap (λ b. if c.args.plan.now.only_head then body.Nothing else b) c.in_ok-body.ensures;
    }
