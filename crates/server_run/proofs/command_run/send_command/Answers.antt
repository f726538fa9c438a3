use Rattle.std.proofs.Common.{◌≡◌, ℕ, List, [], true, false, None, inl, inr, refl, ap, sym, subst, ◌∙◌, arith}
use Rattle.mpm_base.specs.Front.{Dials}
use Rattle.mpm_config.specs.Config.{Configuration}
use Rattle.server_run.proofs.ConfigLemmas.{config-refused, config-unread, ends-uncontrolled, has-dialled}
use Rattle.server_run.proofs.FormLemmas.{ends-answered, send-unconfigured, send-unroomed}
use Rattle.server_run.proofs.InvocationLemmas.{send-config}
use Rattle.server_run.specs.EndsInside.{ShowsAnswer}
use Rattle.server_run.proofs.command_run.send_command.Goals as goal

pub returns-in-Err-clause-ends : goal.returns-in-Err-clause-ends
returns-in-Err-clause-ends g c words command =
    let refused = c.refuse_config_of.ensures in
    let status = c.refuse_config_of.result.status in
    send-unconfigured _ status refused.known
    (λ one. config-refused _ c.args.name.now c.read_bytes-answer.result c.in-Err.why status (send-config words c.args.command c.args.name.now command)
    c.read_bytes-answer.ensures c.in-Err.ensures (refused.refused (inl one)) one)
    (λ three. config-unread _ c.args.name.now c.read_bytes-answer.result c.in-Err.why status (send-config words c.args.command c.args.name.now command)
    c.read_bytes-answer.ensures c.in-Err.ensures (refused.refused (inr three)) three)
    refused.silent (g.F.Front.seen c.args.front.now)

pub returns-in_default-clause-ends : goal.returns-in_default-clause-ends
returns-in_default-clause-ends g c words command =
    let refused = c.refuse_uncontrolled.ensures in
    record {
      known = elim refused.known [ inl ten ↦ inr (inr (inr (inr (inr (inr (inl ten)))))) | inr six ↦ inr (inr (inr (inr (inr (inl six))))) ];
      front = inl refl;
      sent = λ zero. absurd (omega (arith, refused.known, zero));
      misconfigured = λ one. absurd (omega (arith, refused.known, one));
      unread = λ three. absurd (omega (arith, refused.known, three));
      undialled = λ four. absurd (omega (arith, refused.known, four));
      unwritten = λ five. absurd (omega (arith, refused.known, five));
      silent = refused.silent;
      uncontrolled =
          λ ten. ends-uncontrolled _ c.args.command c.args.name.now c.read_bytes-answer.result (c.in-Ok.config, c.in-Ok.field-0-1) command c.read_bytes-answer.ensures
          c.in-Ok.ensures (sym (ap (λ (x : Configuration). x.control) c.config.view_is) ∙ c.in_default.is) (refused.refused ten);
      restart_refused = λ twelve. absurd (omega (arith, refused.known, twelve));
    }

pub returns-then-dial-clause-ends : goal.returns-then-dial-clause-ends
returns-then-dial-clause-ends g c words command =
    let dialled =
    has-dialled _ c.args.command c.args.name.now c.in-Some.port c.read_bytes-answer.result (c.in-Ok.config, c.in-Ok.field-0-1) (g.F.Front.seen c.args.front.now)
    (g.F.Front.seen c.dial.new.self) c.spelling.result.now true c.dial.new.answer command c.read_bytes-answer.ensures c.in-Ok.ensures
    (sym (ap (λ (x : Configuration). x.control) c.config.view_is) ∙ c.in-Some.is) c.unopened.ensures.shown c.spelling.ensures c.if-dial.ensures.dials in
    rw c.unopened.ensures.status (ends-answered _ (g.F.Front.seen c.args.front.now) (g.F.Front.seen c.dial.new.self) c.dial.new.answer c.show_answer.result dialled
    (subst (λ (text : List ℕ). ShowsAnswer (g.K.Sink.seen c.args.out.now) (g.K.Sink.seen c.show_answer.new.out) text c.show_answer.result) c.as_slice.ensures c.show_answer.ensures))

pub returns-clause-ends : goal.returns-clause-ends
returns-clause-ends g c words command =
    let refused = c.refuse_front.ensures in
    let shows : c.refuse_front.result.shown ≡ None =
    elim refused.known [
      | inl four ↦ (refused.refused four).shows
      | inr six ↦ (refused.silent six).1
    ] in
    let dialled =
    has-dialled _ c.args.command c.args.name.now c.in-Some.port c.read_bytes-answer.result (c.in-Ok.config, c.in-Ok.field-0-1) (g.F.Front.seen c.args.front.now)
    (g.F.Front.seen c.dial.new.self) c.spelling.result.now false [] command c.read_bytes-answer.ensures c.in-Ok.ensures
    (sym (ap (λ (x : Configuration). x.control) c.config.view_is) ∙ c.in-Some.is) shows c.spelling.ensures
    (subst (λ (l : List ℕ). Dials (g.F.Front.seen c.args.front.now) (g.F.Front.seen c.dial.new.self) c.in-Some.port c.spelling.result.now false l)
    (c.if-dial.ensures.dials.none refl) c.if-dial.ensures.dials) in
    record {
      known = elim refused.known [ inl four ↦ inr (inr (inr (inl four))) | inr six ↦ inr (inr (inr (inr (inr (inl six))))) ];
      front = inr (inr (record { status_is = refused.known; failed = inr dialled }));
      sent = λ zero. absurd (omega (arith, refused.known, zero));
      misconfigured = λ one. absurd (omega (arith, refused.known, one));
      unread = λ three. absurd (omega (arith, refused.known, three));
      undialled = λ four. record { dialled = dialled; text = (refused.refused four).writes };
      unwritten = λ five. absurd (omega (arith, refused.known, five));
      silent = refused.silent;
      uncontrolled = λ ten. absurd (omega (arith, refused.known, ten));
      restart_refused = λ twelve. absurd (omega (arith, refused.known, twelve));
    }

pub returns-then-is_err-clause-ends : goal.returns-then-is_err-clause-ends
returns-then-is_err-clause-ends g c words command = send-unroomed _ _ c.no_memory.ensures.status (refl, c.no_memory.ensures.shown) (g.F.Front.seen c.args.front.now)
