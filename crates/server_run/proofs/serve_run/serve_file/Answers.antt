use Rattle.std.proofs.Common.{IfSome, ◌∙◌, ap, inl, inr, subst, arith}
use Rattle.mpm_base.specs.Store.{StoreSeen}
use Rattle.file_table.specs.Site.{SeenSite}
use Rattle.run_opening.proofs.ConfigLemmas.{had-accepted, has-accepted}
use Rattle.listener.proofs.CountedEndLemmas.{asks-none}
use Rattle.server_run.proofs.ConfigLemmas.{config-refused, config-unread}
use Rattle.server_run.proofs.InvocationLemmas.{serve-config}
use Rattle.server_run.proofs.ServeLemmas.{ServedBy, asked-only, clock-unserved, folder-refused, folder-unread, is-ready, leaves-front, serves, unbound, unserved}
use Rattle.server_run.proofs.serve_run.serve_file.Goals as goal

pub returns-in-Err-clause-ends : goal.returns-in-Err-clause-ends
returns-in-Err-clause-ends g c words command =
    let refused = c.refuse_config_of.ensures in
    let status = c.refuse_config_of.result.status in
    unserved _ (g.F.Front.seen c.args.front.now) (g.C.Clock.told c.args.clock.now) status c.refuse_config_of.result.left refused.left
    (elim refused.known [ inl one ↦ inl one | inr other ↦ elim other [ inl three ↦ inr (inl three) | inr six ↦ inr (inr (inl six)) ] ])
    (λ one. config-refused _ c.args.name.now c.read_bytes-answer.result c.in-Err.why status (serve-config words c.args.name.now command)
    c.read_bytes-answer.ensures c.in-Err.ensures (refused.refused (inl one)) one)
    (λ three. config-unread _ c.args.name.now c.read_bytes-answer.result c.in-Err.why status (serve-config words c.args.name.now command)
    c.read_bytes-answer.ensures c.in-Err.ensures (refused.refused (inr three)) three)
    refused.silent (λ nine. absurd (omega (arith, refused.known, nine)))

pub returns-in-Err-load_site-clause-ends : goal.returns-in-Err-load_site-clause-ends
returns-in-Err-load_site-clause-ends g c words command =
    let read = g.D.Store.seen c.read_bytes-answer.new.self in
    let leaves = c.in-Err-load_site.ensures.leaves in
    let refused = c.refuse_folder.ensures in
    let status = c.refuse_folder.result.status in
    let accepted = has-accepted _ read c.args.name.now c.read_bytes-answer.result c.in-Ok.read c.read_bytes-answer.ensures leaves.told c.in-Ok.ensures in
    unserved _ (g.F.Front.seen c.args.front.now) (g.C.Clock.told c.args.clock.now) status c.refuse_folder.result.left refused.left
    (elim refused.known [ inl three ↦ inr (inl three) | inr other ↦ elim other [ inl nine ↦ inr (inr (inr nine)) | inr six ↦ inr (inr (inl six)) ] ])
    (λ one. absurd (omega (arith, refused.known, one)))
    (λ three. folder-unread _ read c.args.name.now c.in-Ok.read.0 c.in-Err-load_site.fault c.read_bytes-answer.result status command
    accepted c.read_bytes-answer.ensures leaves (refused.refused (inl three)) three)
    refused.silent
    (λ nine. folder-refused _ read c.args.name.now c.in-Ok.read.0 c.in-Err-load_site.fault c.read_bytes-answer.result status command
    accepted c.read_bytes-answer.ensures leaves c.in-Err-load_site.ensures.site (refused.refused (inr nine)) nine)

pub returns-clause-ends : goal.returns-clause-ends
returns-clause-ends g c words command =
    let old = g.D.Store.seen c.args.store.now in
    let read = g.D.Store.seen c.read_bytes-answer.new.self in
    let asked = g.D.Store.seen c.load_site.new.store in
    let loaded = c.in-Ok-load_site.ensures in
    let ended = c.serve_edition.ensures in
    let status = c.serve_edition.result.status in
    let front = g.F.Front.seen c.args.front.now in
    let front' = g.F.Front.seen c.serve_edition.new.front in
    let had = had-accepted _ read c.args.name.now c.read_bytes-answer.result c.in-Ok.read c.read_bytes-answer.ensures c.in-Ok.ensures in
    let ready = is-ready _ read c.args.name.now c.in-Ok.read.0 c.in-Ok-load_site.site command had c.read_bytes-answer.ensures.told_stays loaded.limits loaded.site in
    record {
      known = inl ended.known;
      server =
          serves c.serve_edition.result.left _ c.args.name.now c.in-Ok.read.0 c.in-Ok-load_site.site asked front front'
          (g.C.Clock.told c.serve_edition.new.clock) status ready
          (asked-only old read asked c.args.name.now c.read_bytes-answer.result c.in-Ok-load_site.site c.read_bytes-answer.ensures loaded.leaves) ended.shown
          (subst (λ (site : SeenSite). IfSome c.serve_edition.result.left (ServedBy (record { name = c.args.name.now; config = c.in-Ok.read.0; site = site; store = asked; front = front }) (g.D.Store.seen c.serve_edition.new.store) front' (g.C.Clock.told c.serve_edition.new.clock) (g.K.Sink.seen c.args.out.now) (g.K.Sink.seen c.serve_edition.new.out) status)) c.in-Ok-new.ensures.ok ended.run);
      opened = ended.opened;
      unopened = λ none. record {
        front =
            leaves-front _ c.args.name.now c.in-Ok.read.0 c.in-Ok-load_site.site front front' status ready
            (ap (λ (s : StoreSeen). s.told) (ended.store none) ∙ loaded.leaves.told ∙ c.read_bytes-answer.ensures.told_stays) (ended.front none);
        clock = ended.clock none;
      };
      misconfigured = λ one. absurd (omega (arith, ended.known, one));
      unread = λ three. absurd (omega (arith, ended.known, three));
      front_failed =
          λ four. unbound c.serve_edition.result.left _ c.args.name.now c.in-Ok.read.0 c.in-Ok-load_site.site front front' ready
          (λ none. ap (λ (s : StoreSeen). s.told) (ended.store none) ∙ loaded.leaves.told ∙ c.read_bytes-answer.ensures.told_stays) (ended.unbound four);
      silent = ended.silent;
      site_refused = λ nine. absurd (omega (arith, ended.known, nine));
    }

pub returns-in-Err-clause-clocked : goal.returns-in-Err-clause-clocked
returns-in-Err-clause-clocked g c =
    clock-unserved c.refuse_config_of.result.left (g.C.Clock.greatest c.args.clock.now) c.refuse_config_of.ensures.left

pub returns-in-Err-load_site-clause-clocked : goal.returns-in-Err-load_site-clause-clocked
returns-in-Err-load_site-clause-clocked g c =
    clock-unserved c.refuse_folder.result.left (g.C.Clock.greatest c.args.clock.now) c.refuse_folder.ensures.left

pub returns-in-Err-clause-asked : goal.returns-in-Err-clause-asked
returns-in-Err-clause-asked g c = asks-none (g.F.Front.seen c.args.front.now).counts.wakes (g.C.Clock.asked c.args.clock.now)

pub returns-in-Err-load_site-clause-asked : goal.returns-in-Err-load_site-clause-asked
returns-in-Err-load_site-clause-asked g c = asks-none (g.F.Front.seen c.args.front.now).counts.wakes (g.C.Clock.asked c.args.clock.now)
