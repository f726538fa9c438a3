use Rattle.std.proofs.Common.{◌-◌, length, drop, sym, ap, ◌∙◌, subst}
use Rattle.http_read.specs.declared.body.BodyPlace.TheVariants.{Chunked}
use Rattle.http_read.specs.BodyAnswers.{BodyGoesOn}
use Rattle.http_read.specs.ChunkStepsInside.{outcome_of}
use Rattle.http_read.proofs.FeedLemmas.{on_goes, done_ends, bad_breaks}
use Rattle.http_read.proofs.CutLemmas.{ends_again, breaks_again}
use Rattle.http_read.proofs.body.BodyReader.feed.Goals as goal

pub returns-in-On-default-clause-body : goal.returns-in-On-default-clause-body
returns-in-On-default-clause-body c = λ of past stands.
    let bytes = c.args.bytes.now in
    let q = c.in-On-default.place in
    let rest = drop c.read_chunked.result.1 bytes in
    subst (λ n. BodyGoesOn of past bytes (length bytes - n) (Chunked q)) (sym c.begun.ensures)
    (on_goes c.args.self.now c.in-Chunked.from (sym c.self.view_is ∙ c.in-Chunked.is) past bytes of q stands
    (c.read_chunked.ensures.runs ∙ ap (λ m. outcome_of m rest) c.in-On-default.is-0)
    (rw c.in-On-default.is-0 at c.read_chunked.ensures.begun))

pub returns-in-Done-default-clause-body : goal.returns-in-Done-default-clause-body
returns-in-Done-default-clause-body c = λ of past stands.
    let bytes = c.args.bytes.now in
    let rest = drop c.read_chunked.result.1 bytes in
    done_ends c.args.self.now c.in-Chunked.from (sym c.self.view_is ∙ c.in-Chunked.is) past bytes of c.read_chunked.result.1 stands
    (c.read_chunked.ensures.runs ∙ ap (λ m. outcome_of m rest) c.in-Done-default.is-0)
    c.requires c.read_chunked.ensures.within

pub returns-in-Bad-default-clause-body : goal.returns-in-Bad-default-clause-body
returns-in-Bad-default-clause-body c = λ of past stands.
    let bytes = c.args.bytes.now in
    let rest = drop c.read_chunked.result.1 bytes in
    bad_breaks c.args.self.now c.in-Chunked.from (sym c.self.view_is ∙ c.in-Chunked.is) past bytes of c.in-Bad-default.code stands
    (c.read_chunked.ensures.runs ∙ ap (λ m. outcome_of m rest) c.in-Bad-default.is-0)

pub returns-in-Ended-clause-body : goal.returns-in-Ended-clause-body
returns-in-Ended-clause-body c = λ of past stands.
    ends_again c.args.self.now (sym c.self.view_is ∙ c.in-Ended.is) of past c.args.bytes.now stands

pub returns-in-Broken-clause-body : goal.returns-in-Broken-clause-body
returns-in-Broken-clause-body c = λ of past stands.
    breaks_again c.args.self.now c.in-Broken.code (sym c.self.view_is ∙ c.in-Broken.is) of past c.args.bytes.now stands
