use Rattle.std.proofs.Common.{◌≡◌, ◌++◌, not, sym, ap, subst, ◌∙◌}
use Rattle.std.specs.Prelude.{codes, option_and_then, slice_get}
use Rattle.std.proofs.lemmas.Result.{on_ok_weaker}
use Rattle.file_table.specs.declared.marks.Marks.{Marks}
use Rattle.http_core.specs.Reply.{head_line_of, told_second}
use Rattle.http_core.specs.ReplyInside.{IsTimeAdded}
use Rattle.http_core.proofs.WritingLemmas.{time_added}
use Rattle.http_core.proofs.writing.add_time.Goals as goal

pub returns : goal.returns
returns c =
    let head = c.args.head.now in
    let site = c.args.site.now in
    let now = c.args.now in
    let times = ap (λ (m : Marks). not m.times) (sym c.marks.ensures) ∙ c.if-not-marks.false in
    on_ok_weaker c.add_line.result
    (λ e. subst (λ file. IsTimeAdded (told_second site.marks now (option_and_then (λ place. slice_get site.files place) file)) head c.add_line.new.head) (sym c.in-Some.is)
    (time_added site.marks now c.last_change.result (slice_get site.files c.in-Some.file) c.date_at-date.result head c.add_line.new.head times c.last_change.ensures.second
    (c.date_at-date.ensures ∙ c.min.ensures) (e ∙ ap (λ text. head ++ head_line_of (codes "Last-Modified: " ++ text)) c.to_bytes.ensures)))
    c.add_line.ensures
