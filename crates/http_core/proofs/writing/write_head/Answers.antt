use Rattle.std.proofs.Common.{◌≡◌, ◌++◌, ap, subst, ◌∙◌}
use Rattle.std.proofs.lemmas.Result.{on_ok_weaker}
use Rattle.httpdate.specs.Date.{date_text}
use Rattle.http_core.specs.Reply.{allow_line, connection_line, end_lines, file_lines, file_of, first_lines, location_line, range_line, type_line}
use Rattle.http_core.specs.ReplyInside.{AreMarksAdded}
use Rattle.http_core.specs.Served.{code_of}
use Rattle.http_core.proofs.WritingLemmas.{one_more}
use Rattle.http_core.proofs.writing.write_head.Goals as goal

pub returns : goal.returns
returns c =
    let head = c.args.head.now in
    let plan = c.args.plan.now in
    let site = c.args.site.now in
    let note = c.args.note.now in
    let served = plan.served in
    let date = date_text c.args.date.now in
    let marks : AreMarksAdded site served (file_of site served) note.date c.add_range.new.head c.add_marks.new.head =
    subst (λ file. AreMarksAdded site served file note.date c.add_range.new.head c.add_marks.new.head) c.file_of-file.ensures.is c.in_ok-add_marks.ensures in
    let first = first_lines (code_of served) date in
    let second = first ++ connection_line note.last plan.minor in
    let third = second ++ allow_line served in
    let fourth = third ++ location_line served in
    let fifth = fourth ++ range_line served in
    let marked = file_lines site.marks (file_of site served) served marks.changed in
    let sixth = fifth ++ marked in
    let seventh = sixth ++ type_line site served in
    let coded = ap (λ n. c.reserve.new.self ++ first_lines n date) c.code.ensures in
    let lines = c.in_ok-add_first_lines.ensures ∙ (coded ∙ ap (λ t. t ++ first) c.reserve.ensures) in
    let connection = one_more head first _ _ _ lines c.in_ok-add_connection.ensures in
    let allow = one_more head second _ _ _ connection c.in_ok-add_allow.ensures in
    let location = one_more head third _ _ _ allow c.in_ok-add_location.ensures in
    let range = one_more head fourth _ _ _ location c.in_ok-add_range.ensures in
    let told = one_more head fifth marked _ _ range marks.added in
    let kind = one_more head sixth _ _ _ told c.in_ok-add_type.ensures in
    on_ok_weaker c.add_end.result
    (λ e. record {
      changed = marks.changed;
      is_changed = marks.is_changed;
      added = one_more head seventh _ _ _ kind (e ∙ ap (λ n. c.add_type.new.head ++ end_lines served n) c.requires.size);
    }) c.add_end.ensures
