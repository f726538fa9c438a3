use Rattle.http_core.proofs.status_page.page_text.Goals as goal

pub returns-in-Some : goal.returns-in-Some
returns-in-Some c = rw (c.in-Some.is, c.if-auto.true) (rw c.snapshot.ensures at c.page_auto.ensures)

pub returns-in-Some-2 : goal.returns-in-Some-2
returns-in-Some-2 c = rw (c.in-Some-2.is, c.if-auto.false) (rw c.snapshot-in-Some-2.ensures at c.page_html.ensures)
