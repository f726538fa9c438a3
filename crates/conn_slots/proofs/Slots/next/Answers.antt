use Rattle.std.proofs.Common.{ℕ, Option, refl, sym, subst}
use Rattle.std.proofs.lemmas.Bool.{false≢true}
use Rattle.conn_slots.specs.TableInside.{IsTable}
use Rattle.conn_slots.proofs.EntryLemmas.{name_at, next_at}
use Rattle.conn_slots.proofs.LiveLemmas.{head_within}
use Rattle.conn_slots.proofs.VacantLemmas.{head_read, no_head, some_head}
use Rattle.conn_slots.proofs.Slots.next.Goals as goal

pub index-requires : goal.index-requires
index-requires g c =
    let es = c.self.inside.entries.items in
    let table = subst (λ (h : Option ℕ). IsTable es h c.self.inside.free) c.in-Some.is c.self.invariant in
    rw c.self.inside.entries.ok.0 (head_within {T = g.row.T.Denot} es c.in-Some.slot c.self.inside.free table)

pub next_life-requires : goal.next_life-requires
next_life-requires g c =
    let es = c.self.inside.entries.items in
    let table = subst (λ (h : Option ℕ). IsTable es h c.self.inside.free) c.in-Some.is c.self.invariant in
    (head_read {T = g.row.T.Denot} es c.in-Some.slot c.self.inside.free c.index.result.now table c.index.ensures).2

pub returns-in-Some-clause-name : goal.returns-in-Some-clause-name
returns-in-Some-clause-name g c =
    let es = c.self.inside.entries.items in
    let table = subst (λ (h : Option ℕ). IsTable es h c.self.inside.free) c.in-Some.is c.self.invariant in
    let read = head_read {T = g.row.T.Denot} es c.in-Some.slot c.self.inside.free c.index.result.now table c.index.ensures in
    rw (← c.self.view_is, c.in-Some.is, c.next_life.ensures) (sym (name_at es c.in-Some.slot c.index.result.now read.1))

pub returns-in-Some-clause-next : goal.returns-in-Some-clause-next
returns-in-Some-clause-next g c =
    let es = c.self.inside.entries.items in
    let table = subst (λ (h : Option ℕ). IsTable es h c.self.inside.free) c.in-Some.is c.self.invariant in
    let read = head_read {T = g.row.T.Denot} es c.in-Some.slot c.self.inside.free c.index.result.now table c.index.ensures in
    rw (← c.self.view_is, c.next_life.ensures) (next_at es c.in-Some.slot c.index.result.now read.1 read.2)

pub returns-in-Some-clause-full : goal.returns-in-Some-clause-full
returns-in-Some-clause-full g c =
    let es = c.self.inside.entries.items in
    let table = subst (λ (h : Option ℕ). IsTable es h c.self.inside.free) c.in-Some.is c.self.invariant in
    (λ some. absurd (false≢true (sym some)), λ none. absurd (some_head {T = g.row.T.Denot} es c.in-Some.slot c.self.inside.free table (rw (← c.self.view_is) at none)))

pub returns-in-None-clause-name : goal.returns-in-None-clause-name
returns-in-None-clause-name g c = rw (← c.self.view_is, c.in-None.is) refl

pub returns-in-None-clause-full : goal.returns-in-None-clause-full
returns-in-None-clause-full g c =
    let es = c.self.inside.entries.items in
    let table = subst (λ (h : Option ℕ). IsTable es h c.self.inside.free) c.in-None.is c.self.invariant in
    (λ _. rw (← c.self.view_is) (no_head {T = g.row.T.Denot} es c.self.inside.free table), λ _. refl)
