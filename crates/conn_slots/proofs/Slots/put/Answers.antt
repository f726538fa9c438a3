use Rattle.std.proofs.Common.{ℕ, Option, arith, refl, subst}
use Rattle.std.proofs.lemmas.Bool.{false≢true}
use Rattle.std.proofs.lemmas.List.{map-set}
use Rattle.conn_slots.specs.TableInside.{IsTable}
use Rattle.conn_slots.proofs.LawLemmas.{next_never_live}
use Rattle.conn_slots.proofs.LiveLemmas.{head_within, head_counts}
use Rattle.conn_slots.proofs.MapLemmas.{put_updates}
use Rattle.conn_slots.proofs.EntryLemmas.{name_at, next_at}
use Rattle.conn_slots.proofs.VacantLemmas.{head_read, table_fill, no_head, some_head}
use Rattle.conn_slots.proofs.Slots.put.Goals as goal

pub index_mut-requires : goal.index_mut-requires
index_mut-requires g c =
    let es = c.self.inside.entries.items in
    let table = subst (λ (h : Option ℕ). IsTable es h c.self.inside.free) c.in-Some.is c.self.invariant in
    omega (arith, (head_read {T = g.row.T.Denot} es c.in-Some.slot c.self.inside.free c.index.result.now table c.index.ensures).0)

pub fill-life-requires : goal.fill-life-requires
fill-life-requires g c =
    let es = c.self.inside.entries.items in
    let table = subst (λ (h : Option ℕ). IsTable es h c.self.inside.free) c.in-Some.is c.self.invariant in
    (head_read {T = g.row.T.Denot} es c.in-Some.slot c.self.inside.free c.index_mut.result.now table c.index_mut.ensures.value).2

pub invariant_of-self : goal.invariant_of-self
invariant_of-self g c =
    let es = c.self.inside.entries.items in
    let table = subst (λ (h : Option ℕ). IsTable es h c.self.inside.free) c.in-Some.is c.self.invariant in
    table_fill {T = g.row.T.Denot} es c.in-Some.slot c.self.inside.free c.index.result.now c.fill-life.new.self table c.index.ensures
    (rw c.fill-life.ensures.filled (omega arith, λ _. omega arith)) (rw c.fill-life.ensures.filled refl)

pub returns-clause-name : goal.returns-clause-name
returns-clause-name g c =
    let es = c.self.inside.entries.items in
    let table = subst (λ (h : Option ℕ). IsTable es h c.self.inside.free) c.in-Some.is c.self.invariant in
    let read = head_read {T = g.row.T.Denot} es c.in-Some.slot c.self.inside.free c.index_mut.result.now table c.index_mut.ensures.value in
    rw (← c.self.view_is, c.in-Some.is, c.fill-life.ensures.life) (name_at es c.in-Some.slot c.index_mut.result.now read.1)

pub returns-clause-next : goal.returns-clause-next
returns-clause-next g c =
    let es = c.self.inside.entries.items in
    let table = subst (λ (h : Option ℕ). IsTable es h c.self.inside.free) c.in-Some.is c.self.invariant in
    let read = head_read {T = g.row.T.Denot} es c.in-Some.slot c.self.inside.free c.index_mut.result.now table c.index_mut.ensures.value in
    rw (← c.self.view_is, c.fill-life.ensures.life) (next_at es c.in-Some.slot c.index_mut.result.now read.1 read.2)

pub returns-clause-stored : goal.returns-clause-stored
returns-clause-stored g c = rw (map-set, c.fill-life.ensures.filled, c.fill-life.ensures.life, ← c.self.view_is) refl

pub returns-clause-never_before : goal.returns-clause-never_before
returns-clause-never_before g c = next_never_live _ _ (returns-clause-next g c)

pub returns-clause-updates : goal.returns-clause-updates
returns-clause-updates g c = rw (returns-clause-stored g c) (put_updates _ _ _ (returns-clause-next g c))

pub returns-in_default-clause-full : goal.returns-in_default-clause-full
returns-in_default-clause-full g c =
    let es = c.self.inside.entries.items in
    let table = subst (λ (h : Option ℕ). IsTable es h c.self.inside.free) c.in_default.is c.self.invariant in
    (λ _. rw (← c.self.view_is) (no_head {T = g.row.T.Denot} es c.self.inside.free table), λ _. refl)

pub index-requires : goal.index-requires
index-requires g c =
    let es = c.self.inside.entries.items in
    let table = subst (λ (h : Option ℕ). IsTable es h c.self.inside.free) c.in-Some.is c.self.invariant in
    rw c.self.inside.entries.ok.0 (head_within {T = g.row.T.Denot} es c.in-Some.slot c.self.inside.free table)

pub overflow_sub-self : goal.overflow_sub-self
overflow_sub-self g c =
    let es = c.self.inside.entries.items in
    let table = subst (λ (h : Option ℕ). IsTable es h c.self.inside.free) c.in-Some.is c.self.invariant in
    head_counts {T = g.row.T.Denot} es c.in-Some.slot c.self.inside.free table

pub returns-clause-full : goal.returns-clause-full
returns-clause-full g c =
    let es = c.self.inside.entries.items in
    let table = subst (λ (h : Option ℕ). IsTable es h c.self.inside.free) c.in-Some.is c.self.invariant in
    (λ full. absurd (false≢true full), λ none. absurd (some_head {T = g.row.T.Denot} es c.in-Some.slot c.self.inside.free table (rw (← c.self.view_is) at none)))
