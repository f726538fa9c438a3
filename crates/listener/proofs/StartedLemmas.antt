-- A server that has just opened.
use Rattle.std.proofs.Common.{◌≡◌, ◌<◌, inl, inr, ℕ, Bool, true, not, List, [], ◌∷◌, ◌++◌, length, map, take, Option, None, Some, option_map, IfSome, refl, sym, ap, subst, ◌∙◌, arith}
use Rattle.std.proofs.lemmas.List.{length-replicate}
use Rattle.mpm_base.specs.Clock.{asked_at}
use Rattle.mpm_base.specs.Front.{Binds, BoundTold, DialTold, FrontSeen, FrontTold, WaitTold, after_bind, moments_of}
use Rattle.listener.specs.Unused.{IsUnused}
use Rattle.mpm_base.specs.declared.addr.Addr.{Addr}
use Rattle.conn_machine.specs.Made.{IsOpened}
use Rattle.conn_machine.specs.States.{is_serving}
use Rattle.conn_machine.specs.declared.state.State.{State}
use Rattle.conn_machine.specs.Children.{no_child}
use Rattle.conn_machine.specs.declared.event.Entry.{Entry}
use Rattle.conn_state.specs.Answered.{SeenEnded}
use Rattle.board_book.specs.Book.{SeenBook}
use Rattle.listener_round.specs.Commands.{HeedsLines, NoneStops}
use Rattle.listener_round.specs.FirstNumbersInside.{AreNumbers, opened_book}
use Rattle.listener_round.specs.Links.{EndsLinks, TakesLinks}
use Rattle.listener_round.specs.FrontInside.{Follows, HasNoneToHeed, IsInStep, WatchesAll}
use Rattle.listener.specs.ListenInside.{HasNotBegun, HasStopped, IsAtStart, contacts, contacts_of}
use Rattle.listener_round.specs.Clients.{clients_told}
use Rattle.listener.specs.Outside.{KeepsFront}
use Rattle.listener.specs.Patient.{HasNothingCome}
use Rattle.board_book.specs.Timely.{AreTimely}
use Rattle.listener.specs.StartedFirst.{IsStartedFirst}
use Rattle.listener.specs.Stops.{TakesEach}
use Rattle.listener.specs.Tells.{AllReceive}
use Rattle.listener_round.specs.Times.{IsInTime, waits_of}
use Rattle.listener_round.specs.Watched.{IsBoundOnce, IsHushed, IsOpenedAndHushed}
use Rattle.listener_round.specs.declared.run_numbers.RunNumbers.{RunNumbers}
use Rattle.run_report.proofs.CountLemmas.{rises-behind}

-- nothing was asked of the front but to be bound, and nothing of the clock
pub record IsIdle (told : Option FrontTold) (calls : Option (List (ℕ × ℕ))) : Type 0 where
  pub front : IfSome told (λ t. IsUnused (record t { bound = [] }))
  pub calls_are : IfSome calls (λ calls. calls ≡ [])

-- a board that opens by the numbers opens as a server does
pub opens : (n : RunNumbers) (b : SeenBook) → AreNumbers n → b ≡ opened_book n → IsOpened b.base
opens n b numbers opened =
    subst (λ (s : SeenBook). IsOpened s.base) (sym opened)
    (record { slots = n.slots; children = n.children; shape = n.shape; bounds = numbers.in_bounds; state = refl })

-- nothing was asked of it, and nothing came of it
pub unused-opened : (told : Option FrontTold) (calls : Option (List (ℕ × ℕ))) → IsIdle told calls → IfSome told HasNotBegun
unused-opened None calls idle = tt
unused-opened (Some t) calls idle = record {
  waits = idle.front.waits;
  watches = idle.front.watches;
  accepted = idle.front.accepted;
  read = idle.front.read;
  answers = idle.front.answers;
  hushed = idle.front.hushed;
}

-- the clock is in time with the front
pub time-opened : (told : Option FrontTold) (calls : Option (List (ℕ × ℕ))) → IsIdle told calls → IsInTime (waits_of told) calls
time-opened None calls starting = tt
time-opened (Some t) None starting = tt
time-opened (Some t) (Some calls) starting =
    subst (λ (waits : List WaitTold). map asked_at calls ≡ moments_of waits) (sym starting.front.waits) (ap (map asked_at) starting.calls_are)

-- and the table in step with it
pub step-opened : (n : RunNumbers) (told : Option FrontTold) (calls : Option (List (ℕ × ℕ))) (b : SeenBook) → b ≡ opened_book n → IsIdle told calls
    → IsInStep told b.state
step-opened n None calls b opened starting = tt
step-opened n (Some t) calls b opened starting = record {
  listens = starting.front.hushed ∙ sym (ap (λ (x : SeenBook). not (is_serving x.state.going)) opened);
  taken = record { accepted = starting.front.accepted ∙ sym (ap (λ (x : SeenBook). x.state.accepted) opened); none = starting.front.turned_away };
}

-- ## A front that was bound

unused-bound : (listen : Addr) (control : Option ℕ) (told told' : Option FrontTold) → told' ≡ option_map (after_bind true listen control) told
    → IfSome told IsUnused → IfSome told' (λ t. IsUnused (record t { bound = [] }))
unused-bound listen control None told' is unused = subst (λ (o : Option FrontTold). IfSome o (λ t. IsUnused (record t { bound = [] }))) (sym is) tt
unused-bound listen control (Some t) told' is unused =
    subst (λ (o : Option FrontTold). IfSome o (λ t. IsUnused (record t { bound = [] }))) (sym is)
    (record {
      accepted = unused.accepted;
      watches = unused.watches;
      turned_away = unused.turned_away;
      read = unused.read;
      answers = unused.answers;
      bound = refl;
      dialled = unused.dialled;
      hushed = unused.hushed;
      waits = unused.waits;
    })

-- the bind succeeded
pub binds-true : (n : RunNumbers) (old here new : FrontSeen) (answer : Bool) → here ≡ old → answer ≡ true → Binds here new n.listen n.control answer
    → Binds old new n.listen n.control true
binds-true n old here new answer same is binds =
    subst (λ (f : FrontSeen). Binds f new n.listen n.control true) same
    (subst (λ (b : Bool). Binds here new n.listen n.control b) is binds)

-- nothing else was asked of it
pub idle-bound : (n : RunNumbers) (old new : FrontSeen) (calls : Option (List (ℕ × ℕ))) → Binds old new n.listen n.control true
    → IfSome old.told IsUnused → IfSome calls (λ calls. calls ≡ []) → IsIdle new.told calls
idle-bound n old new calls binds unused unasked = record {
  front = unused-bound n.listen n.control old.told new.told binds.told_is unused;
  calls_are = unasked;
}

-- it was bound once, and dialled nothing
abbrev IsContacted : RunNumbers → FrontTold → Type 0
IsContacted n t = IsBoundOnce n t × (t.dialled ≡ [])

bound-to : (n : RunNumbers) (told told' : Option FrontTold) → told' ≡ option_map (after_bind true n.listen n.control) told → IfSome told IsUnused
    → IfSome told' (IsContacted n)
bound-to n None told' is unused = subst (λ (o : Option FrontTold). IfSome o (IsContacted n)) (sym is) tt
bound-to n (Some t) told' is unused =
    subst (λ (o : Option FrontTold). IfSome o (IsContacted n)) (sym is)
    (ap (λ (bound : List BoundTold). bound ++ record { listen = n.listen; control = n.control } ∷ []) unused.bound, unused.dialled)

still-bound : (n : RunNumbers) (told told' : Option FrontTold) → contacts_of told' ≡ contacts_of told → IfSome told (IsContacted n)
    → IfSome told' IsHushed → IfSome told' (IsOpenedAndHushed n)
still-bound n told None same contacted hushed = tt
still-bound n None (Some t') same contacted hushed = absurd (cc same)
still-bound n (Some t) (Some t') same contacted hushed =
    let both : contacts t' ≡ contacts t = cc same in
    record {
      bound = ap (λ (c : List BoundTold × List DialTold). c.0) both ∙ contacted.0;
      hushed = hushed;
      dialled = ap (λ (c : List BoundTold × List DialTold). c.1) both ∙ contacted.1;
    }

-- and then takes no further connection
pub opened-hushed : (n : RunNumbers) (old bound new : FrontSeen) → Binds old bound n.listen n.control true
    → IfSome old.told IsUnused → contacts_of new.told ≡ contacts_of bound.told → IfSome new.told IsHushed → IfSome new.told (IsOpenedAndHushed n)
opened-hushed n old bound new binds unused same hushed =
    still-bound n bound.told new.told same (bound-to n old.told bound.told binds.told_is unused) hushed

-- why the server stopped, as it was before the front was bound
pub stopped-before : (old bound new : FrontSeen) (s : State) → Follows old bound → HasStopped bound new s → HasStopped old new s
stopped-before old bound new s follows stopped = record {
  down = stopped.down;
  cause =
      elim stopped.cause [
        | inl ended ↦ inl (record {
          going = ended.going;
          all =
              record {
                answered = rises-behind old.counts.ends bound.counts.ends new.counts.ends follows.ends ended.all.answered;
                taken = ended.all.taken;
              };
        })
        | inr (inl asked) ↦ inr (inl (record {
          going = asked.going;
          gave = rises-behind old.counts.words.stop bound.counts.words.stop new.counts.words.stop follows.stops asked.gave;
        }))
        | inr (inr (inl failed)) ↦ inr (inr (inl (record {
          going = failed.going;
          failed = rises-behind old.counts.faults bound.counts.faults new.counts.faults follows.faults failed.failed;
          last = failed.last;
        })))
        | inr (inr (inr rest)) ↦ inr (inr (inr rest))
      ];
}

-- ## Patience

come-bound : (listen : Addr) (control : Option ℕ) (told told' : Option FrontTold) → told' ≡ option_map (after_bind true listen control) told
    → IfSome told HasNothingCome → IfSome told' HasNothingCome
come-bound listen control None told' is none = subst (λ (o : Option FrontTold). IfSome o HasNothingCome) (sym is) tt
come-bound listen control (Some t) told' is none =
    subst (λ (o : Option FrontTold). IfSome o HasNothingCome) (sym is) (record { arrived = none.arrived; lines = none.lines; stands = none.stands })

-- nothing has come of it where it was bound
pub nothing-bound : (n : RunNumbers) (old new : FrontSeen) → Binds old new n.listen n.control true → IfSome old.told HasNothingCome
    → IfSome new.told HasNothingCome
nothing-bound n old new binds none = come-bound n.listen n.control old.told new.told binds.told_is none

-- so nothing was done, and no time has passed
pub starts-opened : (n : RunNumbers) (told : Option FrontTold) (calls : Option (List (ℕ × ℕ))) (b : SeenBook) → b ≡ opened_book n → IsIdle told calls
    → IfSome told HasNothingCome → IsAtStart told b
starts-opened n None calls b opened idle none = record {
  none = tt;
  first = tt;
  moment = ap (λ (x : SeenBook). x.state.moment) opened;
  history = ap (λ (x : SeenBook). x.history) opened;
  read = tt;
}
starts-opened n (Some t) calls b opened idle none = record {
  none = idle.front.accepted ∙ sym none.arrived;
  first = none.stands;
  moment = ap (λ (x : SeenBook). x.state.moment) opened;
  history = ap (λ (x : SeenBook). x.history) opened;
  read = idle.front.read ∙ sym (ap length none.lines);
}

-- of no lines none stops the server
none-first : (lines : List (List ℕ)) → NoneStops (take 0 lines)
none-first [] = tt
none-first (line ∷ lines) = tt

-- no command line was read
pub heeded-opened : (told : Option FrontTold) (calls : Option (List (ℕ × ℕ))) → IsIdle told calls → IfSome told HasNoneToHeed
heeded-opened None calls idle = tt
heeded-opened (Some t) calls idle =
    let read = idle.front.read in
    record {
      none = subst NoneStops (sym (ap (λ (n : ℕ). take n t.lines) read)) (none-first t.lines);
      came = omega (arith, read);
    }

-- nothing was made
pub timely-opened : (n : RunNumbers) (b : SeenBook) → b ≡ opened_book n → AreTimely b.base b.history
timely-opened n b opened = subst (λ (x : SeenBook). AreTimely x.base x.history) (sym opened) tt

-- there are children
pub children-opened : (n : RunNumbers) (b : SeenBook) → AreNumbers n → b ≡ opened_book n → 0 < length b.state.children
children-opened n b numbers opened =
    omega (arith, numbers.some_children, ap (λ (x : SeenBook). length x.state.children) opened, length-replicate n.children no_child)

-- ## What a run did with its front

-- all together, where the front tells
pub keeps-front : (n : RunNumbers) (s : State) (history : List Entry) (ended : List SeenEnded) (known : Option (List (List ℕ))) (told : Option FrontTold)
    → known ≡ clients_told told → IfSome told (IsOpenedAndHushed n) → IfSome told (IsStartedFirst n history) → IfSome told (WatchesAll s history)
    → IfSome told (TakesLinks s) → ((clients : List (List ℕ)) → known ≡ Some clients → EndsLinks s ended)
    → ((clients : List (List ℕ)) → known ≡ Some clients → AllReceive clients ended) → IfSome told (HeedsLines s.going)
    → IfSome told (TakesEach s.going history) → IfSome told (KeepsFront n s history ended)
keeps-front n s history ended known None named opened started watched taken ends receive heeded each = tt
keeps-front n s history ended known (Some t) named opened started watched taken ends receive heeded each = record {
  opened = opened;
  started = started;
  watched = watched.watches;
  links = record { taken = taken; ended = ends t.clients named };
  receive = receive t.clients named;
  heeded = heeded;
  each = each;
}
