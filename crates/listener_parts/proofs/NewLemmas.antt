-- A connection that was just taken: how it may be left.
use Rattle.std.proofs.Common.{◌≡◌, ℕ, ◌<◌, Bool, true, false, not, List, [], ◌∷◌, ◌++◌, Option, None, Some, IfSome, is_some, refl, sym, ap, subst, ◌∙◌, inl}
use Rattle.mpm_base.specs.Link.{LinkCounts, LinkTold, OnlyFaults}
use Rattle.mpm_base.specs.declared.conn.Cause.{Cause}
use Rattle.mpm_base.specs.declared.conn.Cause.TheVariants as cause
use Rattle.mpm_base.specs.declared.conn.ConnName.{ConnName}
use Rattle.mpm_base.specs.declared.conn.Kind.{Kind}
use Rattle.mpm_base.specs.declared.conn.Kind.TheVariants.{Reading}
use Rattle.mpm_base.specs.declared.conn.Tail.TheVariants.{Direct}
use Rattle.http_read.specs.declared.request.Limits.{Limits}
use Rattle.file_table.specs.Site.{SeenSite}
use Rattle.atomic_table.specs.Table.{Me}
use Rattle.conn_machine.specs.declared.event.Event.TheVariants as event
use Rattle.conn_machine.specs.declared.row.Row.{Row}
use Rattle.conn_machine.specs.declared.state.State.{State}
use Rattle.conn_machine.specs.BetweenTurns.{OthersLeaveTheRestToTheListener}
use Rattle.conn_machine.specs.Rows.{is_held, live_row}
use Rattle.conn_machine.specs.States.{is_halted}
use Rattle.conn_machine.specs.Table.{may_wait, next}
use Rattle.conn_state.specs.Conn.{IsConn, SeenConn, is_half_closed}
use Rattle.conn_state.specs.Known.{KnownOutside}
use Rattle.table_rule.specs.declared.view.View.{View}
use Rattle.board_book.specs.declared.faults.BoardFault.{BoardFault}
use Rattle.board_book.specs.declared.faults.BoardFault.TheVariants as fault
use Rattle.board_book.specs.Faults.{IsRefusedFor}
use Rattle.board_book.specs.Finds.{cause_of}
use Rattle.board.specs.Backed.{AreBacked}
use Rattle.board.specs.BoardLaws.{WaitsAreBackedByCalls}
use Rattle.board.specs.Editions.{GenerationsKeepTheirEditions, IsOfGeneration}
use Rattle.board.specs.Fits.{Fits, IsOnItsWay}
use Rattle.worker_group.specs.InHand.{IsClosable, IsInHand}
use Rattle.worker_group.specs.Service.{give_up_events, given_up_cause, left_events}
use Rattle.worker_group.proofs.ServeLemmas.{closable, rises-some, test-at}
use Rattle.board_turns.specs.Books.{book_of, state_of}
use Rattle.board_turns.specs.Rests.{TurnsRestOn}
use Rattle.board_turns.specs.Turns.{HadATurn, HadTurns, IsListener, state_found}
use Rattle.board_turns.proofs.TurnLemmas.{more_turns, one_turn}
use Rattle.listener_turns.specs.Holds.{HasTaken, Holds, MayWait}
use Rattle.listener_parts.specs.Did.{LeavesAlone}
use Rattle.listener_parts.specs.Letting.{RefusedWait}
use Rattle.listener_parts.specs.Taking.{IsNew, ServesNewest, TakesOne, TakesUntil, taking_events, way_of}
use Rattle.listener_parts.proofs.AloneLemmas.{others_alone}
use Rattle.listener_parts.proofs.DidLemmas.{did_turns, edition_on}
use Rattle.listener_parts.proofs.HeldLemmas.{cause_at}
use Rattle.listener_parts.proofs.RoundLemmas.{next_behind}

-- a connection that was taken under that name, and the new one that has it
pub record IsJustTaken (known : Option KnownOutside) (v : View) (name : ConnName) (child generation arrival : ℕ) (c : SeenConn) : Type 0 where
  pub taken : HasTaken v name child generation arrival
  pub rank : IfSome c.told (λ t. t.rank ≡ arrival)
  pub is_new : IsNew name child generation c
  pub serves : ServesNewest known v c.reader.limits c.site

-- ## Its row

-- it is found by its name
found_new : (known : Option KnownOutside) (v : View) (name : ConnName) (child generation arrival : ℕ) (c : SeenConn)
    → (j : IsJustTaken known v name child generation arrival c) → live_row (state_of v).rows c.name ≡ Some j.taken.row
found_new known v name child generation arrival c j =
    subst (λ (n : ConnName). live_row (state_of v).rows n ≡ Some j.taken.row) (sym j.is_new.name_is) j.taken.found

-- and the connection is the one of it
fits_new : WaitsAreBackedByCalls → (known : Option KnownOutside) (v : View) (name : ConnName) (child generation arrival : ℕ) (c : SeenConn)
    → (j : IsJustTaken known v name child generation arrival c) → Fits c j.taken.row
fits_new law known v name child generation arrival c j = record {
  child = j.is_new.child_is ∙ sym j.taken.child_is;
  generation = j.is_new.generation_is ∙ sym j.taken.generation_is;
  notes = j.is_new.notes ∙ sym j.taken.notes;
  rank = subst (λ (n : ℕ). IfSome c.told (λ t. t.rank ≡ n)) (sym j.taken.arrival_is) j.rank;
  backed = subst (λ (ws : List Kind). AreBacked ws c.counts) (sym j.taken.waits) (law.none c.counts);
}

-- ## The pass

-- holds it
pub holds_new : {K : Type 0} (known : Option KnownOutside) (me : Me (Option K) View) (name : ConnName) (child generation arrival : ℕ) (c : SeenConn)
    → IsListener me → IsJustTaken known me.0 name child generation arrival c → Holds known me.0 c
holds_new known me name child generation arrival c listener j = record {
  turn = listener.turnless.turn;
  number = listener.number;
  row = j.taken.has ∙ ap Some (sym j.is_new.name_is);
  edition = subst (λ (g : ℕ). IsOfGeneration known (book_of me.0) g c.reader.limits c.site)
      (sym (j.is_new.generation_is ∙ j.taken.newest)) j.serves;
  sound = j.taken.sound;
}

-- ## How it may be left

-- it is in hand
pub hand_new : WaitsAreBackedByCalls → (known : Option KnownOutside) (v : View) (name : ConnName) (child generation arrival : ℕ) (c : SeenConn)
    → IsJustTaken known v name child generation arrival c → IsInHand (state_of v) c
hand_new law known v name child generation arrival c j = record {
  row = j.taken.row;
  found = found_new known v name child generation arrival c j;
  in_hand = rw j.taken.held refl;
  serves = ap (λ (o : Option Cause). is_some o) j.taken.serves;
  fits = fits_new law known v name child generation arrival c j;
  open_side = ap is_half_closed j.is_new.linger;
}

-- it may wait for its first request
waits_first : (s : State) (row : Row) → is_held row.place ≡ true → row.from ≡ None → may_wait s.moment Reading row ≡ true
waits_first s row held fresh = rw (held, fresh) refl

pub waits_new : WaitsAreBackedByCalls → (known : Option KnownOutside) (v : View) (name : ConnName) (child generation arrival : ℕ) (c : SeenConn)
    → IsJustTaken known v name child generation arrival c → IsConn c → MayWait Reading (state_of v) c
waits_new law known v name child generation arrival c j is =
    let s = state_of v in
    let row = j.taken.row in
    let found = found_new known v name child generation arrival c j in
    let none : cause_of s c.name ≡ None = cause_at s c.name row found ∙ j.taken.serves in
    record {
      allowed = λ going.
          let passes = test-at s.rows c.name row (may_wait s.moment Reading) found ∙ waits_first s row j.taken.held j.taken.fresh in
          rw (going, passes) refl;
      fits = record { row = row; found = found; fits = fits_new law known v name child generation arrival c j };
      settled =
          record {
            waits = inl j.is_new.turn;
            way = subst (λ (o : Option Cause). IsOnItsWay o c) (sym none) j.is_new.linger;
            is_conn = is;
          };
      turned = tt;
      backed =
          record {
            row = row;
            found = found;
            backed = subst (λ (ws : List Kind). AreBacked (ws ++ Reading ∷ []) c.counts) (sym j.taken.waits) (law.first c.counts);
          };
    }

-- one whose watch failed may be closed for that
pub closes_new : WaitsAreBackedByCalls → (known : Option KnownOutside) (v : View) (name : ConnName) (child generation arrival : ℕ) (c : SeenConn)
    → IsJustTaken known v name child generation arrival c → 0 < c.counts.faults → IsClosable (state_of v) cause.LinkFailed Direct c
closes_new law known v name child generation arrival c j failed =
    let hand = hand_new law known v name child generation arrival c j in
    closable (state_of v) cause.LinkFailed c hand refl failed hand.fits.notes

-- one that is in hand may be closed for the fault for which its wait was refused
pub gives_up_new : (s : State) (f : BoardFault) (c : SeenConn) → IsInHand s c → (f ≡ fault.Halted → is_halted s.going ≡ true)
    → IsClosable s (given_up_cause f) Direct c
gives_up_new s fault.Halted c hand halted = closable s cause.Stopped c hand (halted refl) tt hand.fits.notes
gives_up_new s fault.NoMemory c hand halted = closable s cause.NoMemory c hand refl tt (inl hand.fits.notes)

-- so the server has stopped, where it was refused for that
pub halted_by : (f : BoardFault) (v : View) → IsRefusedFor f (book_of v) → f ≡ fault.Halted → is_halted (state_of v).going ≡ true
halted_by fault.Halted v why is = why
halted_by fault.NoMemory v why is = absurd (cc)

-- ## What it leaves alone

-- an accept leaves all but how many were taken
pub accepts_behind : OthersLeaveTheRestToTheListener → TurnsRestOn → (slot : ℕ) (old new : View) → old.who.number ≡ 0 → HadATurn (event.Accept slot ∷ []) old new
    → LeavesAlone (record (state_of old) { accepted = (state_of new).accepted }) (state_of new)
accepts_behind law rests slot old new number (found, t) =
    let only = others_alone law old found number t.made t.others in
    let is : state_of new ≡ next (state_found old found) (event.Accept slot) = next_behind rests found (event.Accept slot) old new t in
    record {
      stands = record {
        moment = ap (λ (s : State). s.moment) is ∙ only.stands.moment;
        accepted = refl;
        newest = ap (λ (s : State). s.newest) is ∙ only.stands.newest;
        shape = ap (λ (s : State). s.shape) is ∙ only.stands.shape;
        going = ap (λ (s : State). s.going) is ∙ only.stands.going;
      };
      children = ap (λ (s : State). s.children) is ∙ only.children;
    }

pub alone_accepted : (s t : State) → LeavesAlone s t → LeavesAlone (record s { accepted = t.accepted }) t
alone_accepted s t alone = record {
  stands = record {
    moment = alone.stands.moment;
    accepted = refl;
    newest = alone.stands.newest;
    shape = alone.stands.shape;
    going = alone.stands.going;
  };
  children = alone.children;
}

pub alone_then_accepted : (s t u : State) → LeavesAlone s t → LeavesAlone (record t { accepted = u.accepted }) u → LeavesAlone (record s { accepted = u.accepted }) u
alone_then_accepted s t u before behind = record {
  stands = record {
    moment = behind.stands.moment ∙ before.stands.moment;
    accepted = refl;
    newest = behind.stands.newest ∙ before.stands.newest;
    shape = behind.stands.shape ∙ before.stands.shape;
    going = behind.stands.going ∙ before.stands.going;
  };
  children = behind.children ∙ before.children;
}

pub accepted_then_alone : (s t u : State) → LeavesAlone (record s { accepted = t.accepted }) t → LeavesAlone t u → LeavesAlone (record s { accepted = u.accepted }) u
accepted_then_alone s t u before behind = record {
  stands = record {
    moment = behind.stands.moment ∙ before.stands.moment;
    accepted = refl;
    newest = behind.stands.newest ∙ before.stands.newest;
    shape = behind.stands.shape ∙ before.stands.shape;
    going = behind.stands.going ∙ before.stands.going;
  };
  children = behind.children ∙ before.children;
}

-- ## By its front

-- a watch that failed counts a fault
pub watch_failed : (answer : Bool) (old new : LinkCounts) → OnlyFaults (not answer) old new → answer ≡ false → 0 < new.faults
watch_failed true old new only is = absurd (cc)
watch_failed false old new only is = rises-some old.faults new.faults only.faults

-- the new connection, by what was made of the link
pub just_taken : GenerationsKeepTheirEditions → (known : Option KnownOutside) (a b : View) (name : ConnName) (child generation : ℕ) (c : SeenConn)
    (link : Option LinkTold) (limits : Limits) (site : SeenSite) → HadTurns (event.Accept name.slot ∷ []) a b → HasTaken b name child generation (state_of a).accepted
    → LeavesAlone (record (state_of a) { accepted = (state_of b).accepted }) (state_of b) → IfSome link (λ t. t.rank ≡ (state_of a).accepted)
    → ServesNewest known a limits site → c.told ≡ link → IsNew name child generation c → c.reader.limits ≡ limits → c.site ≡ site
    → IsJustTaken known b name child generation (state_of a).accepted c
just_taken law known a b name child generation c link limits site turns taken rest rank serves told is_new limits_are site_is = record {
  taken = taken;
  rank = subst (λ (o : Option LinkTold). IfSome o (λ t. t.rank ≡ (state_of a).accepted)) (sym told) rank;
  is_new = is_new;
  serves =
      let on = edition_on law known (event.Accept name.slot ∷ []) (Some name) a b (state_of a).newest limits site
      (did_turns (event.Accept name.slot ∷ []) (Some name) a b turns taken.has) serves in
      rw (rest.stands.newest, limits_are, site_is) on;
}

-- it was taken, and left as it is watched
pub takes_one : (name : ConnName) (watched : Bool) (a b c : View) → HadTurns (event.Accept name.slot ∷ []) a b → HadATurn (left_events (way_of watched) name) b c
    → c.row ≡ None → TakesOne name watched a c
takes_one name watched a b c took left none = record {
  did = did_turns (taking_events name (way_of watched)) None a c
      (more_turns (event.Accept name.slot ∷ []) (left_events (way_of watched) name) a b c took (one_turn _ b c left)) none;
}

-- it was taken, and given up as its wait was refused
pub takes_until : (name : ConnName) (f : BoardFault) (a b c : View) → HadTurns (event.Accept name.slot ∷ []) a b → RefusedWait f (give_up_events f name) b c
    → c.row ≡ None → TakesUntil name f a c
takes_until name f a b c took refused none = record {
  between = refused.between;
  took = more_turns (event.Accept name.slot ∷ []) [] a b refused.between took (one_turn [] b refused.between refused.tried);
  why = refused.why;
  given_up = one_turn (give_up_events f name) refused.between c refused.made;
  row = none;
}

-- what a caller of a new connection says of it
pub taken_of : (known : Option KnownOutside) (v : View) (name : ConnName) (child generation : ℕ) (c : SeenConn)
    → (said : (arrival : ℕ) × HasTaken v name child generation arrival × IfSome c.told (λ t. t.rank ≡ arrival)) → IsNew name child generation c
    → ServesNewest known v c.reader.limits c.site → IsJustTaken known v name child generation said.0 c
taken_of known v name child generation c said is_new serves = record { taken = said.1; rank = said.2; is_new = is_new; serves = serves }
