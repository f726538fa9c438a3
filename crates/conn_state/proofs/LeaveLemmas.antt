-- A connection stays one on its way out: its link is half-closed, and what still comes is dropped.
use Rattle.std.proofs.Common.{◌≡◌, ◌==◌, ℕ, ◌+◌, ◌<◌, ◌≤◌, Bool, true, false, not, List, [], ◌++◌, take, drop, length, Option, Some, None, option_map, IfSome, refl, sym, ap, subst, ◌∙◌, arith, append_assoc, length-append}
use Rattle.std.proofs.Math.Seq.{drop-nil}
use Rattle.std.proofs.lemmas.Bool.{false≢true}
use Rattle.std.proofs.lemmas.Bool.Decides.{nat_tests}
use Rattle.mpm_base.specs.Count.{NeverFalls, RisesWhere, RisesExactlyWhere, next_count}
use Rattle.mpm_base.specs.Link.{LinkTold, LinkCounts, OnlyFaults, with_received, after_shut}
use Rattle.http_core.specs.declared.plan.Plan.{Plan}
use Rattle.conn_state.specs.declared.turn.LastTurn.{LastTurn}
use Rattle.conn_state.specs.declared.turn.LastTurn.TheVariants as turn
use Rattle.conn_state.specs.declared.turn.LastLinger.{LastLinger}
use Rattle.conn_state.specs.declared.turn.LastLinger.TheVariants as linger
use Rattle.conn_state.specs.declared.turn.LingerTurn.{LingerTurn}
use Rattle.conn_state.specs.declared.turn.LingerTurn.TheVariants as left
use Rattle.conn_state.specs.Replies.{IsFitting}
use Rattle.conn_state.specs.Known.{KnownOutside}
use Rattle.conn_state.specs.Outgoing.{Unsent}
use Rattle.conn_state.specs.Conn.{SeenConn, is_usable, is_half_closed, lingers, IsFrontOf, LinkFits, LingerFits, StreamsWhile, TurnFits, IsDone, IsConn}
use Rattle.conn_state.specs.Turns.{after_half_close, after_linger, is_drained, is_linger_failure}
use Rattle.conn_state.specs.ConnInside.{IsHeld}
use Rattle.conn_state.specs.LingerInside.{DropsOn}
use Rattle.conn_state.proofs.KnownLemmas.{client-received, client-shut}
use Rattle.conn_state.proofs.OpenLemmas.{before-shut, open-link, open-none}
use Rattle.conn_state.proofs.ConnLemmas.{rises-some}

-- ## What a change of the link keeps

-- the change leaves what was sent, what was received before the half-close, and that nothing more comes
record KeepsReplies (change : LinkTold → LinkTold) (t : LinkTold) : Type 0 where
  before : (change t).before_shut ≡ t.before_shut
  sent : (change t).sent ≡ t.sent
  came : t.coming ≡ [] → (change t).coming ≡ []

-- the connection on its way out, with what its link tells and counts then
abbrev leaving : SeenConn → Option LinkTold → LinkCounts → LastLinger → ℕ → SeenConn
leaving c told' counts' last dropped = record c { told = told'; counts = counts'; linger = last; dropped = dropped }

module _ (change : LinkTold → LinkTold) (c : SeenConn) (told' : Option LinkTold) (counts' : LinkCounts) (last : LastLinger) (dropped : ℕ) (rest : List ℕ) where
  -- the reply stream stays
  streams-kept : (usable : Bool) (t : LinkTold) → KeepsReplies change t → StreamsWhile usable c rest t
      → StreamsWhile usable (leaving c told' counts' last dropped) rest (change t)
  streams-kept true t keeps s = record {
    items = s.items;
    replies = s.replies;
    fitting = subst (λ xs. IsFitting c.site c.reader.limits c.notes xs s.items rest) (sym keeps.before) s.fitting;
    are_replies = s.are_replies;
    stream = ap (λ xs. xs ++ c.pending) keeps.sent ∙ s.stream;
  }
  streams-kept false t keeps b = record {
    items = b.items;
    left = b.left;
    replies = b.replies;
    interim = b.interim;
    fitting = subst (λ xs. IsFitting c.site c.reader.limits c.notes xs b.items b.left) (sym keeps.before) b.fitting;
    are_replies = b.are_replies;
    may_follow = b.may_follow;
    front = subst (IsFrontOf (b.replies ++ b.interim)) (sym keeps.sent) b.front;
  }

  -- the same of a link that may tell
  told-kept : (usable : Bool) (told : Option LinkTold) → IfSome told (KeepsReplies change) → IfSome told (StreamsWhile usable c rest)
      → IfSome (option_map change told) (StreamsWhile usable (leaving c told' counts' last dropped) rest)
  told-kept usable None keeps s = tt
  told-kept usable (Some t) keeps s = streams-kept usable t keeps s

-- where nothing more came, nothing more comes
told-came : (change : LinkTold → LinkTold) (told : Option LinkTold) → IfSome told (KeepsReplies change) → IfSome told (λ t. t.coming ≡ [])
    → IfSome (option_map change told) (λ t. t.coming ≡ [])
told-came change None keeps came = tt
told-came change (Some t) keeps came = keeps.came came

-- ## What the connection keeps

-- what the last turn says holds as before
turn-kept : (u : LastTurn) (c : SeenConn) (told' : Option LinkTold) (counts' : LinkCounts) (last : LastLinger) (dropped : ℕ) (rest : List ℕ)
    → NeverFalls c.counts.faults counts'.faults → TurnFits u c rest → TurnFits u (leaving c told' counts' last dropped) rest
turn-kept turn.New c told' counts' last dropped rest faults fits =
    record { none_pending = fits.none_pending; none_read = fits.none_read; none_noted = fits.none_noted }
turn-kept (turn.Asked ask) c told' counts' last dropped rest faults fits =
    record { none_pending = fits.none_pending; asked = fits.asked; goes_on = fits.goes_on }
turn-kept turn.Interim c told' counts' last dropped rest faults fits = record { pending_is = fits.pending_is; waits = fits.waits }
turn-kept turn.Answered c told' counts' last dropped rest faults fits = fits
turn-kept turn.More c told' counts' last dropped rest faults fits =
    record { none_pending = fits.none_pending; none_whole = fits.none_whole; goes_on = fits.goes_on }
turn-kept turn.Gone c told' counts' last dropped rest faults fits =
    record { none_pending = fits.none_pending; none_whole = fits.none_whole; goes_on = fits.goes_on }
turn-kept turn.Done c told' counts' last dropped rest faults fits = fits
turn-kept turn.NotReady c told' counts' last dropped rest faults fits = fits
turn-kept turn.LinkFailed c told' counts' last dropped rest faults fits = omega (arith, faults, fits)
turn-kept turn.NoMemory c told' counts' last dropped rest faults fits = tt

-- what a step on the way out does to the link: what it keeps, and that no count falls
record IsStep (c : SeenConn) (told' : Option LinkTold) (counts' : LinkCounts) : Type 0 where
  change : LinkTold → LinkTold
  told_is : told' ≡ option_map change c.told
  keeps : IfSome c.told (KeepsReplies change)
  faults : NeverFalls c.counts.faults counts'.faults
  ends : NeverFalls c.counts.ends counts'.ends

module _ (c : SeenConn) (told' : Option LinkTold) (counts' : LinkCounts) (last : LastLinger) (dropped : ℕ) (is : IsConn c) (step : IsStep c told' counts') where
  -- a client that had done still has
  done-kept : IsDone c → IsDone (leaving c told' counts' last dropped)
  done-kept done = record {
    found = let never = step.ends in let some = done.found in omega (arith, never, some);
    all_came = subst (λ o. IfSome o (λ t. t.coming ≡ [])) (sym step.told_is) (told-came step.change c.told step.keeps done.all_came);
  }

  -- the connection stays one
  conn-leaving : LingerFits last (leaving c told' counts' last dropped) → IfSome told' (LinkFits last dropped) → IsConn (leaving c told' counts' last dropped)
  conn-leaving fits link = record {
    rest = is.rest;
    stands = is.stands;
    turn_fits = turn-kept c.turn c told' counts' last dropped is.rest step.faults is.turn_fits;
    ended = λ e. done-kept (is.ended e);
    linger_fits = fits;
    link = link;
    streams = subst (λ o. IfSome o (StreamsWhile (is_usable c.turn) (leaving c told' counts' last dropped) is.rest)) (sym step.told_is)
        (told-kept step.change c told' counts' last dropped is.rest (is_usable c.turn) c.told step.keeps is.streams);
  }

-- a count that may have risen never falls
never-where : (test : Bool) (old new : ℕ) → RisesWhere test old new → NeverFalls old new
never-where true old new rises = rises.0
never-where false old new never = never

-- a count that stays never falls
never-same : (old new : ℕ) → new ≡ old → NeverFalls old new
never-same old new same = omega (arith, same)

-- ## The half-close

-- a half-close keeps the replies
keeps-shut : (made : Bool) (t : LinkTold) → KeepsReplies (after_shut made) t
keeps-shut true t = record { before = refl; sent = refl; came = λ e. e }
keeps-shut false t = record { before = refl; sent = refl; came = λ e. e }

-- the same of a link that may tell
told-keeps_shut : (made : Bool) (told : Option LinkTold) → IfSome told (KeepsReplies (after_shut made))
told-keeps_shut made None = tt
told-keeps_shut made (Some t) = keeps-shut made t

-- the link of a connection that was open
shut-link : (made : Bool) (t : LinkTold) → LinkFits linger.Open 0 t → LinkFits (after_half_close made) 0 (after_shut made t)
shut-link true t l = record { closes = l.closes; shuts = ap next_count l.shuts; behind = l.behind; received = l.received; count = l.count }
shut-link false t l = record { closes = l.closes; shuts = l.shuts; behind = l.behind; received = l.received; count = l.count }

-- the same of a link that may tell
told-shut_link : (made : Bool) (told : Option LinkTold) → IfSome told (LinkFits linger.Open 0) → IfSome (option_map (after_shut made) told) (LinkFits (after_half_close made) 0)
told-shut_link made None l = tt
told-shut_link made (Some t) l = shut-link made t l

-- nothing was dropped, and a half-close that wasn't made failed
shut-fits : (made : Bool) (c : SeenConn) (told' : Option LinkTold) (counts' : LinkCounts) → c.dropped ≡ 0 → RisesWhere (not made) c.counts.faults counts'.faults
    → LingerFits (after_half_close made) (leaving c told' counts' (after_half_close made) c.dropped)
shut-fits true c told' counts' none rises = none
shut-fits false c told' counts' none rises = (none, rises-some c.counts.faults counts'.faults rises)

-- a connection holds after the half-close
pub held-shut : (known : Option KnownOutside) (c seen : SeenConn) (plan : Option Plan) (u : Unsent) (told' : Option LinkTold) (counts' : LinkCounts) (made : Bool) (last : LastLinger)
    → IsHeld known c plan u → c ≡ seen → seen.linger ≡ linger.Open → told' ≡ option_map (after_shut made) c.told → OnlyFaults (not made) c.counts counts'
    → last ≡ after_half_close made → IsHeld known (leaving c told' counts' last c.dropped) plan u
held-shut known c seen plan u told' counts' made last held is not_shut told_is only last_is =
    let not_shut' : c.linger ≡ linger.Open = ap (λ (x : SeenConn). x.linger) is ∙ not_shut in
    let none : c.dropped ≡ 0 = open-none c held.conn not_shut' in
    let step : IsStep c told' counts' = record {
      change = after_shut made;
      told_is = told_is;
      keeps = told-keeps_shut made c.told;
      faults = never-where (not made) c.counts.faults counts'.faults only.faults;
      ends = never-same c.counts.ends counts'.ends only.ends;
    } in
    let link : IfSome told' (LinkFits (after_half_close made) c.dropped) =
    subst (λ n. IfSome told' (LinkFits (after_half_close made) n)) (sym none)
    (subst (λ o. IfSome o (LinkFits (after_half_close made) 0)) (sym told_is) (told-shut_link made c.told (open-link c held.conn not_shut'))) in
    subst (λ x. IsHeld known (leaving c told' counts' x c.dropped) plan u) (sym last_is)
    (record {
      conn = conn-leaving c told' counts' (after_half_close made) c.dropped held.conn step (shut-fits made c told' counts' none only.faults) link;
      planned = held.planned;
      unsent = held.unsent;
      client = client-shut known c.told told' made told_is held.client;
    })

-- ## Dropping

-- a connection that lingers was half-closed
half_closed-lingering : (last : LastLinger) → lingers last ≡ true → is_half_closed last ≡ true
half_closed-lingering linger.Open e = absurd (false≢true e)
half_closed-lingering linger.ShutFailed e = absurd (false≢true e)
half_closed-lingering linger.Shut e = refl
half_closed-lingering linger.Drained e = absurd (false≢true e)
half_closed-lingering linger.Sated e = absurd (false≢true e)
half_closed-lingering linger.NotReady e = refl
half_closed-lingering linger.LinkFailed e = absurd (false≢true e)

-- its link was half-closed once
pub shuts-once : (last : LastLinger) (dropped : ℕ) (t : LinkTold) → is_half_closed last ≡ true → LinkFits last dropped t → t.shuts ≡ 1
shuts-once last dropped t e l = l.shuts ∙ rw e refl

-- a turn of lingering leaves a half-closed link so
half_closed-after : (answer : LingerTurn) → is_half_closed (after_linger answer) ≡ true
half_closed-after left.Drained = refl
half_closed-after left.Sated = refl
half_closed-after left.NotReady = refl
half_closed-after left.LinkFailed = refl

-- dropping keeps the replies
keeps-dropped : (n : ℕ) (t : LinkTold) → t.shuts ≡ 1 → KeepsReplies (with_received n) t
keeps-dropped n t shut = record { before = before-shut n t shut; sent = refl; came = λ e. ap (drop n) e ∙ drop-nil n }

-- the same of a link that may tell
told-keeps_dropped : (n : ℕ) (last : LastLinger) (dropped : ℕ) (told : Option LinkTold) → is_half_closed last ≡ true → IfSome told (LinkFits last dropped)
    → IfSome told (KeepsReplies (with_received n))
told-keeps_dropped n last dropped None e l = tt
told-keeps_dropped n last dropped (Some t) e l = keeps-dropped n t (shuts-once last dropped t e l)

-- a half-closed link that gave bytes
dropped-link : (got : List ℕ) (last last' : LastLinger) (dropped dropped' : ℕ) (t : LinkTold) → is_half_closed last ≡ true → is_half_closed last' ≡ true
    → got ≡ take (length got) t.coming → dropped' ≡ dropped + length got → LinkFits last dropped t → LinkFits last' dropped' (with_received (length got) t)
dropped-link got last last' dropped dropped' t shut shut' gives dropped_is l =
    let once : t.shuts ≡ 1 = shuts-once last dropped t shut l in
    record {
      closes = l.closes;
      shuts = once ∙ sym (rw shut' refl);
      behind = l.behind ++ got;
      received = ap (λ xs. xs ++ take (length got) t.coming) l.received ∙ append_assoc t.before_shut l.behind (take (length got) t.coming)
          ∙ ap (λ xs. t.before_shut ++ (l.behind ++ xs)) (sym gives) ∙ ap (λ xs. xs ++ (l.behind ++ got)) (sym (before-shut (length got) t once));
      count = length-append l.behind got ∙ ap (λ n. n + length got) l.count ∙ sym dropped_is;
    }

-- the same of a link that may tell
told-dropped_link : (got : List ℕ) (last last' : LastLinger) (dropped dropped' : ℕ) (told : Option LinkTold) → is_half_closed last ≡ true → is_half_closed last' ≡ true
    → IfSome told (λ t. got ≡ take (length got) t.coming) → dropped' ≡ dropped + length got → IfSome told (LinkFits last dropped)
    → IfSome (option_map (with_received (length got)) told) (LinkFits last' dropped')
told-dropped_link got last last' dropped dropped' None shut shut' gives dropped_is l = tt
told-dropped_link got last last' dropped dropped' (Some t) shut shut' gives dropped_is l = dropped-link got last last' dropped dropped' t shut shut' gives dropped_is l

-- a count that rises exactly where the test holds never falls
never-exactly : (test : Bool) (old new : ℕ) → RisesExactlyWhere test old new → NeverFalls old new
never-exactly true old new rises = rises.0
never-exactly false old new same = never-same old new same

-- what isn't all is less
below : (n : ℕ) → n ≤ 1048576 → false ≡ (n == 1048576) → n < 1048576
below n most other = grind (arith, nat_tests, most, other)

-- what is all
all : (n : ℕ) → true ≡ (n == 1048576) → n ≡ 1048576
all n is = grind (arith, nat_tests, is)

-- what a turn of lingering says holds of what it leaves
drop-fits : (answer : LingerTurn) (c : SeenConn) (told' : Option LinkTold) (counts' : LinkCounts) (dropped' : ℕ)
    → DropsOn c.told told' c.counts counts' c.dropped dropped' answer → LingerFits (after_linger answer) (leaving c told' counts' (after_linger answer) dropped')
drop-fits left.Drained c told' counts' dropped' drops = (
  below dropped' drops.most drops.sated,
  record { found = rises-some c.counts.ends counts'.ends drops.ends; all_came = drops.none_comes refl },
)
drop-fits left.Sated c told' counts' dropped' drops = all dropped' drops.sated
drop-fits left.NotReady c told' counts' dropped' drops = below dropped' drops.most drops.sated
drop-fits left.LinkFailed c told' counts' dropped' drops =
    (below dropped' drops.most drops.sated, rises-some c.counts.faults counts'.faults drops.faults)

-- a connection holds after a turn of lingering
pub held-dropped : (known : Option KnownOutside) (c seen : SeenConn) (plan : Option Plan) (u : Unsent) (told' : Option LinkTold) (counts' : LinkCounts) (dropped' : ℕ) (answer : LingerTurn) (last : LastLinger)
    → IsHeld known c plan u → c ≡ seen → lingers seen.linger ≡ true → DropsOn c.told told' c.counts counts' c.dropped dropped' answer
    → last ≡ after_linger answer → IsHeld known (leaving c told' counts' last dropped') plan u
held-dropped known c seen plan u told' counts' dropped' answer last held is lingering drops last_is =
    let shut : is_half_closed c.linger ≡ true =
    half_closed-lingering c.linger (ap (λ (x : SeenConn). lingers x.linger) is ∙ lingering) in
    let step : IsStep c told' counts' = record {
      change = with_received (length drops.got);
      told_is = drops.told_is;
      keeps = told-keeps_dropped (length drops.got) c.linger c.dropped c.told shut held.conn.link;
      faults = never-where (is_linger_failure answer) c.counts.faults counts'.faults drops.faults;
      ends = never-exactly (is_drained answer) c.counts.ends counts'.ends drops.ends;
    } in
    let link : IfSome told' (LinkFits (after_linger answer) dropped') =
    subst (λ o. IfSome o (LinkFits (after_linger answer) dropped')) (sym drops.told_is)
    (told-dropped_link drops.got c.linger (after_linger answer) c.dropped dropped' c.told shut (half_closed-after answer) drops.gives drops.dropped_is held.conn.link) in
    subst (λ x. IsHeld known (leaving c told' counts' x dropped') plan u) (sym last_is)
    (record {
      conn = conn-leaving c told' counts' (after_linger answer) dropped' held.conn step (drop-fits answer c told' counts' dropped' drops) link;
      planned = held.planned;
      unsent = held.unsent;
      client = client-received known c.told told' (length drops.got) drops.told_is held.client;
    })
