-- A connection that lingers, or ends, was answered.
use Rattle.std.proofs.Common.{◌≡◌, ◌≢◌, ◌<◌, ◌+◌, ℕ, Bool, true, false, List, [], ◌++◌, length, Option, Some, None, option_map, IfSome, refl, sym, ap, subst, ◌∙◌, arith, length-append}
use Rattle.std.proofs.lemmas.Bool.{false≢true}
use Rattle.std.proofs.lemmas.List.{append-nil}
use Rattle.mpm_base.specs.Count.{next_count}
use Rattle.mpm_base.specs.Link.{LinkTold, LinkCounts, OnlyFaults, after_close}
use Rattle.mpm_base.specs.Notes.{says_last}
use Rattle.mpm_base.specs.declared.conn.Cause.{Cause}
use Rattle.mpm_base.specs.declared.conn.Cause.TheVariants as cause
use Rattle.mpm_base.specs.declared.conn.Tail.{Tail}
use Rattle.mpm_base.specs.declared.conn.Tail.TheVariants as tail
use Rattle.mpm_base.specs.declared.note.Note.{Note}
use Rattle.http_read.specs.declared.request.Limits.{Limits}
use Rattle.file_table.specs.Site.{SeenSite}
use Rattle.conn_state.specs.declared.turn.LastTurn.{LastTurn}
use Rattle.conn_state.specs.declared.turn.LastTurn.TheVariants as turn
use Rattle.conn_state.specs.declared.turn.LastLinger.{LastLinger}
use Rattle.conn_state.specs.declared.turn.LastLinger.TheVariants as linger
use Rattle.conn_state.specs.Steps.{WaitsIn}
use Rattle.conn_state.specs.Reader.{StandsFor, keeps_none}
use Rattle.conn_state.specs.Follows.{what_follows}
use Rattle.conn_state.specs.Conn.{SeenConn, is_usable, is_half_closed, shuts_at, IsFrontOf, LinkFits, LingerFits, Streams, BrokeOff, StreamsWhile, TurnFits, IsWaiting, IsConn}
use Rattle.conn_state.specs.Answered.{SeenEnded, ShowsAtOnce, SentAll, SentLast, waits_on, ShowsLingering, MayLinger, ShowsCause, IsLeft, IsShown, SentWhole, SentFor, HasAll, HasAnswered, shuts_of, IsAnswered, LicensesCause, LicensesTail, EndsAfter, IsEnded}
use Rattle.conn_state.proofs.ConnLemmas.{FollowsMay, sent-breaks, usable-streams}
use Rattle.conn_state.proofs.OpenLemmas.{same-before}
use Rattle.conn_state.proofs.RestEmptyLemmas.{ShowsEmpty, Laws, kept-waits, kept-nil, nil-kept, kept-follows, last-follows}

-- ## What was answered

-- where a front of the replies and what may follow them is enough, a stream that broke off will do
has_answered-front : (why : Cause) (c : SeenConn) (t : LinkTold) → why ≢ cause.ClientDone
    → ((rest replies interim : List ℕ) → IsFrontOf (replies ++ interim) t.sent → SentFor why c.reader.limits c.notes rest replies interim t)
    → LinkFits c.linger c.dropped t → BrokeOff c t → HasAnswered why c.site c.reader.limits c.notes t
has_answered-front why c t other enough l b = record {
  items = b.items;
  rest = b.left;
  dropped = l.behind;
  replies = b.replies;
  interim = b.interim;
  fitting = b.fitting;
  received_is = l.received;
  are_replies = b.are_replies;
  may_follow = b.may_follow;
  sent = enough b.left b.replies b.interim b.front;
  received = λ e. absurd (other e);
}

-- what was sent where nothing is pending
abbrev SentSo : Cause → SeenConn → List ℕ → LinkTold → Type 0
SentSo why c rest t =
    (replies : List ℕ) → t.sent ≡ replies ++ what_follows c.notes c.reader.stage
    → SentFor why c.reader.limits c.notes rest replies (what_follows c.notes c.reader.stage) t

-- where all was sent, a stream that goes on will do
has_answered-whole : FollowsMay → (why : Cause) (c : SeenConn) (rest : List ℕ) (t : LinkTold) → StandsFor c.reader rest → c.pending ≡ []
    → (why ≡ cause.ClientDone → HasAll t) → SentSo why c rest t
    → LinkFits c.linger c.dropped t → Streams c rest t → HasAnswered why c.site c.reader.limits c.notes t
has_answered-whole may why c rest t stands none all enough l s = record {
  items = s.items;
  rest = rest;
  dropped = l.behind;
  replies = s.replies;
  interim = what_follows c.notes c.reader.stage;
  fitting = s.fitting;
  received_is = l.received;
  are_replies = s.are_replies;
  may_follow = may c.reader.limits c.notes c.reader.unread c.reader.stage rest stands;
  sent = enough s.replies (sym (append-nil t.sent) ∙ ap (λ xs. t.sent ++ xs) (sym none) ∙ s.stream);
  received = all;
}

-- the same of a link that may tell
told-front : (why : Cause) (c : SeenConn) (told : Option LinkTold) → why ≢ cause.ClientDone
    → ((t : LinkTold) (rest replies interim : List ℕ) → IsFrontOf (replies ++ interim) t.sent → SentFor why c.reader.limits c.notes rest replies interim t)
    → IfSome told (LinkFits c.linger c.dropped) → IfSome told (BrokeOff c) → IfSome told (HasAnswered why c.site c.reader.limits c.notes)
told-front why c None other enough l b = tt
told-front why c (Some t) other enough l b = has_answered-front why c t other (enough t) l b

-- the same of a link that may tell
told-whole : FollowsMay → (why : Cause) (c : SeenConn) (rest : List ℕ) (told : Option LinkTold) → StandsFor c.reader rest → c.pending ≡ []
    → IfSome told (λ t. why ≡ cause.ClientDone → HasAll t) → ((t : LinkTold) → SentSo why c rest t)
    → IfSome told (LinkFits c.linger c.dropped) → IfSome told (Streams c rest) → IfSome told (HasAnswered why c.site c.reader.limits c.notes)
told-whole may why c rest None stands none all enough l s = tt
told-whole may why c rest (Some t) stands none all enough l s = has_answered-whole may why c rest t stands none all (enough t) l s

-- a cause asks nothing of what still comes unless the client had done
told-other : (why : Cause) (told : Option LinkTold) → why ≢ cause.ClientDone → IfSome told (λ t. why ≡ cause.ClientDone → HasAll t)
told-other why None other = tt
told-other why (Some t) other = λ e. absurd (other e)

-- the stream of any connection may be taken as broken off
broke_while : FollowsMay → (usable : Bool) (c : SeenConn) (rest : List ℕ) (told : Option LinkTold) → StandsFor c.reader rest → IfSome told (StreamsWhile usable c rest)
    → IfSome told (BrokeOff c)
broke_while may usable c rest None stands s = tt
broke_while may true c rest (Some t) stands s = sent-breaks may c rest t stands s
broke_while may false c rest (Some t) stands s = s

-- the same of a connection that holds
conn-broken : FollowsMay → (c : SeenConn) (is : IsConn c) → IfSome c.told (BrokeOff c)
conn-broken may c is = broke_while may (is_usable c.turn) c is.rest c.told is.stands is.streams

-- ## Causes that linger

-- the replies without what follows them, where nothing does
sent-alone : (sent replies follows : List ℕ) → sent ≡ replies ++ follows → follows ≡ [] → sent ≡ replies
sent-alone sent replies follows is none = is ∙ ap (λ xs. replies ++ xs) none ∙ append-nil replies

-- nothing is pending where a turn waits on, and more has to come
pub record HasToCome (c : SeenConn) (rest : List ℕ) : Type 0 where
  pub none_pending : c.pending ≡ []
  pub more : WaitsIn c.reader.limits c.reader.unread c.reader.stage rest

-- by the last turn
to_come-at : ShowsEmpty → (u : LastTurn) (c : SeenConn) (rest : List ℕ) → StandsFor c.reader rest → TurnFits u c rest → waits_on u ≡ true → HasToCome c rest
to_come-at empty turn.New c rest h fits on =
    record { none_pending = fits.none_pending; more = kept-waits c.reader rest h (nil-kept empty c.reader rest h fits.none_read) }
to_come-at empty turn.More c rest h fits on = record { none_pending = fits.none_pending; more = fits.none_whole.waits }
to_come-at empty (turn.Asked ask) c rest h fits on = absurd (false≢true on)
to_come-at empty turn.Interim c rest h fits on = absurd (false≢true on)
to_come-at empty turn.Answered c rest h fits on = absurd (false≢true on)
to_come-at empty turn.Gone c rest h fits on = absurd (false≢true on)
to_come-at empty turn.Done c rest h fits on = absurd (false≢true on)
to_come-at empty turn.NotReady c rest h fits on = absurd (false≢true on)
to_come-at empty turn.LinkFailed c rest h fits on = absurd (false≢true on)
to_come-at empty turn.NoMemory c rest h fits on = absurd (false≢true on)

-- what was sent where more has to come: the replies and what is due
sent-whole : Laws → (c : SeenConn) (rest : List ℕ) → StandsFor c.reader rest → WaitsIn c.reader.limits c.reader.unread c.reader.stage rest
    → (t : LinkTold) (replies : List ℕ) → t.sent ≡ replies ++ what_follows c.notes c.reader.stage
    → SentWhole c.reader.limits c.notes rest replies (what_follows c.notes c.reader.stage) t
sent-whole laws c rest h more t replies sent = record {
  all_sent = sent;
  due = laws.due c.reader.limits c.notes c.reader.unread c.reader.stage rest h more;
  none_whole = laws.waits c.reader.limits c.reader.unread c.reader.stage rest more;
}

module _ (laws : Laws) (c : SeenConn) (is : IsConn c) (usable : is_usable c.turn ≡ true) where
  -- the last response was sent whole
  last-lingering : SentLast c → IfSome c.told (HasAnswered cause.LastSent c.site c.reader.limits c.notes)
  last-lingering sent =
      told-whole laws.may cause.LastSent c is.rest c.told is.stands sent.none_pending (told-other cause.LastSent c.told (λ e. absurd (cc)))
      (λ t replies all. (sent-alone t.sent replies (what_follows c.notes c.reader.stage) all (last-follows c.notes c.reader.stage sent.says_it), sent.says_it))
      is.link (usable-streams c is.rest is.streams usable)

  -- each response was sent whole, and no byte is left
  all-lingering : (why : Cause) → why ≢ cause.ClientDone → SentAll c
      → ((t : LinkTold) (replies : List ℕ) → t.sent ≡ replies → is.rest ≡ [] → SentFor why c.reader.limits c.notes is.rest replies (what_follows c.notes c.reader.stage) t)
      → IfSome c.told (HasAnswered why c.site c.reader.limits c.notes)
  all-lingering why other sent enough =
      told-whole laws.may why c is.rest c.told is.stands sent.none_pending (told-other why c.told other)
      (λ t replies all. enough t replies (sent-alone t.sent replies (what_follows c.notes c.reader.stage) all (kept-follows c.notes c.reader sent.none_kept))
      (kept-nil laws.empty c.reader is.rest is.stands sent.none_kept))
      is.link (usable-streams c is.rest is.streams usable)

  -- more has to come
  late-lingering : waits_on c.turn ≡ true → IfSome c.told (HasAnswered cause.ReadLate c.site c.reader.limits c.notes)
  late-lingering on =
      let come = to_come-at laws.empty c.turn c is.rest is.stands is.turn_fits on in
      told-whole laws.may cause.ReadLate c is.rest c.told is.stands come.none_pending (told-other cause.ReadLate c.told (λ e. absurd (cc)))
      (λ t replies all. sent-whole laws c is.rest is.stands come.more t replies all) is.link (usable-streams c is.rest is.streams usable)

  -- a connection that shows a cause with which it lingers was answered
  shown-lingering : (why : Cause) → ShowsLingering why c → IfSome c.told (HasAnswered why c.site c.reader.limits c.notes)
  shown-lingering cause.LastSent shows = last-lingering shows
  shown-lingering cause.KeepAliveLate shows =
      all-lingering cause.KeepAliveLate (λ e. absurd (cc)) shows (λ t replies all none. record { all_sent = all; none_left = none })
  shown-lingering cause.ReadLate shows = late-lingering shows
  shown-lingering cause.WriteLate shows =
      told-front cause.WriteLate c c.told (λ e. absurd (cc)) (λ t rest replies interim f. f) is.link (conn-broken laws.may c is)
  shown-lingering cause.Retiring shows =
      all-lingering cause.Retiring (λ e. absurd (cc)) shows (λ t replies all none. record { all_sent = all; none_left = none })
  shown-lingering other shows = absurd shows

-- a connection that lingers was answered for its cause
pub answered-lingering : Laws → (c : SeenConn) (why : Cause) → IsConn c → MayLinger why c → IfSome c.told (HasAnswered why c.site c.reader.limits c.notes)
answered-lingering laws c why is may = shown-lingering laws c is may.usable why may.shows

-- where nothing but the way out changes, it shows the same cause
pub may_linger-kept : (old new : SeenConn) (why : Cause) → new.turn ≡ old.turn → new.notes ≡ old.notes → new.pending ≡ old.pending → new.reader ≡ old.reader
    → MayLinger why old → MayLinger why new
may_linger-kept old new why same_turn same_notes same_pending same_reader may = record { usable = ap is_usable same_turn ∙ may.usable; shows = kept why may.shows }
  where
    -- what was sent whole still is
    all-kept : SentAll old → SentAll new
    all-kept sent = record { none_pending = same_pending ∙ sent.none_pending; none_kept = ap keeps_none same_reader ∙ sent.none_kept }

    -- what it shows it still shows
    kept : (why : Cause) → ShowsLingering why old → ShowsLingering why new
    kept cause.LastSent shows = record { none_pending = same_pending ∙ shows.none_pending; says_it = ap says_last same_notes ∙ shows.says_it }
    kept cause.KeepAliveLate shows = all-kept shows
    kept cause.ReadLate shows = ap waits_on same_turn ∙ shows
    kept cause.WriteLate shows = tt
    kept cause.Retiring shows = all-kept shows
    kept other shows = absurd shows

-- ## Causes without lingering

-- where the link wasn't half-closed, nothing was dropped
none-dropped : (last : LastLinger) (c : SeenConn) → is_half_closed last ≡ false → LingerFits last c → c.dropped ≡ 0
none-dropped linger.Open c not_shut fits = fits
none-dropped linger.ShutFailed c not_shut fits = fits.0
none-dropped linger.Shut c not_shut fits = absurd (cc)
none-dropped linger.Drained c not_shut fits = absurd (cc)
none-dropped linger.Sated c not_shut fits = absurd (cc)
none-dropped linger.NotReady c not_shut fits = absurd (cc)
none-dropped linger.LinkFailed c not_shut fits = absurd (cc)

-- all that the client sent was received, where nothing was dropped
told-all : (last : LastLinger) (dropped : ℕ) (told : Option LinkTold) → dropped ≡ 0 → IfSome told (LinkFits last dropped) → IfSome told (λ t. t.coming ≡ [])
    → IfSome told (λ t. cause.ClientDone ≡ cause.ClientDone → HasAll t)
told-all last dropped None none l all = tt
told-all last dropped (Some t) none l all = λ e. record { came = all; none_dropped = same-before t l.behind l.received (l.count ∙ none) }

-- a connection whose client sends no more was answered
done-answered : Laws → (c : SeenConn) → IsConn c → c.turn ≡ turn.Gone → is_half_closed c.linger ≡ false
    → IfSome c.told (HasAnswered cause.ClientDone c.site c.reader.limits c.notes)
done-answered laws c is gone not_shut =
    let waits : IsWaiting c is.rest = subst (λ (u : LastTurn). TurnFits u c is.rest) gone is.turn_fits in
    let none : c.dropped ≡ 0 = none-dropped c.linger c not_shut is.linger_fits in
    told-whole laws.may cause.ClientDone c is.rest c.told is.stands waits.none_pending (told-all c.linger c.dropped c.told none is.link (is.ended gone).all_came)
    (λ t replies all. sent-whole laws c is.rest is.stands waits.none_whole.waits t replies all)
    is.link (usable-streams c is.rest is.streams (ap is_usable gone))

-- a connection that is closed at once was answered
answered-at-once : Laws → (why : Cause) (c : SeenConn) → IsConn c → ShowsAtOnce why c → is_half_closed c.linger ≡ false
    → IfSome c.told (HasAnswered why c.site c.reader.limits c.notes)
answered-at-once laws cause.ClientDone c is shown not_shut = done-answered laws c is shown not_shut
answered-at-once laws cause.LinkFailed c is shown not_shut =
    told-front cause.LinkFailed c c.told (λ e. absurd (cc)) (λ t rest replies interim f. f) is.link (conn-broken laws.may c is)
answered-at-once laws cause.Stopped c is shown not_shut =
    told-front cause.Stopped c c.told (λ e. absurd (cc)) (λ t rest replies interim f. f) is.link (conn-broken laws.may c is)
answered-at-once laws cause.NoMemory c is shown not_shut =
    told-front cause.NoMemory c c.told (λ e. absurd (cc)) (λ t rest replies interim f. f) is.link (conn-broken laws.may c is)
answered-at-once laws other c is shown not_shut = absurd shown

-- ## The close

-- a close leaves what was sent for the cause
sent-closed : (why : Cause) (limits : Limits) (notes : List Note) (rest replies interim : List ℕ) (t : LinkTold)
    → SentFor why limits notes rest replies interim t → SentFor why limits notes rest replies interim (after_close t)
sent-closed cause.ClientDone limits notes rest replies interim t sent = record { all_sent = sent.all_sent; due = sent.due; none_whole = sent.none_whole }
sent-closed cause.LastSent limits notes rest replies interim t sent = sent
sent-closed cause.KeepAliveLate limits notes rest replies interim t sent = record { all_sent = sent.all_sent; none_left = sent.none_left }
sent-closed cause.ReadLate limits notes rest replies interim t sent = record { all_sent = sent.all_sent; due = sent.due; none_whole = sent.none_whole }
sent-closed cause.WriteLate limits notes rest replies interim t sent = sent
sent-closed cause.Retiring limits notes rest replies interim t sent = record { all_sent = sent.all_sent; none_left = sent.none_left }
sent-closed cause.LinkFailed limits notes rest replies interim t sent = sent
sent-closed cause.Stopped limits notes rest replies interim t sent = sent
sent-closed cause.NoMemory limits notes rest replies interim t sent = sent

-- a close leaves what was received
all-closed : (t : LinkTold) → HasAll t → HasAll (after_close t)
all-closed t all = record { came = all.came; none_dropped = all.none_dropped }

-- a close leaves the answers
answers-closed : (why : Cause) (site : SeenSite) (limits : Limits) (notes : List Note) (t : LinkTold) → HasAnswered why site limits notes t
    → HasAnswered why site limits notes (after_close t)
answers-closed why site limits notes t has = record {
  items = has.items;
  rest = has.rest;
  dropped = has.dropped;
  replies = has.replies;
  interim = has.interim;
  fitting = has.fitting;
  received_is = has.received_is;
  are_replies = has.are_replies;
  may_follow = has.may_follow;
  sent = sent-closed why limits notes has.rest has.replies has.interim t has.sent;
  received = λ e. all-closed t (has.received e);
}

-- how often the link was half-closed is what the tail says
shuts-left : (how : Tail) (last : LastLinger) → IsLeft how last → shuts_at last ≡ shuts_of how
shuts-left tail.Direct last left = rw left refl
shuts-left tail.Drained last left = ap shuts_at left
shuts-left tail.Sated last left = ap shuts_at left
shuts-left tail.Late last left = rw left refl
shuts-left tail.Failed last left = ap shuts_at left
shuts-left tail.Halted last left = rw left refl
shuts-left tail.NoMemory last left = rw left refl

-- a link that wasn't closed yet is closed once
closes-once : (n : ℕ) → n ≡ 0 → next_count n ≡ 1
closes-once n none = ap next_count none

-- what a connection knows of how its link is left: where the client closed its side, and where all was dropped that may be
record LeavesSo (how : Tail) (dropped : ℕ) (t : LinkTold) : Type 0 where
  drained : how ≡ tail.Drained → t.coming ≡ []
  all : how ≡ tail.Sated → dropped ≡ 1048576

-- the answers of a link, and how it is left, are those of the closed one
closed-answered : (why : Cause) (how : Tail) (site : SeenSite) (limits : Limits) (notes : List Note) (last : LastLinger) (dropped : ℕ) (t : LinkTold) → IsLeft how last → LeavesSo how dropped t
    → LinkFits last dropped t → HasAnswered why site limits notes t → IsAnswered why how site limits notes (after_close t)
closed-answered why how site limits notes last dropped t left so l has = record {
  closed = closes-once t.closes l.closes;
  shuts = l.shuts ∙ shuts-left how last left;
  answers = answers-closed why site limits notes t has;
  drained = so.drained;
  sated = λ e. ap length l.received ∙ length-append t.before_shut l.behind ∙ ap (λ n. length t.before_shut + n) (l.count ∙ so.all e);
}

-- the same of a link that may tell
told-closed : (why : Cause) (how : Tail) (site : SeenSite) (limits : Limits) (notes : List Note) (last : LastLinger) (dropped : ℕ) (told : Option LinkTold) → IsLeft how last
    → IfSome told (LeavesSo how dropped) → IfSome told (LinkFits last dropped) → IfSome told (HasAnswered why site limits notes)
    → IfSome (option_map after_close told) (IsAnswered why how site limits notes)
told-closed why how site limits notes last dropped None left so l has = tt
told-closed why how site limits notes last dropped (Some t) left so l has = closed-answered why how site limits notes last dropped t left so l has

-- a tail says nothing of the link but for two
leaves-other : (how : Tail) (dropped : ℕ) (told : Option LinkTold) → how ≢ tail.Drained → how ≢ tail.Sated → IfSome told (LeavesSo how dropped)
leaves-other how dropped None not_drained not_sated = tt
leaves-other how dropped (Some t) not_drained not_sated = record { drained = λ e. absurd (not_drained e); all = λ e. absurd (not_sated e) }

-- the client closed its side
leaves-drained : (dropped : ℕ) (told : Option LinkTold) → IfSome told (λ t. t.coming ≡ []) → IfSome told (LeavesSo tail.Drained dropped)
leaves-drained dropped None came = tt
leaves-drained dropped (Some t) came = record { drained = λ e. came; all = λ e. absurd (cc) }

-- all was dropped that may be
leaves-sated : (dropped : ℕ) (told : Option LinkTold) → dropped ≡ 1048576 → IfSome told (LeavesSo tail.Sated dropped)
leaves-sated dropped None all = tt
leaves-sated dropped (Some t) all = record { drained = λ e. absurd (cc); all = λ e. all }

-- a connection knows how its link is left
leaves-so : (how : Tail) (c : SeenConn) → IsConn c → IsLeft how c.linger → IfSome c.told (LeavesSo how c.dropped)
leaves-so tail.Direct c is left = leaves-other tail.Direct c.dropped c.told (λ e. absurd (cc)) (λ e. absurd (cc))
leaves-so tail.Drained c is left = leaves-drained c.dropped c.told (subst (λ x. LingerFits x c) left is.linger_fits).1.all_came
leaves-so tail.Sated c is left = leaves-sated c.dropped c.told (subst (λ x. LingerFits x c) left is.linger_fits)
leaves-so tail.Late c is left = leaves-other tail.Late c.dropped c.told (λ e. absurd (cc)) (λ e. absurd (cc))
leaves-so tail.Failed c is left = leaves-other tail.Failed c.dropped c.told (λ e. absurd (cc)) (λ e. absurd (cc))
leaves-so tail.Halted c is left = leaves-other tail.Halted c.dropped c.told (λ e. absurd (cc)) (λ e. absurd (cc))
leaves-so tail.NoMemory c is left = leaves-other tail.NoMemory c.dropped c.told (λ e. absurd (cc)) (λ e. absurd (cc))

-- a connection that may be ended so was answered for its cause
answered-shown : Laws → (why : Cause) (how : Tail) (c : SeenConn) → IsConn c → ShowsCause why how c → IsLeft how c.linger → IfSome c.told (HasAnswered why c.site c.reader.limits c.notes)
answered-shown laws why tail.Direct c is shows left = answered-at-once laws why c is shows left
answered-shown laws why tail.Drained c is shows left = answered-lingering laws c why is shows
answered-shown laws why tail.Sated c is shows left = answered-lingering laws c why is shows
answered-shown laws why tail.Late c is shows left = answered-lingering laws c why is shows
answered-shown laws why tail.Failed c is shows left = answered-lingering laws c why is shows
answered-shown laws why tail.Halted c is shows left = answered-lingering laws c why is shows
answered-shown laws why tail.NoMemory c is shows left = answered-lingering laws c why is shows

-- ## What the counts show

-- the counts of the closed link show a cause with which a connection is closed at once
licensed-at-once : (why : Cause) (c : SeenConn) (counts' : LinkCounts) → IsConn c → ShowsAtOnce why c → OnlyFaults false c.counts counts' → LicensesCause why counts'
licensed-at-once cause.ClientDone c counts' is shown only = subst (λ n. 0 < n) (sym only.ends) (is.ended shown).found
licensed-at-once cause.LinkFailed c counts' is shown only =
    let never_falls = only.faults in
    omega (arith, shown, never_falls)
licensed-at-once cause.Stopped c counts' is shown only = tt
licensed-at-once cause.NoMemory c counts' is shown only = tt
licensed-at-once other c counts' is shown only = absurd shown

-- they owe nothing for a cause with which it lingers
licensed-lingering : (why : Cause) (c : SeenConn) (counts' : LinkCounts) → ShowsLingering why c → LicensesCause why counts'
licensed-lingering cause.LastSent c counts' shows = tt
licensed-lingering cause.KeepAliveLate c counts' shows = tt
licensed-lingering cause.ReadLate c counts' shows = tt
licensed-lingering cause.WriteLate c counts' shows = tt
licensed-lingering cause.Retiring c counts' shows = tt
licensed-lingering other c counts' shows = absurd shows

-- they show the cause
licensed-cause : (why : Cause) (how : Tail) (c : SeenConn) (counts' : LinkCounts) → IsConn c → ShowsCause why how c → OnlyFaults false c.counts counts' → LicensesCause why counts'
licensed-cause why tail.Direct c counts' is shows only = licensed-at-once why c counts' is shows only
licensed-cause why tail.Drained c counts' is shows only = licensed-lingering why c counts' shows.shows
licensed-cause why tail.Sated c counts' is shows only = licensed-lingering why c counts' shows.shows
licensed-cause why tail.Late c counts' is shows only = licensed-lingering why c counts' shows.shows
licensed-cause why tail.Failed c counts' is shows only = licensed-lingering why c counts' shows.shows
licensed-cause why tail.Halted c counts' is shows only = licensed-lingering why c counts' shows.shows
licensed-cause why tail.NoMemory c counts' is shows only = licensed-lingering why c counts' shows.shows

-- they show how the link was left
licensed-tail : (how : Tail) (c : SeenConn) (counts' : LinkCounts) → IsConn c → IsLeft how c.linger → OnlyFaults false c.counts counts' → LicensesTail how counts'
licensed-tail tail.Direct c counts' is left only = tt
licensed-tail tail.Drained c counts' is left only =
    subst (λ n. 0 < n) (sym only.ends) (subst (λ x. LingerFits x c) left is.linger_fits).1.found
licensed-tail tail.Sated c counts' is left only = tt
licensed-tail tail.Late c counts' is left only = tt
licensed-tail tail.Failed c counts' is left only =
    let never_falls = only.faults in
    let failed = (subst (λ x. LingerFits x c) left is.linger_fits).1 in
    omega (arith, failed, never_falls)
licensed-tail tail.Halted c counts' is left only = tt
licensed-tail tail.NoMemory c counts' is left only = tt

-- ## What the last turn was

-- what it was that ends at once
turned-at-once : (why : Cause) (c : SeenConn) → ShowsAtOnce why c → EndsAfter why c.turn
turned-at-once cause.ClientDone c shown = shown
turned-at-once cause.LinkFailed c shown = tt
turned-at-once cause.Stopped c shown = tt
turned-at-once cause.NoMemory c shown = tt
turned-at-once other c shown = absurd shown

-- what it was that lingered
turned-lingering : (why : Cause) (c : SeenConn) → MayLinger why c → EndsAfter why c.turn
turned-lingering cause.LastSent c may = may.usable
turned-lingering cause.KeepAliveLate c may = may.usable
turned-lingering cause.ReadLate c may = may.shows
turned-lingering cause.WriteLate c may = may.usable
turned-lingering cause.Retiring c may = may.usable
turned-lingering other c may = absurd may.shows

-- what it was, for the cause
turned-so : (why : Cause) (how : Tail) (c : SeenConn) → ShowsCause why how c → EndsAfter why c.turn
turned-so why tail.Direct c shows = turned-at-once why c shows
turned-so why tail.Drained c shows = turned-lingering why c shows
turned-so why tail.Sated c shows = turned-lingering why c shows
turned-so why tail.Late c shows = turned-lingering why c shows
turned-so why tail.Failed c shows = turned-lingering why c shows
turned-so why tail.Halted c shows = turned-lingering why c shows
turned-so why tail.NoMemory c shows = turned-lingering why c shows

-- one that ends for its last response has noted that
said-last : (how : Tail) (c : SeenConn) → ShowsCause cause.LastSent how c → says_last c.notes ≡ true
said-last tail.Direct c shows = absurd shows
said-last tail.Drained c shows = shows.shows.says_it
said-last tail.Sated c shows = shows.shows.says_it
said-last tail.Late c shows = shows.shows.says_it
said-last tail.Failed c shows = shows.shows.says_it
said-last tail.Halted c shows = shows.shows.says_it
said-last tail.NoMemory c shows = shows.shows.says_it

-- ## The connection that ended

-- what the closed link of a connection that ended tells and counts
pub ended-shown : Laws → (c seen : SeenConn) (e : SeenEnded) → IsConn c → c ≡ seen → IsShown e.cause e.tail seen
    → e.told ≡ option_map after_close c.told → OnlyFaults false c.counts e.counts → e.site ≡ c.site → e.limits ≡ c.reader.limits → e.notes ≡ c.notes
    → e.turn ≡ c.turn → e.linger ≡ c.linger
    → IsEnded e
ended-shown laws c seen e is same shown closed only site limits notes turn linger =
    let shown' : IsShown e.cause e.tail c = subst (λ (x : SeenConn). IsShown e.cause e.tail x) (sym same) shown in
    let answered = told-closed e.cause e.tail c.site c.reader.limits c.notes c.linger c.dropped c.told shown'.left (leaves-so e.tail c is shown'.left) is.link
    (answered-shown laws e.cause e.tail c is shown'.shows shown'.left) in
    record {
      licensed = record {
        by_cause = licensed-cause e.cause e.tail c e.counts is shown'.shows only;
        by_tail = licensed-tail e.tail c e.counts is shown'.left only;
      };
      turned = subst (EndsAfter e.cause) (sym turn) (turned-so e.cause e.tail c shown'.shows);
      last = λ is_last. ap says_last notes ∙ said-last e.tail c (subst (λ w. ShowsCause w e.tail c) is_last shown'.shows);
      left = subst (IsLeft e.tail) (sym linger) shown'.left;
      answered = rw (closed, site, limits, notes) answered;
    }

-- a connection of which nothing was read shows what one shows that is late to send
pub may_linger-untouched : (c : SeenConn) → c.turn ≡ turn.New → MayLinger cause.ReadLate c
may_linger-untouched c new = record { usable = ap is_usable new; shows = ap waits_on new }
