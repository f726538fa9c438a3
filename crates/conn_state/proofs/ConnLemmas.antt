-- What the turns of a connection keep.
use Rattle.std.proofs.Common.{◌≡◌, ℕ, ◌<◌, inl, inr, true, false, ◌&&◌, ◌||◌, not, List, [], ◌++◌, take, length, Option, Some, None, option_map, IfSome, if◌then◌else◌, refl, sym, ap, subst, ◌∙◌, arith, append_assoc}
use Rattle.std.proofs.lemmas.Bool.{false≢true}
use Rattle.std.proofs.lemmas.List.{append-nil}
use Rattle.mpm_base.specs.Count.{Rises, RisesWhere, RisesExactlyWhere}
use Rattle.mpm_base.specs.Link.{LinkTold, LinkSeen, with_received}
use Rattle.mpm_base.specs.Notes.{says_last}
use Rattle.mpm_base.specs.declared.conn.Ask.{Ask}
use Rattle.mpm_base.specs.declared.note.Note.{Note}
use Rattle.http_read.specs.declared.request.Limits.{Limits}
use Rattle.file_table.specs.Site.{SeenSite}
use Rattle.http_core.specs.Code.{continue_text}
use Rattle.http_core.specs.declared.plan.Plan.{Plan}
use Rattle.conn_state.specs.declared.stage.Stage.{Stage}
use Rattle.conn_state.specs.declared.stage.Stage.TheVariants as stage
use Rattle.conn_state.specs.declared.reader.RequestAnswer.{RequestAnswer}
use Rattle.conn_state.specs.declared.reader.RequestAnswer.TheVariants as answer
use Rattle.conn_state.specs.declared.turn.LastTurn.{LastTurn}
use Rattle.conn_state.specs.declared.turn.LastTurn.TheVariants as turn
use Rattle.conn_state.specs.declared.turn.ReadTurn.{ReadTurn}
use Rattle.conn_state.specs.declared.turn.ReadTurn.TheVariants as read
use Rattle.conn_state.specs.declared.turn.WriteTurn.{WriteTurn}
use Rattle.conn_state.specs.declared.turn.WriteTurn.TheVariants as write
use Rattle.conn_state.specs.declared.turn.LastLinger.TheVariants as linger
use Rattle.conn_state.specs.Items.{Item}
use Rattle.conn_state.specs.Replies.{IsFitting, AreReplies, MayFollow}
use Rattle.conn_state.specs.Rest.{StandsAs, is_awaited}
use Rattle.conn_state.specs.Reader.{SeenReader, StandsFor, IsAnswerable, IsReading, AsksKeptItem, finds_waiting, finds_more, finds_end, finds_failure, AnswerFinds, KeepsAll, ReadsNext}
use Rattle.conn_state.specs.Follows.{what_follows}
use Rattle.conn_state.specs.Outgoing.{Unsent, IsUnsentOf, pending_bytes}
use Rattle.conn_state.specs.Writing.{SendsOn, with_sent}
use Rattle.conn_state.specs.Conn.{SeenConn, is_usable, LinkFits, Streams, BrokeOff, StreamsWhile, TurnFits, IsConn}
use Rattle.conn_state.specs.Known.{KnownOutside}
use Rattle.conn_state.specs.Turns.{after_reading, after_writing, is_interim, is_more, is_gone, is_read_failure, pending_after, KeepsRead, FindsClient, ReadFinds, ReadsOn}
use Rattle.conn_state.specs.ConnInside.{IsPlanOf, IsTurnOf, unsent_after, TakesIn, IsPlanned, IsHeld}
use Rattle.conn_state.proofs.KnownLemmas.{client-received, client-sent}
use Rattle.conn_state.proofs.OpenLemmas.{before-open, told-open_received, told-open_sent, open-link, IsOnItsWay, still-open}
use Rattle.conn_state.proofs.ItemLemmas.{KeepsHeads, KeepsSpelled, KeepsRefused}
use Rattle.conn_state.proofs.ReaderLemmas.{KeepsKept, or-nothing, none-taken}

-- the first items of the bytes stay the first, with their notes
abbrev pub Stays : Type 0
Stays = (site : SeenSite) (limits : Limits) (notes : List Note) (bytes : List ℕ) (items : List Item) (rest more : List ℕ)
    → IsFitting site limits notes bytes items rest → IsFitting site limits notes (bytes ++ more) items (rest ++ more)

-- what follows the replies may follow them
abbrev pub FollowsMay : Type 0
FollowsMay = (limits : Limits) (notes : List Note) (unread : List ℕ) (s : Stage) (rest : List ℕ) → StandsAs limits unread s rest
    → MayFollow limits notes rest (what_follows notes s)

-- ## The reply stream over a turn of reading

module _ (stays : Stays) (goes_on : KeepsKept) (may : FollowsMay) (c c' : SeenConn) (rest got : List ℕ) (t : LinkTold)
    (site : c'.site ≡ c.site) (limits : c'.reader.limits ≡ c.reader.limits) (notes : c'.notes ≡ c.notes)
    (stands : StandsFor c.reader rest) (none : c.pending ≡ []) (not_shut : t.shuts ≡ 0) (comes : got ≡ take (length got) t.coming) (s : Streams c rest t) where
  -- the items are the first of what was received then
  fitting-read : IsFitting c'.site c'.reader.limits c'.notes (with_received (length got) t).before_shut s.items (rest ++ got)
  fitting-read =
      rw (site, limits, notes)
      (subst (λ xs. IsFitting c.site c.reader.limits c.notes xs s.items (rest ++ got))
      (ap (λ xs. t.before_shut ++ xs) comes ∙ sym (before-open (length got) t not_shut))
      (stays c.site c.reader.limits c.notes t.before_shut s.items rest got s.fitting))

  -- the replies are the same
  replies-read : AreReplies c'.site s.items c'.notes s.replies
  replies-read = rw (site, notes) s.are_replies

  -- what was sent
  sent-read : t.sent ≡ s.replies ++ what_follows c.notes c.reader.stage
  sent-read = sym (append-nil t.sent) ∙ ap (λ xs. t.sent ++ xs) (sym none) ∙ s.stream

  -- the stream goes on
  pub stream-read : what_follows c'.notes c'.reader.stage ≡ what_follows c.notes c.reader.stage ++ c'.pending → Streams c' (rest ++ got) (with_received (length got) t)
  stream-read further = record {
    items = s.items;
    replies = s.replies;
    fitting = fitting-read;
    are_replies = replies-read;
    stream = ap (λ xs. xs ++ c'.pending) sent-read ∙ append_assoc s.replies (what_follows c.notes c.reader.stage) c'.pending ∙ ap (λ xs. s.replies ++ xs) (sym further);
  }

  -- it breaks off
  pub stream-breaks : BrokeOff c' (with_received (length got) t)
  stream-breaks = record {
    items = s.items;
    left = rest ++ got;
    replies = s.replies;
    interim = what_follows c.notes c.reader.stage;
    fitting = fitting-read;
    are_replies = replies-read;
    may_follow = rw (limits, notes)
        (may c.reader.limits c.notes (c.reader.unread ++ got) c.reader.stage (rest ++ got) (goes_on c.reader.limits c.reader.unread got c.reader.stage rest stands));
    front = (c.pending, sym s.stream);
  }

-- what follows the replies where no client was found
follows-same : (notes : List Note) (s s' : Stage) (more : List ℕ) → is_awaited s' ≡ is_awaited s → more ≡ [] → what_follows notes s' ≡ what_follows notes s ++ more
follows-same notes s s' more same none =
    ap (λ b. if b && not (says_last notes) then continue_text else []) same ∙ sym (append-nil (what_follows notes s)) ∙ ap (λ xs. what_follows notes s ++ xs) (sym none)

-- and where one was
follows-told : (notes : List Note) (s s' : Stage) (more : List ℕ) → is_awaited s ≡ false → is_awaited s' ≡ true → says_last notes ≡ false → more ≡ continue_text
    → what_follows notes s' ≡ what_follows notes s ++ more
follows-told notes s s' more before after goes_on told =
    ap (λ b. if b && not (says_last notes) then continue_text else []) after ∙ ap (λ b. if not b then continue_text else []) goes_on
    ∙ ap (λ xs. (if false && not (says_last notes) then continue_text else []) ++ xs) (sym told)
    ∙ ap (λ b. (if b && not (says_last notes) then continue_text else []) ++ more) (sym before)

-- a count that rose isn't 0
pub rises-some : (old new : ℕ) → Rises old new → 0 < new
rises-some old new rises = grind (arith, rises.0, rises.1)

-- the reply stream of a connection that is usable
pub usable-streams : (c : SeenConn) (rest : List ℕ) → IfSome c.told (StreamsWhile (is_usable c.turn) c rest) → is_usable c.turn ≡ true → IfSome c.told (Streams c rest)
usable-streams c rest streams usable = subst (λ b. IfSome c.told (StreamsWhile b c rest)) usable streams

-- ## A turn of reading

-- the item that was read is the next one of the bytes
asked-in : (site : SeenSite) (s : Stage) (ask : Ask) (plan : Option Plan) (limits : Limits) (unread rest : List ℕ) → IsPlanOf site s ask plan
    → StandsAs limits unread s rest → AsksKeptItem site limits s rest ask
asked-in site (stage.Head reader) ask plan limits unread rest planned h = absurd planned
asked-in site (stage.Body request reader) ask plan limits unread rest planned h = absurd planned
asked-in site (stage.Whole request) ask None limits unread rest planned h = absurd planned
asked-in site (stage.Whole request) ask (Some plan) limits unread rest planned h =
    record { asked = record { item = inl request; size = h.size; begins = h.whole; asks = planned.1 }; kept = refl }
asked-in site (stage.Refused code expected) ask None limits unread rest planned h =
    record { asked = record { item = inr (record { code = code; expected = expected }); size = 0; begins = (h, refl); asks = planned }; kept = refl }
asked-in site (stage.Refused code expected) ask (Some plan) limits unread rest planned h = absurd planned

-- what is pending after a turn of reading
pub pending-read : (answer : ReadTurn) (site : SeenSite) (u u' : Unsent) → u' ≡ unsent_after answer u → pending_bytes site u' ≡ pending_after answer (pending_bytes site u)
pending-read (read.Asked ask) site u u' is = ap (pending_bytes site) is
pending-read read.Interim site u u' is = ap (pending_bytes site) is ∙ append-nil continue_text
pending-read read.More site u u' is = ap (pending_bytes site) is
pending-read read.Gone site u u' is = ap (pending_bytes site) is
pending-read read.LinkFailed site u u' is = ap (pending_bytes site) is
pending-read read.NoMemory site u u' is = ap (pending_bytes site) is

-- what is left to send is of the site
unsent-read : (answer : ReadTurn) (site : SeenSite) (u u' : Unsent) → u' ≡ unsent_after answer u → IsUnsentOf site u → IsUnsentOf site u'
unsent-read (read.Asked ask) site u u' is of = subst (IsUnsentOf site) (sym is) of
unsent-read read.Interim site u u' is of = subst (IsUnsentOf site) (sym is) tt
unsent-read read.More site u u' is of = subst (IsUnsentOf site) (sym is) of
unsent-read read.Gone site u u' is of = subst (IsUnsentOf site) (sym is) of
unsent-read read.LinkFailed site u u' is of = subst (IsUnsentOf site) (sym is) of
unsent-read read.NoMemory site u u' is of = subst (IsUnsentOf site) (sym is) of

-- the connection after a turn
abbrev pub conn_after : SeenConn → LinkSeen → List ℕ → SeenReader → LastTurn → SeenConn
conn_after c link' pending' r' turn' = record c { told = link'.told; counts = link'.counts; pending = pending'; reader = r'; turn = turn' }

module _ (stays : Stays) (goes_on : KeepsKept) (may : FollowsMay) (c : SeenConn) (link' : LinkSeen) (pending' : List ℕ) (r' : SeenReader) (turn' : LastTurn)
    (rest got : List ℕ) (limits : r'.limits ≡ c.reader.limits) (stands : StandsFor c.reader rest) (none : c.pending ≡ [])
    (told_is : link'.told ≡ option_map (with_received (length got)) c.told) (gives : IfSome c.told (λ t. got ≡ take (length got) t.coming))
    (link : IfSome c.told (LinkFits linger.Open 0)) (s : IfSome c.told (Streams c rest)) where
  -- the stream of a link that may tell goes on
  pub told-goes : what_follows c.notes r'.stage ≡ what_follows c.notes c.reader.stage ++ pending' → IfSome link'.told (Streams (conn_after c link' pending' r' turn') (rest ++ got))
  told-goes further = subst (λ o. IfSome o (Streams (conn_after c link' pending' r' turn') (rest ++ got))) (sym told_is) (each c.told gives link s)
    where
      -- of one that tells, and of one that doesn't
      each : (told : Option LinkTold) → IfSome told (λ t. got ≡ take (length got) t.coming) → IfSome told (LinkFits linger.Open 0) → IfSome told (Streams c rest)
          → IfSome (option_map (with_received (length got)) told) (Streams (conn_after c link' pending' r' turn') (rest ++ got))
      each None comes still streams = tt
      each (Some t) comes still streams =
          stream-read stays goes_on may c (conn_after c link' pending' r' turn') rest got t refl limits refl stands none still.shuts comes streams further

  -- or it breaks off
  pub told-breaks : IfSome link'.told (BrokeOff (conn_after c link' pending' r' turn'))
  told-breaks = subst (λ o. IfSome o (BrokeOff (conn_after c link' pending' r' turn'))) (sym told_is) (each c.told gives link s)
    where
      -- of one that tells, and of one that doesn't
      each : (told : Option LinkTold) → IfSome told (λ t. got ≡ take (length got) t.coming) → IfSome told (LinkFits linger.Open 0) → IfSome told (Streams c rest)
          → IfSome (option_map (with_received (length got)) told) (BrokeOff (conn_after c link' pending' r' turn'))
      each None comes still streams = tt
      each (Some t) comes still streams =
          stream-breaks stays goes_on may c (conn_after c link' pending' r' turn') rest got t refl limits refl stands none still.shuts comes streams

module _ (stays : Stays) (goes_on : KeepsKept) (may : FollowsMay) (c : SeenConn) (link' : LinkSeen) (pending' : List ℕ) (r' : SeenReader) (plan' : Option Plan)
    (conn : IsConn c) (usable : is_usable c.turn ≡ true) (none : c.pending ≡ []) (open_still : says_last c.notes ≡ false) (not_shut : c.linger ≡ linger.Open)
    (reading : IsReading r') where
  -- its link is still open
  way-read : (turn' : LastTurn) (got : List ℕ) → link'.told ≡ option_map (with_received (length got)) c.told → IsOnItsWay (conn_after c link' pending' r' turn')
  way-read turn' got is =
      still-open c (conn_after c link' pending' r' turn') conn not_shut refl refl
      (subst (λ o. IfSome o (LinkFits linger.Open 0)) (sym is) (told-open_received (length got) c.told (open-link c conn not_shut)))

  -- what holds of the connection after a turn of reading
  conn-read : (answer : ReadTurn) (given : RequestAnswer) → ReadsNext (record { told = c.told; counts = c.counts }) link' c.reader r' given
      → IsTurnOf c.site given r'.stage answer plan' → pending' ≡ pending_after answer c.pending → IsConn (conn_after c link' pending' r' (after_reading answer))
  conn-read (read.Asked ask) given reads of left =
      let n = subst (λ g. ReadsNext (record { told = c.told; counts = c.counts }) link' c.reader r' g) of.0 reads in
      record {
        rest = conn.rest ++ n.got;
        stands = n.stands conn.rest conn.stands;
        turn_fits = record {
          none_pending = left ∙ none;
          asked = asked-in c.site r'.stage ask plan' r'.limits r'.unread (conn.rest ++ n.got) of.1 (n.stands conn.rest conn.stands);
          goes_on = open_still;
        };
        ended = λ e. absurd (cc);
        linger_fits = (way-read (turn.Asked ask) n.got n.told_is).fits;
        link = (way-read (turn.Asked ask) n.got n.told_is).link;
        streams = told-goes stays goes_on may c link' pending' r' (turn.Asked ask) conn.rest n.got n.same_limits conn.stands none n.told_is n.gives
            (open-link c conn not_shut) (usable-streams c conn.rest conn.streams usable)
            (follows-same c.notes c.reader.stage r'.stage pending' (n.told_once ∙ or-nothing (is_awaited c.reader.stage) false refl) (left ∙ none));
      }
  conn-read read.Interim given reads of left =
      let n = subst (λ g. ReadsNext (record { told = c.told; counts = c.counts }) link' c.reader r' g) of reads in
      record {
        rest = conn.rest ++ n.got;
        stands = n.stands conn.rest conn.stands;
        turn_fits = record { pending_is = left; waits = n.finds conn.rest conn.stands };
        ended = λ e. absurd (cc);
        linger_fits = (way-read turn.Interim n.got n.told_is).fits;
        link = (way-read turn.Interim n.got n.told_is).link;
        streams = told-goes stays goes_on may c link' pending' r' turn.Interim conn.rest n.got n.same_limits conn.stands none n.told_is n.gives
            (open-link c conn not_shut) (usable-streams c conn.rest conn.streams usable)
            (follows-told c.notes c.reader.stage r'.stage pending' (n.not_twice refl) (n.finds conn.rest conn.stands) open_still left);
      }
  conn-read read.More given reads of left =
      let n = subst (λ g. ReadsNext (record { told = c.told; counts = c.counts }) link' c.reader r' g) of reads in
      record {
        rest = conn.rest ++ n.got;
        stands = n.stands conn.rest conn.stands;
        turn_fits = record { none_pending = left ∙ none; none_whole = n.finds conn.rest conn.stands; goes_on = open_still };
        ended = λ e. absurd (cc);
        linger_fits = (way-read turn.More n.got n.told_is).fits;
        link = (way-read turn.More n.got n.told_is).link;
        streams = told-goes stays goes_on may c link' pending' r' turn.More conn.rest n.got n.same_limits conn.stands none n.told_is n.gives
            (open-link c conn not_shut) (usable-streams c conn.rest conn.streams usable)
            (follows-same c.notes c.reader.stage r'.stage pending' (n.told_once ∙ or-nothing (is_awaited c.reader.stage) false refl) (left ∙ none));
      }
  conn-read read.Gone given reads of left =
      let n = subst (λ g. ReadsNext (record { told = c.told; counts = c.counts }) link' c.reader r' g) of reads in
      record {
        rest = conn.rest ++ n.got;
        stands = n.stands conn.rest conn.stands;
        turn_fits = record { none_pending = left ∙ none; none_whole = n.finds conn.rest conn.stands; goes_on = open_still };
        ended = λ e. record { found = rises-some c.counts.ends link'.counts.ends n.ends; all_came = n.none_comes refl };
        linger_fits = (way-read turn.Gone n.got n.told_is).fits;
        link = (way-read turn.Gone n.got n.told_is).link;
        streams = told-goes stays goes_on may c link' pending' r' turn.Gone conn.rest n.got n.same_limits conn.stands none n.told_is n.gives
            (open-link c conn not_shut) (usable-streams c conn.rest conn.streams usable)
            (follows-same c.notes c.reader.stage r'.stage pending' (n.told_once ∙ or-nothing (is_awaited c.reader.stage) false refl) (left ∙ none));
      }
  conn-read read.LinkFailed given reads of left =
      let n = subst (λ g. ReadsNext (record { told = c.told; counts = c.counts }) link' c.reader r' g) of reads in
      record {
        rest = conn.rest ++ n.got;
        stands = n.stands conn.rest conn.stands;
        turn_fits = rises-some c.counts.faults link'.counts.faults n.faults;
        ended = λ e. absurd (cc);
        linger_fits = (way-read turn.LinkFailed n.got n.told_is).fits;
        link = (way-read turn.LinkFailed n.got n.told_is).link;
        streams = told-breaks stays goes_on may c link' pending' r' turn.LinkFailed conn.rest n.got n.same_limits conn.stands none n.told_is n.gives
            (open-link c conn not_shut) (usable-streams c conn.rest conn.streams usable);
      }
  conn-read read.NoMemory given reads of left = record {
    rest = reading.0;
    stands = reading.1;
    turn_fits = tt;
    ended = λ e. absurd (cc);
    linger_fits = (way-read turn.NoMemory reads.got reads.told_is).fits;
    link = (way-read turn.NoMemory reads.got reads.told_is).link;
    streams = told-breaks stays goes_on may c link' pending' r' turn.NoMemory conn.rest reads.got reads.same_limits conn.stands none reads.told_is reads.gives
        (open-link c conn not_shut) (usable-streams c conn.rest conn.streams usable);
  }

-- the plan is that of what was asked
planned-read : (answer : ReadTurn) (site : SeenSite) (given : RequestAnswer) (s : Stage) (plan : Option Plan) → IsTurnOf site given s answer plan → IsPlanned (after_reading answer) site s plan
planned-read (read.Asked ask) site given s plan of = of.1
planned-read read.Interim site given s plan of = tt
planned-read read.More site given s plan of = tt
planned-read read.Gone site given s plan of = tt
planned-read read.LinkFailed site given s plan of = tt
planned-read read.NoMemory site given s plan of = tt

-- a connection holds after a turn of reading
pub held-read : Stays → KeepsKept → FollowsMay → (known : Option KnownOutside) (c seen : SeenConn) (plan plan' : Option Plan) (u u' : Unsent) (link' : LinkSeen) (r' : SeenReader) (answer : ReadTurn) (turn' : LastTurn)
    → IsHeld known c plan u → c ≡ seen → c.pending ≡ pending_bytes c.site u → is_usable seen.turn ≡ true → seen.pending ≡ [] → says_last seen.notes ≡ false
    → seen.linger ≡ linger.Open
    → TakesIn (record { told = c.told; counts = c.counts }) link' c.site c.reader r' u u' answer plan' → turn' ≡ after_reading answer
    → IsHeld known (conn_after c link' (pending_bytes c.site u') r' turn') plan' u'
held-read stays goes_on may known c seen plan plan' u u' link' r' answer turn' held is pending usable sent open_still not_shut takes turn_is =
    subst (λ (x : LastTurn). IsHeld known (conn_after c link' (pending_bytes c.site u') r' x) plan' u') (sym turn_is)
    (record {
      conn = conn-read stays goes_on may c link' (pending_bytes c.site u') r' plan' held.conn (ap (λ (x : SeenConn). is_usable x.turn) is ∙ usable)
          (ap (λ (x : SeenConn). x.pending) is ∙ sent) (ap (λ (x : SeenConn). says_last x.notes) is ∙ open_still)
          (ap (λ (x : SeenConn). x.linger) is ∙ not_shut) takes.reading answer takes.given takes.reads takes.turn_of
          (pending-read answer c.site u u' takes.unsent_is ∙ ap (pending_after answer) (sym pending));
      planned = planned-read answer c.site takes.given r'.stage plan' takes.turn_of;
      unsent = unsent-read answer c.site u u' takes.unsent_is held.unsent;
      client = client-received known c.told link'.told (length takes.reads.got) takes.reads.told_is held.client;
    })

-- ## What a turn of reading says

-- what is kept stands for all that came, unless memory lacked
keeps-read : (answer : ReadTurn) (site : SeenSite) (given : RequestAnswer) (r : SeenReader) (plan : Option Plan) (rest : List ℕ) → IsTurnOf site given r.stage answer plan
    → KeepsAll given r rest → KeepsRead answer r rest
keeps-read (read.Asked ask) site given r plan rest of keeps = subst (λ g. KeepsAll g r rest) of.0 keeps
keeps-read read.Interim site given r plan rest of keeps = subst (λ g. KeepsAll g r rest) of keeps
keeps-read read.More site given r plan rest of keeps = subst (λ g. KeepsAll g r rest) of keeps
keeps-read read.Gone site given r plan rest of keeps = subst (λ g. KeepsAll g r rest) of keeps
keeps-read read.LinkFailed site given r plan rest of keeps = subst (λ g. KeepsAll g r rest) of keeps
keeps-read read.NoMemory site given r plan rest of keeps = tt

-- what was found
finds-read : (answer : ReadTurn) (c : SeenConn) (given : RequestAnswer) (plan : Option Plan) (rest : List ℕ) → IsTurnOf c.site given c.reader.stage answer plan
    → KeepsAll given c.reader rest → AnswerFinds given c.reader rest → ReadFinds answer c rest
finds-read (read.Asked ask) c given plan rest of keeps finds =
    asked-in c.site c.reader.stage ask plan c.reader.limits c.reader.unread rest of.1 (subst (λ g. KeepsAll g c.reader rest) of.0 keeps)
finds-read read.Interim c given plan rest of keeps finds = subst (λ g. AnswerFinds g c.reader rest) of finds
finds-read read.More c given plan rest of keeps finds = subst (λ g. AnswerFinds g c.reader rest) of finds
finds-read read.Gone c given plan rest of keeps finds = subst (λ g. AnswerFinds g c.reader rest) of finds
finds-read read.LinkFailed c given plan rest of keeps finds = subst (λ g. AnswerFinds g c.reader rest) of finds
finds-read read.NoMemory c given plan rest of keeps finds = tt

-- a client was found that waits only where the turn says so
finds-client : (answer : ReadTurn) (site : SeenSite) (given : RequestAnswer) (old new : SeenReader) (plan : Option Plan) → IsTurnOf site given new.stage answer plan
    → is_awaited new.stage ≡ (is_awaited old.stage || finds_waiting given) → FindsClient answer old new
finds-client (read.Asked ask) site given old new plan of told = told ∙ ap (λ g. is_awaited old.stage || finds_waiting g) of.0
finds-client read.Interim site given old new plan of told = told ∙ ap (λ g. is_awaited old.stage || finds_waiting g) of
finds-client read.More site given old new plan of told = told ∙ ap (λ g. is_awaited old.stage || finds_waiting g) of
finds-client read.Gone site given old new plan of told = told ∙ ap (λ g. is_awaited old.stage || finds_waiting g) of
finds-client read.LinkFailed site given old new plan of told = told ∙ ap (λ g. is_awaited old.stage || finds_waiting g) of
finds-client read.NoMemory site given old new plan of told = tt

-- where the turn says so one was found
interim-waits : (answer : ReadTurn) (site : SeenSite) (given : RequestAnswer) (s : Stage) (plan : Option Plan) → IsTurnOf site given s answer plan
    → is_interim answer ≡ true → finds_waiting given ≡ true
interim-waits (read.Asked ask) site given s plan of is = absurd (false≢true is)
interim-waits read.Interim site given s plan of is = ap finds_waiting of
interim-waits read.More site given s plan of is = absurd (false≢true is)
interim-waits read.Gone site given s plan of is = absurd (false≢true is)
interim-waits read.LinkFailed site given s plan of is = absurd (false≢true is)
interim-waits read.NoMemory site given s plan of is = absurd (false≢true is)

-- what the answer says of the calls of the link
record SameTests (answer : ReadTurn) (given : RequestAnswer) : Type 0 where
  failure : finds_failure given ≡ is_read_failure answer
  more : finds_more given ≡ is_more answer
  gone : finds_end given ≡ is_gone answer

-- the tests of an answer that is this one
tests-at : (answer : ReadTurn) (given other : RequestAnswer) → given ≡ other → SameTests answer other → SameTests answer given
tests-at answer given other is same = subst (SameTests answer) (sym is) same

-- they agree
same-tests : (answer : ReadTurn) (site : SeenSite) (given : RequestAnswer) (s : Stage) (plan : Option Plan) → IsTurnOf site given s answer plan → SameTests answer given
same-tests (read.Asked ask) site given s plan of = tests-at (read.Asked ask) given answer.Item of.0 (record { failure = refl; more = refl; gone = refl })
same-tests read.Interim site given s plan of = tests-at read.Interim given answer.Awaited of (record { failure = refl; more = refl; gone = refl })
same-tests read.More site given s plan of = tests-at read.More given answer.More of (record { failure = refl; more = refl; gone = refl })
same-tests read.Gone site given s plan of = tests-at read.Gone given answer.Gone of (record { failure = refl; more = refl; gone = refl })
same-tests read.LinkFailed site given s plan of = tests-at read.LinkFailed given answer.LinkFailed of (record { failure = refl; more = refl; gone = refl })
same-tests read.NoMemory site given s plan (inl is) = tests-at read.NoMemory given answer.Item is (record { failure = refl; more = refl; gone = refl })
same-tests read.NoMemory site given s plan (inr (inl is)) = tests-at read.NoMemory given answer.Awaited is (record { failure = refl; more = refl; gone = refl })
same-tests read.NoMemory site given s plan (inr (inr is)) = tests-at read.NoMemory given answer.NoMemory is (record { failure = refl; more = refl; gone = refl })

-- a turn of reading takes what the link gives
pub reads-on : (c seen : SeenConn) (plan' : Option Plan) (u u' : Unsent) (link' : LinkSeen) (r' : SeenReader) (answer : ReadTurn) (turn' : LastTurn)
    → c ≡ seen → c.pending ≡ pending_bytes c.site u
    → TakesIn (record { told = c.told; counts = c.counts }) link' c.site c.reader r' u u' answer plan' → turn' ≡ after_reading answer
    → ReadsOn seen (conn_after c link' (pending_bytes c.site u') r' turn') answer
reads-on c seen plan' u u' link' r' answer turn' is pending takes turn_is =
    let reads = takes.reads in
    let same = same-tests answer c.site takes.given r'.stage plan' takes.turn_of in
    subst (λ (x : SeenConn). ReadsOn x (conn_after c link' (pending_bytes c.site u') r' turn') answer) is
    (record {
      name = refl;
      child = refl;
      generation = refl;
      site = refl;
      limits = reads.same_limits;
      notes = refl;
      pending = pending-read answer c.site u u' takes.unsent_is ∙ ap (pending_after answer) (sym pending);
      turn = turn_is;
      linger = refl;
      dropped = refl;
      got = reads.got;
      told = reads.told_is;
      gives = reads.gives;
      asks = reads.asks;
      stands = λ rest h. keeps-read answer c.site takes.given r' plan' (rest ++ reads.got) takes.turn_of (reads.stands rest h);
      finds = λ rest h. finds-read answer (conn_after c link' (pending_bytes c.site u') r' turn') takes.given plan' (rest ++ reads.got) takes.turn_of
          (reads.stands rest h) (reads.finds rest h);
      told_once = finds-client answer c.site takes.given c.reader r' plan' takes.turn_of reads.told_once;
      not_twice = λ e. reads.not_twice (interim-waits answer c.site takes.given r'.stage plan' takes.turn_of e);
      faults = subst (λ b. RisesWhere b c.counts.faults link'.counts.faults) same.failure reads.faults;
      late_reads = subst (λ b. RisesExactlyWhere b c.counts.late_reads link'.counts.late_reads) same.more reads.late_reads;
      ends = subst (λ b. RisesExactlyWhere b c.counts.ends link'.counts.ends) same.gone reads.ends;
      late_writes = reads.late_writes;
    })

-- where there is something to answer, what is kept stands for the same bytes
pub keeps-still : KeepsHeads → KeepsSpelled → KeepsRefused → (c seen : SeenConn) (plan' : Option Plan) (u u' : Unsent) (link' : LinkSeen) (r' : SeenReader) (answer : ReadTurn)
    → c ≡ seen → TakesIn (record { told = c.told; counts = c.counts }) link' c.site c.reader r' u u' answer plan'
    → (rest : List ℕ) → StandsFor seen.reader rest → IsAnswerable seen.reader rest → KeepsRead answer r' rest
keeps-still heads spelled refused c seen plan' u u' link' r' answer is takes rest h there =
    let reads = takes.reads in
    let stands = subst (λ (x : SeenConn). StandsFor x.reader rest) (sym is) h in
    let none = none-taken heads spelled refused c.reader rest reads.got (subst (λ (x : SeenConn). IsAnswerable x.reader rest) (sym is) there)
    (reads.asks rest stands) in
    subst (KeepsRead answer r') (ap (λ xs. rest ++ xs) none ∙ append-nil rest)
    (keeps-read answer c.site takes.given r' plan' (rest ++ reads.got) takes.turn_of (reads.stands rest stands))

-- ## Writing

-- a front of what is pending is sent
stream-sent : (c : SeenConn) (link' : LinkSeen) (pending' sent rest : List ℕ) (turn' : LastTurn) (t : LinkTold) → Streams c rest t → c.pending ≡ sent ++ pending'
    → Streams (conn_after c link' pending' c.reader turn') rest (with_sent sent t)
stream-sent c link' pending' sent rest turn' t s front = record {
  items = s.items;
  replies = s.replies;
  fitting = s.fitting;
  are_replies = s.are_replies;
  stream = append_assoc t.sent sent pending' ∙ ap (λ xs. t.sent ++ xs) (sym front) ∙ s.stream;
}

-- it breaks off then
pub sent-breaks : FollowsMay → (c : SeenConn) (rest : List ℕ) (t : LinkTold) → StandsFor c.reader rest → Streams c rest t → BrokeOff c t
sent-breaks may c rest t stands s = record {
  items = s.items;
  left = rest;
  replies = s.replies;
  interim = what_follows c.notes c.reader.stage;
  fitting = s.fitting;
  are_replies = s.are_replies;
  may_follow = may c.reader.limits c.notes c.reader.unread c.reader.stage rest stands;
  front = (c.pending, sym s.stream);
}

-- the stream after a turn of writing
stream-written : FollowsMay → (answer : WriteTurn) (c : SeenConn) (link' : LinkSeen) (pending' sent rest : List ℕ) (t : LinkTold) → StandsFor c.reader rest → Streams c rest t
    → c.pending ≡ sent ++ pending' → StreamsWhile (is_usable (after_writing answer)) (conn_after c link' pending' c.reader (after_writing answer)) rest (with_sent sent t)
stream-written may write.Done c link' pending' sent rest t stands s front = stream-sent c link' pending' sent rest turn.Done t s front
stream-written may write.NotReady c link' pending' sent rest t stands s front = stream-sent c link' pending' sent rest turn.NotReady t s front
stream-written may write.LinkFailed c link' pending' sent rest t stands s front =
    sent-breaks may (conn_after c link' pending' c.reader turn.LinkFailed) rest (with_sent sent t) stands (stream-sent c link' pending' sent rest turn.LinkFailed t s front)

-- the same of a link that may tell
told-written : FollowsMay → (answer : WriteTurn) (c : SeenConn) (link' : LinkSeen) (pending' sent rest : List ℕ) (told : Option LinkTold) → StandsFor c.reader rest
    → IfSome told (Streams c rest) → c.pending ≡ sent ++ pending'
    → IfSome (option_map (with_sent sent) told) (StreamsWhile (is_usable (after_writing answer)) (conn_after c link' pending' c.reader (after_writing answer)) rest)
told-written may answer c link' pending' sent rest None stands s front = tt
told-written may answer c link' pending' sent rest (Some t) stands s front = stream-written may answer c link' pending' sent rest t stands s front

-- what a turn of writing says holds of what it leaves
fits-written : (answer : WriteTurn) (c : SeenConn) (link' : LinkSeen) (pending' rest : List ℕ)
    → SendsOn c.told link'.told c.counts link'.counts c.pending pending' answer
    → TurnFits (after_writing answer) (conn_after c link' pending' c.reader (after_writing answer)) rest
fits-written write.Done c link' pending' rest sends = sends.leaves
fits-written write.NotReady c link' pending' rest sends = sends.leaves
fits-written write.LinkFailed c link' pending' rest sends = rises-some c.counts.faults link'.counts.faults sends.faults

-- no turn of writing leaves a connection whose client sends no more
gone-written : (answer : WriteTurn) → after_writing answer ≡ turn.Gone → ⊥
gone-written write.Done e = absurd (cc)
gone-written write.NotReady e = absurd (cc)
gone-written write.LinkFailed e = absurd (cc)

-- no turn of writing asks
planned-written : (answer : WriteTurn) (site : SeenSite) (s : Stage) (plan : Option Plan) → IsPlanned (after_writing answer) site s plan
planned-written write.Done site s plan = tt
planned-written write.NotReady site s plan = tt
planned-written write.LinkFailed site s plan = tt

-- a connection holds after a turn of writing
pub held-written : FollowsMay → (known : Option KnownOutside) (c seen : SeenConn) (plan : Option Plan) (u u' : Unsent) (link' : LinkSeen) (answer : WriteTurn) (turn' : LastTurn)
    → IsHeld known c plan u → c ≡ seen → is_usable seen.turn ≡ true → seen.linger ≡ linger.Open
    → SendsOn c.told link'.told c.counts link'.counts c.pending (pending_bytes c.site u') answer
    → IsUnsentOf c.site u' → turn' ≡ after_writing answer → IsHeld known (conn_after c link' (pending_bytes c.site u') c.reader turn') plan u'
held-written may known c seen plan u u' link' answer turn' held is usable not_shut sends of turn_is =
    let usable' : is_usable c.turn ≡ true = ap (λ (x : SeenConn). is_usable x.turn) is ∙ usable in
    let not_shut' : c.linger ≡ linger.Open = ap (λ (x : SeenConn). x.linger) is ∙ not_shut in
    let streams = usable-streams c held.conn.rest held.conn.streams usable' in
    let way = still-open c (conn_after c link' (pending_bytes c.site u') c.reader (after_writing answer)) held.conn not_shut' refl refl
    (subst (λ o. IfSome o (LinkFits linger.Open 0)) (sym sends.told_is) (told-open_sent sends.sent c.told (open-link c held.conn not_shut'))) in
    subst (λ (x : LastTurn). IsHeld known (conn_after c link' (pending_bytes c.site u') c.reader x) plan u') (sym turn_is)
    (record {
      conn = record {
        rest = held.conn.rest;
        stands = held.conn.stands;
        turn_fits = fits-written answer c link' (pending_bytes c.site u') held.conn.rest sends;
        ended = λ e. absurd (gone-written answer e);
        linger_fits = way.fits;
        link = way.link;
        streams = subst (λ o. IfSome o (StreamsWhile (is_usable (after_writing answer)) (conn_after c link' (pending_bytes c.site u') c.reader (after_writing answer)) held.conn.rest))
            (sym sends.told_is) (told-written may answer c link' (pending_bytes c.site u') sends.sent held.conn.rest c.told held.conn.stands streams sends.front);
      };
      planned = planned-written answer c.site c.reader.stage plan;
      unsent = of;
      client = client-sent known c.told link'.told sends.sent sends.told_is held.client;
    })
