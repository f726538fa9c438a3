-- The next item of a connection is answered.
use Rattle.std.proofs.Common.{◌≡◌, ℕ, ◌<◌, Bool, true, false, ◌&&◌, not, List, [], ◌∷◌, ◌++◌, drop, length, Option, Some, None, IfSome, if◌then◌else◌, refl, sym, ap, subst, ◌∙◌, inl, inr, append_assoc}
use Rattle.std.proofs.lemmas.Bool.{false≢true}
use Rattle.std.proofs.lemmas.List.{append-nil}
use Rattle.mpm_base.specs.Link.{LinkTold}
use Rattle.mpm_base.specs.Notes.{says_last}
use Rattle.mpm_base.specs.declared.conn.Ask.{Ask}
use Rattle.mpm_base.specs.declared.note.Note.{Note}
use Rattle.http_read.specs.declared.request.Limits.{Limits}
use Rattle.http_read.specs.RequestParts.{RequestParts}
use Rattle.http_read.specs.Requests.{ReadRefusal, BeginsRefusal}
use Rattle.file_table.specs.Site.{SeenSite}
use Rattle.http_core.specs.Ask.{IsServedOf, plan_for}
use Rattle.http_core.specs.Code.{continue_text, refuses_head}
use Rattle.http_core.specs.declared.plan.Plan.{Plan}
use Rattle.conn_state.specs.declared.stage.Stage.{Stage}
use Rattle.conn_state.specs.declared.stage.Stage.TheVariants as stage
use Rattle.conn_state.specs.declared.turn.LastTurn.{LastTurn}
use Rattle.conn_state.specs.declared.turn.LastTurn.TheVariants as turn
use Rattle.conn_state.specs.declared.turn.LastLinger.TheVariants as linger
use Rattle.conn_state.specs.Items.{Item, BeginsItem}
use Rattle.conn_state.specs.Known.{KnownOutside}
use Rattle.conn_state.specs.Replies.{IsNoteFor, IsFitting, IsResponse, AreReplies, first_part, item_ask}
use Rattle.conn_state.specs.Rest.{StandsAs, is_awaited, is_whole}
use Rattle.conn_state.specs.Reader.{SeenReader, StandsFor, item_kept}
use Rattle.conn_state.specs.Follows.{what_follows}
use Rattle.conn_state.specs.Outgoing.{Unsent, IsUnsentOf, pending_bytes}
use Rattle.conn_state.specs.Conn.{SeenConn, is_usable, Streams, StreamsWhile, TurnFits, IsConn}
use Rattle.conn_state.specs.Turns.{IsNoteOf, LeavesItem, TakesNote}
use Rattle.conn_state.specs.ConnInside.{IsPlanOf, IsPlanned, IsHeld}
use Rattle.conn_state.proofs.ConnLemmas.{FollowsMay, usable-streams, sent-breaks}
use Rattle.conn_state.proofs.OpenLemmas.{open-link, IsOnItsWay, still-open}

-- what was asked, and the note for it
pub record IsReady (c : SeenConn) (plan : Option Plan) (note : Note) : Type 0 where
  pub usable : is_usable c.turn ≡ true
  pub ask : Ask
  pub planned : IsPlanOf c.site c.reader.stage ask plan
  pub noted : IsNoteFor ask note
  pub none_pending : c.pending ≡ []
  pub goes_on : says_last c.notes ≡ false
  pub not_shut : c.linger ≡ linger.Open

-- where the last turn asked, a note may come
ready-at : (t : LastTurn) (c : SeenConn) (rest : List ℕ) (plan : Option Plan) (note : Note) → c.turn ≡ t → TurnFits t c rest → IsPlanned t c.site c.reader.stage plan → IsNoteOf t note
    → c.linger ≡ linger.Open
    → IsReady c plan note
ready-at (turn.Asked ask) c rest plan note is fits planned noted not_shut = record {
  usable = ap is_usable is;
  ask = ask;
  planned = planned;
  noted = noted;
  none_pending = fits.none_pending;
  goes_on = fits.goes_on;
  not_shut = not_shut;
}
ready-at other c rest plan note is fits planned noted not_shut = absurd noted

-- the same of a connection that holds
pub ready : (known : Option KnownOutside) (c seen : SeenConn) (plan : Option Plan) (u : Unsent) (note : Note) → IsHeld known c plan u → c ≡ seen → IsNoteOf seen.turn note
    → seen.linger ≡ linger.Open → IsReady c plan note
ready known c seen plan u note held is noted not_shut =
    ready-at c.turn c held.conn.rest plan note refl held.conn.turn_fits held.planned (subst (λ (x : SeenConn). IsNoteOf x.turn note) (sym is) noted)
    (ap (λ (x : SeenConn). x.linger) is ∙ not_shut)

-- what is served is of the site
pub served-of : (site : SeenSite) (s : Stage) (ask : Ask) (plan : Option Plan) → IsPlanOf site s ask plan → IfSome plan (λ p. IsServedOf site p.served)
served-of site (stage.Head reader) ask plan planned = absurd planned
served-of site (stage.Body request reader) ask plan planned = absurd planned
served-of site (stage.Whole request) ask None planned = tt
served-of site (stage.Whole request) ask (Some plan) planned = planned.0.served
served-of site (stage.Refused code expected) ask None planned = tt
served-of site (stage.Refused code expected) ask (Some plan) planned = absurd planned

-- without a plan it is a refusal by one of its codes
pub refused-code : ((limits : Limits) (bytes : List ℕ) (refusal : ReadRefusal) → BeginsRefusal limits bytes refusal → refuses_head refusal.code ≡ true)
    → (site : SeenSite) (s : Stage) (ask : Ask) (plan : Option Plan) (limits : Limits) (unread rest : List ℕ) (note : Note) → IsPlanOf site s ask plan → IsNoteFor ask note
    → StandsAs limits unread s rest → plan ≡ None → refuses_head note.code ≡ true
refused-code codes site (stage.Head reader) ask plan limits unread rest note planned noted h is = absurd planned
refused-code codes site (stage.Body request reader) ask plan limits unread rest note planned noted h is = absurd planned
refused-code codes site (stage.Whole request) ask None limits unread rest note planned noted h is = absurd planned
refused-code codes site (stage.Whole request) ask (Some plan) limits unread rest note planned noted h is = absurd (cc)
refused-code codes site (stage.Refused code expected) ask None limits unread rest note planned noted h is =
    ap refuses_head (noted.code ∙ ap (λ (a : Ask). a.code) planned) ∙ codes limits rest (record { code = code; expected = expected }) h
refused-code codes site (stage.Refused code expected) ask (Some plan) limits unread rest note planned noted h is = absurd planned

-- the item that was asked for, with its response
pub record IsAnswered (c : SeenConn) (note : Note) (response : List ℕ) : Type 0 where
  pub item : Item
  pub kept : item_kept c.reader.stage ≡ Some item
  pub noted : IsNoteFor (item_ask c.site item) note
  pub is_response : IsResponse c.site item note response
  pub ends : is_whole c.reader.stage ≡ false → note.last ≡ true

-- by the plan, or the refusal
answered-at : (c : SeenConn) (s : Stage) (ask : Ask) (plan : Option Plan) (note : Note) (response : List ℕ) → c.reader.stage ≡ s → IsPlanOf c.site s ask plan → IsNoteFor ask note
    → ((request : RequestParts) → plan ≡ Some (plan_for c.site request) → IsResponse c.site (inl request) note response)
    → (plan ≡ None → (expected : Bool) → IsResponse c.site (inr (record { code = note.code; expected = expected })) note response) → IsAnswered c note response
answered-at c (stage.Head reader) ask plan note response is planned noted response_planned response_refused = absurd planned
answered-at c (stage.Body request reader) ask plan note response is planned noted response_planned response_refused = absurd planned
answered-at c (stage.Whole request) ask None note response is planned noted response_planned response_refused = absurd planned
answered-at c (stage.Whole request) ask (Some plan) note response is planned noted response_planned response_refused = record {
  item = inl request;
  kept = ap item_kept is;
  noted = subst (λ a. IsNoteFor a note) planned.1 noted;
  is_response = response_planned request (ap Some planned.0.plan_is);
  ends = λ none. absurd (false≢true (sym none ∙ ap is_whole is));
}
answered-at c (stage.Refused code expected) ask None note response is planned noted response_planned response_refused =
    let refused = subst (λ a. IsNoteFor a note) planned noted in
    record {
      item = inr (record { code = code; expected = expected });
      kept = ap item_kept is;
      noted = refused;
      is_response = subst (λ n. IsResponse c.site (inr (record { code = n; expected = expected })) note response) refused.code (response_refused refl expected);
      ends = λ none. refused.last refused.asked_close;
    }
answered-at c (stage.Refused code expected) ask (Some plan) note response is planned noted response_planned response_refused = absurd planned

-- the same of one that is ready
pub answered : (c : SeenConn) (plan : Option Plan) (note : Note) (response : List ℕ) → IsReady c plan note
    → ((request : RequestParts) → plan ≡ Some (plan_for c.site request) → IsResponse c.site (inl request) note response)
    → (plan ≡ None → (expected : Bool) → IsResponse c.site (inr (record { code = note.code; expected = expected })) note response) → IsAnswered c note response
answered c plan note response ready response_planned response_refused =
    answered-at c c.reader.stage ready.ask plan note response refl ready.planned ready.noted response_planned response_refused

-- the last note is the one behind the others
last-snoc : (notes : List Note) (note : Note) → says_last (notes ++ note ∷ []) ≡ note.last
last-snoc [] note = refl
last-snoc (first ∷ []) note = refl
last-snoc (first ∷ (next ∷ notes)) note = last-snoc (next ∷ notes) note

-- nothing follows the reply
none-follows : (awaited last : Bool) → (awaited ≡ true → last ≡ true) → (if awaited && not last then continue_text else []) ≡ []
none-follows true true ends = refl
none-follows true false ends = absurd (false≢true (ends refl))
none-follows false last ends = refl

-- the connection with its response
abbrev pub conn_answered : SeenConn → Note → List ℕ → SeenReader → SeenConn
conn_answered c note response r' = record c { notes = c.notes ++ note ∷ []; pending = response; reader = r'; turn = turn.Answered }

module _ (fitting : (site : SeenSite) (limits : Limits) (notes : List Note) (bytes : List ℕ) (items : List Item) (rest : List ℕ) (item : Item) (size : ℕ) (note : Note)
    → IsFitting site limits notes bytes items rest → says_last notes ≡ false → BeginsItem limits rest item size → IsNoteFor (item_ask site item) note
    → IsFitting site limits (notes ++ note ∷ []) bytes (items ++ item ∷ []) (drop size rest))
    (replies : (site : SeenSite) (items : List Item) (notes : List Note) (replies : List ℕ) (item : Item) (note : Note) (response : List ℕ)
    → AreReplies site items notes replies → IsResponse site item note response
    → AreReplies site (items ++ item ∷ []) (notes ++ note ∷ []) (replies ++ (first_part item ++ response)))
    (bytes : (site : SeenSite) (item : Item) (note : Note) (response : List ℕ) → IsResponse site item note response → 0 < length response)
    (first : (notes : List Note) (s : Stage) (item : Item) → item_kept s ≡ Some item → says_last notes ≡ false → what_follows notes s ≡ first_part item)
    (c : SeenConn) (plan : Option Plan) (note : Note) (response : List ℕ) (r' : SeenReader) (conn : IsConn c) (ready : IsReady c plan note) (a : IsAnswered c note response)
    (limits : r'.limits ≡ c.reader.limits) (leaves : LeavesItem a.item c.reader r' conn.rest)
    (untold : is_awaited r'.stage ≡ true → is_whole c.reader.stage ≡ false) where
  -- the stream goes on with the response
  stream-answered : (t : LinkTold) → Streams c conn.rest t → Streams (conn_answered c note response r') (drop leaves.size conn.rest) t
  stream-answered t s =
      let sent : t.sent ≡ s.replies ++ first_part a.item =
      sym (append-nil t.sent) ∙ ap (λ xs. t.sent ++ xs) (sym ready.none_pending) ∙ s.stream
      ∙ ap (λ xs. s.replies ++ xs) (first c.notes c.reader.stage a.item a.kept ready.goes_on) in
      let none : what_follows (c.notes ++ note ∷ []) r'.stage ≡ [] =
      none-follows (is_awaited r'.stage) (says_last (c.notes ++ note ∷ [])) (λ told. last-snoc c.notes note ∙ a.ends (untold told)) in
      record {
        items = s.items ++ a.item ∷ [];
        replies = s.replies ++ (first_part a.item ++ response);
        fitting = subst (λ l. IsFitting c.site l (c.notes ++ note ∷ []) t.before_shut (s.items ++ a.item ∷ []) (drop leaves.size conn.rest)) (sym limits)
            (fitting c.site c.reader.limits c.notes t.before_shut s.items conn.rest a.item leaves.size note s.fitting ready.goes_on leaves.begins a.noted);
        are_replies = replies c.site s.items c.notes s.replies a.item note response s.are_replies a.is_response;
        stream = ap (λ xs. xs ++ response) sent ∙ append_assoc s.replies (first_part a.item) response
            ∙ sym (append-nil (s.replies ++ (first_part a.item ++ response))) ∙ ap (λ xs. (s.replies ++ (first_part a.item ++ response)) ++ xs) (sym none);
      }

  -- the same of a link that may tell
  told-answered : (told : Option LinkTold) → IfSome told (Streams c conn.rest) → IfSome told (Streams (conn_answered c note response r') (drop leaves.size conn.rest))
  told-answered None s = tt
  told-answered (Some t) s = stream-answered t s

  -- the connection holds with its response
  pub conn-answered : IsConn (conn_answered c note response r')
  conn-answered =
      let way = still-open c (conn_answered c note response r') conn ready.not_shut refl refl (open-link c conn ready.not_shut) in
      record {
        rest = drop leaves.size conn.rest;
        stands = leaves.stands;
        turn_fits = bytes c.site a.item note response a.is_response;
        ended = λ e. absurd (cc);
        linger_fits = way.fits;
        link = way.link;
        streams = told-answered c.told (usable-streams c conn.rest conn.streams ready.usable);
      }

-- ## Want of memory

-- the same of a link that may tell
told-lost : FollowsMay → (c : SeenConn) (rest : List ℕ) (told : Option LinkTold) → StandsFor c.reader rest → IfSome told (Streams c rest)
    → IfSome told (StreamsWhile false (record c { turn = turn.NoMemory }) rest)
told-lost may c rest None stands s = tt
told-lost may c rest (Some t) stands s =
    let b = sent-breaks may c rest t stands s in
    record {
      items = b.items;
      left = b.left;
      replies = b.replies;
      interim = b.interim;
      fitting = b.fitting;
      are_replies = b.are_replies;
      may_follow = b.may_follow;
      front = b.front;
    }

-- its link is still open
way-lost : (c : SeenConn) → IsConn c → c.linger ≡ linger.Open → IsOnItsWay (record c { turn = turn.NoMemory })
way-lost c is not_shut = still-open c (record c { turn = turn.NoMemory }) is not_shut refl refl (open-link c is not_shut)

-- where memory lacks for the response the connection holds, and can only be ended
pub held-lost : FollowsMay → (known : Option KnownOutside) (c : SeenConn) (plan : Option Plan) (u : Unsent) (note : Note) → IsHeld known c plan u → IsReady c plan note
    → IsHeld known (record c { turn = turn.NoMemory }) plan u
held-lost may known c plan u note held ready = record {
  conn = record {
    rest = held.conn.rest;
    stands = held.conn.stands;
    turn_fits = tt;
    ended = λ e. absurd (cc);
    linger_fits = (way-lost c held.conn ready.not_shut).fits;
    link = (way-lost c held.conn ready.not_shut).link;
    streams = told-lost may c held.conn.rest c.told held.conn.stands (usable-streams c held.conn.rest held.conn.streams ready.usable);
  };
  planned = tt;
  unsent = held.unsent;
  client = held.client;
}

-- ## The connection with its response

module _ (fitting : (site : SeenSite) (limits : Limits) (notes : List Note) (bytes : List ℕ) (items : List Item) (rest : List ℕ) (item : Item) (size : ℕ) (note : Note)
    → IsFitting site limits notes bytes items rest → says_last notes ≡ false → BeginsItem limits rest item size → IsNoteFor (item_ask site item) note
    → IsFitting site limits (notes ++ note ∷ []) bytes (items ++ item ∷ []) (drop size rest))
    (replies : (site : SeenSite) (items : List Item) (notes : List Note) (replies : List ℕ) (item : Item) (note : Note) (response : List ℕ)
    → AreReplies site items notes replies → IsResponse site item note response
    → AreReplies site (items ++ item ∷ []) (notes ++ note ∷ []) (replies ++ (first_part item ++ response)))
    (bytes : (site : SeenSite) (item : Item) (note : Note) (response : List ℕ) → IsResponse site item note response → 0 < length response)
    (first : (notes : List Note) (s : Stage) (item : Item) → item_kept s ≡ Some item → says_last notes ≡ false → what_follows notes s ≡ first_part item)
    (known : Option KnownOutside) (c seen : SeenConn) (plan : Option Plan) (u u' : Unsent) (note : Note) (notes' : List Note) (r' : SeenReader) (held : IsHeld known c plan u)
    (is : c ≡ seen) (asked : IsNoteOf seen.turn note) (not_shut : seen.linger ≡ linger.Open) (notes_are : notes' ≡ c.notes ++ note ∷ [])
    (planned : (request : RequestParts) → plan ≡ Some (plan_for c.site request) → IsResponse c.site (inl request) note (pending_bytes c.site u'))
    (refused : plan ≡ None → (expected : Bool) → IsResponse c.site (inr (record { code = note.code; expected = expected })) note (pending_bytes c.site u'))
    (limits : r'.limits ≡ c.reader.limits)
    (leaves : (item : Item) (rest : List ℕ) → item_kept c.reader.stage ≡ Some item → StandsFor c.reader rest → LeavesItem item c.reader r' rest) where
  -- the item that was asked for, with its response
  here : IsAnswered c note (pending_bytes c.site u')
  here = answered c plan note (pending_bytes c.site u') (ready known c seen plan u note held is asked not_shut) planned refused

  -- the connection holds
  pub held-answered : IsUnsentOf c.site u' → (is_awaited r'.stage ≡ true → is_whole c.reader.stage ≡ false)
      → IsHeld known (record c { notes = notes'; pending = pending_bytes c.site u'; reader = r'; turn = turn.Answered }) plan u'
  held-answered of untold =
      subst (λ ns. IsHeld known (record c { notes = ns; pending = pending_bytes c.site u'; reader = r'; turn = turn.Answered }) plan u') (sym notes_are)
      (record {
        conn = conn-answered fitting replies bytes first c plan note (pending_bytes c.site u') r' held.conn (ready known c seen plan u note held is asked not_shut) here limits
            (leaves here.item held.conn.rest here.kept held.conn.stands) untold;
        planned = tt;
        unsent = of;
        client = held.client;
      })

  -- the next item has its response
  pub takes-note : TakesNote note seen (record c { notes = notes'; pending = pending_bytes c.site u'; reader = r'; turn = turn.Answered })
  takes-note =
      subst (λ x. TakesNote note x (record c { notes = notes'; pending = pending_bytes c.site u'; reader = r'; turn = turn.Answered })) is
      (record {
        item = here.item;
        kept = here.kept;
        first = first c.notes c.reader.stage here.item here.kept (ready known c seen plan u note held is asked not_shut).goes_on;
        response = pending_bytes c.site u';
        leaves = λ rest h. leaves here.item rest here.kept h;
        is_response = here.is_response;
        limits = limits;
        new_is = ap (λ ns. record c { notes = ns; pending = pending_bytes c.site u'; reader = r'; turn = turn.Answered }) notes_are;
      })
