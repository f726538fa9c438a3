-- A new connection holds.
use Rattle.std.proofs.Common.{◌≡◌, true, false, ◌&&◌, not, [], ◌++◌, Option, Some, None, IfSome, if◌then◌else◌, refl, sym, ap, subst, ◌∙◌}
use Rattle.std.proofs.lemmas.Bool.{false≢true}
use Rattle.std.proofs.lemmas.List.{append-nil}
use Rattle.mpm_base.specs.Link.{LinkTold}
use Rattle.mpm_base.specs.Notes.{says_last}
use Rattle.http_core.specs.Code.{continue_text}
use Rattle.conn_state.specs.declared.stage.Stage.{Stage}
use Rattle.conn_state.specs.declared.stage.Stage.TheVariants as stage
use Rattle.conn_state.specs.declared.turn.LastTurn.{LastTurn}
use Rattle.conn_state.specs.declared.turn.LastTurn.TheVariants as turn
use Rattle.conn_state.specs.declared.turn.LastLinger.TheVariants as linger
use Rattle.conn_state.specs.Known.{KnownOutside, IsOfClient}
use Rattle.conn_state.specs.Replies.{AreNotesOf, AreReplies}
use Rattle.conn_state.specs.Rest.{is_awaited, is_in_head}
use Rattle.conn_state.specs.Reader.{StandsFor}
use Rattle.conn_state.specs.Outgoing.{Unsent, IsUnsentOf}
use Rattle.conn_state.specs.Conn.{SeenConn, IsFresh, is_usable, LinkFits, LingerFits, Streams, StreamsWhile, TurnFits}
use Rattle.conn_state.specs.ConnInside.{IsPlanned, IsHeld}
use Rattle.conn_state.proofs.OpenLemmas.{told-open_fresh}

-- where the head isn't whole no client was found that waits
pub head-unawaited : (s : Stage) → is_in_head s ≡ true → is_awaited s ≡ false
head-unawaited (stage.Head reader) is = refl
head-unawaited (stage.Body request reader) is = absurd (false≢true is)
head-unawaited (stage.Whole request) is = absurd (false≢true is)
head-unawaited (stage.Refused code expected) is = absurd (false≢true is)

-- its stream
fresh-streams : (c : SeenConn) (t : LinkTold) → c.notes ≡ [] → c.pending ≡ [] → is_in_head c.reader.stage ≡ true → IsFresh t → Streams c [] t
fresh-streams c t none_noted none_pending in_head fresh = record {
  items = [];
  replies = [];
  fitting = record {
    first = record { requests = []; refusal = None; items_are = refl; spelled = sym (ap (λ (x : LinkTold). x.before_shut) fresh); refused = tt };
    noted = subst (AreNotesOf c.site []) (sym none_noted) tt;
  };
  are_replies = subst (λ notes. AreReplies c.site [] notes []) (sym none_noted) refl;
  stream = ap (λ xs. t.sent ++ xs) none_pending ∙ append-nil t.sent ∙ ap (λ (x : LinkTold). x.sent) fresh
      ∙ ap (λ b. if b && not (says_last c.notes) then continue_text else []) (sym (head-unawaited c.reader.stage in_head));
}

-- the same of a link that may tell
told-fresh : (c : SeenConn) (told : Option LinkTold) → c.notes ≡ [] → c.pending ≡ [] → is_in_head c.reader.stage ≡ true → IfSome told IsFresh → IfSome told (Streams c [])
told-fresh c None none_noted none_pending in_head fresh = tt
told-fresh c (Some t) none_noted none_pending in_head fresh = fresh-streams c t none_noted none_pending in_head fresh

-- a new connection holds
pub held-new : (known : Option KnownOutside) (c : SeenConn) (u : Unsent) → c.turn ≡ turn.New → c.notes ≡ [] → c.pending ≡ [] → StandsFor c.reader [] → is_in_head c.reader.stage ≡ true
    → IfSome c.told IsFresh → c.linger ≡ linger.Open → c.dropped ≡ 0 → IsUnsentOf c.site u → IsOfClient known c.told → IsHeld known c None u
held-new known c u is_new none_noted none_pending stands in_head fresh is_open none_dropped of client = record {
  conn = record {
    rest = [];
    stands = stands;
    turn_fits = subst (λ (x : LastTurn). TurnFits x c []) (sym is_new) (record { none_pending = none_pending; none_read = refl; none_noted = none_noted });
    ended = λ e. absurd (let same : turn.New ≡ turn.Gone = sym is_new ∙ e in cc);
    linger_fits = subst (λ x. LingerFits x c) (sym is_open) none_dropped;
    link = subst (λ x. IfSome c.told (LinkFits x c.dropped)) (sym is_open)
        (subst (λ n. IfSome c.told (LinkFits linger.Open n)) (sym none_dropped) (told-open_fresh c.told fresh));
    streams = subst (λ (x : LastTurn). IfSome c.told (StreamsWhile (is_usable x) c [])) (sym is_new) (told-fresh c c.told none_noted none_pending in_head fresh);
  };
  planned = subst (λ (x : LastTurn). IsPlanned x c.site c.reader.stage None) (sym is_new) tt;
  unsent = of;
  client = client;
}
