-- What holds of the link of a connection over its turns, while it isn't on its way out.
use Rattle.std.proofs.Common.{◌≡◌, ℕ, List, [], ◌++◌, take, length, Option, Some, None, option_map, IfSome, refl, sym, ap, subst, ◌∙◌}
use Rattle.std.proofs.lemmas.List.{append-nil, nil_from_length}
use Rattle.mpm_base.specs.Link.{LinkTold, with_received}
use Rattle.conn_state.specs.declared.turn.LastLinger.TheVariants as linger
use Rattle.conn_state.specs.Conn.{SeenConn, IsFresh, LinkFits, LingerFits, IsConn}
use Rattle.conn_state.specs.Writing.{with_sent}

-- what was received before the half-close, while there was none
pub before-open : (n : ℕ) (t : LinkTold) → t.shuts ≡ 0 → (with_received n t).before_shut ≡ t.before_shut ++ take n t.coming
before-open n t is = rw is refl

-- what was received before the half-close, once there was one
pub before-shut : (n : ℕ) (t : LinkTold) → t.shuts ≡ 1 → (with_received n t).before_shut ≡ t.before_shut
before-shut n t is = rw is refl

-- where nothing was dropped, all that was received came before the half-close
pub same-before : (t : LinkTold) (behind : List ℕ) → t.received ≡ t.before_shut ++ behind → length behind ≡ 0 → t.received ≡ t.before_shut
same-before t behind is none = is ∙ ap (λ xs. t.before_shut ++ xs) (nil_from_length behind none) ∙ append-nil t.before_shut

-- an open link stays open when it gives bytes
open-received : (n : ℕ) (t : LinkTold) → LinkFits linger.Open 0 t → LinkFits linger.Open 0 (with_received n t)
open-received n t l = record {
  closes = l.closes;
  shuts = l.shuts;
  behind = [];
  received = ap (λ xs. xs ++ take n t.coming) (same-before t l.behind l.received l.count) ∙ sym (before-open n t l.shuts)
      ∙ sym (append-nil ((with_received n t).before_shut));
  count = refl;
}

-- it stays open when it takes bytes
open-sent : (sent : List ℕ) (t : LinkTold) → LinkFits linger.Open 0 t → LinkFits linger.Open 0 (with_sent sent t)
open-sent sent t l = record { closes = l.closes; shuts = l.shuts; behind = l.behind; received = l.received; count = l.count }

-- the same of a link that may tell
pub told-open_received : (n : ℕ) (told : Option LinkTold) → IfSome told (LinkFits linger.Open 0) → IfSome (option_map (with_received n) told) (LinkFits linger.Open 0)
told-open_received n None l = tt
told-open_received n (Some t) l = open-received n t l

-- the same of a link that may tell
pub told-open_sent : (sent : List ℕ) (told : Option LinkTold) → IfSome told (LinkFits linger.Open 0) → IfSome (option_map (with_sent sent) told) (LinkFits linger.Open 0)
told-open_sent sent None l = tt
told-open_sent sent (Some t) l = open-sent sent t l

-- a connection that isn't on its way out dropped nothing
pub open-none : (c : SeenConn) → IsConn c → c.linger ≡ linger.Open → c.dropped ≡ 0
open-none c is not_shut = subst (λ last. LingerFits last c) not_shut is.linger_fits

-- its link is open
pub open-link : (c : SeenConn) → IsConn c → c.linger ≡ linger.Open → IfSome c.told (LinkFits linger.Open 0)
open-link c is not_shut =
    subst (λ n. IfSome c.told (LinkFits linger.Open n)) (open-none c is not_shut)
    (subst (λ last. IfSome c.told (LinkFits last c.dropped)) not_shut is.link)

-- what holds of a connection on its way out, or before that
pub record IsOnItsWay (c : SeenConn) : Type 0 where
  pub fits : LingerFits c.linger c
  pub link : IfSome c.told (LinkFits c.linger c.dropped)

-- a turn that leaves the link open leaves the connection as far on its way out as it was
pub still-open : (c c' : SeenConn) → IsConn c → c.linger ≡ linger.Open → c'.linger ≡ c.linger → c'.dropped ≡ c.dropped
    → IfSome c'.told (LinkFits linger.Open 0) → IsOnItsWay c'
still-open c c' is not_shut same none link =
    let last : c'.linger ≡ linger.Open = same ∙ not_shut in
    let dropped : c'.dropped ≡ 0 = none ∙ open-none c is not_shut in
    record {
      fits = subst (λ x. LingerFits x c') (sym last) dropped;
      link = subst (λ x. IfSome c'.told (LinkFits x c'.dropped)) (sym last) (subst (λ n. IfSome c'.told (LinkFits linger.Open n)) (sym dropped) link);
    }

-- a link as the front hands it out is open
open-fresh : (t : LinkTold) → IsFresh t → LinkFits linger.Open 0 t
open-fresh t fresh = record {
  closes = ap (λ (x : LinkTold). x.closes) fresh;
  shuts = ap (λ (x : LinkTold). x.shuts) fresh;
  behind = [];
  received = ap (λ (x : LinkTold). x.received) fresh ∙ ap (λ (x : LinkTold). x.before_shut ++ []) (sym fresh);
  count = refl;
}

-- the same of a link that may tell
pub told-open_fresh : (told : Option LinkTold) → IfSome told IsFresh → IfSome told (LinkFits linger.Open 0)
told-open_fresh None fresh = tt
told-open_fresh (Some t) fresh = open-fresh t fresh
