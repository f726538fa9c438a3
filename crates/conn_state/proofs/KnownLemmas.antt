-- What a type knows of a link stays over the turns of a connection.
use Rattle.std.proofs.Common.{◌≡◌, ℕ, ◌<◌, Bool, true, false, List, ◌++◌, length, take, drop, Option, Some, None, IfSome, option_map, refl, sym, ap, subst, ◌∙◌, append_assoc}
use Rattle.std.proofs.lemmas.List.{take-append-drop}
use Rattle.mpm_base.specs.Front.{client_at}
use Rattle.mpm_base.specs.Link.{LinkTold, with_received, after_shut, after_close}
use Rattle.conn_state.specs.Known.{KnownOutside, TellsFrom, IsOfClient}
use Rattle.conn_state.specs.Writing.{with_sent}

-- a change of a link leaves its client: what was received and what comes, taken together, and the rank
record LeavesClient (change : LinkTold → LinkTold) : Type 0 where
  offered : (t : LinkTold) → (change t).received ++ (change t).coming ≡ t.received ++ t.coming
  rank : (t : LinkTold) → (change t).rank ≡ t.rank

-- after such a change the link is still that of its client
tells-changed : (clients : List (List ℕ)) (told told' : Option LinkTold) (change : LinkTold → LinkTold) → LeavesClient change
    → told' ≡ option_map change told → TellsFrom clients told → TellsFrom clients told'
tells-changed clients told told' change leaves is tells = record {
  t = change tells.t;
  told_is = is ∙ ap (option_map change) tells.told_is;
  known = subst (λ (n : ℕ). n < length clients) (sym (leaves.rank tells.t)) tells.known;
  offered = leaves.offered tells.t ∙ tells.offered ∙ ap (client_at clients) (sym (leaves.rank tells.t));
}

-- the same where the clients may be unknown
tells-still : (clients : Option (List (List ℕ))) (told told' : Option LinkTold) (change : LinkTold → LinkTold) → LeavesClient change
    → told' ≡ option_map change told → IfSome clients (λ all. TellsFrom all told) → IfSome clients (λ all. TellsFrom all told')
tells-still None told told' change leaves is client = tt
tells-still (Some clients) told told' change leaves is client = tells-changed clients told told' change leaves is client

-- the same of what a type knows
client-changed : (known : Option KnownOutside) (told told' : Option LinkTold) (change : LinkTold → LinkTold) → LeavesClient change
    → told' ≡ option_map change told → IsOfClient known told → IsOfClient known told'
client-changed None told told' change leaves is client = tt
client-changed (Some k) told told' change leaves is client = tells-still k.clients told told' change leaves is client

-- bytes that come are received
pub client-received : (known : Option KnownOutside) (told told' : Option LinkTold) (n : ℕ)
    → told' ≡ option_map (with_received n) told → IsOfClient known told → IsOfClient known told'
client-received known told told' n is client =
    client-changed known told told' (with_received n)
    (record {
      offered = λ t. append_assoc t.received (take n t.coming) (drop n t.coming) ∙ ap (λ xs. t.received ++ xs) (take-append-drop n t.coming);
      rank = λ t. refl;
    }) is client

-- bytes are sent
pub client-sent : (known : Option KnownOutside) (told told' : Option LinkTold) (sent : List ℕ)
    → told' ≡ option_map (with_sent sent) told → IsOfClient known told → IsOfClient known told'
client-sent known told told' sent is client =
    client-changed known told told' (with_sent sent) (record { offered = λ t. refl; rank = λ t. refl }) is client

-- a half-close, made or not, leaves the client
leaves-shut : (made : Bool) → LeavesClient (after_shut made)
leaves-shut true = record { offered = λ t. refl; rank = λ t. refl }
leaves-shut false = record { offered = λ t. refl; rank = λ t. refl }

-- the link is half-closed
pub client-shut : (known : Option KnownOutside) (told told' : Option LinkTold) (made : Bool)
    → told' ≡ option_map (after_shut made) told → IsOfClient known told → IsOfClient known told'
client-shut known told told' made is client = client-changed known told told' (after_shut made) (leaves-shut made) is client

-- the link is closed
pub client-closed : (known : Option KnownOutside) (told told' : Option LinkTold)
    → told' ≡ option_map after_close told → IsOfClient known told → IsOfClient known told'
client-closed known told told' is client =
    client-changed known told told' after_close (record { offered = λ t. refl; rank = λ t. refl }) is client
