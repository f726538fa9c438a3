-- Looks at links, and the links that were found closed.
use Rattle.std.proofs.Common.{◌≡◌, ◌≢◌, ℕ, zero, suc, ◌<◌, ◌≤◌, ◌⊎◌, inl, inr, Bool, true, false, nat_le, ◌&&◌, if◌then◌else◌, bytes_eq, List, [], ◌∷◌, length, get_or, set, take, map, Option, ap, subst, sym, refl, ◌∙◌, length-set, arith}
use Rattle.std.proofs.lemmas.Bool.Decides.{nat_tests}
use Rattle.std.proofs.lemmas.List.{get_or-set_other, get_or-set_same, get_or_default}
use Rattle.mpm_base.specs.declared.conn.ConnName.{ConnName}
use Rattle.mpm_base.specs.declared.script_line.ClientAct.{ClientAct}
use Rattle.mpm_base.specs.declared.script_line.ClientAct.TheVariants as act
use Rattle.mpm_base.specs.declared.script_line.ScriptLine.{ScriptLine}
use Rattle.mpm_base.specs.declared.script_line.ScriptLine.TheVariants as line
use Rattle.script_front.specs.DuePlacesInside.{AllLook}
use Rattle.script_front.specs.Signals.{Gives, LooksAt, SeenClient, after_act, after_watch_of, all_closed, client_after_line, client_after_lines, done, full, given, gone, idle, without_signal}
use Rattle.script_front.proofs.DueLemmas.{same-place}
use Rattle.script_front.proofs.SignalLemmas.{names}

-- ## Looks at links

-- one look and another
look-again : (client found later : SeenClient) → LooksAt client found → LooksAt found later → LooksAt client later
look-again client found later a b = record {
  found_is = b.found_is ∙ ap (λ (c : SeenClient). let y : SeenClient = record c { closed = later.closed } in y) a.found_is;
  once = λ e. b.once (a.once e);
}

-- no link was looked at
pub looks-none : (clients : List SeenClient) → AllLook clients clients
looks-none clients = record { each = refl; looks = λ k client l. record { found_is = refl; once = λ e. e } }

-- one link more was
pub looks-more : (clients found : List SeenClient) (i : ℕ) (x x' : SeenClient) → AllLook clients found → i < length found → x ≡ get_or found i x → LooksAt x x'
    → AllLook clients (set found i x')
looks-more clients found i x x' all within is look = record {
  each = length-set found i x' ∙ all.each;
  looks = λ k client l. go k client l (same-place k i);
}
  where
    go : (k : ℕ) (client : SeenClient) → k < length clients → (k ≡ i) ⊎ (k ≢ i) → LooksAt (get_or clients k client) (get_or (set found i x') k client)
    go k client l (inr off) = rw (get_or-set_other found i k x' client off) (all.looks k client l)
    go k client l (inl at) =
        let old : LooksAt (get_or clients k client) (get_or found i client) = subst (λ j. LooksAt (get_or clients k client) (get_or found j client)) at (all.looks k client l) in
        let own : get_or found i client ≡ x = get_or_default found i client x within ∙ sym is in
        let new : get_or (set found i x') k client ≡ x' = ap (λ j. get_or (set found i x') j client) at ∙ get_or-set_same found i x' client within in
        rw new (look-again (get_or clients k client) x x' (subst (LooksAt (get_or clients k client)) own old) look)

-- each client keeps its name
pub names-looks : (clients found : List SeenClient) → AllLook clients found → names found ≡ names clients
names-looks [] [] all = refl
names-looks [] (y ∷ ys) all = absurd (omega (arith, all.each))
names-looks (x ∷ xs) [] all = absurd (omega (arith, all.each))
names-looks (x ∷ xs) (y ∷ ys) all =
    let head : y.name ≡ x.name = ap (λ (c : SeenClient). c.name) (all.looks 0 x (omega arith)).found_is in
    rw head (ap (λ rest. x.name ∷ rest) (names-looks xs ys (record { each = omega (arith, all.each); looks = λ k client l. all.looks (suc k) client (omega (arith, l)) })))

-- where no slot was given the front may look at further links
pub gives-looks : {room : ℕ} {clients clients' : List SeenClient} {ns : List (Option ConnName)} {slots : List ℕ} → Gives room clients ns clients' slots → 0 < room → slots ≡ []
    → (found : List SeenClient) → AllLook clients' found → Gives room clients ns found slots
gives-looks full some none found all = absurd (omega (arith, some))
gives-looks done some none [] all = done
gives-looks done some none (y ∷ ys) all = absurd (omega (arith, all.each))
gives-looks (idle looks still gives) some none [] all = absurd (omega (arith, all.each))
gives-looks (idle {client = client} {found = found} looks still gives) some none (y ∷ ys) all =
    let head = all.looks 0 found (omega arith) in
    let same : y.due ≡ found.due = ap (λ (c : SeenClient). c.due) head.found_is in
    idle (look-again client found y looks head) (elim still [ inl unwatched ↦ inl unwatched | inr off ↦ inr (same ∙ off) ])
    (gives-looks gives some none ys (record { each = omega (arith, all.each); looks = λ k client l. all.looks (suc k) client (omega (arith, l)) }))
gives-looks (given looks due unclosed gives) some none found all = absurd (cc)
gives-looks (gone looks due shut gives) some none [] all = absurd (omega (arith, all.each))
gives-looks (gone {found = found} looks due shut gives) some none (y ∷ ys) all =
    let head = all.looks 0 (without_signal found) (omega arith) in
    let shut' : y.closed ≡ found.closed = head.once shut ∙ sym shut in
    let same : y ≡ without_signal found = head.found_is ∙ ap (λ b. let c : SeenClient = record found { due = false; closed = b } in c) shut' in
    rw same
    (gone looks due shut (gives-looks gives some none ys (record { each = omega (arith, all.each); looks = λ k client l. all.looks (suc k) client (omega (arith, l)) })))

-- ## Links that were found closed

both : (a b : Bool) → (a && b) ≡ true → (a ≡ true) × (b ≡ true)
both true true e = (refl, refl)
both true false e = absurd (cc)
both false b e = absurd (cc)

-- the first of fewer
pub shut-fewer : (clients : List SeenClient) (m n : ℕ) → m ≤ n → all_closed (take n clients) ≡ true → all_closed (take m clients) ≡ true
shut-fewer clients zero n l were = refl
shut-fewer [] (suc m) n l were = refl
shut-fewer (x ∷ xs) (suc m) zero l were = absurd (omega arith)
shut-fewer (x ∷ xs) (suc m) (suc n) l were =
    let w = both x.closed (all_closed (take n xs)) were in
    rw (w.0, shut-fewer xs m n (omega (arith, l)) w.1) refl

-- whether the first so many are, where they are up to a place
pub shut-all : (clients : List SeenClient) (count found : ℕ) → all_closed (take found clients) ≡ true → (found < count → all_closed (take count clients) ≡ false)
    → nat_le count found ≡ all_closed (take count clients)
shut-all clients count found are not_yet = go (nat_le count found) refl
  where
    go : (b : Bool) → nat_le count found ≡ b → b ≡ all_closed (take count clients)
    go true e = sym (shut-fewer clients count found (grind (arith, nat_tests)) are)
    go false e = sym (not_yet (grind (arith, nat_tests)))

either-closed : (b : Bool) (x y : SeenClient) → x.closed ≡ y.closed → (if b then x else y).closed ≡ y.closed
either-closed true x y same = same
either-closed false x y same = refl

act-closed : (act : ClientAct) (client : SeenClient) → (after_act act client).closed ≡ client.closed
act-closed (act.Send bytes) client = either-closed client.ended client _ refl
act-closed act.End client = either-closed client.ended client _ refl
act-closed act.Drop client = refl
act-closed (act.Room room) client = refl
act-closed (act.Fail which number) client = refl

line-closed : (line : ScriptLine) (client : SeenClient) → (client_after_line line client).closed ≡ client.closed
line-closed (line.At m) client = refl
line-closed (line.Conn name) client = refl
line-closed (line.Client name act) client = either-closed (bytes_eq name client.name) (after_act act client) client (act-closed act client)
line-closed (line.Command word) client = refl
line-closed (line.Site site) client = refl

lines-closed : (lines : List ScriptLine) (client : SeenClient) → (client_after_lines lines client).closed ≡ client.closed
lines-closed [] client = refl
lines-closed (line ∷ lines) client = lines-closed lines (client_after_line line client) ∙ line-closed line client

-- lines leave them as they are
pub shut-lines : (lines : List ScriptLine) (n : ℕ) (clients : List SeenClient) → all_closed (take n (map (client_after_lines lines) clients)) ≡ all_closed (take n clients)
shut-lines lines zero clients = refl
shut-lines lines (suc n) [] = refl
shut-lines lines (suc n) (x ∷ xs) = rw (lines-closed lines x, shut-lines lines n xs) refl

-- so does a watch
pub shut-watch : (number n : ℕ) (clients : List SeenClient) → all_closed (take n (after_watch_of number clients)) ≡ all_closed (take n clients)
shut-watch number zero clients = refl
shut-watch number (suc n) [] = refl
shut-watch zero (suc n) (x ∷ xs) = refl
shut-watch (suc number) (suc n) (x ∷ xs) = ap (λ b. x.closed && b) (shut-watch number n xs)

-- and signals
pub shut-gives : {room : ℕ} {clients clients' : List SeenClient} {ns : List (Option ConnName)} {slots : List ℕ} (n : ℕ) → Gives room clients ns clients' slots
    → all_closed (take n clients) ≡ true → all_closed (take n clients') ≡ true
shut-gives zero gives were = refl
shut-gives (suc n) full were = were
shut-gives (suc n) done were = refl
shut-gives (suc n) (idle {client = client} {clients = clients} looks still gives) were =
    let w = both client.closed (all_closed (take n clients)) were in
    rw (looks.once w.0, shut-gives n gives w.1) refl
shut-gives (suc n) (given {client = client} {clients = clients} looks due unclosed gives) were =
    let w = both client.closed (all_closed (take n clients)) were in
    rw (looks.once w.0, shut-gives n gives w.1) refl
shut-gives (suc n) (gone {client = client} {clients = clients} looks due shut gives) were =
    let w = both client.closed (all_closed (take n clients)) were in
    rw (shut, shut-gives n gives w.1) refl
